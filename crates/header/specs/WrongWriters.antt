-- Wrong writers, which the statement of demand 2 or of demand 1 must exclude.
use Rattle.std.specs.Prelude.{◌&&◌, [], ◌∷◌, ◌+◌, eqb, ltb, leb, length, take, set, if◌then◌else◌}
use Rattle.octets.specs.Octets.{wrote, refuse_writing, write}
use Rattle.header.specs.Header.{size, fixed_octets, place, header, writing}
use Rattle.header.specs.RoundTrip.{HeaderWriter}

-- "One that writes no header yet says done": the buffer stays as it was
unfoldable pub silent_writer : HeaderWriter
silent_writer a buffer = record { answer = wrote (place a); buffer = buffer }

-- "One that refuses everything"
unfoldable pub refusing_writer : HeaderWriter
refusing_writer a buffer = refuse_writing 10 buffer

-- it says done without room, and writes what fits; right otherwise
unfoldable pub roomless_writer : HeaderWriter
roomless_writer a buffer =
    if eqb a 0 then refuse_writing 9 buffer
    else record { answer = wrote (place a); buffer = take (length buffer) (write (header a) buffer).buffer }

-- it spoils the octet behind the header; right otherwise
unfoldable pub spoiling_writer : HeaderWriter
spoiling_writer a buffer =
    if eqb (writing a buffer).answer.refusal 0 then record { answer = wrote (place a); buffer = set (writing a buffer).buffer (place a) 0xFF }
    else writing a buffer

-- it writes two octets where one is enough and there is room for two; right otherwise
unfoldable pub padding_writer : HeaderWriter
padding_writer a buffer =
    if eqb (size a) 1 && leb (fixed_octets + 2) (length buffer) then write (0xF1 ∷ 0x81 ∷ 0x0F ∷ 0 ∷ a ∷ []) buffer
    else writing a buffer

-- 10 before 9: it looks for room before it looks at the address; right otherwise
unfoldable pub room_first_writer : HeaderWriter
room_first_writer a buffer = if ltb (length buffer) (place a) then refuse_writing 10 buffer else writing a buffer

-- it wants room for a payload of one octet; right otherwise
unfoldable pub payload_room_writer : HeaderWriter
payload_room_writer a buffer = if eqb (length buffer) (place a) then refuse_writing 10 buffer else writing a buffer
