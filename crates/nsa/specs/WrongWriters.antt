-- Wrong writers, which the statement of demand 2 or of demand 1 must exclude.
use Rattle.std.specs.Prelude.{◌&&◌, ◌∷◌, ◌++◌, ◌+◌, eqb, ltb, leb, length, take, set, if◌then◌else◌}
use Rattle.octets.specs.Octets.{octets, wrote, refuse_writing, write}
use Rattle.nsa.specs.Fields.{length_field, address_field, fields, longest_payload, writing}
use Rattle.nsa.specs.RoundTrip.{FieldsWriter}

-- it writes nothing yet says done
unfoldable pub silent_fields_writer : FieldsWriter
silent_fields_writer l s d buffer = record { answer = wrote (length (fields l s d)); buffer = buffer }

-- "One that refuses everything"
unfoldable pub refusing_fields_writer : FieldsWriter
refusing_fields_writer l s d buffer = refuse_writing 10 buffer

-- it says done without room, and writes what fits; right otherwise
unfoldable pub roomless_fields_writer : FieldsWriter
roomless_fields_writer l s d buffer =
    if ltb longest_payload l then refuse_writing 14 buffer
    else if eqb s 0 then refuse_writing 9 buffer
    else if eqb d 0 then refuse_writing 9 buffer
    else record { answer = wrote (length (fields l s d)); buffer = take (length buffer) (write (fields l s d) buffer).buffer }

-- it spoils the octet behind the fields; right otherwise
unfoldable pub spoiling_fields_writer : FieldsWriter
spoiling_fields_writer l s d buffer =
    if eqb (writing l s d buffer).answer.refusal 0
    then record { answer = wrote (length (fields l s d)); buffer = set (writing l s d buffer).buffer (length (fields l s d)) 0xFF }
    else writing l s d buffer

-- it writes a source to 252 in the two octets after 253 where there is room for them; right otherwise
unfoldable pub longer_fields_writer : FieldsWriter
longer_fields_writer l s d buffer =
    if eqb (writing l s d buffer).answer.refusal 0 && ltb s 253 && leb (length (fields l s d) + 2) (length buffer)
    then write (length_field l ++ (253 ∷ octets 2 s) ++ address_field d) buffer
    else writing l s d buffer

-- the plus of 252 forgotten: after 253 it writes the length itself, as far as one octet holds it; right otherwise
unfoldable pub unadded_fields_writer : FieldsWriter
unadded_fields_writer l s d buffer =
    if eqb (writing l s d buffer).answer.refusal 0 && ltb 252 l && ltb l 508
    then write ((253 ∷ octets 1 l) ++ address_field s ++ address_field d) buffer
    else writing l s d buffer

-- 9 before 14: it looks at the addresses before it looks at the length; right otherwise
unfoldable pub zero_first_fields_writer : FieldsWriter
zero_first_fields_writer l s d buffer =
    if eqb s 0 then refuse_writing 9 buffer
    else if eqb d 0 then refuse_writing 9 buffer
    else writing l s d buffer

-- 10 before 9: it looks for room before it looks at the addresses; right otherwise
unfoldable pub room_first_fields_writer : FieldsWriter
room_first_fields_writer l s d buffer =
    if leb l longest_payload && ltb (length buffer) (length (fields l s d)) then refuse_writing 10 buffer
    else writing l s d buffer

-- source and destination exchanged; right otherwise
unfoldable pub exchanging_fields_writer : FieldsWriter
exchanging_fields_writer l s d buffer = writing l d s buffer
