-- Wrong writers, which demand 2 must exclude.
use Rattle.std.specs.Prelude.{not, [], ◌∷◌, ◌++◌, eqb, length, take, set, if◌then◌else◌}
use Rattle.octets.specs.Octets.{wrote, refuse_writing, write}
use Rattle.ipv6.specs.Form.{half, whole, form, form_writing}
use Rattle.ipv6.specs.RoundTrip.{FormWriter}

-- it writes nothing, and answers that it is done
unfoldable pub silent_form_writer : FormWriter
silent_form_writer prefix a buffer = record { answer = wrote whole; buffer = buffer }

-- it refuses everything
unfoldable pub refusing_form_writer : FormWriter
refusing_form_writer prefix a buffer = refuse_writing 10 buffer

-- it says done with a prefix of 7 octets, and writes one octet more; right otherwise
unfoldable pub short_prefix_writer : FormWriter
short_prefix_writer prefix a buffer = if eqb (length prefix) 7 then form_writing (prefix ++ (0 ∷ [])) a buffer else form_writing prefix a buffer

-- it says done without room, and writes what fits; right otherwise
unfoldable pub roomless_form_writer : FormWriter
roomless_form_writer prefix a buffer =
    if not (eqb (length prefix) half) then refuse_writing 12 buffer
    else if eqb a 0 then refuse_writing 9 buffer
    else record { answer = wrote whole; buffer = take (length buffer) (write (form prefix a) buffer).buffer }

-- it spoils the octet behind the form; right otherwise
unfoldable pub spoiling_form_writer : FormWriter
spoiling_form_writer prefix a buffer =
    if eqb (form_writing prefix a buffer).answer.refusal 0 then record { answer = wrote whole; buffer = set (form_writing prefix a buffer).buffer whole 0xFF }
    else form_writing prefix a buffer
