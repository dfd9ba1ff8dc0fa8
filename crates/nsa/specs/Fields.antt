-- The older fields (document 02, Seven): "Source document 004, section 7, gives variable fields; we need writer and reader for three in a row:
-- payload length, source, destination." "Numbers stand high octet first."
use Rattle.std.specs.Prelude.{ℕ, ◌+◌, ◌*◌, ◌-◌, ◌^◌, not, List, [], ◌∷◌, ◌++◌, length, take, drop, get_or, eqb, ltb, if◌then◌else◌}
use Rattle.octets.specs.Octets.{octets, value, WriteEffect, refuse_writing, write}
use Rattle.std.specs.Prelude.{Result, Ok, Err}
use Rattle.refusal.specs.declared.Refusal.{Refusal}
use Rattle.refusal.specs.Refusal.{number_of}
use Rattle.nsa.specs.declared.Part.{Part}
pub use Rattle.nsa.specs.declared.Row.{Row}

-- ---- the fields

-- "A payload length to 252 is one octet; 253 is followed by one octet and 254 by two, each plus 252"
unfoldable pub length_field : ℕ → List ℕ
length_field n =
    if ltb n 253 then n ∷ []
    else if ltb n (256 + 252) then 253 ∷ octets 1 (n - 252)
    else 254 ∷ octets 2 (n - 252)

-- "Only the shortest form is accepted .., so after 255 the length is 5 to 8": of an address that four octets do not hold
unfoldable pub long_octets : ℕ → ℕ
long_octets a =
    if ltb a (256 ^ 5) then 5
    else if ltb a (256 ^ 6) then 6
    else if ltb a (256 ^ 7) then 7
    else 8

-- "An address to 252 is one octet; 253 is followed by two octets, 254 by four, 255 by a length and that many octets."
unfoldable pub address_field : ℕ → List ℕ
address_field a =
    if ltb a 253 then a ∷ []
    else if ltb a (256 ^ 2) then 253 ∷ octets 2 a
    else if ltb a (256 ^ 4) then 254 ∷ octets 4 a
    else 255 ∷ long_octets a ∷ octets (long_octets a) a

-- "three in a row: payload length, source, destination"
unfoldable pub fields : ℕ → ℕ → ℕ → List ℕ
fields l s d = length_field l ++ (address_field s ++ address_field d)

-- ---- writing

-- what two octets and 252 come to at most
abbrev pub longest_payload : ℕ
longest_payload = 65787

-- "A length to write above 65,787 is 14, checked first; then 9; then 10."
unfoldable pub writing : ℕ → ℕ → ℕ → List ℕ → WriteEffect
writing l s d buffer =
    if ltb longest_payload l then refuse_writing 14 buffer
    else if eqb s 0 then refuse_writing 9 buffer
    else if eqb d 0 then refuse_writing 9 buffer
    else if ltb (length buffer) (length (fields l s d)) then refuse_writing 10 buffer
    else write (fields l s d) buffer

-- ---- reading a field, from its first octet on, whatever is behind it

-- what reading one field says: a refusal's number, 0 where it is done; the number read and how many octets it took, both 0 in a refusal
pub record Field : Type 0 where
  pub refusal : ℕ
  pub number : ℕ
  pub size : ℕ

abbrev pub field : ℕ → ℕ → Field
field n k = record { refusal = 0; number = n; size = k }

abbrev pub refused_field : ℕ → Field
refused_field r = record { refusal = r; number = 0; size = 0 }

-- the document's number and values for each case of the answer
abbrev pub field_answer : Result Part Refusal → Field
field_answer (Ok p) = field p.number p.size
field_answer (Err r) = refused_field (number_of r)

-- the number in `count` octets behind the first `before` of a field, with so much added: "a missing octet is 4 and comes before any judgement of
-- the value"; "Only the shortest form is accepted: otherwise 6": below `least` there is a shorter one
unfoldable pub number_reading : ℕ → ℕ → ℕ → ℕ → List ℕ → Field
number_reading before count least added p =
    if ltb (length p) (before + count) then refused_field 4
    else if ltb (value (take count (drop before p))) least then refused_field 6
    else field (value (take count (drop before p)) + added) (before + count)

-- "255 is refused with 6"
unfoldable pub length_reading : List ℕ → Field
length_reading p =
    if ltb (length p) 1 then refused_field 4
    else if ltb (get_or p 0 0) 253 then field (get_or p 0 0) 1
    else if eqb (get_or p 0 0) 253 then number_reading 1 1 1 252 p
    else if eqb (get_or p 0 0) 254 then number_reading 1 2 256 252 p
    else refused_field 6

-- "after 255 the length is 5 to 8 and its first octet isn't zero"; "the length octet after 255 is judged before its address octets are looked for"
unfoldable pub counted_reading : List ℕ → Field
counted_reading p =
    if ltb (length p) 2 then refused_field 4
    else if ltb (get_or p 1 0) 5 then refused_field 6
    else if ltb 8 (get_or p 1 0) then refused_field 6
    else number_reading 2 (get_or p 1 0) (2 ^ (8 * (get_or p 1 0 - 1))) 0 p

-- "Address zero in one octet is 9, longer zeros are 6."
unfoldable pub address_reading : List ℕ → Field
address_reading p =
    if ltb (length p) 1 then refused_field 4
    else if eqb (get_or p 0 0) 0 then refused_field 9
    else if ltb (get_or p 0 0) 253 then field (get_or p 0 0) 1
    else if eqb (get_or p 0 0) 253 then number_reading 1 2 253 0 p
    else if eqb (get_or p 0 0) 254 then number_reading 1 4 (256 ^ 2) 0 p
    else counted_reading p

-- ---- reading three in a row

-- what a reading says: its number, the three numbers and the place after them
pub record FieldsAnswer : Type 0 where
  pub refusal : ℕ
  pub length : ℕ
  pub source : ℕ
  pub destination : ℕ
  pub place : ℕ

abbrev pub found : ℕ → ℕ → ℕ → ℕ → FieldsAnswer
found l s d k = record { refusal = 0; length = l; source = s; destination = d; place = k }

-- "With any refusal the address, place, hop count and every other number returned beside its own are 0"
abbrev pub refused_fields : ℕ → FieldsAnswer
refused_fields n = record { refusal = n; length = 0; source = 0; destination = 0; place = 0 }

-- the document's number and values for each case of the answer
abbrev pub fields_answer : Result Row Refusal → FieldsAnswer
fields_answer (Ok row) = found row.fields.length row.fields.source.number row.fields.destination.number row.place
fields_answer (Err r) = refused_fields (number_of r)

unfoldable pub source_reading : List ℕ → Field
source_reading p = address_reading (drop (length_reading p).size p)

unfoldable pub destination_reading : List ℕ → Field
destination_reading p = address_reading (drop ((length_reading p).size + (source_reading p).size) p)

-- "The first faulty field decides. The reader answers these and the place after them"
unfoldable pub reading : List ℕ → FieldsAnswer
reading p =
    if not (eqb (length_reading p).refusal 0) then refused_fields (length_reading p).refusal
    else if not (eqb (source_reading p).refusal 0) then refused_fields (source_reading p).refusal
    else if not (eqb (destination_reading p).refusal 0) then refused_fields (destination_reading p).refusal
    else
    found (length_reading p).number (source_reading p).number (destination_reading p).number
    ((length_reading p).size + (source_reading p).size + (destination_reading p).size)
