-- Demand 1 for the older fields: each refusal is given exactly when document 02 (Seven) says, in its order. The conditions are the document's words
-- about numbers, buffers and octets, apart from the tests that `writing` and `reading` run. The statements are of any writer and any reader, so that
-- a wrong one can be refuted by them.
use Rattle.std.specs.Prelude.{◌≡◌, ◌⊎◌, List, ◌++◌, ℕ, ◌+◌, ◌≤◌, ◌<◌, eqb, ltb, length, take, drop, get_or, if◌then◌else◌}
use Rattle.address.specs.Order.{Order, done, ◌when◌otherwise◌, ◌then◌, GivenExactly}
use Rattle.octets.specs.Octets.{AreOctets, value}
use Rattle.octets.specs.Lent.{RefusalLeaves, SuccessWrites}
use Rattle.nsa.specs.Fields.{fields}
use Rattle.nsa.specs.Forms.{LengthForm, AddressForm}
use Rattle.nsa.specs.RoundTrip.{FieldsWriter, FieldsReader}

-- ---- writing

-- "A length to write above 65,787 is 14, checked first; then 9; then 10."
abbrev pub fields_writing_order : ℕ → ℕ → ℕ → List ℕ → Order
fields_writing_order l s d buffer =
    14 when 65787 < l
    -- "an address is zero"
    otherwise 9 when ((s ≡ 0) ⊎ (d ≡ 0))
    -- "lent output too short"
    otherwise 10 when length buffer < length (fields l s d)
    otherwise done

pub record FieldsWriteRefusals (writer : FieldsWriter) : Type 0 where
  pub given : (l s d : ℕ) (buffer : List ℕ) → GivenExactly (fields_writing_order l s d buffer) (writer l s d buffer).answer.refusal
  pub beside : (l s d : ℕ) (buffer : List ℕ) → RefusalLeaves buffer (writer l s d buffer)
  pub without : (l s d : ℕ) (buffer : List ℕ) → SuccessWrites (fields l s d) buffer (writer l s d buffer)

-- ---- reading

-- an octet, counted from 0; where it is absent, 0
abbrev pub octet_at : ℕ → List ℕ → ℕ
octet_at i p = get_or p i 0

-- "a missing octet"
abbrev pub Absent : ℕ → List ℕ → Type 0
Absent i p = length p ≤ i

-- the number in the k octets from the i-th on: "Numbers stand high octet first."
abbrev pub told : ℕ → ℕ → List ℕ → ℕ
told i k p = value (take k (drop i p))

-- a payload length at the front of some octets: "a missing octet is 4 and comes before any judgement of the value"; "Only the shortest form is
-- accepted: otherwise 6"
abbrev pub length_field_order : List ℕ → Order
length_field_order p =
    4 when Absent 0 p
    -- "255 is refused with 6"
    otherwise 6 when octet_at 0 p ≡ 255
    -- "253 is followed by one octet and 254 by two, each plus 252": to 252 a length stands alone, to 507 after 253
    otherwise 4 when ((octet_at 0 p ≡ 253) × Absent 1 p)
    otherwise 6 when ((octet_at 0 p ≡ 253) × (told 1 1 p + 252 ≤ 252))
    otherwise 4 when ((octet_at 0 p ≡ 254) × Absent 2 p)
    otherwise 6 when ((octet_at 0 p ≡ 254) × (told 1 2 p + 252 ≤ 507))
    otherwise done

-- how many octets a payload length takes, by the first of them, which is not 255
abbrev pub length_end : List ℕ → ℕ
length_end p =
    if ltb (octet_at 0 p) 253 then 1
    else if eqb (octet_at 0 p) 253 then 2
    else 3

-- an address at the front of some octets
abbrev pub address_field_order : List ℕ → Order
address_field_order p =
    4 when Absent 0 p
    -- "Address zero in one octet is 9"
    otherwise 9 when octet_at 0 p ≡ 0
    -- "253 is followed by two octets": to 252 an address stands alone; "longer zeros are 6"
    otherwise 4 when ((octet_at 0 p ≡ 253) × Absent 2 p)
    otherwise 6 when ((octet_at 0 p ≡ 253) × (told 1 2 p ≤ 252))
    -- "254 by four": to 65,535 an address stands after 253
    otherwise 4 when ((octet_at 0 p ≡ 254) × Absent 4 p)
    otherwise 6 when ((octet_at 0 p ≡ 254) × (told 1 4 p ≤ 65535))
    -- "255 by a length and that many octets": "after 255 the length is 5 to 8 and its first octet isn't zero", "but the length octet after 255 is
    -- judged before its address octets are looked for"
    otherwise 4 when ((octet_at 0 p ≡ 255) × Absent 1 p)
    otherwise 6 when ((octet_at 0 p ≡ 255) × ((octet_at 1 p < 5) ⊎ (8 < octet_at 1 p)))
    otherwise 4 when ((octet_at 0 p ≡ 255) × (length p < 2 + octet_at 1 p))
    otherwise 6 when ((octet_at 0 p ≡ 255) × (octet_at 2 p ≡ 0))
    otherwise done

-- how many octets an address takes, by the first of them, or the first two
abbrev pub address_end : List ℕ → ℕ
address_end p =
    if ltb (octet_at 0 p) 253 then 1
    else if eqb (octet_at 0 p) 253 then 3
    else if eqb (octet_at 0 p) 254 then 5
    else 2 + octet_at 1 p

-- what stands behind a payload length, and behind a source
abbrev pub behind_length : List ℕ → List ℕ
behind_length p = drop (length_end p) p

abbrev pub behind_source : List ℕ → List ℕ
behind_source p = drop (address_end (behind_length p)) (behind_length p)

-- "The first faulty field decides."
abbrev pub fields_reading_order : List ℕ → Order
fields_reading_order p = length_field_order p then (address_field_order (behind_length p) then address_field_order (behind_source p))

-- "three in a row: payload length, source, destination"; "The reader answers these and the place after them"
pub record AcceptedFields (p : List ℕ) (l s d place : ℕ) : Type 0 where
  pub in_length : List ℕ
  pub in_source : List ℕ
  pub in_destination : List ℕ
  pub behind : List ℕ
  pub laid : p ≡ in_length ++ (in_source ++ (in_destination ++ behind))
  pub length-told : LengthForm in_length l
  pub source_told : AddressForm in_source s
  pub destination-told : AddressForm in_destination d
  pub after : place ≡ length in_length + length in_source + length in_destination

-- of octets, which is what a reader is lent (`read` promises so)
pub record FieldsReadRefusals (reader : FieldsReader) : Type 0 where
  pub given : (p : List ℕ) → AreOctets p → GivenExactly (fields_reading_order p) (reader p).refusal
  -- "With any refusal .. every other number returned beside its own are 0"
  pub beside : (p : List ℕ) → ((reader p).refusal ≡ 0 → ⊥)
      → ((reader p).length ≡ 0) × ((reader p).source ≡ 0) × ((reader p).destination ≡ 0) × ((reader p).place ≡ 0)
  pub without : (p : List ℕ) → AreOctets p → (reader p).refusal ≡ 0
      → AcceptedFields p (reader p).length (reader p).source (reader p).destination (reader p).place
