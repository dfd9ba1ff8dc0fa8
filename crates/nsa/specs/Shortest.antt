-- "Only the shortest form is accepted: otherwise 6": whatever form document 004 gives of a number besides the field that is written of it is refused
-- with 6, in each of the three fields, whatever stands behind it. A statement of any reader.
use Rattle.std.specs.Prelude.{◌≡◌, List, ◌++◌, ℕ, ◌≤◌}
use Rattle.address.specs.Numbers.{IsAddress}
use Rattle.nsa.specs.Fields.{length_field, address_field, longest_payload, refused_fields}
use Rattle.nsa.specs.Forms.{LengthForm, AddressForm}
use Rattle.nsa.specs.RoundTrip.{FieldsReader}

pub record OtherwiseSix (reader : FieldsReader) : Type 0 where
  pub a_length : (os behind : List ℕ) (n : ℕ) → LengthForm os n → (os ≡ length_field n → ⊥) → reader (os ++ behind) ≡ refused_fields 6
  pub a_source : (l : ℕ) (os behind : List ℕ) (a : ℕ) → l ≤ longest_payload → AddressForm os a → (os ≡ address_field a → ⊥)
      → reader (length_field l ++ (os ++ behind)) ≡ refused_fields 6
  pub a_destination : (l s : ℕ) (os behind : List ℕ) (a : ℕ) → l ≤ longest_payload → IsAddress s → AddressForm os a → (os ≡ address_field a → ⊥)
      → reader (length_field l ++ (address_field s ++ (os ++ behind))) ≡ refused_fields 6
