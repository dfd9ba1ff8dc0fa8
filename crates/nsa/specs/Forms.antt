-- The forms of a number that source document 004, section 7, gives, and "Only the shortest form": what a field of ours is, apart from the tests
-- that the definitions run.
use Rattle.std.specs.Prelude.{◌≡◌, ◌⊎◌, List, [], ◌∷◌, ℕ, ◌+◌, ◌^◌, ◌≤◌, ◌<◌, length}
use Rattle.address.specs.Bits.{longest}
use Rattle.octets.specs.Octets.{AreOctets, value}
use Rattle.nsa.specs.Fields.{length_field, address_field, fields, longest_payload}

-- the octets tell this payload length
pub data LengthForm (os : List ℕ) (n : ℕ) : Type 0 where
  -- "0~252: Indicates how many octets the payload consist of."
  length_alone : n ≤ 252 → os ≡ n ∷ [] → LengthForm os n
  -- "253: Indicates that there is an extra octet for payload length, with the actual length value equal to the last octet value plus 252."
  length_one : (rest : List ℕ) → AreOctets rest → length rest ≡ 1 → os ≡ 253 ∷ rest → n ≡ value rest + 252 → LengthForm os n
  -- "254: .. an extra two octets for payload length, with the actual length value obtained from the second and third octets interpreted as a 16
  -- bits unsigned integer plus 252"; and "255: Reserved."
  length_two : (rest : List ℕ) → AreOctets rest → length rest ≡ 2 → os ≡ 254 ∷ rest → n ≡ value rest + 252 → LengthForm os n

-- the octets tell this address
pub data AddressForm (os : List ℕ) (a : ℕ) : Type 0 where
  -- "0~252: if the address value locates in this interval, one octet is used to encode the value"
  address_alone : a ≤ 252 → os ≡ a ∷ [] → AddressForm os a
  -- "253: indicates that the following 2 octets encode the address."
  address_two : (rest : List ℕ) → AreOctets rest → length rest ≡ 2 → os ≡ 253 ∷ rest → a ≡ value rest → AddressForm os a
  -- "254: indicates that the following 4 octets encode the address."
  address_four : (rest : List ℕ) → AreOctets rest → length rest ≡ 4 → os ≡ 254 ∷ rest → a ≡ value rest → AddressForm os a
  -- "255: indicates that the following octet defines the length of address in octets, followed by the address octets."
  address_counted : (rest : List ℕ) → AreOctets rest → length rest < 256 → os ≡ 255 ∷ length rest ∷ rest → a ≡ value rest → AddressForm os a

-- "Only the shortest form": of a payload length every other form is longer
pub record ShortestLengths : Type 0 where
  pub a_form : (n : ℕ) → n ≤ longest_payload → LengthForm (length_field n) n
  pub shortest : (n : ℕ) (os : List ℕ) → LengthForm os n → (os ≡ length_field n) ⊎ (length (length_field n) < length os)
  -- "A length to write above 65,787" has no form
  pub none_above : (n : ℕ) (os : List ℕ) → LengthForm os n → n ≤ longest_payload

-- of an address: ours, or longer than ours, or with a length octet below 5: "so after 255 the length is 5 to 8"
abbrev pub OursOrRefused : ℕ → List ℕ → Type 0
OursOrRefused a os = (os ≡ address_field a) ⊎ ((length (address_field a) < length os) ⊎ ((rest : List ℕ) × (os ≡ 255 ∷ length rest ∷ rest) × (length rest < 5)))

-- no form of an address is shorter than ours, and one that is as long has such a length octet
pub record ShortestAddresses : Type 0 where
  pub a_form : (a : ℕ) → a < 2 ^ longest → AddressForm (address_field a) a
  pub shortest : (a : ℕ) (os : List ℕ) → AddressForm os a → length (address_field a) ≤ length os
  pub only_one : (a : ℕ) (os : List ℕ) → AddressForm os a → OursOrRefused a os

-- the most octets of the three
abbrev pub AtMost23 : Type 0
AtMost23 = (l s d : ℕ) → length (fields l s d) ≤ 23
