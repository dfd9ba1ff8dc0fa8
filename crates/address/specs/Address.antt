-- What the functions on an address answer, also for zero, which is no address: there document 01 is silent, and bit length, depth and
-- parent are 0.
use Rattle.std.specs.Prelude.{ℕ, Bool, true, false, ◌&&◌, List, [], ◌∷◌, length, eqb, ltb, if◌then◌else◌}
use Rattle.address.specs.Bits.{Bit, O, I, bits}
use Rattle.address.specs.Steps.{Step, steps, address_of}
pub use Rattle.address.specs.declared.Address.{Address}
use Rattle.std.specs.Prelude.{Result, Ok, Err}
use Rattle.refusal.specs.declared.Refusal.{Refusal}
use Rattle.refusal.specs.Refusal.{number_of}

-- "Its length is 64 less the count of leading zeros": the bit string's length
unfoldable pub bit_length : ℕ → ℕ
bit_length n = length (bits n)

-- a bit string that ends in 1
unfoldable pub ends_in_one : List Bit → Bool
ends_in_one [] = false
ends_in_one (O ∷ []) = false
ends_in_one (I ∷ []) = true
ends_in_one (b ∷ c ∷ bs) = ends_in_one (c ∷ bs)

-- "A host ends in 1 and is longer than one bit. The root ends in 1 and is no host."
unfoldable pub is_host : ℕ → Bool
is_host n = ends_in_one (bits n) && ltb 1 (bit_length n)

-- "Depth is the number of steps"
unfoldable pub depth : ℕ → ℕ
depth n = length (steps n)

-- the address of all steps but the last; the root has no parent
unfoldable pub above : List Step → ℕ
above [] = 0
above (s ∷ up) = address_of up

-- "The parent of an address drops its last step."
unfoldable pub parent : ℕ → ℕ
parent n = above (steps n)

-- what an answer says: its number, 0 where it is done, and its address, 0 where it is refused
pub record AddressAnswer : Type 0 where
  pub refusal : ℕ
  pub address : ℕ

abbrev pub valid_address : ℕ → AddressAnswer
valid_address a = record { refusal = 0; address = a }

-- "With any refusal the address .. and every other number returned beside its own are 0"
abbrev pub refused_address : ℕ → AddressAnswer
refused_address n = record { refusal = n; address = 0 }

-- the document's number and values for each case of the answer
abbrev pub made_answer : Result Address Refusal → AddressAnswer
made_answer (Ok a) = valid_address a.number
made_answer (Err r) = refused_address (number_of r)

-- refusal 9: "an address is zero"
unfoldable pub made : ℕ → AddressAnswer
made n = if eqb n 0 then refused_address 9 else valid_address n
