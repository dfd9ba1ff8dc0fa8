-- Which bit strings and which numbers are addresses, and that they correspond one to one: the statements alone.
use Rattle.std.specs.Prelude.{◌≡◌, ℕ, ◌^◌, ◌<◌, ◌≤◌, List, ◌∷◌, length}
use Rattle.address.specs.Bits.{Bit, I, bits, number, longest}

-- "An address is a string of 1 to 64 bits whose first bit is 1."
pub record IsAddressString (bs : List Bit) : Type 0 where
  pub first : (rest : List Bit) × (bs ≡ I ∷ rest)
  pub short : length bs ≤ longest

-- "the address is any number but zero", of 64 bits
pub record IsAddress (n : ℕ) : Type 0 where
  pub some : 0 < n
  pub fits : n < 2 ^ longest

-- the bit strings and the numbers correspond one to one
pub record OneToOne : Type 0 where
  pub held : (bs : List Bit) → IsAddressString bs → IsAddress (number bs) × (bits (number bs) ≡ bs)
  pub shown : (n : ℕ) → IsAddress n → IsAddressString (bits n) × (number (bits n) ≡ n)
