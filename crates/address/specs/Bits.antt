-- Bit strings, and the number that holds one. "An address is a string of 1 to 64 bits whose first bit is 1. It is held right-justified in
-- a 64-bit number, so the address is any number but zero." Bits stand most significant first.
use Rattle.std.specs.Prelude.{ℕ, zero, suc, ◌+◌, ◌*◌, ◌/◌, ◌%◌, List, [], ◌∷◌, ◌++◌, eqb, if◌then◌else◌}

pub data Bit : Type 0 where
  O I : Bit

-- the last binary digit of n
unfoldable pub last_bit : ℕ → Bit
last_bit n = if eqb (n % 2) 0 then O else I

-- the binary digits of n without leading zeros, none for zero, where n has at most k of them
unfoldable pub bits_in : ℕ → ℕ → List Bit
bits_in zero n = []
bits_in (suc k) zero = []
bits_in (suc k) (suc n) = bits_in k (suc n / 2) ++ (last_bit (suc n) ∷ [])

-- "The longest length and the root's address are constants that belong to the address type: 64 and 1."
abbrev pub longest : ℕ
longest = 64

abbrev pub root : ℕ
root = 1

-- the bit string that a 64-bit number holds
unfoldable pub bits : ℕ → List Bit
bits n = bits_in longest n

unfoldable pub digit : Bit → ℕ
digit O = 0
digit I = 1

-- the number n with the digits of a bit string behind its own
unfoldable pub number_from : ℕ → List Bit → ℕ
number_from n [] = n
number_from n (b ∷ bs) = number_from (n * 2 + digit b) bs

-- the number that holds a bit string right-justified
unfoldable pub number : List Bit → ℕ
number bs = number_from 0 bs
