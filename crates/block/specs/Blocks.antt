-- What is claimed of blocks, as of headers in demand 2: what is written reads back as itself, and what is accepted is what would have been written.
use Rattle.std.specs.Prelude.{ℕ, ◌^◌, ◌<◌, ◌≤◌, ◌≡◌, true, ◌↔◌, List, [], ◌∷◌, length, get_or}
use Rattle.octets.specs.Octets.{AreOctets}
use Rattle.block.specs.Block.{slot_bytes, most_addresses, first_byte, last_byte, block, addresses_in, is_block}

-- whatever stands in lent words has 64 bits
abbrev pub AreWords : List ℕ → Type 0
AreWords [] = Unit {0}
AreWords (a ∷ xs) = (a < 2 ^ 64) × AreWords xs

-- "a count n of 1 to 63"
abbrev pub IsCount : ℕ → Type 0
IsCount n = (1 ≤ n) × (n ≤ most_addresses)

-- the slot is the block of these addresses
pub record IsBlockOf (xs slot : List ℕ) : Type 0 where
  pub words : AreWords xs
  pub count : IsCount (length xs)
  pub bytes : slot ≡ block xs

pub record Blocks : Type 0 where
  -- a block takes a slot, begins and ends with its two bytes, and is octets
  pub whole : (xs : List ℕ) → IsCount (length xs)
      → (length (block xs) ≡ slot_bytes) × (get_or (block xs) 0 0 ≡ first_byte) × (get_or (block xs) 511 0 ≡ last_byte) × AreOctets (block xs)
  -- what is written is a right block, of the same addresses
  pub reads_back : (xs : List ℕ) → AreWords xs → IsCount (length xs) → (is_block (block xs) ≡ true) × (addresses_in (block xs) ≡ xs)
  -- a right block is what would have been written: the test is right about all octets
  pub exactly : (slot : List ℕ) → AreOctets slot → (is_block slot ≡ true) ↔ IsBlockOf (addresses_in slot) slot
  -- and no other addresses have it
  pub only : (xs slot : List ℕ) → IsBlockOf xs slot → xs ≡ addresses_in slot
