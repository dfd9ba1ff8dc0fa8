-- What `block_put` and `is_block` say by their tests: the block where all hold, and the last test where all before it hold. Assumes nothing.
use mathlib.Core.Path.{◌≡◌, ◌∙◌}
use mathlib.Core.Bool.{true, false, ◌&&◌, and-eq-true_iff}
use mathlib.Core.List.{List}
use Prim.Native.Nat.{ℕ}
use lib.Dec.{eqb, leb}
use lib.ListN.{length, get_or}
use borrow.Author.Tests.{eq-eqb, ne_eqb, eqb-true, le-leb, leb-true}
use Rattle.block.specs.Block.{slot_bytes, most_addresses, first_byte, last_byte}
use Rattle.block.specs.Block.{block, is_count, block_put, all_are, count_in, zeros_in, told_in, crc_in, is_block}
use Rattle.block.specs.Blocks.{IsCount}

-- ---- "a count n of 1 to 63"

pub true_is_count : (n : ℕ) → is_count n ≡ true → IsCount n
unfolding is_count
true_is_count n e = let both = (and-eq-true_iff (leb 1 n) (leb n most_addresses)).0 e in (leb-true 1 n both.0, leb-true n most_addresses both.1)

pub is_count_true : (n : ℕ) → IsCount n → is_count n ≡ true
unfolding is_count
is_count_true n (some, few) = rw (le-leb 1 n some, le-leb n most_addresses few)

-- ---- what is put

pub block_put-done : (xs slot : List ℕ) → length slot ≡ slot_bytes → IsCount (length xs) → block_put xs slot ≡ block xs
unfolding block_put
block_put-done xs slot size h = rw (eq-eqb (length slot) slot_bytes size, is_count_true (length xs) h)

-- ---- what is read

module _ (slot : List ℕ) (size : length slot ≡ slot_bytes) where
  pub is_block-first : (get_or slot 0 0 ≡ first_byte → ⊥) → is_block slot ≡ false
  unfolding is_block
  is_block-first h = rw (eq-eqb (length slot) slot_bytes size, ne_eqb (get_or slot 0 0) first_byte h)

  pub is_block-last : get_or slot 0 0 ≡ first_byte → is_count (count_in slot) ≡ true → all_are 0 (zeros_in slot) ≡ true → told_in slot ≡ crc_in slot
      → is_block slot ≡ eqb (get_or slot 511 0) last_byte
  unfolding is_block
  is_block-last first count zeros agree =
      rw (eq-eqb (length slot) slot_bytes size, eq-eqb (get_or slot 0 0) first_byte first, count, zeros, eq-eqb (told_in slot) (crc_in slot) agree)

-- the tests passed
pub record Right (slot : List ℕ) : Type 0 where
  pub size : length slot ≡ slot_bytes
  pub first : get_or slot 0 0 ≡ first_byte
  pub count : IsCount (count_in slot)
  pub zeros : all_are 0 (zeros_in slot) ≡ true
  pub check : told_in slot ≡ crc_in slot
  pub last : get_or slot 511 0 ≡ last_byte

pub is_block_true : (slot : List ℕ) → is_block slot ≡ true → Right slot
unfolding is_block
is_block_true slot e =
    let size = eqb (length slot) slot_bytes in
    let first = eqb (get_or slot 0 0) first_byte in
    let count = is_count (count_in slot) in
    let zeros = all_are 0 (zeros_in slot) in
    let check = eqb (told_in slot) (crc_in slot) in
    let (five, l) = (and-eq-true_iff (size && first && count && zeros && check) (eqb (get_or slot 511 0) last_byte)).0 e in
    let (four, k) = (and-eq-true_iff (size && first && count && zeros) check).0 five in
    let (three, z) = (and-eq-true_iff (size && first && count) zeros).0 four in
    let (two, c) = (and-eq-true_iff (size && first) count).0 three in
    let (s, f) = (and-eq-true_iff size first).0 two in
    record {
      size = eqb-true (length slot) slot_bytes s;
      first = eqb-true (get_or slot 0 0) first_byte f;
      count = true_is_count (count_in slot) c;
      zeros = z;
      check = eqb-true (told_in slot) (crc_in slot) k;
      last = eqb-true (get_or slot 511 0) last_byte l;
    }

pub true_is_block : (slot : List ℕ) → Right slot → is_block slot ≡ true
true_is_block slot r =
    is_block-last slot r.size r.first (is_count_true (count_in slot) r.count) r.zeros r.check
    ∙ eq-eqb (get_or slot 511 0) last_byte r.last
