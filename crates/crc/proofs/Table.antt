-- The table: one test over its sixteen entries is computed, and gives its rule at each of them; by the rule and by linearity half an octet goes
-- in as the code does it. Assumes nothing.
use mathlib.Core.Path.{◌≡◌, refl, sym, ap, ap₂, ◌∙◌}
use mathlib.Core.Bool.{Bool, true, ◌&&◌, and-eq-true_iff}
use mathlib.Core.Logic.{◌⊎◌, inl, inr}
use Prim.Native.Nat.{ℕ, zero, suc, ◌*◌, ◌/◌, ◌%◌, ◌^◌, ◌<◌}
use native.Mathlib.Nat.{eq-or-lt_of_le, le_of_suc-le-suc, not-suc-le-zero, mod-lt}
use native.Mathlib.Omega.{arith}
use lib.Dec.{eqb, lit<}
use lib.ListN.{get_or}
use lib.Bits.{bit_xor, xor_comm, xor_zero_r, xor_lt, xor_shifted}
use lib.Pow.{split, shr_lt}
use borrow.Author.Tests.{eqb-true}
use Rattle.crc.specs.Crc.{bit, moved_up, shift_in, shift_bits}
use Rattle.crc.specs.Checks.{remainder, remainders, TableRule}
use Rattle.crc.proofs.XorLaws.{xor_times}
use Rattle.crc.proofs.ShiftLaws.{shift_bits-xor, shift_bits-low}

-- the test passes at every number below n
abbrev all_below : (ℕ → Bool) → ℕ → Bool
all_below test zero = true
all_below test (suc n) = test n && all_below test n

all_below_true : (test : ℕ → Bool) (n k : ℕ) → all_below test n ≡ true → k < n → test k ≡ true
all_below_true test zero k e h = absurd (not-suc-le-zero h)
all_below_true test (suc n) k e h = go (eq-or-lt_of_le (le_of_suc-le-suc h))
    (all_below_true test n k ((and-eq-true_iff (test n) (all_below test n)).0 e).1)
  where
    go : (k ≡ n) ⊎ (k < n) → (k < n → test k ≡ true) → test k ≡ true
    go (inl same) before = ap test same ∙ ((and-eq-true_iff (test n) (all_below test n)).0 e).0
    go (inr less) before = before less

-- an entry is its half octet's remainder, which is also what the half octet leaves that goes into an empty register
right : ℕ → Bool
right half = eqb (get_or remainders half 0) (remainder half) && eqb (shift_bits 4 0 half) (remainder half)

all_right : all_below right 16 ≡ true
unfolding right remainder shift_bits shift_in moved_up bit
all_right = refl

right_at : (half : ℕ) → half < 16 → (get_or remainders half 0 ≡ remainder half) × (shift_bits 4 0 half ≡ remainder half)
unfolding right
right_at half h =
    let entry = get_or remainders half 0 in
    let alone = shift_bits 4 0 half in
    let left = remainder half in
    let passed = (and-eq-true_iff (eqb entry left) (eqb alone left)).0 (all_below_true right 16 half all_right h) in
    (eqb-true entry left passed.0, eqb-true alone left passed.1)

pub table_rule : TableRule
table_rule = record { sixteen = refl; each = λ half h. (right_at half h).0 }

-- a half octet that meets another at the top of the register
meeting : (top half : ℕ) → half < 16 → shift_bits 4 (top * 2 ^ 12) half ≡ remainder (bit_xor top half)
unfolding remainder
meeting top half h =
    ap (λ (r : ℕ). shift_bits 4 r half) (sym (xor_zero_r (top * 2 ^ 12)))
    ∙ shift_bits-xor 4 (top * 2 ^ 12) 0 0 half
    ∙ ap (bit_xor (shift_bits 4 (top * 2 ^ 12) 0)) (right_at half h).1
    ∙ sym (shift_bits-xor 4 (top * 2 ^ 12) (half * 2 ^ 12) 0 0)
    ∙ ap (λ (r : ℕ). shift_bits 4 r 0) (xor_times 12 top half)

-- the register is its top half octet and the 12 bits below, which only move up
pub by_table_lem : (r half : ℕ) → half < 16 → bit_xor (r * 2 ^ 4 % 2 ^ 16) (remainder (bit_xor (r / 2 ^ 12) half)) ≡ shift_bits 4 r half
by_table_lem r half h =
    let low : r % 2 ^ 12 < 2 ^ 12 = mod-lt r (lit< tt) in
    let moved : r * 2 ^ 4 % 2 ^ 16 ≡ r % 2 ^ 12 * 2 ^ 4 = omega arith in
    ap₂ bit_xor (moved ∙ sym (shift_bits-low (r % 2 ^ 12) low)) (sym (meeting (r / 2 ^ 12) half h))
    ∙ xor_comm (shift_bits 4 (r % 2 ^ 12) 0) (shift_bits 4 (r / 2 ^ 12 * 2 ^ 12) half)
    ∙ sym (shift_bits-xor 4 (r / 2 ^ 12 * 2 ^ 12) (r % 2 ^ 12) half 0)
    ∙ ap₂ (shift_bits 4) (xor_shifted (r / 2 ^ 12) 12 (r % 2 ^ 12) low ∙ split r 12) (xor_zero_r half)

-- the place in the table
pub place_in_table : (r half : ℕ) → r < 2 ^ 16 → half < 16 → bit_xor (r / 2 ^ 12) half < 16
place_in_table r half h k = xor_lt 4 (r / 2 ^ 12) half (shr_lt 4 12 h) k
