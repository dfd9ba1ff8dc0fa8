-- The ones that the search passes, by a count of leading zeros. With a 0 for its last bit an address ends every search at a 0: what stands behind its first
-- bits is ones, as many as are passed, and then a 0. Bit by bit that gives two bounds on the remainder which holds these bits, and at the high
-- end of a word they say how many leading zeros the opposite word has. Assumes nothing.
use mathlib.Core.Path.{◌≡◌, refl, sym, ap, ◌∙◌}
use Prim.Native.Nat.{ℕ, zero, suc, ◌+◌, ◌*◌, ◌-◌, ◌/◌, ◌%◌, ◌^◌, ◌<◌, ◌≤◌}
use native.Mathlib.Nat.{add-zero, add-mul, mul_assoc, one-mul, mul-div_cancel, mod-lt, mul-mod_left, mul-le-mul_right, mul-lt-mul_of_pos_right, pow-suc, pow-succ'}
use native.Mathlib.Numerals.{one-add}
use native.Mathlib.Omega.{arith}
use lib.Arith.{mod-mul}
use lib.Pow.{pow_pos, pow-add, shr-shr, mod-pow-add}
use lib.Count.{count_leading_zeros, leading_unique}
use Rattle.address.specs.Bits.{bits, longest}
use Rattle.address.specs.Address.{bit_length}
use Rattle.search.specs.Search.{child_end}
use Rattle.address.proofs.Numbers.{bit_length-le}
use Rattle.search.proofs.SearchLaws.{child_end_past, child_end-zero, child_end-one}

-- x, of p digits, is i ones and then a 0, where a digit is left
record OnesFirst (p i x : ℕ) : Type 0 where
  left : ℕ
  whole : i + left ≡ p
  above : 2 ^ p ≤ x + 2 ^ left
  below : x + x + 2 ^ left < 2 ^ p + 2 ^ p

zero-first : {p x : ℕ} → x < 2 ^ p → OnesFirst (suc p) 0 x
zero-first {p} h = record { left = suc p; whole = omega arith; above = omega arith; below = omega (arith, pow-suc 2 p) }

one-first : {p i x : ℕ} → OnesFirst p i x → OnesFirst (suc p) (suc i) (2 ^ p + x)
one-first {p} r = record {
  left = r.left;
  whole = omega (arith, r.whole);
  above = omega (arith, r.above, pow-suc 2 p);
  below = omega (arith, r.below, pow-suc 2 p);
}

pow-whole : {w : ℕ} (p s : ℕ) → p + s ≡ w → 2 ^ w ≡ 2 ^ p * 2 ^ s
pow-whole p s e = ap (λ (k : ℕ). 2 ^ k) (sym e) ∙ pow-add 2 p s

-- at the high end of a word, with zeros behind: as many leading zeros has the opposite word
leading_ones : {p i x : ℕ} (w s : ℕ) → p + suc s ≡ w → OnesFirst p i x → count_leading_zeros w (2 ^ w - 1 - x * 2 ^ suc s) ≡ i
leading_ones {p} {i} {x} w s e r =
    let up = 2 ^ suc s in
    let digits = r.left + suc s in
    let whole = pow-whole p (suc s) e in
    let power = pow-add 2 r.left (suc s) in
    let above = rw add-mul at (mul-le-mul_right up r.above) in
    let below = rw (add-mul (x + x) (2 ^ r.left) up, add-mul x x up, add-mul (2 ^ p) (2 ^ p) up) at (mul-lt-mul_of_pos_right r.below (pow_pos (suc s))) in
    sym
    (leading_unique w (2 ^ w - 1 - x * up) i digits (omega (arith, r.whole))
    (omega (arith, whole, power, above, pow_pos digits))
    (omega (arith, whole, power, below)))

module _ {n l : ℕ} (fits : n < 2 ^ longest) (long : l ≡ bit_length n) where
  -- where the search ends: behind the ones that it passes, of the p bits behind the first k and before the last
  record Ends (k p : ℕ) : Type 0 where
    ones : ℕ
    behind : OnesFirst p ones (n / 2 % 2 ^ p)
    end : child_end k (bits n) ≡ k + ones + 1

  ends_last : (k : ℕ) → k + 1 ≡ l → child_end k (bits n) ≡ k + 1
  ends_last k e = go (n / 2 ^ (l - 1 - k) % 2) refl
    where
      go : (b : ℕ) → n / 2 ^ (l - 1 - k) % 2 ≡ b → child_end k (bits n) ≡ k + 1
      go zero z = child_end-zero k fits long (omega arith) z
      go (suc b) s = child_end-one k fits long (omega arith) (λ z. omega arith) ∙ child_end_past (k + 1) fits long (omega arith)

  ends : (p k : ℕ) → k + suc p ≡ l → Ends k p
  ends zero k e = record {
    ones = 0;
    behind = record { left = 0; whole = refl; above = omega arith; below = omega arith };
    end = omega (arith, ends_last k (omega arith));
  }
  ends (suc p) k e = go (n / 2 / 2 ^ p % 2) refl (ends p (k + 1) (omega arith))
    where
      bit : n / 2 ^ (l - 1 - k) % 2 ≡ n / 2 / 2 ^ p % 2
      bit = let at : l - 1 - k ≡ 1 + p = omega arith in rw at (ap (λ (m : ℕ). m % 2) (sym (shr-shr n 1 p)))

      digits : (b : ℕ) → n / 2 / 2 ^ p % 2 ≡ b → n / 2 % 2 ^ suc p ≡ b * 2 ^ p + n / 2 % 2 ^ p
      digits b d = ap (λ (i : ℕ). n / 2 % 2 ^ i) (sym (one-add p)) ∙ mod-pow-add (n / 2) 1 p ∙ rw d

      go : (b : ℕ) → n / 2 / 2 ^ p % 2 ≡ b → Ends (k + 1) p → Ends k (suc p)
      go zero z more = record {
        ones = 0;
        behind = rw (digits 0 z) (zero-first (omega (arith, mod-lt (n / 2) (pow_pos p))));
        end = omega (arith, child_end-zero k fits long (omega arith) (bit ∙ z));
      }
      go (suc zero) s more = record {
        ones = suc more.ones;
        behind = rw (digits 1 s, one-mul) (one-first more.behind);
        end = omega (arith, more.end, child_end-one k fits long (omega arith) (λ z. omega (arith, bit)));
      }
      go (suc (suc b)) s more = absurd (omega arith)

  -- the shift leaves what is behind, at the word's high end, and the last bit as a 0
  shifted : (p s : ℕ) → p + suc s ≡ longest → n / 2 * 2 * 2 ^ s % 2 ^ longest ≡ n / 2 % 2 ^ p * 2 ^ suc s
  shifted p s e =
      let up = 2 ^ suc s in
      let twice : n / 2 * 2 * 2 ^ s ≡ n / 2 * up = mul_assoc (n / 2) 2 (2 ^ s) ∙ ap (λ (m : ℕ). n / 2 * m) (sym (pow-succ' 2 s)) in
      rw (twice, pow-whole p (suc s) e)
      (mod-mul (n / 2 * up) (pow_pos p) (pow_pos (suc s))
      ∙ rw (mul-div_cancel (n / 2) (pow_pos (suc s)), mul-mod_left (n / 2) up, add-zero))

  counted : (k p s : ℕ) → p + suc s ≡ longest → Ends k p
      → child_end k (bits n) ≡ k + count_leading_zeros longest (2 ^ longest - 1 - n / 2 * 2 * 2 ^ s % 2 ^ longest) + 1
  counted k p s e at = rw (at.end, shifted p s e, leading_ones longest s e at.behind)

  pub child_end_leading : (k : ℕ) → k < l
      → child_end k (bits n) ≡ k + count_leading_zeros longest (2 ^ longest - 1 - n / 2 * 2 * 2 ^ (longest - (l - k)) % 2 ^ longest) + 1
  child_end_leading k h =
      counted k (l - k - 1) (longest - (l - k)) (omega (arith, long, bit_length-le fits)) (ends (l - k - 1) k (omega arith))
