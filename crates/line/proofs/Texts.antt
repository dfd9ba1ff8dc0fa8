-- The texts that are written: an address less its last digit is half of it, and no line is longer than 65 octets. Assumes nothing.
use mathlib.Core.Path.{◌≡◌, refl, sym, ap, ap₂, ◌∙◌}
use mathlib.Core.Logic.{◌⊎◌, inl, inr}
use mathlib.Core.Bool.{Bool, true, false}
use mathlib.Core.List.{List, [], ◌∷◌, ◌++◌, map, map-append}
use Prim.Native.Nat.{ℕ, zero, suc, ◌+◌, ◌*◌, ◌/◌, ◌%◌, ◌^◌, ◌≤◌, ◌<◌}
use native.Mathlib.Nat.{eq-zero-or-pos}
use native.Mathlib.Omega.{arith}
use borrow.Author.Tests.{ltb-true, ltb-false, lt-ltb, le-ltb}
use lib.ListN.{length, length-append, length-map}
use lib.Dec.{ltb}
use Rattle.address.specs.Bits.{Bit, O, I, last_bit, bits_in, bits, longest, digit as value}
use Rattle.address.specs.Address.{bit_length}
use Rattle.address.proofs.Numbers.{digit-last_bit, bits_snoc}
use Rattle.route.specs.Path.{hops}
use Rattle.line.specs.Line.{digit_zero, newline, digit_text, address_text, decimal, lines, hops_text, path_text}

-- ---- an address

digit_value : (b : Bit) → digit_text b ≡ digit_zero + value b
unfolding digit_text value
digit_value O = refl
digit_value I = refl

bits-half : (n : ℕ) → 0 < n → n < 2 ^ longest → bits n ≡ bits (n / 2) ++ (last_bit n ∷ [])
bits-half n h l = go (eq-zero-or-pos (n / 2))
  where
    go : (n / 2 ≡ 0) ⊎ (0 < n / 2) → bits n ≡ bits (n / 2) ++ (last_bit n ∷ [])
    go (inl e) = let one : n ≡ 1 = omega arith in rw one (unfold bits bits_in last_bit in refl)
    go (inr p) =
        let whole : n / 2 * 2 + value (last_bit n) ≡ n = omega (arith, digit-last_bit n) in
        ap bits (sym whole) ∙ bits_snoc (n / 2) (last_bit n) p (omega arith)

pub address_text-half : (n : ℕ) → 0 < n → n < 2 ^ longest → address_text n ≡ address_text (n / 2) ++ ((digit_zero + n % 2) ∷ [])
unfolding address_text
address_text-half n h l = ap (map digit_text) (bits-half n h l) ∙ rw (map-append, digit_value, digit-last_bit)

pub address_text-zero : address_text 0 ≡ []
unfolding address_text bits bits_in
address_text-zero = refl

pub length-address_text : (n : ℕ) → length (address_text n) ≡ bit_length n
unfolding address_text bit_length
length-address_text n = length-map (bits n) digit_text

length-bits_in-le : (k n : ℕ) → length (bits_in k n) ≤ k
unfolding bits_in
length-bits_in-le zero n = omega arith
length-bits_in-le (suc k) zero = omega arith
length-bits_in-le (suc k) (suc n) = rw length-append (omega (arith, length-bits_in-le k (suc n / 2)))

pub length-address_text-le : (n : ℕ) → length (address_text n) ≤ 64
unfolding bit_length bits
length-address_text-le n = rw length-address_text (length-bits_in-le longest n)

-- ---- the lines

pub length-line : (a : ℕ) (p : List ℕ) → length (lines (a ∷ p)) ≡ length (address_text a) + 1 + length (lines p)
unfolding lines
length-line a p = rw (length-append, length-append)

pub length-lines-le : (p : List ℕ) → length (lines p) ≤ 65 * length p
length-lines-le [] = unfold lines in omega arith
length-lines-le (a ∷ p) = omega (arith, length-line a p, length-address_text-le a, length-lines-le p)

-- ---- a number in decimal digits

two_digits : {tens ones x y : ℕ} → tens ≡ x → ones ≡ y → tens ∷ ones ∷ [] ≡ x ∷ y ∷ []
two_digits e f = ap₂ (λ (m n : ℕ). m ∷ n ∷ []) e f

module _ (n : ℕ) where
  pub decimal-one : n < 10 → decimal n ≡ (digit_zero + n) ∷ []
  unfolding decimal
  decimal-one h = rw (lt-ltb n 10 h)

  pub decimal_two : 10 ≤ n → n < 100 → decimal n ≡ (digit_zero + n / 10) ∷ (digit_zero + n % 10) ∷ []
  unfolding decimal
  decimal_two h l = rw (le-ltb n 10 h, lt-ltb n 100 l) (two_digits (omega arith) (omega arith))

  pub decimal_three : 100 ≤ n → decimal n ≡ (digit_zero + n / 100) ∷ (digit_zero + n / 10 % 10) ∷ (digit_zero + n % 10) ∷ []
  unfolding decimal
  decimal_three h = rw (le-ltb n 10 (omega arith), le-ltb n 100 h)

  pub length-decimal-le : length (decimal n) ≤ 3
  length-decimal-le = go (ltb n 10) refl (ltb n 100) refl
    where
      go : (t : Bool) → ltb n 10 ≡ t → (u : Bool) → ltb n 100 ≡ u → length (decimal n) ≤ 3
      go true e u f = omega (arith, ap length (decimal-one (ltb-true n 10 e)))
      go false e true f = omega (arith, ap length (decimal_two (ltb-false n 10 e) (ltb-true n 100 f)))
      go false e false f = omega (arith, ap length (decimal_three (ltb-false n 100 f)))

  pub length_hops_line : length (hops_text ++ decimal n ++ (newline ∷ [])) ≡ length (decimal n) + 6
  unfolding hops_text
  length_hops_line = simp length-append (omega arith)

-- ---- the whole text

pub length-path_text-le : (p : List ℕ) → length p ≤ 126 → length (path_text p) ≤ 8200
unfolding path_text
length-path_text-le p h =
    let line = hops_text ++ decimal (hops p) ++ (newline ∷ []) in
    omega (arith, length-append line (lines p), length_hops_line (hops p), length-decimal-le (hops p), length-lines-le p)
