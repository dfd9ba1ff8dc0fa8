-- The search for a child by arithmetic. The digits behind a number are divided away again, so a string's first bits are its number less the
-- rest by a shift, and the last of them is that number's remainder by 2.
use mathlib.Core.Path.{◌≡◌, refl, sym, ap, ◌∙◌}
use mathlib.Core.List.{List, [], ◌∷◌}
use Prim.Native.Nat.{ℕ, suc, ◌+◌, ◌*◌, ◌-◌, ◌/◌, ◌%◌, ◌^◌, ◌<◌, ◌≤◌}
use native.Mathlib.Numerals.{add-one}
use native.Mathlib.Omega.{arith}
use lib.ListN.{length, take, drop, get_or, length-drop, take-append-drop, drop_of_length-le}
use lib.Seq.{take-suc, take_all, drop-cons}
use lib.Pow.{shr-shr}
use Rattle.address.specs.Bits.{Bit, O, I, bits, digit, number_from, number, longest}
use Rattle.address.specs.Address.{bit_length}
use Rattle.search.specs.Search.{looked_at, child_end, first_bits}
use Rattle.address.proofs.Numbers.{digit_lt, number_from-append, number_snoc, number-bits}

number_from-shr : (n : ℕ) (bs : List Bit) → number_from n bs / 2 ^ length bs ≡ n
unfolding number_from
number_from-shr n [] = omega arith
number_from-shr n (b ∷ bs) =
    let more = number_from (n * 2 + digit b) bs in
    ap (λ (k : ℕ). more / 2 ^ k) (sym (add-one (length bs)))
    ∙ sym (shr-shr more (length bs) 1)
    ∙ ap (λ (m : ℕ). m / 2) (number_from-shr (n * 2 + digit b) bs)
    ∙ omega (arith, digit_lt b)

-- the number of the first k bits
number-take : (k : ℕ) (bs : List Bit) → number (take k bs) ≡ number bs / 2 ^ (length bs - k)
unfolding number
number-take k bs =
    let whole : number_from 0 bs ≡ number_from (number_from 0 (take k bs)) (drop k bs) =
    ap (number_from 0) (sym (take-append-drop k bs)) ∙ number_from-append 0 (take k bs) (drop k bs) in
    sym (rw (whole, ← length-drop k bs) (number_from-shr (number_from 0 (take k bs)) (drop k bs)))

digit_get_d : (k : ℕ) (bs : List Bit) → k < length bs → digit (get_or bs k O) ≡ number bs / 2 ^ (length bs - 1 - k) % 2
digit_get_d k bs h =
    let e : length bs - 1 - k ≡ length bs - suc k = omega arith in
    rw (e, ← number-take (suc k) bs, take-suc bs k O h, number_snoc) (omega (arith, digit_lt (get_or bs k O)))

-- in the code's terms: the length as a call of `bit_length` gave it, and the bit at k by a shift
module _ {n l : ℕ} (k : ℕ) (fits : n < 2 ^ longest) (long : l ≡ bit_length n) where
  pub first_bits-whole : l ≤ k → first_bits k n ≡ n
  unfolding first_bits bit_length
  first_bits-whole h = rw (take_all k (bits n) (omega arith)) (number-bits fits)

  pub first_bits-shr : first_bits k n ≡ n / 2 ^ (l - k)
  unfolding first_bits bit_length
  first_bits-shr = number-take k (bits n) ∙ rw (number-bits fits, long)

  pub first_bits-shr-half : k < l → first_bits k n ≡ n / 2 ^ (l - k - 1) / 2
  first_bits-shr-half h =
      let j : l - k ≡ l - k - 1 + 1 = omega arith in
      first_bits-shr ∙ ap (λ (i : ℕ). n / 2 ^ i) j ∙ sym (shr-shr n (l - k - 1) 1)

  pub child_end_past : l ≤ k → child_end k (bits n) ≡ k
  unfolding child_end looked_at bit_length
  child_end_past h = rw (drop_of_length-le (bits n) {i = k} (omega arith)) (omega arith)

  bit : k < l → digit (get_or (bits n) k O) ≡ n / 2 ^ (l - 1 - k) % 2
  unfolding bit_length
  bit h = digit_get_d k (bits n) (omega arith) ∙ rw (number-bits fits, long)

  pub child_end-zero : k < l → n / 2 ^ (l - 1 - k) % 2 ≡ 0 → child_end k (bits n) ≡ k + 1
  unfolding child_end bit_length
  child_end-zero h z = rw (drop-cons (bits n) k O (omega arith)) (go (get_or (bits n) k O) (bit h ∙ z))
    where
      go : (b : Bit) → digit b ≡ 0 → k + length (looked_at (b ∷ drop (suc k) (bits n))) ≡ k + 1
      go O e = unfold looked_at in refl
      go I e = absurd (unfold digit in omega arith)

  pub child_end-one : k < l → (n / 2 ^ (l - 1 - k) % 2 ≡ 0 → ⊥) → child_end k (bits n) ≡ child_end (k + 1) (bits n)
  unfolding child_end bit_length
  child_end-one h s = rw (drop-cons (bits n) k O (omega arith)) (go (get_or (bits n) k O) (λ z. s (sym (bit h) ∙ z)))
    where
      go : (b : Bit) → (digit b ≡ 0 → ⊥) → k + length (looked_at (b ∷ drop (suc k) (bits n))) ≡ k + 1 + length (looked_at (drop (k + 1) (bits n)))
      go O e = absurd (e (unfold digit in refl))
      go I e = unfold looked_at in rw add-one (omega arith)
