-- The digits in front of a text: how many, and the last 64 bits of their number. Assumes nothing.
use mathlib.Core.Path.{◌≡◌, refl}
use mathlib.Core.Bool.{Bool, true, false}
use mathlib.Core.List.{List, [], ◌∷◌}
use Prim.Native.Nat.{ℕ, ◌+◌, ◌*◌, ◌%◌, ◌^◌}
use native.Mathlib.Omega.{arith}
use borrow.Author.Tests.{eqb-true}
use lib.ListN.{length, take}
use lib.Dec.{eqb}
use Rattle.std.specs.Prelude.{if◌then◌else◌}
use Rattle.std.specs.List.{fold, prefix_len}
use Rattle.std.proofs.lemmas.List.Sums.{take_while-cons}
use Rattle.address.specs.Bits.{O, I, digit, number_from}
use Rattle.line.specs.Line.{digit_zero, digit_one, is_digit, digits_of}

pub length-digits_of : (os : List ℕ) → length (digits_of os) ≡ prefix_len is_digit os
unfolding digits_of
length-digits_of [] = refl
length-digits_of (o ∷ os) = go (is_digit o) (length-digits_of os)
  where
    go : (t : Bool) → length (digits_of os) ≡ prefix_len is_digit os
        → length (if t then (if eqb o digit_one then I else O) ∷ digits_of os else []) ≡ (if t then 1 + prefix_len is_digit os else 0)
    go true e = omega arith
    go false e = refl

-- one digit more, less whatever is past 64 bits
abbrev pub pushed : ℕ → ℕ → ℕ
pushed n o = n * 2 % 2 ^ 64 + o % 2

one_more : (n v o d : ℕ) → n ≡ v % 2 ^ 64 → o % 2 ≡ d → pushed n o ≡ (v * 2 + d) % 2 ^ 64
one_more n v o d e f = omega arith

pub fold-digits : (os : List ℕ) (n v : ℕ) → n ≡ v % 2 ^ 64 → fold pushed n (take (prefix_len is_digit os) os) ≡ number_from v (digits_of os) % 2 ^ 64
unfolding digits_of number_from digit
fold-digits [] n v e = e
fold-digits (o ∷ os) n v e = rw (take_while-cons is_digit o os) (go (fold-digits os) (eqb o digit_zero) (eqb o digit_one) refl refl)
  where
    go : ((m w : ℕ) → m ≡ w % 2 ^ 64 → fold pushed m (take (prefix_len is_digit os) os) ≡ number_from w (digits_of os) % 2 ^ 64)
        → (t u : Bool) → eqb o digit_zero ≡ t → eqb o digit_one ≡ u
        → fold pushed n (if is_digit o then o ∷ take (prefix_len is_digit os) os else []) ≡ number_from v (digits_of (o ∷ os)) % 2 ^ 64
    go h true u a b = rw (eqb-true o digit_zero a) (h (pushed n digit_zero) (v * 2 + digit O) (one_more n v digit_zero (digit O) e refl))
    go h false true a b = rw (eqb-true o digit_one b) (h (pushed n digit_one) (v * 2 + digit I) (one_more n v digit_one (digit I) e refl))
    go h false false a b = rw (a, b) e
