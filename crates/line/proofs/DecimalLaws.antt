-- The digits of a number below 1000 say that number: by its one, two or three digits. Assumes nothing.
use mathlib.Core.Path.{◌≡◌, refl, ap}
use mathlib.Core.Bool.{Bool, true, false}
use mathlib.Core.List.{List, [], ◌∷◌}
use Prim.Native.Nat.{ℕ, ◌≤◌, ◌<◌}
use native.Mathlib.Omega.{arith}
use borrow.Author.Tests.{ltb-true, ltb-false, lt-ltb, le-ltb}
use lib.ListN.{length, get_or}
use lib.Dec.{ltb}
use Rattle.route.proofs.PathLaws.{hops-path}
use Rattle.route.proofs.Length.{at_most_126}
use Rattle.line.specs.Line.{digit_zero, decimal}
use Rattle.line.specs.Decimal.{decimal_from, decimal_value, AreDecimalDigits, DecimalReadsBack}

-- a number by how many digits it has
pub data Size (n : ℕ) : Type 0 where
  one : n < 10 → Size n
  two : 10 ≤ n → n < 100 → Size n
  three : 100 ≤ n → Size n

pub size : (n : ℕ) → Size n
size n = go (ltb n 10) refl (ltb n 100) refl
  where
    go : (t : Bool) → ltb n 10 ≡ t → (u : Bool) → ltb n 100 ≡ u → Size n
    go true e u f = one (ltb-true n 10 e)
    go false e true f = two (ltb-false n 10 e) (ltb-true n 100 f)
    go false e false f = three (ltb-false n 100 f)

module _ (n : ℕ) where
  decimal-digits : n < 1000 → AreDecimalDigits (decimal n)
  unfolding decimal
  decimal-digits h = go (size n)
    where
      go : Size n → AreDecimalDigits (decimal n)
      go (one l) = rw (lt-ltb n 10 l) ((omega arith, omega arith), tt)
      go (two g l) = rw (le-ltb n 10 g, lt-ltb n 100 l) ((omega arith, omega arith), ((omega arith, omega arith), tt))
      go (three g) =
          rw (le-ltb n 10 (omega arith), le-ltb n 100 g) ((omega arith, omega arith), ((omega arith, omega arith), ((omega arith, omega arith), tt)))

  decimal-value : n < 1000 → decimal_value (decimal n) ≡ n
  unfolding decimal decimal_value decimal_from
  decimal-value h = go (size n)
    where
      go : Size n → decimal_value (decimal n) ≡ n
      go (one l) = rw (lt-ltb n 10 l) (omega arith)
      go (two g l) = rw (le-ltb n 10 g, lt-ltb n 100 l) (omega arith)
      go (three g) = rw (le-ltb n 10 (omega arith), le-ltb n 100 g) (omega arith)

  decimal-some : decimal n ≡ [] → ⊥
  unfolding decimal
  decimal-some e = go (size n)
    where
      go : Size n → ⊥
      go (one l) = omega (arith, ap length (rw (lt-ltb n 10 l) at e))
      go (two g l) = omega (arith, ap length (rw (le-ltb n 10 g, lt-ltb n 100 l) at e))
      go (three g) = omega (arith, ap length (rw (le-ltb n 10 (omega arith), le-ltb n 100 g) at e))

  decimal-unpadded : (rest : List ℕ) → decimal n ≡ digit_zero ∷ rest → (n ≡ 0) × (rest ≡ [])
  unfolding decimal
  decimal-unpadded rest e = go (size n)
    where
      go : Size n → (n ≡ 0) × (rest ≡ [])
      go (one l) = let f = rw (lt-ltb n 10 l) at e in (omega (arith, ap (λ (os : List ℕ). get_or os 0 0) f), cc)
      go (two g l) = absurd (omega (arith, ap (λ (os : List ℕ). get_or os 0 0) (rw (le-ltb n 10 g, lt-ltb n 100 l) at e)))
      go (three g) = absurd (omega (arith, ap (λ (os : List ℕ). get_or os 0 0) (rw (le-ltb n 10 (omega arith), le-ltb n 100 g) at e)))

pub decimal-reads-back : DecimalReadsBack
decimal-reads-back = record {
  digits = decimal-digits;
  value = decimal-value;
  some = decimal-some;
  unpadded = decimal-unpadded;
  hops_below = λ a d h l. omega (arith, hops-path a d, at_most_126 a d h l);
}
