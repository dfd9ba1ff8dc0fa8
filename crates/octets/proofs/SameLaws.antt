-- When octets are the same: where `same` says so, octet for octet, and where they are as many and give one number, since `octets` gives
-- them back from it. Assumes nothing.
use mathlib.Core.Path.{◌≡◌, refl, sym, ap₂, ◌∙◌}
use mathlib.Core.Bool.{Bool, true, false, and-eq-true_iff}
use mathlib.Core.List.{List, [], ◌∷◌}
use Prim.Native.Nat.{ℕ}
use lib.ListN.{length}
use lib.Dec.{eqb}
use borrow.Author.Tests.{eq-eqb, eqb-true}
use Rattle.octets.specs.Octets.{octets, value, same, AreOctets}
use Rattle.octets.proofs.OctetLaws.{octets-value}

pub same_refl : (os : List ℕ) → same os os ≡ true
unfolding same
same_refl [] = refl
same_refl (o ∷ os) = rw (eq-eqb o o refl) (same_refl os)

pub same_true : (xs ys : List ℕ) → same xs ys ≡ true → xs ≡ ys
unfolding same
same_true [] [] e = refl
same_true [] (y ∷ ys) e = cc
same_true (x ∷ xs) [] e = cc
same_true (x ∷ xs) (y ∷ ys) e =
    let both = (and-eq-true_iff (eqb x y) (same xs ys)).0 e in
    ap₂ (λ (o : ℕ) (os : List ℕ). o ∷ os) (eqb-true x y both.0) (same_true xs ys both.1)

pub same_ne : (xs ys : List ℕ) → (xs ≡ ys → ⊥) → same xs ys ≡ false
same_ne xs ys ne = go (same xs ys) refl
  where
    go : (t : Bool) → same xs ys ≡ t → t ≡ false
    go true e = absurd (ne (same_true xs ys e))
    go false e = refl

pub value_injective : (xs ys : List ℕ) → AreOctets xs → AreOctets ys → length xs ≡ length ys → value xs ≡ value ys → xs ≡ ys
value_injective xs ys p q l e = sym (octets-value xs p) ∙ ap₂ octets l e ∙ octets-value ys q
