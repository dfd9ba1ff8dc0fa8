-- Octets and numbers correspond one to one by the laws of octets; a number is zero only by zeros, since the last octet is added to 256 times
-- what the others give. Assumes nothing.
use mathlib.Core.Path.{◌≡◌, refl, sym, ap, ap₂, ◌∙◌}
use mathlib.Core.List.{List, [], ◌∷◌}
use Prim.Native.Nat.{ℕ, zero, suc, ◌+◌, ◌*◌, ◌^◌}
use native.Mathlib.Nat.{zero-add}
use native.Mathlib.Omega.{arith}
use lib.ListN.{length, replicate}
use Rattle.octets.specs.Octets.{joined, value, same}
use Rattle.octets.specs.Correspondence.{SameExactly, OctetsOneToOne}
use Rattle.octets.proofs.OctetLaws.{length-octets, octets-octets, value-octets_of_lt, octets-value, value-lt, value-append}
use Rattle.octets.proofs.SameLaws.{same_refl, same_true}

pub same_exactly : SameExactly
same_exactly xs ys = (same_true xs ys, λ e. ap (same xs) (sym e) ∙ same_refl xs)

-- what comes to zero began with zero, and had zeros alone behind it
joined-zero : (n : ℕ) (os : List ℕ) → joined n os ≡ 0 → (n ≡ 0) × (os ≡ replicate (length os) 0)
unfolding joined
joined-zero n [] e = (e, refl)
joined-zero n (o ∷ os) e =
    let (front, back) = joined-zero (n * 256 + o) os e in
    let first : o ≡ 0 = omega arith in
    (omega arith, ap₂ (λ (x : ℕ) (xs : List ℕ). x ∷ xs) first back)

pub value-zero : (os : List ℕ) → value os ≡ 0 → os ≡ replicate (length os) 0
unfolding value
value-zero os e = (joined-zero 0 os e).1

pub value-zeros : (k : ℕ) → value (replicate k 0) ≡ 0
unfolding value joined
value-zeros zero = refl
value-zeros (suc k) = value-zeros k

pub octets-one_to_one : OctetsOneToOne
unfolding value joined
octets-one_to_one = record {
  held = λ k n h. (octets-octets k n, length-octets k n, value-octets_of_lt k n h);
  shown = λ os all. (value-lt os all, octets-value os all);
  most_first = λ o os. value-append (o ∷ []) os ∙ ap (λ (n : ℕ). n * 256 ^ length os + value os) (zero-add o);
  zeros = λ os. (value-zero os, λ e. ap value e ∙ value-zeros (length os));
}
