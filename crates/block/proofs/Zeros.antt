-- The test that all bytes are one, as the test of each, and what it says: that byte, as often as there are bytes. Assumes nothing.
use mathlib.Core.Path.{◌≡◌, refl, ap, ap₂}
use mathlib.Core.Bool.{Bool, true, ◌&&◌, and-eq-true_iff}
use mathlib.Core.List.{List, [], ◌∷◌}
use Prim.Native.Nat.{ℕ, zero, suc}
use lib.Dec.{eqb}
use lib.ListN.{length, replicate}
use borrow.Author.Tests.{eq-eqb, eqb-true}
use Rattle.std.specs.List.{list_all}
use Rattle.block.specs.Block.{all_are}

-- the test of each byte
pub all_are_by_all : (o : ℕ) (bs : List ℕ) → all_are o bs ≡ list_all (λ b. eqb b o) bs
unfolding all_are
all_are_by_all o [] = refl
all_are_by_all o (b ∷ bs) = ap (λ (t : Bool). eqb b o && t) (all_are_by_all o bs)

-- the byte alone
pub all_are_of_replicate : (o k : ℕ) → all_are o (replicate k o) ≡ true
unfolding all_are
all_are_of_replicate o zero = refl
all_are_of_replicate o (suc k) = rw (eq-eqb o o refl) (all_are_of_replicate o k)

pub all_are_true : (o : ℕ) (bs : List ℕ) → all_are o bs ≡ true → bs ≡ replicate (length bs) o
unfolding all_are
all_are_true o [] e = refl
all_are_true o (b ∷ bs) e =
    let both = (and-eq-true_iff (eqb b o) (all_are o bs)).0 e in
    ap₂ (λ (x : ℕ) (xs : List ℕ). x ∷ xs) (eqb-true b o both.0) (all_are_true o bs both.1)
