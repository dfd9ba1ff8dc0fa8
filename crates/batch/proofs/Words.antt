-- The batch does as many as the shortest slice allows, and for each what a single call answers. Assumes nothing.
use Rattle.std.specs.Prelude.{if◌then◌else◌}
use mathlib.Core.Path.{◌≡◌, refl, ◌∙◌}
use mathlib.Core.Bool.{Bool, true, false}
use mathlib.Core.Logic.{◌⊎◌, inl, inr}
use Prim.Native.Nat.{ℕ, ◌≤◌}
use native.Mathlib.Omega.{arith}
use borrow.Author.Tests.{leb-true, leb-false}
use lib.Dec.{leb}
use lib.ListN.{length}
use Rattle.batch.specs.Exported.{pasa_hop}
use Rattle.batch.specs.Batch.{hop_for, front, first_hops, least, shortest, next_hops}
use Rattle.batch.specs.Exactly.{Batches}

least-one : (a b : ℕ) → (least a b ≤ a) × (least a b ≤ b) × ((least a b ≡ a) ⊎ (least a b ≡ b))
unfolding least
least-one a b = go (leb a b) refl
  where
    go : (t : Bool) → leb a b ≡ t
        → ((if t then a else b) ≤ a) × ((if t then a else b) ≤ b) × (((if t then a else b) ≡ a) ⊎ ((if t then a else b) ≡ b))
    go true e = (omega arith, omega (arith, leb-true a b e), inl refl)
    go false e = (omega (arith, leb-false a b e), omega arith, inr refl)

pub batches : Batches
unfolding next_hops first_hops front hop_for pasa_hop shortest
batches n ds nodes actions refusals =
    let first = least-one (length ds) (length nodes) in
    let second = least-one (length actions) (length refusals) in
    let both = least-one (least (length ds) (length nodes)) (least (length actions) (length refusals)) in
    record {
      within = (omega (arith, both.0, first.0), omega (arith, both.0, first.1), omega (arith, both.1, second.0), omega (arith, both.1, second.1));
      reached = go both.2 first.2 second.2;
      named = refl;
      acted = refl;
      refused = refl;
    }
  where
    go : {k x y a b c d : ℕ} → (k ≡ x) ⊎ (k ≡ y) → (x ≡ a) ⊎ (x ≡ b) → (y ≡ c) ⊎ (y ≡ d) → (k ≡ a) ⊎ (k ≡ b) ⊎ (k ≡ c) ⊎ (k ≡ d)
    go (inl e) (inl f) g = inl (e ∙ f)
    go (inl e) (inr f) g = inr (inl (e ∙ f))
    go (inr e) f (inl g) = inr (inr (inl (e ∙ g)))
    go (inr e) f (inr g) = inr (inr (inr (e ∙ g)))
