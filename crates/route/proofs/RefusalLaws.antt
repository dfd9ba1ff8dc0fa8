-- The path call is refused exactly where one of its conditions holds: each exit of `listing` tells the condition that it is for. Assumes nothing.
use mathlib.Core.Path.{◌≡◌, refl, ap, ◌∙◌}
use mathlib.Core.Bool.{Bool, true, false}
use mathlib.Core.Logic.{◌⊎◌, inl, inr, ⊎_elim}
use mathlib.Core.List.{List, ◌++◌, map-append}
use Prim.Native.Nat.{ℕ, ◌+◌, ◌<◌, ◌≤◌}
use native.Mathlib.Omega.{arith}
use borrow.Author.Tests.{eqb-true, eqb-false, ltb-true, ltb-false}
use lib.Dec.{eqb, ltb}
use lib.ListN.{length, length-append, drop}
use Rattle.address.specs.Order.{First}
use Rattle.address.proofs.OrderLaws.{given-exactly}
use Rattle.route.specs.Path.{PathEffect, path_of, path, hops, refuse_path, listing}
use Rattle.route.specs.Refusals.{path_order, PathRefusals}
use Rattle.route.proofs.Listing.{listing-zero-first, listing-zero-second, listing-short, listing-done}

-- the hops are the addresses less one, and there is one at least
hops-path : (a d : ℕ) → hops (path a d) + 1 ≡ length (path a d)
unfolding hops path path_of
hops-path a d = rw (map-append, length-append) (omega arith)

module _ (a d : ℕ) (words : List ℕ) where
  -- what the call comes to, and which condition it is for
  data Comes : Type 0 where
    zero-address : (a ≡ 0) ⊎ (d ≡ 0) → listing a d words ≡ refuse_path 9 words → Comes
    no_room : ((a ≡ 0) ⊎ (d ≡ 0) → ⊥) → length words < length (path a d) → listing a d words ≡ refuse_path 10 words → Comes
    listed : ((a ≡ 0) ⊎ (d ≡ 0) → ⊥) → length (path a d) ≤ length words
        → listing a d words ≡ record { answer = record { refusal = 0; hops = hops (path a d) }; words = path a d ++ drop (length (path a d)) words } → Comes

  comes : Comes
  comes = go (eqb a 0) refl (eqb d 0) refl (ltb (length words) (length (path a d))) refl
    where
      go : (t : Bool) → eqb a 0 ≡ t → (u : Bool) → eqb d 0 ≡ u → (s : Bool) → ltb (length words) (length (path a d)) ≡ s → Comes
      go true e u f s g = zero-address (inl (eqb-true a 0 e)) (listing-zero-first a d words (eqb-true a 0 e))
      go false e true f s g = zero-address (inr (eqb-true d 0 f)) (listing-zero-second a d words (eqb-false a 0 e) (eqb-true d 0 f))
      go false e false f true g =
          let short = ltb-true (length words) (length (path a d)) g in
          no_room (⊎_elim (eqb-false a 0 e) (eqb-false d 0 f)) short (listing-short a d words (eqb-false a 0 e) (eqb-false d 0 f) short)
      go false e false f false g =
          let room = ltb-false (length words) (length (path a d)) g in
          listed (⊎_elim (eqb-false a 0 e) (eqb-false d 0 f)) room (listing-done a d words (eqb-false a 0 e) (eqb-false d 0 f) room)

  number : {e : PathEffect} → listing a d words ≡ e → (listing a d words).answer.refusal ≡ e.answer.refusal
  number q = ap (λ (e : PathEffect). e.answer.refusal) q

  first : Comes → First (path_order a d words) (listing a d words).answer.refusal
  unfolding refuse_path
  first (zero-address z e) = inl (z, number e)
  first (no_room s l e) = inr (s, inl (l, number e))
  first (listed s l e) = inr (s, inr (λ short. omega arith, number e))

  beside : Comes → ((listing a d words).answer.refusal ≡ 0 → ⊥) → ((listing a d words).answer.hops ≡ 0) × ((listing a d words).words ≡ words)
  unfolding refuse_path
  beside (zero-address z e) h = (ap (λ (w : PathEffect). w.answer.hops) e, ap (λ (w : PathEffect). w.words) e)
  beside (no_room s l e) h = (ap (λ (w : PathEffect). w.answer.hops) e, ap (λ (w : PathEffect). w.words) e)
  beside (listed s l e) h = absurd (h (number e))

  without : Comes → (listing a d words).answer.refusal ≡ 0
      → ((listing a d words).answer.hops + 1 ≡ length (path a d)) × ((listing a d words).words ≡ path a d ++ drop (length (path a d)) words)
  unfolding refuse_path
  without (zero-address z e) h = absurd (omega (arith, number e))
  without (no_room s l e) h = absurd (omega (arith, number e))
  without (listed s l e) h = (ap (λ (w : PathEffect). w.answer.hops + 1) e ∙ hops-path a d, ap (λ (w : PathEffect). w.words) e)

pub path-refusals : PathRefusals
path-refusals = record {
  given = λ a d words. given-exactly (path_order a d words) (first a d words (comes a d words));
  beside = λ a d words. beside a d words (comes a d words);
  without = λ a d words. without a d words (comes a d words);
}
