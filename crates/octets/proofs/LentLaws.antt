-- A writing comes to a refusal or to some octets in front of the buffer, so its refusal's number tells which. Assumes nothing.
use Rattle.std.specs.Prelude.{Result}
use mathlib.Core.Path.{◌≡◌, refl, ap}
use mathlib.Core.Logic.{◌⊎◌, inl, inr}
use mathlib.Core.List.{List}
use Prim.Native.Nat.{ℕ, suc}
use native.Mathlib.Omega.{arith}
use Rattle.refusal.specs.declared.Refusal.{Refusal}
use Rattle.refusal.proofs.Outcomes.{one-answer}
use Rattle.octets.specs.Octets.{written_answer, WriteEffect, refuse_writing, write}
use Rattle.octets.specs.Lent.{RefusalLeaves, SuccessWrites}

pub refusal-refuse_writing : (n : ℕ) (buffer : List ℕ) {w : WriteEffect} → w ≡ refuse_writing n buffer → w.answer.refusal ≡ n
unfolding refuse_writing
refusal-refuse_writing n buffer e = ap (λ (x : WriteEffect). x.answer.refusal) e

pub refusal-write : (os buffer : List ℕ) {w : WriteEffect} → w ≡ write os buffer → w.answer.refusal ≡ 0
unfolding write
refusal-write os buffer e = ap (λ (x : WriteEffect). x.answer.refusal) e

-- a refusal, or the octets os
abbrev pub Outcome : List ℕ → List ℕ → WriteEffect → Type 0
Outcome os buffer w = ((n : ℕ) × (w ≡ refuse_writing (suc n) buffer)) ⊎ (w ≡ write os buffer)

pub outcome_leaves : (os buffer : List ℕ) (w : WriteEffect) → Outcome os buffer w → RefusalLeaves buffer w
unfolding refuse_writing
outcome_leaves os buffer w (inl (n, e)) h = (ap (λ (x : WriteEffect). x.answer.count) e, ap (λ (x : WriteEffect). x.buffer) e)
outcome_leaves os buffer w (inr e) h = absurd (h (refusal-write os buffer e))

-- without a refusal it is the octets
pub outcome-done : (os buffer : List ℕ) (w : WriteEffect) → Outcome os buffer w → w.answer.refusal ≡ 0 → w ≡ write os buffer
outcome-done os buffer w (inl (n, e)) z = absurd (omega (arith, refusal-refuse_writing (suc n) buffer e))
outcome-done os buffer w (inr e) z = e

pub outcome-writes : (os buffer : List ℕ) (w : WriteEffect) → Outcome os buffer w → SuccessWrites os buffer w
unfolding write
outcome-writes os buffer w o z =
    let e = outcome-done os buffer w o z in (ap (λ (x : WriteEffect). x.answer.count) e, ap (λ (x : WriteEffect). x.buffer) e)

-- the numbers of an answer leave one case of it
pub one-written : (r s : Result ℕ Refusal) → written_answer r ≡ written_answer s → r ≡ s
one-written = one-answer written_answer (λ w. w.refusal) (λ w. w.count) (λ k. refl) (λ k. refl) (λ x. refl)
