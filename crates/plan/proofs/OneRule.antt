-- The statement of the refusals allows one rule: at each text and words it gives the refusal's number, and with that the place, the nodes and
-- the words. Assumes nothing.
use Prim.Native.Nat.{ℕ}
use mathlib.Core.Path.{◌≡◌, sym, ◌∙◌}
use mathlib.Core.List.{List, ◌++◌}
use native.Mathlib.Decide.{ℕ_discrete}
use lib.ListN.{drop}
use Rattle.plan.specs.Grammar.{Items}
use Rattle.plan.specs.Hall.{hall, nodes}
use Rattle.plan.specs.Plan.{PlanEffect, planning}
use Rattle.plan.specs.Refusals.{PlanRefusals}
use Rattle.plan.proofs.Spelling.{of_the_plan}
use Rattle.plan.proofs.Exact.{one_place_lem}
use Rattle.plan.proofs.RefusalLaws.{End, planning-end, end-first, end-place, end_no_place, end-beside, end_without}

module _ (rule : List ℕ → List ℕ → PlanEffect) (claim : PlanRefusals rule) (text words : List ℕ) where
  abbrev made : PlanEffect
  made = rule text words

  module _ {e : PlanEffect} (end : End text words e) where
    same_refusal : made.answer.refusal ≡ e.answer.refusal
    same_refusal = (claim.given text words e.answer.refusal).1 (end-first end)

    same_place : made.answer.place ≡ e.answer.place
    same_place = go (ℕ_discrete e.answer.refusal 13)
      where
        go : Dec (e.answer.refusal ≡ 13) → made.answer.place ≡ e.answer.place
        go (yes h) = one_place_lem text made.answer.place e.answer.place (claim.place text words (same_refusal ∙ h)) (end-place end h)
        go (no h) = claim.no_place text words (λ m. h (sym same_refusal ∙ m)) ∙ sym (end_no_place end h)

    same_rest : (made.answer.nodes ≡ e.answer.nodes) × (made.words ≡ e.words)
    same_rest = go (ℕ_discrete e.answer.refusal 0)
      where
        go : Dec (e.answer.refusal ≡ 0) → (made.answer.nodes ≡ e.answer.nodes) × (made.words ≡ e.words)
        go (yes h) =
            let (plan, s, given) = end_without end h in
            let mine = of_the_plan (λ (i : Items). (made.answer.nodes ≡ nodes i) × (made.words ≡ hall i ++ drop (nodes i) words)) s
            (claim.without text words (same_refusal ∙ h)) in
            (mine.0 ∙ sym given.0, mine.1 ∙ sym given.1)
        go (no h) =
            let mine = claim.beside text words (λ m. h (sym same_refusal ∙ m)) in
            let right = end-beside end h in
            (mine.0 ∙ sym right.0, mine.1 ∙ sym right.1)

    -- where the right rule has this end, the rule has it
    pub only_end : rule text words ≡ e
    only_end =
        λ i. record {
          answer = record { refusal = same_refusal i; nodes = same_rest.0 i; place = same_place i };
          words = same_rest.1 i;
        }

  pub one_rule : rule text words ≡ planning text words
  one_rule = only_end (planning-end text words)
