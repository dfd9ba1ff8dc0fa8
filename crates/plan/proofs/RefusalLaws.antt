-- A plan is refused exactly where one of the conditions holds: the reading of a plan ends in one of six ways, each with its condition and with
-- those before it passed. Assumes nothing.
use Rattle.std.specs.Prelude.{if◌then◌else◌}
use Prim.Native.Nat.{ℕ, ◌≤◌, ◌<◌}
use mathlib.Core.Path.{◌≡◌, refl}
use mathlib.Core.Bool.{Bool, true, false}
use mathlib.Core.Logic.{inl, inr}
use mathlib.Core.List.{List, ◌++◌}
use native.Mathlib.Omega.{arith}
use borrow.Author.Tests.{ltb-true, ltb-false}
use lib.ListN.{length, drop}
use lib.Dec.{ltb}
use Rattle.address.specs.Order.{First, done, ◌when◌otherwise◌}
use Rattle.address.proofs.OrderLaws.{given-exactly}
use Rattle.plan.specs.Limits.{most_bytes, most_nodes}
use Rattle.plan.specs.Grammar.{Items, Spells, Stops}
use Rattle.plan.specs.Hall.{hall, nodes, SomeTooLong}
use Rattle.plan.specs.Reading.{Reading, whole, fault_at, reading}
use Rattle.plan.specs.Plan.{PlanEffect, refuse_plan, missing, listed, judged, planning}
use Rattle.plan.specs.Refusals.{PlanOf, plan_order, PlanRefusals}
use Rattle.plan.proofs.Answers.{length-hall}
use Rattle.plan.proofs.Spelling.{of_the_plan}
use Rattle.plan.proofs.Exact.{not-both, fault_at-stops, exactly_the_grammar}
use Rattle.plan.proofs.TooLong.{too_long_lem}

-- ---- the six ends

-- what is written where nothing speaks against it
unfoldable pub written : Items → List ℕ → PlanEffect
written plan words =
    record { answer = record { refusal = 0; nodes = nodes plan; place = 0 }; words = hall plan ++ drop (nodes plan) words }

pub data End (text words : List ℕ) : PlanEffect → Type 0 where
  many_bytes : most_bytes < length text → End text words (refuse_plan 14 0 words)
  outside : length text ≤ most_bytes → (p : ℕ) → Stops text p → End text words (refuse_plan 13 p words)
  many_nodes : length text ≤ most_bytes → (plan : Items) → Spells text plan → most_nodes < nodes plan → End text words (refuse_plan 14 0 words)
  too_long : length text ≤ most_bytes → (plan : Items) → Spells text plan → nodes plan ≤ most_nodes → SomeTooLong plan
      → End text words (refuse_plan 3 0 words)
  no_room : length text ≤ most_bytes → (plan : Items) → Spells text plan → nodes plan ≤ most_nodes → (SomeTooLong plan → ⊥)
      → length words < nodes plan → End text words (refuse_plan 10 0 words)
  fits : length text ≤ most_bytes → (plan : Items) → Spells text plan → nodes plan ≤ most_nodes → (SomeTooLong plan → ⊥)
      → nodes plan ≤ length words → End text words (written plan words)

module _ (text words : List ℕ) where
  listed-end : length text ≤ most_bytes → (plan : Items) → Spells text plan → End text words (listed (hall plan) words)
  unfolding listed written
  listed-end short plan s =
      go (ltb most_nodes (length (hall plan))) refl (ltb 0 (missing (hall plan))) refl (ltb (length words) (length (hall plan))) refl
    where
      counted : length (hall plan) ≡ nodes plan
      counted = length-hall plan

      few : ltb most_nodes (length (hall plan)) ≡ false → nodes plan ≤ most_nodes
      few e = omega (arith, counted, ltb-false most_nodes (length (hall plan)) e)

      none : ltb 0 (missing (hall plan)) ≡ false → SomeTooLong plan → ⊥
      none e m = omega (arith, ltb-false 0 (missing (hall plan)) e, (too_long_lem plan).0 m)

      go : (m : Bool) → ltb most_nodes (length (hall plan)) ≡ m → (l : Bool) → ltb 0 (missing (hall plan)) ≡ l
          → (r : Bool) → ltb (length words) (length (hall plan)) ≡ r
          → End text words (if m then refuse_plan 14 0 words else if l then refuse_plan 3 0 words else if r then refuse_plan 10 0 words
          else record { answer = record { refusal = 0; nodes = length (hall plan); place = 0 }; words = hall plan ++ drop (length (hall plan)) words })
      go true many l el r er = many_nodes short plan s (omega (arith, counted, ltb-true most_nodes (length (hall plan)) many))
      go false em true long r er = too_long short plan s (few em) ((too_long_lem plan).1 (ltb-true 0 (missing (hall plan)) long))
      go false em false el true full =
          no_room short plan s (few em) (none el) (omega (arith, counted, ltb-true (length words) (length (hall plan)) full))
      go false em false el false room =
          rw (length-hall plan)
          (unfold written in fits short plan s (few em) (none el) (omega (arith, counted, ltb-false (length words) (length (hall plan)) room)))

  judged-end : length text ≤ most_bytes → (r : Reading) → reading text ≡ r → End text words (judged r words)
  unfolding judged
  judged-end short (fault_at p) e = outside short p (fault_at-stops text p e)
  judged-end short (whole given) e = of_hall ((exactly_the_grammar.wholly text given).0 e)
    where
      of_hall : (plan : Items) × Spells text plan × (given ≡ hall plan) → End text words (listed given words)
      of_hall (plan, s, same) = rw same (listed-end short plan s)

  pub planning-end : End text words (planning text words)
  unfolding planning
  planning-end = go (ltb most_bytes (length text)) refl
    where
      go : (t : Bool) → ltb most_bytes (length text) ≡ t → End text words (if t then refuse_plan 14 0 words else judged (reading text) words)
      go true e = many_bytes (ltb-true most_bytes (length text) e)
      go false e = judged-end (ltb-false most_bytes (length text) e) (reading text) refl

-- ---- what each end says

-- past the conditions on the text and on the number of nodes
past_nodes : {text : List ℕ} (words : List ℕ) {plan : Items} (k : ℕ) → length text ≤ most_bytes → Spells text plan → nodes plan ≤ most_nodes
    → First (3 when PlanOf text SomeTooLong otherwise 10 when PlanOf text (λ plan. length words < nodes plan) otherwise done) k
    → First (plan_order text words) k
past_nodes words {plan} k short s few rest = inr (
  λ l. omega arith,
  inr (λ n. n (plan, s), inr (λ o. omega (arith, of_the_plan (λ (i : Items). most_nodes < nodes i) s o), rest)),
)

module _ {text words : List ℕ} where
  -- the first condition that holds is the end's
  pub end-first : {e : PlanEffect} → End text words e → First (plan_order text words) e.answer.refusal
  unfolding refuse_plan written
  end-first (many_bytes long) = inl (long, refl)
  end-first (outside short p s) = inr (λ l. omega arith, inl (λ t. not-both text p t s, refl))
  end-first (many_nodes short plan s many) = inr (λ l. omega arith, inr (λ n. n (plan, s), inl ((plan, s, many), refl)))
  end-first (too_long short plan s few long) = past_nodes words 3 short s few (inl ((plan, s, long), refl))
  end-first (no_room short plan s few none full) =
      past_nodes words 10 short s few (inr (λ o. none (of_the_plan SomeTooLong s o), inl ((plan, s, full), refl)))
  end-first (fits short plan s few none room) =
      past_nodes words 0 short s few (
      inr (λ o. none (of_the_plan SomeTooLong s o), inr (λ o. omega (arith, of_the_plan (λ (i : Items). length words < nodes i) s o), refl))
      )

  pub end-place : {e : PlanEffect} → End text words e → e.answer.refusal ≡ 13 → Stops text e.answer.place
  unfolding refuse_plan written
  end-place (many_bytes long) h = absurd (omega arith)
  end-place (outside short p s) h = s
  end-place (many_nodes short plan s many) h = absurd (omega arith)
  end-place (too_long short plan s few long) h = absurd (omega arith)
  end-place (no_room short plan s few none full) h = absurd (omega arith)
  end-place (fits short plan s few none room) h = absurd (omega arith)

  pub end_no_place : {e : PlanEffect} → End text words e → (e.answer.refusal ≡ 13 → ⊥) → e.answer.place ≡ 0
  unfolding refuse_plan written
  end_no_place (many_bytes long) h = refl
  end_no_place (outside short p s) h = absurd (h refl)
  end_no_place (many_nodes short plan s many) h = refl
  end_no_place (too_long short plan s few long) h = refl
  end_no_place (no_room short plan s few none full) h = refl
  end_no_place (fits short plan s few none room) h = refl

  pub end-beside : {e : PlanEffect} → End text words e → (e.answer.refusal ≡ 0 → ⊥) → (e.answer.nodes ≡ 0) × (e.words ≡ words)
  unfolding refuse_plan written
  end-beside (many_bytes long) h = (refl, refl)
  end-beside (outside short p s) h = (refl, refl)
  end-beside (many_nodes short plan s many) h = (refl, refl)
  end-beside (too_long short plan s few long) h = (refl, refl)
  end-beside (no_room short plan s few none full) h = (refl, refl)
  end-beside (fits short plan s few none room) h = absurd (h refl)

  pub end_without : {e : PlanEffect} → End text words e → e.answer.refusal ≡ 0
      → PlanOf text (λ plan. (e.answer.nodes ≡ nodes plan) × (e.words ≡ hall plan ++ drop (nodes plan) words))
  unfolding refuse_plan written
  end_without (many_bytes long) h = absurd (omega arith)
  end_without (outside short p s) h = absurd (omega arith)
  end_without (many_nodes short plan s many) h = absurd (omega arith)
  end_without (too_long short plan s few long) h = absurd (omega arith)
  end_without (no_room short plan s few none full) h = absurd (omega arith)
  end_without (fits short plan s few none room) h = (plan, s, (refl, refl))

pub plan-refusals : PlanRefusals planning
plan-refusals = record {
  given = λ text words. given-exactly (plan_order text words) (end-first (planning-end text words));
  place = λ text words. end-place (planning-end text words);
  no_place = λ text words. end_no_place (planning-end text words);
  beside = λ text words. end-beside (planning-end text words);
  without = λ text words. end_without (planning-end text words);
}
