-- Demand 1 for the reading of a plan: each refusal is given exactly when the request says, in the order 14, 13, 14, 3, 10; the place beside 13
-- is the one that it describes, and there is no other number beside a refusal; no word lent is changed.
use Rattle.std.specs.Prelude.{ℕ, ◌<◌, ◌≡◌, List, ◌++◌, length, drop}
use Rattle.address.specs.Order.{Order, done, ◌when◌otherwise◌, GivenExactly}
use Rattle.plan.specs.Limits.{most_bytes, most_nodes}
use Rattle.plan.specs.Grammar.{Items, Spells, IsText, Stops}
use Rattle.plan.specs.Hall.{hall, nodes, SomeTooLong}
use Rattle.plan.specs.Plan.{PlanEffect}

-- the text spells a plan of which something holds
abbrev pub PlanOf : List ℕ → (Items → Type 0) → Type 0
PlanOf text P = (plan : Items) × Spells text plan × P plan

abbrev pub plan_order : List ℕ → List ℕ → Order
plan_order text words =
    -- "Text over [32,768] bytes: 14."
    14 when most_bytes < length text
    -- "Then a text outside the grammar (a 65th open group counts): 13"
    otherwise 13 when (IsText text → ⊥)
    -- "Then over [4,096] nodes, the root counted: 14."
    otherwise 14 when PlanOf text (λ plan. most_nodes < nodes plan)
    -- "Then an address too long: 3."
    otherwise 3 when PlanOf text SomeTooLong
    -- "Then no room: 10."
    otherwise 10 when PlanOf text (λ plan. length words < nodes plan)
    otherwise done

-- a statement of any rule for reading a plan, so that a wrong one can be refuted by it
pub record PlanRefusals (rule : List ℕ → List ℕ → PlanEffect) : Type 0 where
  pub given : (text words : List ℕ) → GivenExactly (plan_order text words) (rule text words).answer.refusal
  -- "13, with the place of the first byte with which the text stops being the start of any text of the grammar, or the text's length if it
  -- ends early"
  pub place : (text words : List ℕ) → (rule text words).answer.refusal ≡ 13 → Stops text (rule text words).answer.place
  pub no_place : (text words : List ℕ) → ((rule text words).answer.refusal ≡ 13 → ⊥) → (rule text words).answer.place ≡ 0
  -- "With any refusal .. every other number returned beside its own are 0 .. and no byte or word lent is changed."
  pub beside : (text words : List ℕ) → ((rule text words).answer.refusal ≡ 0 → ⊥)
      → ((rule text words).answer.nodes ≡ 0) × ((rule text words).words ≡ words)
  -- "The addresses in that order, the root first, go into a lent list of 64-bit words, and the answer gives their number."; "On success only
  -- the words or octets named are written."
  pub without : (text words : List ℕ) → (rule text words).answer.refusal ≡ 0
      → PlanOf text (λ plan. ((rule text words).answer.nodes ≡ nodes plan) × ((rule text words).words ≡ hall plan ++ drop (nodes plan) words))
