-- What is claimed of the grammar and of the reading by it: a text is read whole exactly if the grammar spells it, and otherwise it stops at one
-- place, which is the one named.
use Rattle.std.specs.Prelude.{ℕ, ◌≡◌, ◌⊎◌, ◌↔◌, List}
use Rattle.plan.specs.Grammar.{Items, Spells, IsText, Stops}
use Rattle.plan.specs.Hall.{hall}
use Rattle.plan.specs.Reading.{whole, fault_at, reading}

-- the grammar by itself: a text spells one plan, or stops at one place
pub record PlanOrPlace : Type 0 where
  pub one_plan : (text : List ℕ) (plan other : Items) → Spells text plan → Spells text other → plan ≡ other
  pub one_place : (text : List ℕ) (p q : ℕ) → Stops text p → Stops text q → p ≡ q
  -- every text is one of the grammar, or stops somewhere, and not both
  pub either : (text : List ℕ) → IsText text ⊎ ((p : ℕ) × Stops text p)
  pub not_both : (text : List ℕ) (p : ℕ) → IsText text → Stops text p → ⊥

-- the reading, by the grammar
pub record ExactlyTheGrammar : Type 0 where
  pub wholly : (text given : List ℕ) → (reading text ≡ whole given) ↔ ((plan : Items) × Spells text plan × (given ≡ hall plan))
  pub stops : (text : List ℕ) (p : ℕ) → (reading text ≡ fault_at p) ↔ Stops text p
