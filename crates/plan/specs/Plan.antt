-- Reading a plan into lent words. "Text over [32,768] bytes: 14. Then a text outside the grammar (a 65th open group counts): 13, with the place
-- .. Then over [4,096] nodes, the root counted: 14. Then an address too long: 3. Then no room: 10."
use Rattle.std.specs.Prelude.{ℕ, zero, suc, List, [], ◌∷◌, ◌++◌, length, drop, ltb, if◌then◌else◌}
use Rattle.plan.specs.Limits.{most_bytes, most_nodes}
use Rattle.plan.specs.Reading.{Reading, whole, fault_at, reading}
use Rattle.std.specs.Prelude.{Result, Ok, Err}
use Rattle.plan.specs.declared.PlanRefusal.{PlanRefusal}
use Rattle.plan.specs.declared.PlanRefusal.TheVariants.{TooMany, Grammar, TooLong, NoRoom}

-- What the reading of a plan answers: a refusal's number, 0 where the hall is listed; its nodes; and with 13 the place of the fault. The numbers that
-- do not belong to the answer are 0.
pub record Planned : Type 0 where
  pub refusal : ℕ
  pub nodes : ℕ
  pub place : ℕ

-- the papers' numbers for each case of the answer
abbrev pub planned_answer : Result ℕ PlanRefusal → Planned
planned_answer (Ok nodes) = record { refusal = 0; nodes = nodes; place = 0 }
planned_answer (Err TooMany) = record { refusal = 14; nodes = 0; place = 0 }
planned_answer (Err (Grammar place)) = record { refusal = 13; nodes = 0; place = place }
planned_answer (Err TooLong) = record { refusal = 3; nodes = 0; place = 0 }
planned_answer (Err NoRoom) = record { refusal = 10; nodes = 0; place = 0 }

-- What the reading of a plan comes to: the answer, and what the lent words hold at the end.
pub record PlanEffect : Type 0 where
  pub answer : Planned
  pub words : List ℕ

-- "With any refusal .. every other number returned beside its own [is] 0 .. and no byte or word lent is changed."; of the place: "This place
-- amends document 01's rule on refusals."
unfoldable pub refuse_plan : ℕ → ℕ → List ℕ → PlanEffect
refuse_plan number place words = record { answer = record { refusal = number; nodes = 0; place = place }; words = words }

-- the addresses that are missing: those refused, in whose place there is 0
unfoldable pub missing : List ℕ → ℕ
missing [] = 0
missing (zero ∷ others) = suc (missing others)
missing (suc a ∷ others) = missing others

-- "The addresses in that order, the root first, go into a lent list of 64-bit words, and the answer gives their number."
unfoldable pub listed : List ℕ → List ℕ → PlanEffect
listed given words =
    if ltb most_nodes (length given) then refuse_plan 14 0 words
    else if ltb 0 (missing given) then refuse_plan 3 0 words
    else if ltb (length words) (length given) then refuse_plan 10 0 words
    else record { answer = record { refusal = 0; nodes = length given; place = 0 }; words = given ++ drop (length given) words }

unfoldable pub judged : Reading → List ℕ → PlanEffect
judged (whole given) words = listed given words
judged (fault_at place) words = refuse_plan 13 place words

unfoldable pub planning : List ℕ → List ℕ → PlanEffect
planning text words =
    if ltb most_bytes (length text) then refuse_plan 14 0 words
    else judged (reading text) words
