-- Wrong rules for reading a plan, which demand 1 must exclude: impostors, slips in the order of the refusals and in what stands beside them, other
-- limits, and slips in the reading. Each but the impostor goes by the right rule with one part or its numbers exchanged.
use Rattle.std.specs.Prelude.{ℕ, suc, ◌-◌, not, ◌&&◌, ◌||◌, List, [], ◌∷◌, ◌++◌, length, take, drop, set, eqb, ltb, if◌then◌else◌}
use Rattle.address.specs.Bits.{root}
use Rattle.address.specs.declared.Kind.TheVariants.{Router}
use Rattle.node.specs.Node.{address_in, fresh, child_of}
use Rattle.node.specs.declared.Node.{Node}
use Rattle.plan.specs.Limits.{most_bytes, most_nodes}
use Rattle.plan.specs.Grammar.{letter_r, letter_h, closing}
use Rattle.plan.specs.Hall.{child_in}
use Rattle.plan.specs.Reading.{Expected, start, group, inside, Move, to, fault, move_item, move, Reading, whole, fault_at, behind, ended, reading}
use Rattle.plan.specs.Plan.{PlanEffect, refuse_plan, missing, listed, judged, planning}

-- a rule for reading a plan
abbrev pub PlanRule : Type 0
PlanRule = List ℕ → List ℕ → PlanEffect

-- the parts of the right rule: what a text comes to, how its addresses are listed, and what is said of a fault
pub record Parts : Type 0 where
  pub read : List ℕ → Reading
  pub list : List ℕ → List ℕ → PlanEffect
  pub faulty : ℕ → List ℕ → PlanEffect

unfoldable pub judged_by : Parts → Reading → List ℕ → PlanEffect
judged_by parts (whole given) words = parts.list given words
judged_by parts (fault_at place) words = parts.faulty place words

-- `planning`, by these parts
unfoldable pub planning_by : Parts → PlanRule
planning_by parts text words = if ltb most_bytes (length text) then refuse_plan 14 0 words else judged_by parts (parts.read text) words

-- with these it is the right one
abbrev pub right_parts : Parts
right_parts = record { read = reading; list = listed; faulty = refuse_plan 13 }

abbrev pub listing : (List ℕ → List ℕ → PlanEffect) → Parts
listing list = record { read = reading; list = list; faulty = refuse_plan 13 }

-- ---- impostors

-- "One that refuses everything"
unfoldable pub refuses_all : PlanRule
refuses_all text words = refuse_plan 14 0 words

-- ---- the order

-- 13 before the first 14: a text of any length is read
unfoldable pub grammar_first : PlanRule
grammar_first text words = judged (reading text) words

-- the second 14 before 13: nodes counted by their letters, in the grammar or out of it
unfoldable pub letter_count : List ℕ → ℕ
letter_count [] = 0
letter_count (o ∷ text) = if eqb o letter_r || eqb o letter_h then suc (letter_count text) else letter_count text

unfoldable pub nodes_first : PlanRule
nodes_first text words = if ltb most_nodes (letter_count text) then refuse_plan 14 0 words else planning text words

-- 10 before 3
unfoldable pub room_first : PlanRule
room_first = planning_by (listing (λ given words.
    if ltb (length words) (length given) && not (ltb most_nodes (length given)) then refuse_plan 10 0 words else listed given words))

-- ---- the limits

-- `listed` and `planning`, with any numbers in the place of the limits on bytes and nodes
unfoldable pub listed_within : ℕ → List ℕ → List ℕ → PlanEffect
listed_within most given words =
    if ltb most (length given) then refuse_plan 14 0 words
    else if ltb 0 (missing given) then refuse_plan 3 0 words
    else if ltb (length words) (length given) then refuse_plan 10 0 words
    else record { answer = record { refusal = 0; nodes = length given; place = 0 }; words = given ++ drop (length given) words }

unfoldable pub planning_within : ℕ → ℕ → PlanRule
planning_within bytes most text words =
    if ltb bytes (length text) then refuse_plan 14 0 words
    else judged_by (listing (listed_within most)) (reading text) words

-- ---- what stands beside

-- the place counted from 1
unfoldable pub place_from_one : PlanRule
place_from_one = planning_by (record { read = reading; list = listed; faulty = λ place words. refuse_plan 13 (suc place) words })

-- a place beside 10: how many words are wanted
unfoldable pub place_beside : PlanRule
place_beside = planning_by (listing (λ given words.
    if eqb (listed given words).answer.refusal 10 then refuse_plan 10 (length given) words else listed given words))

-- the addresses that there is room for, written beside 10
unfoldable pub writes_without_room : PlanRule
writes_without_room = planning_by (listing (λ given words.
    if eqb (listed given words).answer.refusal 10 then refuse_plan 10 0 (take (length words) given) else listed given words))

-- the root's address, written although the text has a fault
unfoldable pub writes_root : PlanRule
writes_root = planning_by (record { read = reading; list = listed; faulty = λ place words. refuse_plan 13 place (set words 0 root) })

-- "the answer gives their number": without the root
unfoldable pub root_uncounted : PlanRule
root_uncounted = planning_by (listing (λ given words.
    let right = listed given words in
    record {
      answer = record { refusal = right.answer.refusal; nodes = right.answer.nodes - 1; place = right.answer.place };
      words = right.words;
    }))

-- ---- the reading

-- `read_from`, by these moves
unfoldable pub read_from_by : (Expected → ℕ → Move) → ℕ → Expected → List ℕ → Reading
read_from_by moves place e [] = ended place e
read_from_by moves place e (o ∷ text) =
    elim (moves e o) [
      | to given next ↦ behind given (read_from_by moves (suc place) next text)
      | fault ↦ fault_at place
    ]

abbrev pub moving : (Expected → ℕ → Move) → Parts
moving moves = record { read = read_from_by moves 0 start; list = listed; faulty = refuse_plan 13 }

-- "a 65th open group counts": it does not, nor does any other
unfoldable pub move_unlimited : Expected → ℕ → Move
move_unlimited start o = move start o
move_unlimited (group up) o = move (group up) o
move_unlimited (inside []) o = fault
move_unlimited (inside (n ∷ up)) o =
    if eqb o letter_r
    then to (child_in (child_of n Router) ∷ []) (group (fresh (child_in (child_of n Router)) ∷ (child_of n Router).node ∷ up))
    else move_item n up o

unfoldable pub unlimited : PlanRule
unlimited = planning_by (moving move_unlimited)

-- "a router before what its group holds": behind it, where the group is closed
unfoldable pub without_address : Move → Move
without_address (to given next) = to [] next
without_address fault = fault

unfoldable pub closing_address : Node → List Node → List ℕ
closing_address n [] = []
closing_address n (m ∷ up) = address_in n ∷ []

unfoldable pub move_late : Expected → ℕ → Move
move_late start o = move start o
move_late (group up) o = move (group up) o
move_late (inside []) o = fault
move_late (inside (n ∷ up)) o =
    if eqb o letter_r then without_address (move_item n up o)
    else if eqb o closing then to (closing_address n up) (inside up)
    else move_item n up o

unfoldable pub routers_late : PlanRule
routers_late = planning_by (moving move_late)
