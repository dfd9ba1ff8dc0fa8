-- Request One, with the numbers of Six: the text of a hall's plan, the hall that it describes, and the tree that it is. Demand1 has the refusals of
-- the reading.
use Rattle.std.specs.Prelude.{ℕ, max, ◌+◌, ◌<◌, ◌≤◌, ◌≡◌, ◌⊎◌, ◌↔◌, length, take, drop}
use mathlib.Core.List.{List, [], ◌∷◌, ◌++◌, map, Memᴰ}
use Rattle.address.specs.declared.Kind.TheVariants.{Router, Host}
use Rattle.node.specs.Node.{address_in, fresh, child_of, set_limit}
use Rattle.node.specs.declared.Node.{Node}
use Rattle.node.specs.Node.{Given}
use Rattle.packet.specs.Packet.{packet_hop}
use Rattle.tree.specs.Tree.{request, asking, bare_root, replied, grow, grown, addresses, AllDiffer}
use Rattle.tree.specs.Demand3.{Demand3}
use Rattle.plan.specs.Grammar.{Items, none, host, router, items_text, plan_text, groups_open, Spells, IsText, IsStart, Stops}
use Rattle.plan.specs.Hall.{answers, hall, nodes}
use Rattle.plan.specs.Plan.{planning}
use Rattle.halls.specs.Requests.{requests_in, requests}
use Rattle.halls.specs.Halls.{kind_of, letters}

-- "`R(` items `)`, an item being `H` for a host or another `R(` items `)`, with no spaces and possibly no items." In ASCII R is 82, H is 72,
-- ( is 40 and ) is 41.
pub record TheText : Type 0 where
  -- no more items, a host and the items behind it, or a router with the items of its group and the items behind it: nothing else
  pub no_other_item : (items : Items)
      → (items ≡ none) ⊎ ((behind : Items) × (items ≡ host behind)) ⊎ ((group : Items) × (behind : Items) × (items ≡ router group behind))
  pub of_no_item : items_text none ≡ []
  pub of_ahost : (behind : Items) → items_text (host behind) ≡ 72 ∷ items_text behind
  pub of_arouter : (group behind : Items) → items_text (router group behind) ≡ 82 ∷ 40 ∷ (items_text group ++ 41 ∷ items_text behind)
  pub of_aplan : (plan : Items) → plan_text plan ≡ 82 ∷ 40 ∷ (items_text plan ++ 41 ∷ [])
  -- the groups that are open at once, among some items
  pub open_in_none : groups_open none ≡ 0
  pub open_in_ahost : (behind : Items) → groups_open (host behind) ≡ groups_open behind
  pub open_in_arouter : (group behind : Items) → groups_open (router group behind) ≡ max (groups_open group + 1) (groups_open behind)
  -- "with at most 64 groups open at once", the outermost counted
  pub spells : (text : List ℕ) (plan : Items) → Spells text plan ↔ ((text ≡ plan_text plan) × (groups_open plan + 1 ≤ 64))
  pub is_text : (text : List ℕ) → IsText text ↔ ((plan : Items) × Spells text plan)
  -- "the start of any text of the grammar"
  pub is_start : (text : List ℕ) → IsStart text ↔ ((behind : List ℕ) × IsText (text ++ behind))
  -- "the place of the first byte with which the text stops being the start of any text of the grammar, or the text's length if it ends early"
  pub stops : (text : List ℕ) (p : ℕ)
      → Stops text p
      ↔ (IsStart (take p text) × (((p < length text) × (IsStart (take (p + 1) text) → ⊥)) ⊎ ((p ≡ length text) × (IsText text → ⊥))))
  -- one plan, or one such place, and not both
  pub one_plan : (text : List ℕ) (plan other : Items) → Spells text plan → Spells text other → plan ≡ other
  pub one_place : (text : List ℕ) (p q : ℕ) → Stops text p → Stops text q → p ≡ q
  pub either : (text : List ℕ) → IsText text ⊎ ((p : ℕ) × Stops text p)
  pub not_both : (text : List ℕ) (p : ℕ) → IsText text → Stops text p → ⊥

-- "Items get addresses left to right as they are met in the text, a router before what its group holds."
pub record TheHall : Type 0 where
  -- each item asks the node of its group, with the record that the request before it handed back; a router's own record starts fresh
  pub of_no_item : (n : Node) → requests_in n none ≡ []
  pub of_ahost : (n : Node) (behind : Items)
      → requests_in n (host behind) ≡ request (address_in n) Host ∷ requests_in (child_of n Host).node behind
  pub of_arouter : (n : Node) (group behind : Items)
      → requests_in n (router group behind)
      ≡ request (address_in n) Router ∷ (requests_in (fresh (child_of n Router).child.number) group ++ requests_in (child_of n Router).node behind)
  -- "The outermost R is the root."
  pub of_aplan : (plan : Items) → requests plan ≡ requests_in (fresh 1) plan
  -- every other letter of the text, from left to right, asks for a child of its kind; letters are 82 and 72 alone
  pub letter_by_letter : (plan : Items) → letters (plan_text plan) ≡ Router ∷ map kind_of (requests plan)
  pub letter_r : (text : List ℕ) → letters (82 ∷ text) ≡ Router ∷ letters text
  pub letter_h : (text : List ℕ) → letters (72 ∷ text) ≡ Host ∷ letters text
  pub other_byte : (o : ℕ) (text : List ℕ) → (o ≡ 82 → ⊥) → (o ≡ 72 → ⊥) → letters (o ∷ text) ≡ letters text
  pub no_byte : letters [] ≡ []
  -- "their number", "the root counted"
  pub counted : (plan : Items) → (nodes plan ≡ length (letters (plan_text plan))) × (length (hall plan) ≡ nodes plan)
  -- "The addresses in that order, the root first": what each of these requests is answered, 0 in the place of an address that is refused
  pub root_first : (plan : Items) → hall plan ≡ 1 ∷ map (λ (g : Given). g.child.number) (answers (fresh 1) plan)
  pub answered_none : (n : Node) → answers n none ≡ []
  pub answered_host : (n : Node) (behind : Items) → answers n (host behind) ≡ child_of n Host ∷ answers (child_of n Host).node behind
  pub answered_router : (n : Node) (group behind : Items)
      → answers n (router group behind)
      ≡ child_of n Router ∷ (answers (fresh (child_of n Router).child.number) group ++ answers (child_of n Router).node behind)
  -- a request is answered 3 there exactly if one is replied 3 in the tree
  pub refused_in_both : (plan : Items)
      → Memᴰ 3 (map (λ (g : Given). g.refusal) (answers (fresh 1) plan))
      ↔ Memᴰ (replied 3 0) (grow child_of set_limit bare_root (map asking (requests plan))).replies
  -- and these are the addresses of the tree that the requests grow, in the order given, where none is too long
  pub is_atree : (plan : Items) → (Memᴰ (replied 3 0) (grow child_of set_limit bare_root (map asking (requests plan))).replies → ⊥)
      → hall plan ≡ addresses (grown child_of set_limit (map asking (requests plan)))
  -- "`R(R(H)H)` gives 1, 10, 101, 11."
  pub example : planning (82 ∷ 40 ∷ 82 ∷ 40 ∷ 72 ∷ 41 ∷ 72 ∷ 41 ∷ []) (0 ∷ 0 ∷ 0 ∷ 0 ∷ 7 ∷ [])
      ≡ record { answer = record { refusal = 0; nodes = 4; place = 0 }; words = 0b1 ∷ 0b10 ∷ 0b101 ∷ 0b11 ∷ 7 ∷ [] }

-- a hall that is read: the plan that its text spells, whose addresses are listed, and every clause of demand 3 for the tree of its requests
pub record AHall (text words words' : List ℕ) (many : ℕ) : Type 0 where
  pub plan : Items
  pub spelt : Spells text plan
  pub number : many ≡ nodes plan
  pub listed : take many words' ≡ addresses (grown child_of set_limit (map asking (requests plan)))
  pub behind : drop many words' ≡ drop many words
  pub differ : AllDiffer (take many words')
  pub demand3 : Demand3 child_of set_limit packet_hop (map asking (requests plan))

pub record WhatIsRead : Type 0 where
  pub a_hall : (text words : List ℕ) → (planning text words).answer.refusal ≡ 0
      → AHall text words (planning text words).words (planning text words).answer.nodes
  -- "Then an address too long: 3.": exactly if one of the plan's requests is refused with 3
  pub too_long : (text words : List ℕ)
      → ((planning text words).answer.refusal ≡ 3)
      ↔ ((length text ≤ 32768)
      × ((plan : Items) × Spells text plan × ((nodes plan ≤ 4096) × Memᴰ (replied 3 0) (grow child_of set_limit bare_root (map asking (requests plan))).replies)))
