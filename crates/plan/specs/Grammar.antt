-- The text of a hall: "`R(` items `)`, an item being `H` for a host or another `R(` items `)`, with no spaces and possibly no items. The
-- outermost R is the root. A group holds items and an item may hold a group, with at most 64 groups open at once."
use Rattle.std.specs.Prelude.{ℕ, suc, max, ◌≤◌, ◌<◌, ◌≡◌, ◌⊎◌, List, [], ◌∷◌, ◌++◌, length, take}
use Rattle.plan.specs.Limits.{most_groups}

-- ASCII: `R`, `H`, `(` and `)`
abbrev pub letter_r : ℕ
letter_r = 82

abbrev pub letter_h : ℕ
letter_h = 72

abbrev pub opening : ℕ
opening = 40

abbrev pub closing : ℕ
closing = 41

-- the items of a group, from left to right: no more; a host and the items behind it; a router with the items of its group, and the items
-- behind it
pub data Items : Type 0 where
  none : Items
  host : Items → Items
  router : Items → Items → Items

unfoldable pub items_text : Items → List ℕ
items_text none = []
items_text (host behind) = letter_h ∷ items_text behind
items_text (router group behind) = letter_r ∷ opening ∷ (items_text group ++ closing ∷ items_text behind)

-- "`R(` items `)`": a plan is the items of its root's group
unfoldable pub plan_text : Items → List ℕ
plan_text plan = letter_r ∷ opening ∷ (items_text plan ++ closing ∷ [])

-- the most groups among some items that are open at once
unfoldable pub groups_open : Items → ℕ
groups_open none = 0
groups_open (host behind) = groups_open behind
groups_open (router group behind) = max (suc (groups_open group)) (groups_open behind)

-- the plan that a text spells; the root's group is open around all others
pub record Spells (text : List ℕ) (plan : Items) : Type 0 where
  pub spelled : text ≡ plan_text plan
  pub within : suc (groups_open plan) ≤ most_groups

-- a text of the grammar
abbrev pub IsText : List ℕ → Type 0
IsText text = (plan : Items) × Spells text plan

-- "the start of any text of the grammar"
abbrev pub IsStart : List ℕ → Type 0
IsStart text = (behind : List ℕ) × IsText (text ++ behind)

-- "the place of the first byte with which the text stops being the start of any text of the grammar, or the text's length if it ends early":
-- what stands before the place is a start; with the byte at the place it is none any more, or the text ends there and is no text
pub record Stops (text : List ℕ) (place : ℕ) : Type 0 where
  pub start : IsStart (take place text)
  pub stops : ((place < length text) × (IsStart (take (suc place) text) → ⊥)) ⊎ ((place ≡ length text) × (IsText text → ⊥))
