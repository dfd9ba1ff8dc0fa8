-- What the functions inside the reading of a plan come to: a part of the text, read from one place to another, whichever groups are open around
-- it.
use Rattle.std.specs.Prelude.{ℕ, suc, ◌+◌, ◌≤◌, ◌≡◌, List, [], ◌∷◌, length, drop, eqb, if◌then◌else◌}
use Rattle.std.proofs.lemmas.List.Edits.{sets}
use Rattle.node.specs.declared.Node.{Node}
use Rattle.plan.specs.Limits.{most_groups}
use Rattle.plan.specs.Grammar.{letter_r, opening}
use Rattle.plan.specs.Reading.{Expected, whole, fault_at, behind, read_from, reading}
use Rattle.plan.specs.Plan.{missing}
pub use Rattle.plan.specs.declared.Progress.{Progress}

-- how many bytes of "R(" a text begins with
unfoldable pub matched_second : List ℕ → ℕ
matched_second [] = 0
matched_second (o ∷ text) = if eqb o opening then 1 else 0

unfoldable pub matched : List ℕ → ℕ
matched [] = 0
matched (o ∷ text) = if eqb o letter_r then suc (matched_second text) else 0

-- a part of the text that takes what is expected before it to what is expected behind it, each with the records of the groups around
pub record PartRead (text words after : List ℕ) (from to : Progress) (allowed : ℕ) (before behind_it : List Node → Expected) : Type 0 where
  -- the addresses given in it
  pub given : List ℕ
  pub nodes : to.nodes ≡ from.nodes + length given
  pub missed : to.missing ≡ from.missing + missing given
  pub stored : after ≡ sets words from.nodes given
  pub forth : from.place + length given ≤ to.place
  pub within : to.place ≤ length text
  pub reads : (up : List Node) → length up + 1 + allowed ≡ most_groups
      → read_from from.place (before up) (drop from.place text) ≡ behind given (read_from to.place (behind_it up) (drop to.place text))

-- a text that, read from a place on, has a fault at another
pub record PartStops (text : List ℕ) (from at allowed : ℕ) (before : List Node → Expected) : Type 0 where
  pub reads : (up : List Node) → length up + 1 + allowed ≡ most_groups → read_from from (before up) (drop from text) ≡ fault_at at

-- the whole text, read
pub record HallRead (text words after : List ℕ) (to : Progress) : Type 0 where
  pub given : List ℕ
  pub nodes : to.nodes ≡ length given
  pub missed : to.missing ≡ missing given
  pub stored : after ≡ sets words 0 given
  pub reads : reading text ≡ whole given
