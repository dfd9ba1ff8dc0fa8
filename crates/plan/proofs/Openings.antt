-- How much of "R(" a text begins with, by its bytes. Assumes nothing.
use Rattle.std.specs.Prelude.{if◌then◌else◌}
use mathlib.Core.Bool.{Bool, true, false}
use mathlib.Core.List.{List, [], ◌∷◌}
use Prim.Native.Nat.{ℕ, suc, ◌≤◌}
use native.Mathlib.Omega.{arith}
use lib.ListN.{length}
use lib.Dec.{eqb}
use Rattle.plan.specs.Grammar.{letter_r, opening}
use Rattle.plan.specs.Progress.{matched, matched_second}

-- at most two bytes, and all of them there

second-le : (text : List ℕ) → (matched_second text ≤ length text) × (matched_second text ≤ 1)
unfolding matched_second
second-le [] = (omega arith, omega arith)
second-le (o ∷ text) = go (eqb o opening)
  where
    go : (t : Bool) → ((if t then 1 else 0) ≤ suc (length text)) × ((if t then 1 else 0) ≤ 1)
    go true = (omega arith, omega arith)
    go false = (omega arith, omega arith)

pub matched-le : (text : List ℕ) → (matched text ≤ length text) × (matched text ≤ 2)
unfolding matched
matched-le [] = (omega arith, omega arith)
matched-le (o ∷ text) = go (eqb o letter_r) (second-le text)
  where
    go : (t : Bool) → (matched_second text ≤ length text) × (matched_second text ≤ 1)
        → ((if t then suc (matched_second text) else 0) ≤ suc (length text)) × ((if t then suc (matched_second text) else 0) ≤ 2)
    go true (l, m) = (omega arith, omega arith)
    go false (l, m) = (omega arith, omega arith)
