-- What is claimed of the path: its turning point is the deepest common ancestor-or-self, and it has at most 126 addresses.
use Rattle.std.specs.Prelude.{◌≡◌, List, ◌++◌, reverse, ℕ, ◌+◌, ◌≤◌, length}
use Rattle.address.specs.Steps.{Step, steps}
use Rattle.address.specs.Address.{depth}
use Rattle.address.specs.Numbers.{IsAddress}
use Rattle.address.specs.Ancestors.{AncestorOrSelf}
use Rattle.route.specs.Path.{turn, path}
use Rattle.route.specs.Counting.{upwards}

-- "the deepest common ancestor-or-self": it is one of both, and none has more steps. "The deepest of several is the one with the most steps."
pub record IsTurningPoint (ss ts x : List Step) : Type 0 where
  pub of_first : AncestorOrSelf x ss
  pub of_second : AncestorOrSelf x ts
  pub deepest : (y : List Step) → AncestorOrSelf y ss → AncestorOrSelf y ts → length y ≤ length x

abbrev pub TurningPoints : Type 0
TurningPoints = (ss ts : List Step) → IsTurningPoint ss ts (turn ss ts)

-- "the list from the first up to the deepest common ancestor-or-self and down to the second, both ends in it": the first and its parents, as
-- many as it has steps more than the turning point; then the turning point and, down to the second, the second's parents and the second
pub record IsUpAndDown (a d : ℕ) : Type 0 where
  pub up : ℕ
  pub down : ℕ
  pub up_to : length (turn (steps a) (steps d)) + up ≡ depth a
  pub down_from : length (turn (steps a) (steps d)) + down ≡ depth d
  pub listed : path a d ≡ upwards up a ++ reverse (upwards (down + 1) d)

abbrev pub UpAndDown : Type 0
UpAndDown = (a d : ℕ) → IsAddress a → IsAddress d → IsUpAndDown a d

-- "It has at most 126 addresses (125 hops)."
abbrev pub AtMost126 : Type 0
AtMost126 = (a d : ℕ) → IsAddress a → IsAddress d → length (path a d) ≤ 126
