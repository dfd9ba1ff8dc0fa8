-- `plan::group` and `plan::item` call each other. The measures are 2·allowed + 1 for the group and 2·allowed for the item, since an item opens a
-- group with one fewer allowed and a group reads items with as many. In the loop of `group` the part before the place is read, up to the record
-- that the group's node has there.
use Rattle.std.proofs.Common.{length, ◌-◌, ◌∷◌, ◌+◌, ◌≤◌, ◌*◌}
use Rattle.plan.specs.Reading.{inside}
use Rattle.plan.specs.Progress.{PartRead}
use Rattle.plan.proofs.+group_item.Given as goal

abbrev pub decreases-group : goal.decreases-group
decreases-group l = 2 * l.allowed + 1

abbrev pub decreases-item : goal.decreases-item
decreases-item l = 2 * l.allowed

abbrev pub invariant-group-loop-byte : goal.invariant-group-loop-byte
invariant-group-loop-byte l = record {
  part : PartRead l.text l.fn.words l.words l.fn.from l.at l.allowed (λ up. inside (l.fn.owner ∷ up)) (λ up. inside (l.node ∷ up));
  nodes : l.at.nodes ≤ l.at.place;
  missing : l.at.missing ≤ l.at.nodes;
}

abbrev pub decreases-group-loop-byte : goal.decreases-group-loop-byte
decreases-group-loop-byte l = length l.text - l.at.place
