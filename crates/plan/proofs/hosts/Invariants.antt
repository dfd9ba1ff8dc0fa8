-- In the loop of `plan::hosts` the hosts before the place are read, up to the record that the group's node has there.
use Rattle.std.proofs.Common.{ℕ, length, ◌-◌, ◌∷◌, ◌≤◌}
use Rattle.plan.specs.Reading.{inside}
use Rattle.plan.specs.Progress.{PartRead}
use Rattle.plan.proofs.hosts.Given as goal

abbrev pub invariant-loop-given : goal.invariant-loop-given
invariant-loop-given l = record {
  part : (allowed : ℕ) → PartRead l.text l.fn.words l.words l.fn.from l.at allowed (λ up. inside (l.fn.owner ∷ up)) (λ up. inside (l.node ∷ up));
  nodes : l.at.nodes ≤ l.at.place;
  missing : l.at.missing ≤ l.at.nodes;
}

abbrev pub decreases-loop-given : goal.decreases-loop-given
decreases-loop-given l = length l.text - l.at.place
