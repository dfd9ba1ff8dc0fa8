-- However many ones were passed, the child's bits end where they do from here.
use Rattle.std.proofs.Common.{◌≡◌, ◌-◌}
use Rattle.address.specs.Bits.{bits}
use Rattle.search.specs.Search.{child_end}
use Rattle.search.proofs.child_end_by_bits.Given as goal

abbrev pub invariant-loop-at : goal.invariant-loop-at
invariant-loop-at l = child_end l.initial.at (bits l.address.number) ≡ child_end l.at (bits l.address.number)

abbrev pub decreases-loop-at : goal.decreases-loop-at
decreases-loop-at l = l.length - l.at
