-- `journal::Known::follow` meets its contract: before each turn the addresses so far are taken without a fault.
use mathlib.Core.Path.{◌≡◌}
use lib.ListN.{take}
use Rattle.journal.specs.Replay.{known, follow}
use Rattle.journal.specs.Follows.{Follows}
use Rattle.journal.proofs.Known.follow.Given as goal

abbrev pub invariant-loop-address : goal.invariant-loop-address
invariant-loop-address g l =
    (l.self.words.ghost_name ≡ l.initial.self.words.ghost_name)
    × Follows (follow (known (take l.initial.self.nodes l.initial.self.words.now)) l.yielded) l.initial.self.nodes l.initial.self.words.now l.self.words.now (record { refusal = 0; nodes = l.self.nodes })
