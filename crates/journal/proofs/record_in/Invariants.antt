-- `journal::record_in` meets its contract: what is found and counted so far, and what stands from the place on, come to what stands in the whole.
use Prim.Native.Nat.{◌+◌, min, ◌≤◌}
use mathlib.Core.Path.{◌≡◌}
use mathlib.Core.Bool.{◌||◌}
use lib.ListN.{drop}
use Rattle.address.specs.declared.Kind.TheVariants.{Router, Host}
use Rattle.journal.specs.Replay.{among}
use Rattle.journal.specs.Record.{children, most_counted}
use Rattle.journal.proofs.record_in.Given as goal

abbrev pub invariant-loop-number : goal.invariant-loop-number
invariant-loop-number l =
    ((l.found || among l.address.number (drop l.number-index l.words)) ≡ among l.address.number l.words)
    × (min (l.counts.routers + children Router l.address.number (drop l.number-index l.words)) most_counted ≡ min (children Router l.address.number l.words) most_counted)
    × (min (l.counts.hosts + children Host l.address.number (drop l.number-index l.words)) most_counted ≡ min (children Host l.address.number l.words) most_counted)
    × (l.counts.routers ≤ most_counted) × (l.counts.hosts ≤ most_counted)
