-- The claims of this crate, for every list of requests and settings: its tree is sound, and of a sound tree they hold. Assumes nothing.
use Prim.Native.Nat.{◌≤◌}
use mathlib.Core.Path.{subst, ◌∙◌}
use mathlib.Core.List.{List}
use lib.ListN.{length}
use Rattle.node.specs.Node.{child_of, set_limit}
use Rattle.tree.specs.Tree.{Event, grown, given_in}
use Rattle.tree.proofs.Given.{addresses-grown}
use Rattle.tree.proofs.Growth.{sound-grown}
use Rattle.tree.proofs.Theorem.{demand_3}
use Rattle.block.specs.Blocks.{AreWords}
use Rattle.journal.specs.Limits.{most_nodes}
use Rattle.journal.specs.Record.{record_in}
use Rattle.journals.specs.Replays.{alone, nodes_of, IsReplayed, NextChildren, Replays, Records}
use Rattle.journals.proofs.NextChild.{is_next-sound}
use Rattle.journals.proofs.Taking.{next-no_child, next-too_many, next-fault}
use Rattle.journals.proofs.Outcomes.{Outcome, outcome-bare}
use Rattle.journals.proofs.GivenReplayed.{follow-grown, follow-replayed, follow_first_fault}
use Rattle.journals.proofs.Counts.{counted-grown}
use Rattle.journals.proofs.Free.{recovered_alone}
use Rattle.journals.proofs.RoundTrips.{nodes_of-words}
use Rattle.journals.proofs.Finding.{record_in-found, record_in-absent}

pub next-children : NextChildren
next-children = record { exactly = λ es. is_next-sound (grown child_of set_limit es) (sound-grown es) }

pub replays : Replays
replays = record {
  replayed = λ journal nodes w. (λ e. subst (Outcome journal) e (outcome-bare journal w), follow-replayed journal nodes);
  given = follow-grown;
  demand3 = λ journal nodes r. (r.requests, r.addresses_given, r.the_nodes, demand_3 (alone r.requests));
  fault17 = λ es. next-no_child (grown child_of set_limit es) (sound-grown es);
  fault14 = λ es. next-too_many (grown child_of set_limit es) (sound-grown es);
  no_other = λ es a n fits. next-fault (grown child_of set_limit es) (sound-grown es) a fits n;
  faults = λ journal n w. (λ e. subst (Outcome journal) e (outcome-bare journal w), follow_first_fault journal n w);
}

-- whatever limits were set meanwhile
pub given-replayed : (es : List Event) → length (nodes_of es) ≤ most_nodes → IsReplayed (given_in child_of set_limit es) (nodes_of es)
given-replayed es few =
    let words = subst AreWords (addresses-grown es) (nodes_of-words es) in
    (replays.replayed (given_in child_of set_limit es) (nodes_of es) words.1).0 (replays.given es few)

pub records : Records record_in
records = record {
  found = λ es. record_in-found (grown child_of set_limit es) (sound-grown es) (counted-grown es);
  same = λ rs zeros a n stands.
      (record_in-found (grown child_of set_limit (alone rs)) (sound-grown (alone rs)) (counted-grown (alone rs)) zeros a n stands).1
      ∙ recovered_alone rs a n stands;
  absent = λ es. record_in-absent (grown child_of set_limit es) (sound-grown es) (counted-grown es);
}
