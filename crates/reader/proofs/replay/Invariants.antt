-- Before each turn the reader holds the journal at the place that the progress names, and the state is one on the way, from which as many slots
-- more as are left come to the whole.
use Rattle.std.proofs.Common.{◌≡◌, ◌-◌}
use Rattle.journal.specs.Slots.{slot_count}
use Rattle.journal.specs.Reader.{progress_answer}
use Rattle.journal.proofs.RunLaws.{Turning}
use Rattle.reader.proofs.replay.Given as goal

abbrev pub invariant-loop-at : goal.invariant-loop-at
invariant-loop-at l =
    (l.reader.journal.now ≡ l.journal)
    × (l.reader.slot ≡ l.at.slot)
    × Turning l.journal l.initial.words (record { progress = progress_answer l.at; words = l.words })

abbrev pub decreases-loop-at : goal.decreases-loop-at
decreases-loop-at l = slot_count l.journal - l.at.slot
