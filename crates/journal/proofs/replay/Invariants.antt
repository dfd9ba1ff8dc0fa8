-- `journal::replay` meets its contract: before each turn the state is one on the way, and as many slots more as are left come to the whole.
use Prim.Native.Nat.{◌-◌}
use Rattle.journal.specs.Slots.{slot_count}
use Rattle.journal.specs.Reader.{progress_answer}
use Rattle.journal.proofs.RunLaws.{Turning}
use Rattle.journal.proofs.replay.Given as goal

abbrev pub invariant-loop-at : goal.invariant-loop-at
invariant-loop-at l = Turning l.journal l.initial.words (record { progress = progress_answer l.at; words = l.words })

abbrev pub decreases-loop-at : goal.decreases-loop-at
decreases-loop-at l = slot_count l.journal - l.at.slot
