-- The parts looked through so far don't hold the number: it stands in the list if it stands in those that are left.
use Rattle.std.proofs.Common.{◌≡◌}
use Rattle.std.specs.Slice.Iter.{chunks_rest, chunks_size}
use Rattle.journal.specs.Replay.{among}
use Rattle.journal.proofs.among.Given as goal

abbrev pub invariant-loop-part : goal.invariant-loop-part
invariant-loop-part l =
    goal.iterator-loop-part.can_next l.part-iterator
    × goal.iterator-loop-part.is_finite l.part-iterator
    × (chunks_size l.part-iterator ≡ 64)
    × (among l.fn.number (chunks_rest l.part-iterator) ≡ among l.fn.number l.fn.list)
