-- What is left goes on from the parent, until the first word is written.
use Rattle.std.proofs.Common.{◌≡◌, length}
use Rattle.route.proofs.Underway.{Down}
use Rattle.route.proofs.list_down.Given as goal

abbrev pub invariant-loop-i : goal.invariant-loop-i
invariant-loop-i l = Down l.fn.second.number l.words l.a.number l.i × (length l.words ≡ length l.fn.words)
