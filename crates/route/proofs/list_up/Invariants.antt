-- What is left goes on from the parent, until every word is written.
use Rattle.std.proofs.Common.{◌≡◌, length}
use Rattle.route.proofs.Underway.{Up}
use Rattle.route.proofs.list_up.Given as goal

abbrev pub invariant-loop-word : goal.invariant-loop-word
invariant-loop-word l = Up l.fn.first.number l.words l.a.number l.word-index × (length l.words ≡ length l.fn.words)
