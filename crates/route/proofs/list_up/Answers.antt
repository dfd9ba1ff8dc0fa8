-- One word more is written, and at the end what is written is all.
use Rattle.std.proofs.Common.{ℕ, ap, ◌∙◌, length-set, arith}
use Rattle.route.specs.Counting.{upwards}
use Rattle.route.proofs.Underway.{up_next, up_end}
use Rattle.route.proofs.list_up.Goals as goal

pub loop-word-preserved : goal.loop-word-preserved
loop-word-preserved c = rw c.parent-a.ensures (up_next c.loop-word.invariant.0 (omega arith), simp length-set c.loop-word.invariant.1)

pub returns : goal.returns
returns c = up_end c.loop-word.invariant.0 (omega arith) ∙ ap (λ (n : ℕ). upwards n c.args.first.number) c.loop-word.invariant.1
