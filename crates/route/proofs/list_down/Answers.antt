-- One word more is written, and at the first one what is written is all.
use Rattle.std.proofs.Common.{ℕ, reverse, ap, ◌∙◌, length-set, arith}
use Rattle.route.specs.Counting.{upwards}
use Rattle.route.proofs.Underway.{down-next, down-end}
use Rattle.route.proofs.list_down.Goals as goal

pub loop-i-preserved : goal.loop-i-preserved
loop-i-preserved c = rw c.parent-a.ensures (down-next c.loop-i.invariant.0 (omega arith), simp length-set c.loop-i.invariant.1)

pub returns : goal.returns
returns c =
    down-end c.loop-i.invariant.0 (omega arith) ∙ ap (λ (n : ℕ). reverse (upwards n c.args.second.number)) c.loop-i.invariant.1
