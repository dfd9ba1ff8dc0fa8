-- One digit more is written, and at the first place all are.
use Rattle.std.proofs.Common.{sym, arith}
use Rattle.line.proofs.Fills.{digits-next, digits-end}
use Rattle.line.proofs.write.put_digits.Goals as goal

pub loop-i-preserved : goal.loop-i-preserved
loop-i-preserved c = digits-next c.loop-i.out c.args.base c.loop-i.rest c.loop-i.i c.loop-i-test.true (omega arith) c.loop-i.invariant

pub returns : goal.returns
returns c = sym (digits-end c.args.base c.loop-i.rest c.loop-i.i c.loop-i-test.false c.loop-i.invariant)
