-- A 1 is passed and leaves the end where it is; a 0, or no bit at all, is the end.
use Rattle.std.proofs.Common.{sym, ◌∙◌, arith}
use Rattle.address.proofs.Numbers.{bit_length-le}
use Rattle.search.proofs.SearchLaws.{child_end_past, child_end-zero, child_end-one}
use Rattle.search.proofs.child_end_by_bits.Goals as goal

pub overflow_shr-bit : goal.overflow_shr-bit
overflow_shr-bit c = omega (arith, bit_length-le {n = c.args.address.number} (omega arith))

pub loop-at-preserved : goal.loop-at-preserved
loop-at-preserved c = c.loop-at.invariant ∙ child_end-one _ (omega arith) c.bit_length-length.ensures (omega arith) (omega arith)

pub returns-then-length-at : goal.returns-then-length-at
returns-then-length-at c = sym (c.loop-at.invariant ∙ child_end_past _ (omega arith) c.bit_length-length.ensures (omega arith))

pub returns-then-bit-eq0 : goal.returns-then-bit-eq0
returns-then-bit-eq0 c = sym (c.loop-at.invariant ∙ child_end-zero _ (omega arith) c.bit_length-length.ensures (omega arith) (omega arith))
