-- The line has six octets beside the digits.
use Rattle.std.proofs.Common.{arith}
use Rattle.line.proofs.Texts.{length-decimal-le, length_hops_line}
use Rattle.line.proofs.write.hops_size.Goals as goal

pub overflow_add-result : goal.overflow_add-result
overflow_add-result c = omega (arith, length-decimal-le c.args.hops)

pub returns : goal.returns
returns c = omega (arith, length_hops_line c.args.hops)
