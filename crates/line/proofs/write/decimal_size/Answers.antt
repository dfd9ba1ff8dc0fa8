-- Case by case of the digits.
use Rattle.std.proofs.Common.{arith}
use Rattle.line.proofs.Texts.{decimal-one, decimal_two, decimal_three}
use Rattle.line.proofs.write.decimal_size.Goals as goal

pub returns-in-0-to-9 : goal.returns-in-0-to-9
returns-in-0-to-9 c = rw (decimal-one c.args.n (omega arith))

pub returns-in-10-to-99 : goal.returns-in-10-to-99
returns-in-10-to-99 c = rw (decimal_two c.args.n (omega arith) (omega arith))

pub returns-in_default : goal.returns-in_default
returns-in_default c = rw (decimal_three c.args.n (omega arith))
