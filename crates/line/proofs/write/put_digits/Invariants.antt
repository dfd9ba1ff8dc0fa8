-- The digits of `rest` are still to be written before place i, and those behind it stand there.
use Rattle.std.proofs.Common.{◌≡◌, ◌++◌, length, drop}
use Rattle.line.specs.Line.{digits_in}
use Rattle.line.proofs.write.put_digits.Given as goal

abbrev pub invariant-loop-i : goal.invariant-loop-i
invariant-loop-i l = digits_in l.base (length l.fn.out) l.number ≡ digits_in l.base l.i l.rest ++ drop l.i l.out
