-- Turned over, and shifted until its first bit is gone, the number is the word of the marks.
use Rattle.std.proofs.Common.{arith}
use Rattle.route.proofs.Zeros.{word-marks}
use Rattle.route.proofs.Marked.new.Goals as goal

pub invariant_of-result : goal.invariant_of-result
invariant_of-result c = record {
  some = omega arith;
  marked = word-marks (record { some = omega arith; fits = omega arith });
}
