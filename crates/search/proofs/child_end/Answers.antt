-- The leading zeros of the opposite word are the ones that the search passes. Neither sum is long: an address's bits and as many more as a
-- count of a word's zeros, from either end, and one more.
use Rattle.std.proofs.Common.{sym, arith}
use Rattle.std.proofs.lemmas.Nat.{leading_le, trailing_le}
use Rattle.address.proofs.Numbers.{bit_length-le}
use Rattle.search.proofs.SearchLaws.{child_end_past}
use Rattle.search.proofs.Ones.{child_end_leading}
use Rattle.search.proofs.child_end.Goals as goal

pub returns-then-length-from : goal.returns-then-length-from
returns-then-length-from c = sym (child_end_past _ (omega arith) c.bit_length-length.ensures (omega arith))

pub overflow_sub-behind-2 : goal.overflow_sub-behind-2
overflow_sub-behind-2 c = omega (arith, bit_length-le {n = c.args.address.number} (omega arith))

pub overflow_add-result : goal.overflow_add-result
overflow_add-result c = omega (arith, leading_le, trailing_le, bit_length-le {n = c.args.address.number} (omega arith))

pub overflow_add-result-2 : goal.overflow_add-result-2
overflow_add-result-2 c = omega (arith, leading_le, trailing_le, bit_length-le {n = c.args.address.number} (omega arith))

pub returns : goal.returns
returns c = omega (arith, child_end_leading (omega arith) c.bit_length-length.ensures c.args.from (omega arith))
