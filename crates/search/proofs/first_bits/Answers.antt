-- A shift leaves the first bits, all of them where it has no more.
use Rattle.std.proofs.Common.{sym, ◌∙◌, arith}
use Rattle.address.proofs.Numbers.{bit_length-le}
use Rattle.search.proofs.SearchLaws.{first_bits-whole, first_bits-shr-half}
use Rattle.search.proofs.first_bits.Goals as goal

pub returns-then-length-count : goal.returns-then-length-count
returns-then-length-count c = sym (first_bits-whole _ (omega arith) c.bit_length-length.ensures (omega arith))

pub overflow_shr-address : goal.overflow_shr-address
overflow_shr-address c = omega (arith, bit_length-le {n = c.args.address.number} (omega arith))

pub returns : goal.returns
returns c = c.of.ensures ∙ sym (first_bits-shr-half _ (omega arith) c.bit_length-length.ensures (omega arith))
