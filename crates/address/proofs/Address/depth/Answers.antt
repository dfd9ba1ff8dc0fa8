-- `Address::depth` meets its contract: the depth and the ones are the length, and one more for a host.
use native.Mathlib.Omega.{arith}
use lib.Count.{ones-le}
use Rattle.address.specs.Address.{bit_length}
use Rattle.address.proofs.Numbers.{lt-bit_length, bit_length-le}
use Rattle.address.proofs.Answers.{depth-ones}
use Rattle.address.proofs.Address.depth.Goals as goal

pub overflow_sub-zeros : goal.overflow_sub-zeros
overflow_sub-zeros c =
    let n = c.args.self.number in omega (arith, ones-le (bit_length n) n (lt-bit_length (omega arith)))

pub overflow_add-result : goal.overflow_add-result
overflow_add-result c = omega (arith, bit_length-le {n = c.args.self.number} (omega arith))

pub returns-then-is_host : goal.returns-then-is_host
returns-then-is_host c =
    let law = depth-ones {n = c.args.self.number} (omega arith) in
    omega (arith, rw (← c.is_host.ensures, c.if-is_host.true) at law, ones-le (bit_length c.args.self.number) c.args.self.number (lt-bit_length (omega arith)))

pub returns : goal.returns
returns c =
    let law = depth-ones {n = c.args.self.number} (omega arith) in
    omega (arith, rw (← c.is_host.ensures, c.if-is_host.false) at law)
