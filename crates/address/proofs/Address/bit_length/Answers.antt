-- `Address::bit_length` meets its contract: the leading zeros and the length make 64.
use native.Mathlib.Omega.{arith}
use Rattle.address.proofs.Numbers.{leading_zeros_bit_length}
use Rattle.address.proofs.Address.bit_length.Goals as goal

pub returns : goal.returns
returns c = omega (arith, leading_zeros_bit_length {n = c.args.self.number} (omega arith))
