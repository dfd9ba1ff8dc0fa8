-- `Address::is_host` meets its contract: a host's number is odd and above 1.
use mathlib.Core.Path.{sym}
use native.Mathlib.Omega.{arith}
use Rattle.address.proofs.Answers.{is_host-small, is_host-odd}
use Rattle.address.proofs.Address.is_host.Goals as goal

pub returns-then-self-le1 : goal.returns-then-self-le1
returns-then-self-le1 c = sym (is_host-small (omega arith))

pub returns : goal.returns
returns c = sym (is_host-odd (omega arith) (omega arith))
