-- The wrong rule is refuted by its answer to a record of address zero: the right rule's number there is the only one that the statement allows.
use mathlib.Core.Path.{◌≡◌, ap}
use native.Mathlib.Omega.{arith}
use lib.Dec.{lit<}
use Rattle.node.specs.Node.{fresh}
use Rattle.node.proofs.ChildLaws.{is_good-zero}
use Rattle.node.proofs.Children.{address_in-fresh}
use Rattle.forward.specs.Forward.{HopAnswer, next_hop, refused_hop}
use Rattle.forward.specs.Refusals.{HopRefusals}
use Rattle.forward.specs.WrongRules.{zero_first}
use Rattle.forward.proofs.Rules.{next_hop-bad}
use Rattle.forward.proofs.RefusalLaws.{hop-refusals}

-- a record of address zero is bad
zero-bad : next_hop (fresh 0) 0 ≡ refused_hop 1
zero-bad = next_hop-bad (fresh 0) 0 (is_good-zero (fresh 0) (address_in-fresh 0))

pub zero_first_refuted : HopRefusals zero_first → ⊥
unfolding zero_first fresh
zero_first_refuted claim =
    let number = ap (λ (r : HopAnswer). r.refusal) zero-bad in
    omega (arith, (claim.given (fresh 0) 0 (lit< tt) (lit< tt) 1).1 ((hop-refusals.given (fresh 0) 0 (lit< tt) (lit< tt) 1).0 number))
