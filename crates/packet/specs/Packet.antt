-- The next hop from a packet: "From a packet it is the answer for the address read.", and the order of refusals is "from a packet 1, then the
-- reading order, then 7".
use Rattle.std.specs.Prelude.{ℕ, not, List, eqb, if◌then◌else◌}
use Rattle.header.specs.Header.{reading}
use Rattle.node.specs.Node.{is_good}
use Rattle.node.specs.declared.Node.{Node}
use Rattle.forward.specs.Forward.{HopAnswer, refused_hop, next_hop}

unfoldable pub packet_hop : Node → List ℕ → HopAnswer
packet_hop n p =
    if not (is_good n) then refused_hop 1
    else if not (eqb (reading p).refusal 0) then refused_hop (reading p).refusal
    else next_hop n (reading p).address
