-- Demand 1 for the next hop from a packet: each refusal is "given exactly when that document says", in the order "from a packet 1, then the
-- reading order, then 7".
use Rattle.std.specs.Prelude.{ℕ, ◌^◌, ◌<◌, ◌≡◌, List}
use Rattle.address.specs.Bits.{longest}
use Rattle.address.specs.Order.{Order, done, ◌when◌otherwise◌, ◌then◌, GivenExactly}
use Rattle.octets.specs.Octets.{AreOctets}
use Rattle.header.specs.Header.{reading}
use Rattle.header.specs.Refusals.{reading_order}
use Rattle.node.specs.Node.{address_in}
use Rattle.node.specs.Refusals.{IsBad}
use Rattle.node.specs.declared.Node.{Node}
use Rattle.forward.specs.Forward.{HopAnswer, refused_hop, next_hop}
use Rattle.forward.specs.Refusals.{ChildNotGiven}

abbrev pub packet_order : Node → List ℕ → Order
packet_order n p =
    -- "the node record is bad"
    (1 when IsBad n otherwise done)
    -- "then the reading order"
    then reading_order p
    -- "destination below this node, child not given", for the address read
    then (7 when ChildNotGiven n (reading p).address otherwise done)

-- a statement of any rule for the next hop from octets, so that a wrong one can be refuted by it
pub record PacketRefusals (rule : Node → List ℕ → HopAnswer) : Type 0 where
  pub given : (n : Node) (p : List ℕ) → address_in n < 2 ^ longest → AreOctets p → GivenExactly (packet_order n p) (rule n p).refusal
  -- "With any refusal .. every other number returned beside its own are 0": no node is named
  pub beside : (n : Node) (p : List ℕ) → ((rule n p).refusal ≡ 0 → ⊥) → rule n p ≡ refused_hop (rule n p).refusal
  -- "From a packet it is the answer for the address read."
  pub without : (n : Node) (p : List ℕ) → (rule n p).refusal ≡ 0 → ((reading p).refusal ≡ 0) × (rule n p ≡ next_hop n (reading p).address)
