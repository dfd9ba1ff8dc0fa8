-- Wrong rules for the next hop from a packet, which demand 1 must exclude: they give a refusal in another's place, or none. Those of an empty packet
-- demand 3 excludes too.
use Rattle.std.specs.Prelude.{ℕ, not, ◌&&◌, List, eqb, if◌then◌else◌}
use Rattle.header.specs.Header.{octets_reading, reading}
use Rattle.node.specs.Node.{address_in, is_good}
use Rattle.node.specs.declared.Node.{Node}
use Rattle.forward.specs.Forward.{HopAnswer, deliver_at, refused_hop, next_hop}
use Rattle.packet.specs.Packet.{packet_hop}

-- the reading before 1
unfoldable pub reading_first : Node → List ℕ → HopAnswer
reading_first n p = if eqb (reading p).refusal 0 then packet_hop n p else refused_hop (reading p).refusal

-- ---- of an empty packet, whose address is the one that its octets say

-- it goes as its address says, as it was right before document 02 (Eight)
unfoldable pub empty_goes : Node → List ℕ → HopAnswer
empty_goes n p =
    if not (is_good n) then refused_hop 1
    else if not (eqb (octets_reading p).refusal 0) then refused_hop (octets_reading p).refusal
    else next_hop n (octets_reading p).address

-- it is delivered at the node that it is for; right otherwise
unfoldable pub empty_delivered : Node → List ℕ → HopAnswer
empty_delivered n p =
    if is_good n && eqb (reading p).refusal 16 && eqb (octets_reading p).address (address_in n) then deliver_at (address_in n)
    else packet_hop n p

-- 7 before 16; right otherwise
unfoldable pub not_given_first : Node → List ℕ → HopAnswer
not_given_first n p = if eqb (empty_goes n p).refusal 7 then refused_hop 7 else packet_hop n p

-- it is refused with 16 at the node that it is for and nowhere else: until there it goes as its address says
unfoldable pub empty_late : Node → List ℕ → HopAnswer
empty_late n p = if eqb (octets_reading p).address (address_in n) then packet_hop n p else empty_goes n p
