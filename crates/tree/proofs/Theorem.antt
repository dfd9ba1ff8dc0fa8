-- Demand 3, for every list of requests and settings, at the rules that `Node::child`, `Node::set_limit` and `packet::next_hop` promise: a grown tree
-- is sound, and a sound tree has arrival and absence, and stops what is empty. Assumes nothing.
use mathlib.Core.Path.{◌≡◌, subst}
use mathlib.Core.List.{List, ◌∷◌}
use Rattle.address.specs.Bits.{root}
use Rattle.node.specs.Node.{child_of, set_limit}
use Rattle.packet.specs.Packet.{packet_hop}
use Rattle.tree.specs.Tree.{ChildRule, SettingRule, Event, grown, given_in, addresses, AllDiffer}
use Rattle.tree.specs.Demand3.{Demand3}
use Rattle.tree.proofs.Sound.{Sound}
use Rattle.tree.proofs.Growth.{sound-grown}
use Rattle.tree.proofs.Given.{addresses-grown}
use Rattle.tree.proofs.Forwarding.{packets, arrival, absence, empty}

-- of any rules whose trees are sound and have the nodes given
pub demand_3_of : (child : ChildRule) (set : SettingRule) (es : List Event) → Sound (grown child set es)
    → addresses (grown child set es) ≡ root ∷ given_in child set es → Demand3 child set packet_hop es
demand_3_of child set es sound nodes = record {
  packets = packets;
  nodes = nodes;
  differ = subst AllDiffer nodes sound.differ;
  arrival = arrival (grown child set es) sound;
  absence = absence (grown child set es) sound;
  empty = empty (grown child set es) sound;
}

pub demand_3 : (es : List Event) → Demand3 child_of set_limit packet_hop es
demand_3 es = demand_3_of child_of set_limit es (sound-grown es) (addresses-grown es)
