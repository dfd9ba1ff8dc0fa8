-- A node's record, a child's answer and a setting's as structs of plain numbers: the same numbers, in fields of the same names, but that the
-- record has its two limits beside the counts.
use Rattle.node.specs.Node.{address_at}
use Rattle.node.specs.declared.Node.{Node}
use Rattle.node.specs.Node.{Given}
use Rattle.node.specs.Node.{Limited}
pub use Rattle.pasa.specs.declared.children.PasaNode.{PasaNode}
pub use Rattle.pasa.specs.declared.children.PasaChild.{PasaChild}
pub use Rattle.pasa.specs.declared.children.PasaLimited.{PasaLimited}

-- the node whose record is given
unfoldable pub node_of : PasaNode → Node
node_of r = record {
  address = address_at r.address;
  routers = r.routers;
  hosts = r.hosts;
  limits = record { routers = r.router_limit; hosts = r.host_limit };
}

-- the record of a node
unfoldable pub pasa_node : Node → PasaNode
pasa_node n = record {
  address = n.address.number;
  routers = n.routers;
  hosts = n.hosts;
  router_limit = n.limits.routers;
  host_limit = n.limits.hosts;
}

unfoldable pub pasa_child : Given → PasaChild
pasa_child g = record { node = pasa_node g.node; child = g.child.number; refusal = g.refusal }

unfoldable pub pasa_limited : Limited → PasaLimited
pasa_limited l = record { node = pasa_node l.node; refusal = l.refusal }
