-- The wrong rules for a setting are refuted, each through a clause of demand 3, at a tree that is computed.
use Prim.Native.Nat.{ℕ}
use mathlib.Core.Path.{◌≡◌, refl, ap}
use mathlib.Core.List.{List, [], ◌∷◌, Memᴰ}
use native.Mathlib.Omega.{arith}
use lib.Dec.{lit<}
use Rattle.address.specs.Bits.{root}
use Rattle.address.specs.declared.Kind.TheVariants.{Router}
use Rattle.node.specs.Node.{fresh, with_counts, with_limits, child_of}
use Rattle.node.specs.declared.Node.{Node}
use Rattle.packet.specs.Packet.{packet_hop}
use Rattle.packet.proofs.PacketHops.{packet_hop-found}
use Rattle.tree.specs.Tree.{request, Event, asking, setting, grown, InTree}
use Rattle.tree.specs.Way.{passed_to, fate, stopped_at, lost_at, Way, lost, IsPacket}
use Rattle.tree.specs.Demand3.{Demand3}
use Rattle.tree.specs.WrongSettings.{handing_back, zeroes_counts, raises_count, another_node, below_count}
use Rattle.tree.proofs.Opened.{trees_opened, hops-opened}
use Rattle.tree.proofs.Forwarding.{shortest, packet_shortest}
use Rattle.tree.proofs.WrongChildren.{stops-itself}

-- the root's limit on routers, as it is
abbrev sets_root : Event
sets_root = setting root Router 64

-- ---- counts zeroed: a router asked before and after is 10 both times

pub zeroes_counts_refuted : ((es : List Event) → Demand3 child_of zeroes_counts packet_hop es) → ⊥
unfolding trees_opened zeroes_counts handing_back
zeroes_counts_refuted h = (h (asking (request root Router) ∷ sets_root ∷ asking (request root Router) ∷ [])).differ.1.0 (Memᴰ.head refl)

-- ---- a count raised: the root passes a packet for 10 to nobody

packet_10 : IsPacket (shortest 0b10) 0b10
packet_10 = packet_shortest (record { some = lit< tt; fits = lit< tt })

raised-absent : InTree 0b10 (grown child_of raises_count (sets_root ∷ [])) → ⊥
unfolding trees_opened raises_count handing_back
raised-absent i = other i
  where
    other : Memᴰ {A = ℕ} 0b10 (0b1 ∷ []) → ⊥
    other (Memᴰ.head e) = omega arith
    other (Memᴰ.tail i) = elim i [ ]

raised-there : InTree root (grown child_of raises_count (sets_root ∷ []))
unfolding trees_opened raises_count handing_back
raised-there = Memᴰ.head refl

-- the root's record with a router counted
abbrev one_router : Node
one_router = with_counts 1 0 (fresh root)

fate_10 : fate (packet_hop one_router (shortest 0b10)) ≡ passed_to 0b10
unfolding hops-opened
fate_10 = ap fate (packet_hop-found one_router (shortest 0b10) refl packet_10.reads)

raised-way : Way packet_hop (grown child_of raises_count (sets_root ∷ [])) (shortest 0b10) root (root ∷ []) (lost_at root)
unfolding trees_opened raises_count handing_back
raised-way = lost {x = 0b10} {n = one_router} refl fate_10 raised-absent

pub raises_count_refuted : ((es : List Event) → Demand3 child_of raises_count packet_hop es) → ⊥
raises_count_refuted h =
    let stops = (h (sets_root ∷ [])).absence root 0b10 (shortest 0b10) raised-there raised-absent packet_10 in
    let e : lost_at root ≡ stopped_at 7 stops.0 = (stops.1.the_way.only (root ∷ []) (lost_at root) raised-way).1 in
    let z : ◌≡◌ {A = ℕ} 0 1 = cc in
    omega arith

-- ---- another node's record: the root is no more in the tree

pub another_node_refuted : ((es : List Event) → Demand3 child_of another_node packet_hop es) → ⊥
unfolding trees_opened another_node handing_back
another_node_refuted h = let e : ◌≡◌ {A = ℕ} 2 1 = cc (h (sets_root ∷ [])).nodes in omega arith

-- ---- a limit below the count: the root's record is bad

pub below_count_refuted : ((es : List Event) → Demand3 child_of below_count packet_hop es) → ⊥
unfolding trees_opened below_count
below_count_refuted h =
    let es = asking (request root Router) ∷ setting root Router 0 ∷ [] in
    stops-itself child_of below_count es {n = with_limits 0 64 one_router} refl refl (h es)
