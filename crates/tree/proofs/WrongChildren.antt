-- The wrong rules for a child are refuted, each through the clause for which document 01 excludes it, at a tree that is computed.
use Prim.Native.Nat.{ℕ, zero, suc, ◌+◌, ◌≤◌}
use mathlib.Core.Path.{◌≡◌, refl, ap, ◌∙◌}
use mathlib.Core.Bool.{false}
use mathlib.Core.List.{List, [], ◌∷◌, ◌++◌, Memᴰ}
use native.Mathlib.Nat.{add-zero}
use native.Mathlib.Omega.{arith}
use lib.ListN.{replicate}
use lib.Dec.{lit<}
use borrow.Author.Tests.{le-leb, ne_eqb}
use Rattle.address.specs.Bits.{number, root}
use Rattle.address.specs.declared.Kind.TheVariants.{Router, Host}
use Rattle.node.specs.Node.{fresh, with_counts, with_limits, is_good, child_bits, set_limit}
use Rattle.node.specs.declared.Node.{Node}
use Rattle.node.specs.WrongRules.{child_by, gives_child, past_limit}
use Rattle.packet.specs.Packet.{packet_hop}
use Rattle.packet.proofs.PacketHops.{packet_hop-bad, packet_hop-found}
use Rattle.tree.specs.Tree.{ChildRule, SettingRule, request, Event, asking, setting, Tree, bare_root, standing, record_of}
use Rattle.tree.specs.Tree.{ask, happen, grow, grown, InTree}
use Rattle.tree.specs.Way.{stopped_with, passed_to, fate, delivered_at, stopped_at, lost_at, Way, stopped, lost, IsPacket}
use Rattle.tree.specs.Demand3.{Demand3}
use Rattle.tree.specs.WrongChildren.{same_child, shared_count, limit_on_parent}
use Rattle.tree.proofs.Opened.{trees_opened, hops-opened}
use Rattle.tree.proofs.Trees.{in_tree-record_of}
use Rattle.tree.proofs.Forwarding.{shortest, packet_shortest}

pub packet_root : IsPacket (shortest root) root
packet_root = packet_shortest (record { some = lit< tt; fits = lit< tt })

-- a packet for the root, whose record is bad: it is refused where it starts
pub stops-itself : (child : ChildRule) (set : SettingRule) (es : List Event) {n : Node} → record_of root (grown child set es) ≡ standing n
    → is_good n ≡ false → Demand3 child set packet_hop es → ⊥
unfolding fate
stops-itself child set es {n} stands bad claim =
    let there = in_tree-record_of root n (grown child set es) stands in
    let arrives = claim.arrival root root (shortest root) there there packet_root in
    let refuses : fate (packet_hop n (shortest root)) ≡ stopped_with 1 = ap fate (packet_hop-bad n (shortest root) bad) in
    let e : stopped_at 1 root ≡ delivered_at root root = (arrives.the_way.only (root ∷ []) (stopped_at 1 root) (stopped stands refuses)).1 in
    let z : ◌≡◌ {A = ℕ} 0 1 = cc in
    omega arith

-- ---- every child the same address: two routers asked of the root are both 10

pub same_child_refuted : ((rs : List Event) → Demand3 same_child set_limit packet_hop rs) → ⊥
unfolding trees_opened same_child
same_child_refuted h = (h (asking (request root Router) ∷ asking (request root Router) ∷ [])).differ.1.0 (Memᴰ.head refl)

-- ---- one count: a router and a host asked of the root are 10 and 111, and its count of routers is 2, so it passes a packet for 110 to nobody

abbrev router_then_host : List Event
router_then_host = asking (request root Router) ∷ asking (request root Host) ∷ []

packet_110 : IsPacket (shortest 0b110) 0b110
packet_110 = packet_shortest (record { some = lit< tt; fits = lit< tt })

other_than_110 : Memᴰ {A = ℕ} 0b110 (0b1 ∷ 0b10 ∷ 0b111 ∷ []) → ⊥
other_than_110 (Memᴰ.head e) = omega arith
other_than_110 (Memᴰ.tail (Memᴰ.head e)) = omega arith
other_than_110 (Memᴰ.tail (Memᴰ.tail (Memᴰ.head e))) = omega arith
other_than_110 (Memᴰ.tail (Memᴰ.tail (Memᴰ.tail i))) = elim i [ ]

one-count-absent : InTree 0b110 (grown shared_count set_limit router_then_host) → ⊥
unfolding trees_opened shared_count
one-count-absent i = other_than_110 i

one-count-there : InTree root (grown shared_count set_limit router_then_host)
unfolding trees_opened shared_count
one-count-there = Memᴰ.head refl

-- the root's record with two routers counted
abbrev two_routers : Node
two_routers = with_counts 2 0 (fresh root)

fate_110 : fate (packet_hop two_routers (shortest 0b110)) ≡ passed_to 0b110
unfolding hops-opened
fate_110 = ap fate (packet_hop-found two_routers (shortest 0b110) refl packet_110.reads)

one-count-way : Way packet_hop (grown shared_count set_limit router_then_host) (shortest 0b110) root (root ∷ []) (lost_at root)
unfolding trees_opened shared_count
one-count-way = lost {x = 0b110} {n = two_routers} refl fate_110 one-count-absent

pub shared_count_refuted : ((rs : List Event) → Demand3 shared_count set_limit packet_hop rs) → ⊥
shared_count_refuted h =
    let stops = (h router_then_host).absence root 0b110 (shortest 0b110) one-count-there one-count-absent packet_110 in
    let e : lost_at root ≡ stopped_at 7 stops.0 = (stops.1.the_way.only (root ∷ []) (lost_at root) one-count-way).1 in
    let z : ◌≡◌ {A = ℕ} 0 1 = cc in
    omega arith

-- ---- the limit on the parent: after 64 hosts the root's record is bad, so it refuses a packet for itself

abbrev hosts64 : List Event
hosts64 = replicate 64 (asking (request root Host))

-- the root with so many hosts
abbrev root_with : ℕ → Node
root_with h = with_counts 0 h (fresh root)

-- the record of the host that it then gives
abbrev next_host : ℕ → Node
next_host h = fresh (number (child_bits (root_with h) Host))

ask-host : (h : ℕ) (t : Tree) → h ≤ 63 → (ask limit_on_parent (root_with h ∷ t) (request root Host)).tree ≡ root_with (h + 1) ∷ (t ++ (next_host h ∷ []))
unfolding trees_opened limit_on_parent
ask-host h t l = rw (le-leb h 63 l, le-leb h 64 (omega arith), ne_eqb h 64 (λ e. omega arith))

record_of-hosts : (k h : ℕ) (t : Tree) → h + k ≤ 64
    → record_of root (grow limit_on_parent set_limit (root_with h ∷ t) (replicate k (asking (request root Host)))).tree ≡ standing (root_with (h + k))
unfolding grow happen record_of with_counts fresh
record_of-hosts zero h t l = rw (add-zero h)
record_of-hosts (suc k) h t l =
    let more : h + 1 + k ≡ h + suc k = omega arith in
    ap (λ (u : Tree). record_of root (grow limit_on_parent set_limit u (replicate k (asking (request root Host)))).tree) (ask-host h t (omega arith))
    ∙ record_of-hosts k (h + 1) (t ++ (next_host h ∷ [])) (omega arith)
    ∙ ap (λ (i : ℕ). standing (root_with i)) more

record_of-hosts64 : record_of root (grown limit_on_parent set_limit hosts64) ≡ standing (root_with 64)
unfolding grown bare_root fresh with_counts
record_of-hosts64 = record_of-hosts 64 0 [] (omega arith)

pub limit_on_parent_refuted : ((es : List Event) → Demand3 limit_on_parent set_limit packet_hop es) → ⊥
unfolding hops-opened
limit_on_parent_refuted h = stops-itself limit_on_parent set_limit hosts64 record_of-hosts64 refl (h hosts64)

-- ---- a limit not looked at: a router past the limit of 0 makes the root's record bad

pub past_limit_refuted : ((es : List Event) → Demand3 past_limit set_limit packet_hop es) → ⊥
unfolding trees_opened past_limit child_by gives_child
past_limit_refuted h =
    let es = setting root Router 0 ∷ asking (request root Router) ∷ [] in
    stops-itself past_limit set_limit es {n = with_limits 0 64 (with_counts 1 0 (fresh root))} refl refl (h es)
