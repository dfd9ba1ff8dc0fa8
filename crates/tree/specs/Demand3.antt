-- Demand 3, one claim about every list of requests and settings, for any rule for a child, any rule for a setting and any rule for the next hop
-- from octets. Since document 02 (Eight) it "speaks of packets with at least one payload octet; an empty one stops with 16 where it starts."
use Rattle.std.specs.Prelude.{ℕ, ◌≤◌, ◌<◌, ◌≡◌, List, [], ◌∷◌, ◌++◌, length}
use Rattle.address.specs.Bits.{root}
use Rattle.address.specs.Steps.{Step, steps, address_of}
use Rattle.address.specs.Address.{depth}
use Rattle.address.specs.Numbers.{IsAddress}
use Rattle.octets.specs.Octets.{AreOctets}
use Rattle.header.specs.Header.{header}
use Rattle.route.specs.Path.{path, hops}
use Rattle.tree.specs.Tree.{ChildRule, SettingRule, Event, Tree, grown, given_in, addresses, InTree, AllDiffer, Walk}
use Rattle.tree.specs.Way.{HopRule, IsPacket, TheWay, delivered_at, stopped_at}

-- "a packet for the second's address, started at the first and passed on by our rule, is delivered at the second. The nodes it meets are, in
-- order, document 01's path from the first to the second. It keeps to parent and child links and meets no node twice. Every other walk over
-- those links from the first to the second has at least as many hops." The delivery names the second: "on delivery C itself".
pub record Arrives (hop : HopRule) (t : Tree) (p : List ℕ) (a d : ℕ) : Type 0 where
  pub the_way : TheWay hop t p a (path a d) (delivered_at d d)
  pub over_links : Walk t a d (path a d)
  pub once : AllDiffer (path a d)
  pub shortest : (w : List ℕ) → Walk t a d w → hops (path a d) ≤ hops w

-- "The ancestors of an address are what remains when one or more of its last steps are dropped."
pub record IsAncestor (x d : ℕ) : Type 0 where
  pub kept : List Step
  pub last : Step
  pub others : List Step
  pub dropped : steps d ≡ last ∷ (others ++ kept)
  pub remains : x ≡ address_of kept

-- "stops with refusal 7 at the address's deepest ancestor that is in it. The nodes it meets are, in order, the path from its start to there.";
-- "The deepest of several is the one with the most steps."
pub record StopsAt (hop : HopRule) (t : Tree) (p : List ℕ) (a d x : ℕ) : Type 0 where
  pub ancestor : IsAncestor x d
  pub there : InTree x t
  pub deepest : (y : ℕ) → IsAncestor y d → InTree y t → depth y ≤ depth x
  pub the_way : TheWay hop t p a (path a x) (stopped_at 7 x)

-- demand 3 for one list: its tree, with the records as they stand after it
pub record Demand3 (child : ChildRule) (set : SettingRule) (hop : HopRule) (es : List Event) : Type 0 where
  -- "every address's header, as written below, with any payload behind it, is one", of at least one octet
  pub packets : (d : ℕ) (payload : List ℕ) → IsAddress d → AreOctets payload → 0 < length payload → IsPacket (header d ++ payload) d
  -- "The tree after a list is the root and every address given in it without a refusal."
  pub nodes : addresses (grown child set es) ≡ root ∷ given_in child set es
  -- "After it all addresses given differ, the root's among them."
  pub differ : AllDiffer (root ∷ given_in child set es)
  -- "Take any two nodes of that tree, or the same one twice"
  pub arrival : (a d : ℕ) (p : List ℕ) → InTree a (grown child set es) → InTree d (grown child set es) → IsPacket p d → Arrives hop (grown child set es) p a d
  -- "A packet started at any node, for an address not in that tree"
  pub absence : (a d : ℕ) (p : List ℕ) → InTree a (grown child set es) → (InTree d (grown child set es) → ⊥) → IsPacket p d
      → (x : ℕ) × StopsAt hop (grown child set es) p a d x
  -- "an empty one stops with 16 where it starts": a header and no more, for any address, at any node, and it has no other way
  pub empty : (a d : ℕ) → InTree a (grown child set es) → IsAddress d → TheWay hop (grown child set es) (header d) a (a ∷ []) (stopped_at 16 a)
