-- Demand 3, sentence by sentence: "Take every list of requests for a child, refused ones included, from a bare root, each node going on from the
-- record it was last given back, none removed."; and, of document 02 (Five), "its list may now also hold settings of a limit, refused ones included,
-- anywhere in it". `es` is such a list, and `tree_of es` the tree after it, with the records as they then stand. Since Eight it "speaks of packets with
-- at least one payload octet; an empty one stops with 16 where it starts."
use Rattle.std.specs.Prelude.{ℕ, ◌+◌, ◌≤◌, ◌<◌, ◌≡◌, ◌↔◌, List, [], ◌∷◌, ◌++◌, map, length}
use Rattle.address.specs.Bits.{root}
use Rattle.address.specs.Address.{depth}
use Rattle.address.specs.Numbers.{IsAddress}
use Rattle.octets.specs.Octets.{AreOctets}
use Rattle.header.specs.Header.{header}
use Rattle.address.specs.declared.Kind.{Kind}
use Rattle.node.specs.declared.Node.{Node}
use Rattle.node.specs.Node.{address_in, fresh, child_of, set_limit}
use Rattle.packet.specs.Packet.{packet_hop}
use Rattle.route.specs.Path.{path}
use Rattle.tree.specs.Tree.{request, Event, asking, setting, Tree, bare_root, standing, absent, record_of, replaced, Reply, replied, limited, nobody, happen, grow, grown, given_by, given_in, addresses, InTree, AllDiffer, Walk}
use Rattle.tree.specs.Way.{IsPacket, TheWay, delivered_at, stopped_at}
use Rattle.tree.specs.Demand3.{IsAncestor}

abbrev pub tree_of : List Event → Tree
tree_of es = grown child_of set_limit es

-- "stops with refusal 7 at the address's deepest ancestor that is in it"
pub record StopsAtDeepest (es : List Event) (p : List ℕ) (a d x : ℕ) : Type 0 where
  pub ancestor : IsAncestor x d
  pub in_tree : InTree x (tree_of es)
  -- "The deepest of several is the one with the most steps."
  pub deepest : (y : ℕ) → IsAncestor y d → InTree y (tree_of es) → depth y ≤ depth x
  -- "The nodes it meets are, in order, the path from its start to there."
  pub the_way : TheWay packet_hop (tree_of es) p a (path a x) (stopped_at 7 x)

-- "A list of requests begins with the root alone, its counts 0,0." "Each is made with the record of the node it names: the one that node started
-- with, or the one that the last request to that node handed back, refused or not." "a refused one gives no address"
pub record Growth : Type 0 where
  pub bare_root : tree_of [] ≡ fresh 1 ∷ []
  -- one request more, to a node that stands in the tree: what it hands back takes the place of its record
  pub given : (es : List Event) (a : ℕ) (n : Node) (kind : Kind) → record_of a (tree_of es) ≡ standing n → (child_of n kind).refusal ≡ 0
      → tree_of (es ++ (asking (request a kind) ∷ [])) ≡ replaced a (child_of n kind).node (tree_of es) ++ (fresh (child_of n kind).child.number ∷ [])
  pub refused : (es : List Event) (a : ℕ) (n : Node) (kind : Kind) → record_of a (tree_of es) ≡ standing n → ((child_of n kind).refusal ≡ 0 → ⊥)
      → tree_of (es ++ (asking (request a kind) ∷ [])) ≡ replaced a (child_of n kind).node (tree_of es)
  -- one setting more: "made with that node's record and handing one back as a request does", refused or not
  pub set : (es : List Event) (a : ℕ) (n : Node) (kind : Kind) (k : ℕ) → record_of a (tree_of es) ≡ standing n
      → tree_of (es ++ (setting a kind k ∷ [])) ≡ replaced a (set_limit n kind k).node (tree_of es)
  -- to anybody else: nothing
  pub nobody : (es : List Event) (a : ℕ) (kind : Kind) → record_of a (tree_of es) ≡ absent → tree_of (es ++ (asking (request a kind) ∷ [])) ≡ tree_of es
  pub set_at_nobody : (es : List Event) (a : ℕ) (kind : Kind) (k : ℕ) → record_of a (tree_of es) ≡ absent
      → tree_of (es ++ (setting a kind k ∷ [])) ≡ tree_of es

-- who stands in a tree, and in which order; and what the requests and settings of a list are replied
pub record TreeWords : Type 0 where
  pub in_order : (t : Tree) → addresses t ≡ map address_in t
  pub record_of_none : (a : ℕ) → record_of a [] ≡ absent
  pub record_of_this : (a : ℕ) (n : Node) (t : Tree) → address_in n ≡ a → record_of a (n ∷ t) ≡ standing n
  pub record_of_other : (a : ℕ) (n : Node) (t : Tree) → (address_in n ≡ a → ⊥) → record_of a (n ∷ t) ≡ record_of a t
  pub replaced_in_none : (a : ℕ) (m : Node) → replaced a m [] ≡ []
  pub replaced_this : (a : ℕ) (m n : Node) (t : Tree) → address_in n ≡ a → replaced a m (n ∷ t) ≡ m ∷ t
  pub replaced_other : (a : ℕ) (m n : Node) (t : Tree) → (address_in n ≡ a → ⊥) → replaced a m (n ∷ t) ≡ n ∷ replaced a m t
  pub replied_standing : (t : Tree) (a : ℕ) (kind : Kind) (n : Node) → record_of a t ≡ standing n
      → (happen child_of set_limit t (asking (request a kind))).replies ≡ replied (child_of n kind).refusal (child_of n kind).child.number ∷ []
  pub replied_absent : (t : Tree) (a : ℕ) (kind : Kind) → record_of a t ≡ absent
      → (happen child_of set_limit t (asking (request a kind))).replies ≡ nobody ∷ []
  pub limited_standing : (t : Tree) (a : ℕ) (kind : Kind) (k : ℕ) (n : Node) → record_of a t ≡ standing n
      → (happen child_of set_limit t (setting a kind k)).replies ≡ limited (set_limit n kind k).refusal ∷ []
  pub limited_absent : (t : Tree) (a : ℕ) (kind : Kind) (k : ℕ) → record_of a t ≡ absent
      → (happen child_of set_limit t (setting a kind k)).replies ≡ nobody ∷ []
  pub replied_none : (t : Tree) → (grow child_of set_limit t []).replies ≡ []
  pub replied_one_by_one : (t : Tree) (e : Event) (es : List Event)
      → (grow child_of set_limit t (e ∷ es)).replies
      ≡ (happen child_of set_limit t e).replies ++ (grow child_of set_limit (happen child_of set_limit t e).tree es).replies
  pub bare : bare_root ≡ fresh 1 ∷ []
  pub replied_last : (es : List Event) (e : Event)
      → (grow child_of set_limit bare_root (es ++ (e ∷ []))).replies
      ≡ (grow child_of set_limit bare_root es).replies ++ (happen child_of set_limit (tree_of es) e).replies
  -- the addresses given are those replied with 0
  pub given : (es : List Event) → given_in child_of set_limit es ≡ given_by (grow child_of set_limit (fresh 1 ∷ []) es).replies
  pub given_none : given_by [] ≡ []
  pub given_child : (a : ℕ) (rs : List Reply) → given_by (replied 0 a ∷ rs) ≡ a ∷ given_by rs
  pub given_refused : (k a : ℕ) (rs : List Reply) → given_by (replied (k + 1) a ∷ rs) ≡ given_by rs
  pub given_limited : (k : ℕ) (rs : List Reply) → given_by (limited k ∷ rs) ≡ given_by rs
  pub given_nobody : (rs : List Reply) → given_by (nobody ∷ rs) ≡ given_by rs

pub record EveryList : Type 0 where
  -- "The tree after a list is the root and every address given in it without a refusal."
  pub nodes : (es : List Event) → addresses (tree_of es) ≡ root ∷ given_in child_of set_limit es
  -- "After it all addresses given differ, the root's among them."
  pub all_differ : (es : List Event) → AllDiffer (root ∷ given_in child_of set_limit es)
  -- "A packet is here any octets that the reading accepts, and it is for the address read; every address's header, as written below, with any payload
  -- behind it, is one": of at least one octet, and there are no others
  pub packets : (p : List ℕ) (d : ℕ)
      → IsPacket p d ↔ (IsAddress d × ((payload : List ℕ) × AreOctets payload × (0 < length payload) × (p ≡ header d ++ payload)))
  -- "Take any two nodes of that tree, or the same one twice .. a packet for the second's address, started at the first and passed on by our rule,
  -- is delivered at the second. The nodes it meets are, in order, document 01's path from the first to the second.", and the delivery names the
  -- second
  pub arrives : (es : List Event) (a d : ℕ) (p : List ℕ) → InTree a (tree_of es) → InTree d (tree_of es) → IsPacket p d
      → TheWay packet_hop (tree_of es) p a (path a d) (delivered_at d d)
  -- "It keeps to parent and child links"
  pub over_links : (es : List Event) (a d : ℕ) → InTree a (tree_of es) → InTree d (tree_of es) → Walk (tree_of es) a d (path a d)
  -- "and meets no node twice."
  pub no_node_twice : (es : List Event) (a d : ℕ) → InTree a (tree_of es) → InTree d (tree_of es) → AllDiffer (path a d)
  -- "Every other walk over those links from the first to the second has at least as many hops.": "Its hops are its length less one."
  pub no_shorter_walk : (es : List Event) (a d : ℕ) (w : List ℕ) → InTree a (tree_of es) → InTree d (tree_of es) → Walk (tree_of es) a d w
      → length (path a d) ≤ length w
  -- "A packet started at any node, for an address not in that tree, stops with refusal 7 at the address's deepest ancestor that is in it."
  pub absent : (es : List Event) (a d : ℕ) (p : List ℕ) → InTree a (tree_of es) → (InTree d (tree_of es) → ⊥) → IsPacket p d
      → (x : ℕ) × StopsAtDeepest es p a d x
  -- "an empty one stops with 16 where it starts": a header and no more, for an address in the tree or not, and it has no other way
  pub empty : (es : List Event) (a d : ℕ) → InTree a (tree_of es) → IsAddress d
      → TheWay packet_hop (tree_of es) (header d) a (a ∷ []) (stopped_at 16 a)
