-- What is claimed of every journal: which address is the next child of a tree of demand 3, that the addresses that are replayed without a fault
-- are such a tree's, which fault is given at which address, and that a node's record is found among the words that recovery leaves.
use Rattle.std.specs.Prelude.{ℕ, ◌^◌, ◌<◌, ◌≤◌, ◌≡◌, true, false, ◌⊎◌, ◌↔◌, List, ◌∷◌, ◌++◌, map, length, replicate}
use Rattle.address.specs.declared.Kind.{Kind}
use Rattle.address.specs.declared.Kind.TheVariants.{Router, Host}
use Rattle.node.specs.Node.{address_in, fresh, with_counts, count, child_of, set_limit}
use Rattle.node.specs.declared.Node.{Node}
use Rattle.packet.specs.Packet.{packet_hop}
use Rattle.tree.specs.Tree.{Request, Event, asking, Tree, standing, record_of, grown, given_in, addresses, InTree}
use Rattle.tree.specs.Demand3.{Demand3}
use Rattle.block.specs.Blocks.{AreWords}
use Rattle.journal.specs.Limits.{most_nodes}
use Rattle.journal.specs.Replay.{is_next, known, fault, next, follow, bare}
use Rattle.journal.specs.Record.{Record}

-- ---- the next child

-- "The journal holds no limits, so recovered nodes have 64 and 64": a record of the same address and counts
unfoldable pub recovered : Node → Node
recovered n = with_counts (count Router n) (count Host n) (fresh (address_in n))

-- "the next child of a node already known": some node of the tree, by its address and counts, asked for a child of a kind, answers with exactly
-- this address. A limit that it has plays no part, since the journal holds none.
pub record IsNextChild (t : Tree) (a : ℕ) : Type 0 where
  pub node : Node
  pub kind : Kind
  pub stands : record_of (address_in node) t ≡ standing node
  pub given : (child_of (recovered node) kind).refusal ≡ 0
  pub child : (child_of (recovered node) kind).child.number ≡ a

-- the nodes of a tree of demand 3, in the order in which their addresses were given, the root first
abbrev pub nodes_of : List Event → List ℕ
nodes_of es = addresses (grown child_of set_limit es)

pub record NextChildren : Type 0 where
  -- two look-ups are the rule for a child: for every tree of demand 3 and every number of 64 bits, zero included
  pub exactly : (es : List Event) (a : ℕ) → a < 2 ^ 64 → (is_next (nodes_of es) a ≡ true) ↔ IsNextChild (grown child_of set_limit es) a

-- ---- what is replayed

-- requests, and no setting of a limit between them
abbrev pub alone : List Request → List Event
alone rs = map asking rs

-- what was replayed without a fault: the addresses given in some list of requests alone, and the nodes of its tree, which are not too many
pub record IsReplayed (journal nodes : List ℕ) : Type 0 where
  pub requests : List Request
  pub addresses_given : journal ≡ given_in child_of set_limit (alone requests)
  pub the_nodes : nodes ≡ nodes_of (alone requests)
  pub few : length nodes ≤ most_nodes

-- which fault one address more is: "a [4,097th] node, the root counted, is 14, but 17 if it is no next child"
abbrev pub IsFault : List Event → ℕ → ℕ → Type 0
IsFault es a n =
    ((n ≡ 17) × (IsNextChild (grown child_of set_limit es) a → ⊥))
    ⊎ ((n ≡ 14) × IsNextChild (grown child_of set_limit es) a × (most_nodes ≤ length (nodes_of es)))

-- the first fault: the addresses before it are those given in some list of requests alone, so few that they are replayed, and this one more is
-- a fault at their tree
pub record IsFirstFault (journal : List ℕ) (n : ℕ) : Type 0 where
  pub requests : List Request
  pub address : ℕ
  pub rest : List ℕ
  pub addresses_given : journal ≡ given_in child_of set_limit (alone requests) ++ (address ∷ rest)
  pub few : length (nodes_of (alone requests)) ≤ most_nodes
  pub number : IsFault (alone requests) address n

pub record Replays : Type 0 where
  -- "whose addresses each are the next child of a node already known, starting from a bare root": exactly those given in a list of requests
  -- alone whose tree has not too many nodes
  pub replayed : (journal nodes : List ℕ) → AreWords journal → (follow bare journal ≡ known nodes) ↔ IsReplayed journal nodes
  -- and every list of addresses given since a bare root is replayed, whatever limits were set between the requests
  pub given : (es : List Event) → length (nodes_of es) ≤ most_nodes → follow bare (given_in child_of set_limit es) ≡ known (nodes_of es)
  -- what is replayed is a tree of demand 3: it follows, and is no part of the condition
  pub demand3 : (journal nodes : List ℕ) → IsReplayed journal nodes
      → (rs : List Request) × (journal ≡ given_in child_of set_limit (alone rs)) × (nodes ≡ nodes_of (alone rs))
      × Demand3 child_of set_limit packet_hop (alone rs)
  -- one address more: "otherwise 17"
  pub fault17 : (es : List Event) (a : ℕ) → a < 2 ^ 64
      → (next (known (nodes_of es)) a ≡ fault 17) ↔ (IsNextChild (grown child_of set_limit es) a → ⊥)
  -- "a [4,097th] node, the root counted, is 14"
  pub fault14 : (es : List Event) (a : ℕ) → a < 2 ^ 64
      → (next (known (nodes_of es)) a ≡ fault 14) ↔ (IsNextChild (grown child_of set_limit es) a × (most_nodes ≤ length (nodes_of es)))
  -- and no other number is given
  pub no_other : (es : List Event) (a n : ℕ) → a < 2 ^ 64 → next (known (nodes_of es)) a ≡ fault n → (n ≡ 17) ⊎ (n ≡ 14)
  -- "the first fault deciding"
  pub faults : (journal : List ℕ) (n : ℕ) → AreWords journal → (follow bare journal ≡ fault n) ↔ IsFirstFault journal n

-- ---- the records among the words

-- "then zeros to the list's end"
abbrev pub zeros_behind : ℕ → List ℕ
zeros_behind zeros = replicate zeros 0

-- the words that recovery leaves: the nodes, and zeros behind them
abbrev pub words_of : List Event → ℕ → List ℕ
words_of es zeros = nodes_of es ++ zeros_behind zeros

-- a rule for a node's record among some words
abbrev pub RecordRule : Type 0
RecordRule = List ℕ → ℕ → Record

-- a statement of any such rule, so that a wrong one can be refuted by it
pub record Records (rule : RecordRule) : Type 0 where
  -- a node's record is the one that stands in the tree, by its address and its counts: "recovered nodes have 64 and 64"
  pub found : (es : List Event) (zeros a : ℕ) (n : Node) → record_of a (grown child_of set_limit es) ≡ standing n
      → ((rule (words_of es zeros) a).found ≡ true) × ((rule (words_of es zeros) a).node ≡ recovered n)
  -- where no limit was set it is that record itself
  pub same : (rs : List Request) (zeros a : ℕ) (n : Node) → record_of a (grown child_of set_limit (alone rs)) ≡ standing n
      → (rule (words_of (alone rs) zeros) a).node ≡ n
  -- and none is found exactly if no node of the tree has the address
  pub absent : (es : List Event) (zeros a : ℕ) → ((rule (words_of es zeros) a).found ≡ false) ↔ (InTree a (grown child_of set_limit es) → ⊥)
