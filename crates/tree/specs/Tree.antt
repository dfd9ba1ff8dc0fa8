-- The tree of demand 3 (document 01, "The tree of demand 3"; document 02, Five), for any rule for a child and any rule for a setting, so that a
-- wrong rule can be refuted.
use Rattle.std.specs.Prelude.{ℕ, zero, suc, ◌≡◌, ◌⊎◌, eqb, if◌then◌else◌}
use mathlib.Core.List.{List, [], ◌∷◌, ◌++◌, map, Memᴰ}
use Rattle.address.specs.Bits.{root}
use Rattle.address.specs.Address.{parent}
use Rattle.address.specs.declared.Kind.{Kind}
use Rattle.node.specs.Node.{address_in, fresh}
use Rattle.node.specs.declared.Node.{Node}
use Rattle.node.specs.Node.{Given}
use Rattle.node.specs.Node.{Limited}

-- ---- requests and settings

-- "A request names a node and a kind, router or host."
pub data Request : Type 0 where
  request : ℕ → Kind → Request

-- "its list may now also hold settings of a limit": a node, a kind and the limit asked, any number
pub data Event : Type 0 where
  asking : Request → Event
  setting : ℕ → Kind → ℕ → Event

-- a rule for a child: what a record answers, asked for a child of a kind
abbrev pub ChildRule : Type 0
ChildRule = Node → Kind → Given

-- a rule for a setting: what a record answers, its limit on a kind set to a number
abbrev pub SettingRule : Type 0
SettingRule = Node → Kind → ℕ → Limited

-- the records of a tree, in the order in which the addresses were given, the root's first
abbrev pub Tree : Type 0
Tree = List Node

-- "A list of requests begins with the root alone, its counts 0,0."
unfoldable pub bare_root : Tree
bare_root = fresh root ∷ []

-- the record of the node of an address
pub data Record : Type 0 where
  standing : Node → Record
  absent : Record

unfoldable pub record_of : ℕ → Tree → Record
record_of a [] = absent
record_of a (n ∷ t) = if eqb (address_in n) a then standing n else record_of a t

-- the tree with another record in the place of that node's
unfoldable pub replaced : ℕ → Node → Tree → Tree
replaced a m [] = []
replaced a m (n ∷ t) = if eqb (address_in n) a then m ∷ t else n ∷ replaced a m t

-- what a request is answered: a refusal's number, 0 where a child is given, and the child's address; what a setting is answered: a refusal's
-- number, 0 where the limit is set; or nothing, where there is no node of that address
pub data Reply : Type 0 where
  replied : ℕ → ℕ → Reply
  limited : ℕ → Reply
  nobody : Reply

-- a tree, and what was answered on the way to it
pub record Grown : Type 0 where
  pub tree : Tree
  pub replies : List Reply

-- "a refused one gives no address"; a child's own record starts with both counts 0
unfoldable pub with_child : Given → Tree → Tree
with_child g t = if eqb g.refusal 0 then t ++ (fresh g.child.number ∷ []) else t

-- "Each is made with the record of the node it names: the one that node started with, or the one that the last request to that node handed
-- back, refused or not."
unfoldable pub answered : ℕ → Given → Tree → Grown
answered a g t = record {
  tree = with_child g (replaced a g.node t);
  replies = replied g.refusal g.child.number ∷ [];
}

-- "Each request names the root or an address given earlier in the list": any other changes nothing
unfoldable pub asked_of : ChildRule → Record → ℕ → Kind → Tree → Grown
asked_of rule (standing n) a kind t = answered a (rule n kind) t
asked_of rule absent a kind t = record { tree = t; replies = nobody ∷ [] }

unfoldable pub ask : ChildRule → Tree → Request → Grown
ask rule t (request a kind) = asked_of rule (record_of a t) a kind t

-- "made with that node's record and handing one back as a request does": it gives no address
unfoldable pub settled : ℕ → Limited → Tree → Grown
settled a l t = record { tree = replaced a l.node t; replies = limited l.refusal ∷ [] }

-- "each at the root or an address given earlier in the list": any other changes nothing
unfoldable pub setting_of : SettingRule → Record → ℕ → Kind → ℕ → Tree → Grown
setting_of rule (standing n) a kind k t = settled a (rule n kind k) t
setting_of rule absent a kind k t = record { tree = t; replies = nobody ∷ [] }

unfoldable pub happen : ChildRule → SettingRule → Tree → Event → Grown
happen child set t (asking r) = ask child t r
happen child set t (setting a kind k) = setting_of set (record_of a t) a kind k t

-- the requests and settings of a list, one after the other, from any tree
unfoldable pub grow : ChildRule → SettingRule → Tree → List Event → Grown
grow child set t [] = record { tree = t; replies = [] }
grow child set t (e ∷ es) = record {
  tree = (grow child set (happen child set t e).tree es).tree;
  replies = (happen child set t e).replies ++ (grow child set (happen child set t e).tree es).replies;
}

-- "The tree after a list is the root and every address given in it without a refusal. Its records are those that stand after the last
-- request"
unfoldable pub grown : ChildRule → SettingRule → List Event → Tree
grown child set es = (grow child set bare_root es).tree

-- the addresses that some replies give: "a refused one gives no address", nor does a setting
unfoldable pub given_by : List Reply → List ℕ
given_by [] = []
given_by (replied zero a ∷ rs) = a ∷ given_by rs
given_by (replied (suc n) a ∷ rs) = given_by rs
given_by (limited n ∷ rs) = given_by rs
given_by (nobody ∷ rs) = given_by rs

-- the addresses given in a list of requests and settings from a bare root, in the order given
unfoldable pub given_in : ChildRule → SettingRule → List Event → List ℕ
given_in child set es = given_by (grow child set bare_root es).replies

-- ---- nodes, links and walks

unfoldable pub addresses : Tree → List ℕ
addresses t = map address_in t

abbrev pub InTree : ℕ → Tree → Type 0
InTree a t = Memᴰ a (addresses t)

abbrev pub AllDiffer : List ℕ → Type 0
AllDiffer [] = Unit {0}
AllDiffer (x ∷ xs) = (Memᴰ x xs → ⊥) × AllDiffer xs

-- "A link joins a node of the tree, the root excepted, with its parent."
pub record HangsFrom (t : Tree) (a b : ℕ) : Type 0 where
  pub lower : InTree a t
  pub upper : InTree b t
  pub not_root : a ≡ root → ⊥
  pub is_parent : parent a ≡ b

abbrev pub Linked : Tree → ℕ → ℕ → Type 0
Linked t a b = HangsFrom t a b ⊎ HangsFrom t b a

-- "A walk is a list of nodes of the tree, at least one, each joined with the next by a link."
pub data Walk (t : Tree) : ℕ → ℕ → List ℕ → Type 0 where
  here : {a : ℕ} → InTree a t → Walk t a a (a ∷ [])
  along : {a b d : ℕ} {w : List ℕ} → Linked t a b → Walk t b d w → Walk t a d (a ∷ w)
