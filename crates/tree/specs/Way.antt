-- The way of a packet through a tree, for any rule for the next hop from octets. "Each node it meets gives the next-hop answer for it with
-- that node's record, and, as every link works, the node named gets the same octets. Its way is the list of the nodes it meets, the start
-- first. The way ends with a delivery, with a refusal, or where the node named isn't in the tree."
use Rattle.std.specs.Prelude.{ℕ, zero, suc, ◌≡◌, List, [], ◌∷◌}
use Rattle.octets.specs.Octets.{AreOctets}
use Rattle.header.specs.Header.{reading, found}
use Rattle.node.specs.declared.Node.{Node}
use Rattle.forward.specs.Forward.{deliver, to_parent, to_child, stop, HopAnswer}
use Rattle.tree.specs.Tree.{Tree, standing, record_of, InTree}

-- a rule for the next hop: what a record answers for some octets
abbrev pub HopRule : Type 0
HopRule = Node → List ℕ → HopAnswer

-- what an answer does to a packet: it is delivered, the answer naming a node; it stops, with a refusal's number; or it is passed to the node
-- named
pub data Fate : Type 0 where
  delivered_to : ℕ → Fate
  stopped_with : ℕ → Fate
  passed_to : ℕ → Fate

unfoldable pub fate : HopAnswer → Fate
fate r =
    elim r.refusal [
      | zero ↦ elim r.action [
        | deliver ↦ delivered_to r.named
        | to_parent ↦ passed_to r.named
        | to_child ↦ passed_to r.named
        | stop ↦ stopped_with 0
      ]
      | suc n ↦ stopped_with (suc n)
    ]

-- how and where a way ends: delivered at a node, the answer naming this one or another; stopped with a number at a node; or behind a node that
-- passed the packet to one that isn't in the tree
pub data End : Type 0 where
  delivered_at : ℕ → ℕ → End
  stopped_at : ℕ → ℕ → End
  lost_at : ℕ → End

-- what becomes of the octets p at a node, with its record as it stands
pub data Way (hop : HopRule) (t : Tree) (p : List ℕ) : ℕ → List ℕ → End → Type 0 where
  delivered : {a x : ℕ} {n : Node} → record_of a t ≡ standing n → fate (hop n p) ≡ delivered_to x → Way hop t p a (a ∷ []) (delivered_at a x)
  stopped : {a k : ℕ} {n : Node} → record_of a t ≡ standing n → fate (hop n p) ≡ stopped_with k → Way hop t p a (a ∷ []) (stopped_at k a)
  lost : {a x : ℕ} {n : Node} → record_of a t ≡ standing n → fate (hop n p) ≡ passed_to x → (InTree x t → ⊥) → Way hop t p a (a ∷ []) (lost_at a)
  onward : {a x : ℕ} {n : Node} {w : List ℕ} {e : End} → record_of a t ≡ standing n → fate (hop n p) ≡ passed_to x → InTree x t → Way hop t p x w e
      → Way hop t p a (a ∷ w) e

-- the one way of the octets from a node
pub record TheWay (hop : HopRule) (t : Tree) (p : List ℕ) (a : ℕ) (w : List ℕ) (e : End) : Type 0 where
  pub way : Way hop t p a w e
  pub only : (v : List ℕ) (f : End) → Way hop t p a v f → (v ≡ w) × (f ≡ e)

-- "A packet is here any octets that the reading accepts, and it is for the address read"; since document 02 (Eight) it has at least one payload octet
pub record IsPacket (p : List ℕ) (d : ℕ) : Type 0 where
  pub octets : AreOctets p
  pub place : ℕ
  pub reads : reading p ≡ found d place
