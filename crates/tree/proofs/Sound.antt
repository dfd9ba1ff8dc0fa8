-- What a tree has that grew from a bare root by the rule for a child: the seam between the two halves of demand 3. Nothing here speaks of
-- packets, and the half about packets uses nothing else of the tree.
use Prim.Native.Nat.{ℕ, ◌<◌}
use mathlib.Core.Path.{◌≡◌}
use mathlib.Core.Bool.{true}
use mathlib.Core.List.{◌∷◌}
use Rattle.address.specs.declared.Kind.{Kind}
use Rattle.address.specs.Bits.{root}
use Rattle.address.specs.Steps.{child, steps}
use Rattle.address.specs.Address.{parent}
use Rattle.address.specs.Numbers.{IsAddress}
use Rattle.node.specs.Node.{count, is_good}
use Rattle.node.specs.declared.Node.{Node}
use Rattle.tree.specs.Tree.{Tree, standing, record_of, addresses, InTree, AllDiffer}

pub record Sound (t : Tree) : Type 0 where
  pub rooted : InTree root t
  pub differ : AllDiffer (addresses t)
  -- every node's address is an address, and its record is good
  pub address : (a : ℕ) → InTree a t → IsAddress a
  pub good : (a : ℕ) (n : Node) → record_of a t ≡ standing n → is_good n ≡ true
  -- every node but the root hangs from one in the tree
  pub parents : (a : ℕ) → InTree a t → (a ≡ root → ⊥) → InTree (parent a) t
  -- a node's child of a kind and an index is in the tree exactly if the index is below the node's count of that kind
  pub given : (a : ℕ) (n : Node) (kind : Kind) (i : ℕ) → record_of a t ≡ standing n → i < count kind n
      → (d : ℕ) × InTree d t × (steps d ≡ child kind i ∷ steps a)
  pub counted : (a d : ℕ) (n : Node) (kind : Kind) (i : ℕ) → record_of a t ≡ standing n → InTree d t → steps d ≡ child kind i ∷ steps a
      → i < count kind n
