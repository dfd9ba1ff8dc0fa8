-- One item's request, from a sound tree in which the item's group is open. Its node stands there, gives a child that is new, or refuses with 3;
-- or it is a router that was refused, of address 0, which no tree has: then nobody is asked. The records of all other nodes stay. Assumes
-- nothing.
use Prim.Native.Nat.{ℕ}
use mathlib.Core.Path.{◌≡◌, refl, sym, ap, ◌∙◌}
use mathlib.Core.Logic.{⊎_elim}
use mathlib.Core.List.{[], ◌∷◌, ◌++◌}
use native.Mathlib.Omega.{arith}
use borrow.Author.Tests.{ne_eqb}
use Rattle.address.specs.Bits.{number, root}
use Rattle.address.specs.declared.Kind.{Kind}
use Rattle.address.specs.declared.Kind.TheVariants.{Router}
use Rattle.node.specs.Node.{address_in, address_at, fresh, raised, child_bits, refuse_child, child_of}
use Rattle.node.specs.declared.Node.{Node}
use Rattle.node.specs.Node.{Given}
use Rattle.node.proofs.ChildLaws.{is_good-zero, child_of-bad}
use Rattle.node.proofs.Children.{address_in-fresh, address_in-raised, MayGive, child_of-given}
use Rattle.tree.specs.Tree.{request, Tree, bare_root, standing, absent, record_of, replaced, ask, InTree}
use Rattle.tree.proofs.Sound.{Sound}
use Rattle.tree.proofs.Trees.{in_tree-record_of, record_of-absent, record_of-single, replaced-record_of}
use Rattle.tree.proofs.Runs.{ask-given, ask-refused, ask-nobody, replies-standing, replies-absent}
use Rattle.tree.proofs.Growth.{is_new_lem, record_of-asked, record_of-new, record_of_other}
use Rattle.plan.specs.Hall.{child_in, refusal_of}
use Rattle.halls.specs.Halls.{reply_of}
use Rattle.plan.proofs.Inner.{Inner, inner-root, inner-gives, inner-refusal, inner-next, inner-child}

-- a group's node: it stands in the tree with this record, the root's or a router's without a cap; or it was refused
pub data Open (n : Node) (t : Tree) : Type 0 where
  stands : record_of (address_in n) t ≡ standing n → Inner n → Open n t
  refused : address_in n ≡ 0 → Open n t

-- the same, by the address that the record is of
open_at : (a : ℕ) (n : Node) (t : Tree) → address_in n ≡ a → record_of a t ≡ standing n → Inner n → Open n t
open_at a n t own e inner = stands (ap (λ (x : ℕ). record_of x t) own ∙ e) inner

pub open_root : Open (fresh root) bare_root
unfolding bare_root
open_root = stands (record_of-single (fresh root) refl) inner-root

-- every record but that of the address a stays from a tree to another
abbrev pub Stays : ℕ → Tree → Tree → Type 0
Stays a t after = (x : ℕ) (m : Node) → (x ≡ a → ⊥) → record_of x t ≡ standing m → record_of x after ≡ standing m

-- what a request comes to: the group's node with the record handed back, the child's, and the others' as they were
pub record Asked (n : Node) (kind : Kind) (t : Tree) (g : Given) (after : Tree) : Type 0 where
  pub own : Open g.node after
  pub child : kind ≡ Router → Open (fresh (child_in g)) after
  pub others : Stays (address_in n) t after
  pub new : InTree (child_in g) t → ⊥

module _ (t : Tree) (s : Sound t) where
  no_zero : InTree 0 t → ⊥
  no_zero i = omega (arith, (s.address 0 i).some)

  -- a refusal changes nothing
  asked-refused : (n : Node) (kind : Kind) (k : ℕ) → Open n t → Asked n kind t (refuse_child k n) t
  unfolding refuse_child
  asked-refused n kind k o = record {
    own = o;
    child = λ e. refused (address_in-fresh 0);
    others = λ x m ne e. e;
    new = no_zero;
  }

  module _ (n : Node) (kind : Kind) where
    module _ (e : record_of (address_in n) t ≡ standing n) (inner : Inner n) where
      asked-given : (may : MayGive n kind)
          → Asked n kind t (record { node = raised kind n; child = address_at (number (child_bits n kind)); refusal = 0 })
          (replaced (address_in n) (raised kind n) t ++ (fresh (number (child_bits n kind)) ∷ []))
      asked-given may = record {
        own = open_at (address_in n) (raised kind n) _ (address_in-raised kind n) (record_of-asked t s (address_in n) n e kind may)
            (rw (child_of-given may) at (inner-next kind inner));
        child = λ k. open_at (number (child_bits n kind)) (fresh (number (child_bits n kind))) _ (address_in-fresh (number (child_bits n kind)))
            (record_of-new t s (address_in n) n e kind may)
            (rw (child_of-given may) at (inner-child kind inner (ap refusal_of (child_of-given may)) k));
        others = λ x m ne r. record_of_other t s (address_in n) n e kind may x (λ q. ne (sym q)) (in_tree-record_of x m t r) ∙ r;
        new = is_new_lem t s (address_in n) n e kind may;
      }

      tree-given : (may : MayGive n kind)
          → (ask child_of t (request (address_in n) kind)).tree
          ≡ replaced (address_in n) (raised kind n) t ++ (fresh (number (child_bits n kind)) ∷ [])
      tree-given may =
          ask-given child_of t (address_in n) kind n e (ap refusal_of (child_of-given may))
          ∙ ap (λ (g : Given). replaced (address_in n) g.node t ++ (fresh (child_in g) ∷ [])) (child_of-given may)

      tree-refused : child_of n kind ≡ refuse_child 3 n → (ask child_of t (request (address_in n) kind)).tree ≡ t
      unfolding refuse_child
      tree-refused r =
          ask-refused child_of t (address_in n) kind n e (λ z. omega (arith, ap refusal_of r))
          ∙ ap (λ (g : Given). replaced (address_in n) g.node t) r ∙ replaced-record_of (address_in n) n t e

      -- the answer is not 1
      heard : (child_of n kind).refusal ≡ 1 → ⊥
      heard z = ⊎_elim (λ three. omega arith) (λ done. omega arith) (inner-refusal kind inner)

    -- nobody has the address 0
    module _ (z : address_in n ≡ 0) where
      bad : child_of n kind ≡ refuse_child 1 n
      bad = child_of-bad n kind (is_good-zero n z)

      nobody-there : record_of (address_in n) t ≡ absent
      nobody-there = record_of-absent (address_in n) t (λ i. no_zero (rw z at i))

    pub asked : Open n t → Asked n kind t (child_of n kind) (ask child_of t (request (address_in n) kind)).tree
    asked (stands e inner) =
        ⊎_elim
        (λ (may : MayGive n kind). rw (tree-given e inner may, child_of-given may) (asked-given e inner may))
        (λ (r : child_of n kind ≡ refuse_child 3 n). rw (tree-refused e inner r, r) (asked-refused n kind 3 (stands e inner)))
        (inner-gives kind inner)
    asked (refused z) = rw (ask-nobody child_of t (address_in n) kind (nobody-there z), bad z) (asked-refused n kind 1 (refused z))

    pub replies-asked : Open n t → (ask child_of t (request (address_in n) kind)).replies ≡ reply_of (child_of n kind) ∷ []
    unfolding reply_of refuse_child
    replies-asked (stands e inner) =
        replies-standing child_of t (address_in n) kind n e ∙ rw (ne_eqb (child_of n kind).refusal 1 (heard e inner))
    replies-asked (refused z) =
        replies-absent child_of t (address_in n) kind (nobody-there z) ∙ ap (λ (g : Given). reply_of g ∷ []) (sym (bad z))
