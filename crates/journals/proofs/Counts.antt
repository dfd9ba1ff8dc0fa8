-- The children among the addresses of a grown tree are those that the records count: the bare root has none, a child given is one more of its
-- kind among the addresses and in the record of the node that is its parent, and in no other, and a setting leaves addresses and counts. Assumes
-- nothing.
use mathlib.Core.Path.{◌≡◌, refl, sym, ap, ap₂, subst, ◌∙◌}
use mathlib.Core.Logic.{◌⊎◌, inl, inr, ⊎_elim}
use mathlib.Core.List.Memᴰ
use mathlib.Core.List.{List, [], ◌∷◌, ◌++◌}
use Prim.Native.Nat.{ℕ, suc, ◌+◌}
use native.Mathlib.Decide.{ℕ_discrete}
use native.Mathlib.Omega.{arith}
use Rattle.address.specs.Bits.{number, root}
use Rattle.address.specs.Steps.{child, steps}
use Rattle.address.specs.Address.{parent}
use Rattle.address.specs.Numbers.{IsAddress}
use Rattle.address.specs.declared.Kind.{Kind}
use Rattle.address.proofs.Answers.{parent-small}
use Rattle.node.specs.Node.{address_in, fresh, count, raised, child_bits, refuse_child, child_of, set_limit}
use Rattle.node.specs.declared.Node.{Node}
use Rattle.node.specs.Node.{Given}
use Rattle.node.proofs.Children.{address_in-fresh, count-fresh, address_in-raised, count-raised, count-raised_other}
use Rattle.node.proofs.Children.{MayGive, child_of-cases, child_of-given, steps-child, address-child, parent-child}
use Rattle.node.proofs.Settings.{sets_limits}
use Rattle.tree.specs.Tree.{Request, request, Event, asking, setting, Tree, bare_root, Record, standing, absent, record_of, replaced}
use Rattle.tree.specs.Tree.{ask, happen, grow, grown, addresses, InTree}
use Rattle.tree.proofs.Sound.{Sound}
use Rattle.tree.proofs.Trees.{in_tree-record_of, address_in-record_of, replaced-record_of, addresses-replaced, addresses-append}
use Rattle.tree.proofs.Trees.{record_of-replaced, record_of-replaced_other}
use Rattle.tree.proofs.Growth.{is_new_lem, Stands, is_asked, is_new, is_other, records, record_of-bare_root, in_tree-bare_root, sound-bare_root, sound-happen}
use Rattle.tree.proofs.Runs.{ask-given, ask-refused, ask-nobody, set-standing, set-nobody}
use Rattle.journal.specs.Record.{children}
use Rattle.journals.proofs.Counting.{same_kind, children-append, children-none, children_same, children_other}

-- every record counts the children that its node has among the addresses
abbrev pub Counted : Tree → Type 0
Counted t = (a : ℕ) (n : Node) (kind : Kind) → record_of a t ≡ standing n → children kind a (addresses t) ≡ count kind n

-- what is not in the tree is nobody's parent there
no_child : (t : Tree) → Sound t → (a : ℕ) → (InTree a t → ⊥) → IsAddress a → (w : ℕ) → InTree w t → parent w ≡ a → ⊥
no_child t s a out h w i e = go (ℕ_discrete w root)
  where
    go : Dec (w ≡ root) → ⊥
    go (yes z) = omega (arith, h.some, ap parent z, parent-small {n = root} (omega arith))
    go (no ne) = out (Memᴰ.cast (sym e) (s.parents w i ne))

counted-bare_root : Counted bare_root
counted-bare_root a n kind e =
    let fresh-root : count kind n ≡ 0 = ap (count kind) (record_of-bare_root a n e) ∙ count-fresh kind root in
    children-none kind a (addresses bare_root) (λ w i p. no_parent w i p) ∙ sym fresh-root
  where
    no_parent : (w : ℕ) → InTree w bare_root → parent w ≡ a → ⊥
    no_parent w i p =
        omega (
          arith,
          in_tree-bare_root a (in_tree-record_of a n bare_root e),
          ap parent (in_tree-bare_root w i),
          parent-small {n = root} (omega arith),
        )

-- ---- one child more

module _ (t : Tree) (s : Sound t) (counted : Counted t) (a : ℕ) (n : Node) (stands : record_of a t ≡ standing n) (kind : Kind)
    (may : MayGive n kind) where
  abbrev new : ℕ
  new = number (child_bits n kind)

  abbrev after : Tree
  after = replaced a (raised kind n) t ++ (fresh new ∷ [])

  own : address_in n ≡ a
  own = address_in-record_of a n t stands

  address_own : IsAddress (address_in n)
  address_own = rw own (s.address a (in_tree-record_of a n t stands))

  parent-new : parent new ≡ a
  parent-new = parent-child may address_own ∙ own

  address-new : IsAddress new
  address-new = address-child may address_own

  steps-new : steps new ≡ child kind (count kind n) ∷ steps (address_in n)
  steps-new = steps-child may address_own

  addresses-after : addresses after ≡ addresses t ++ (new ∷ [])
  unfolding addresses
  addresses-after =
      addresses-append (replaced a (raised kind n) t) (fresh new ∷ [])
      ∙ ap₂ (λ (l : List ℕ) (d : ℕ). l ++ (d ∷ [])) (addresses-replaced (raised kind n) (address_in-raised kind n ∙ own) t) (address_in-fresh new)

  children-after : (other : Kind) (b : ℕ) → children other b (addresses after) ≡ children other b (addresses t) + children other b (new ∷ [])
  children-after other b = ap (children other b) addresses-after ∙ children-append other b (addresses t) (new ∷ [])

  -- it is a child of the node asked, and of no other
  children-new : (other : Kind) → count other n + children other a (new ∷ []) ≡ count other (raised kind n)
  children-new other = go (same_kind kind other)
    where
      go : (kind ≡ other) ⊎ (kind ≡ other → ⊥) → count other n + children other a (new ∷ []) ≡ count other (raised kind n)
      go (inl q) =
          let one = children_same a new address-new parent-new kind (count kind n) (steps (address_in n)) steps-new in
          subst (λ (k : Kind). count k n + children k a (new ∷ []) ≡ count k (raised kind n)) q (omega (arith, count-raised kind n))
      go (inr ne) =
          let none = children_other a new address-new parent-new kind (count kind n) (steps (address_in n)) steps-new other ne in
          omega (arith, count-raised_other kind other n ne)

  children-elsewhere : (other : Kind) (b : ℕ) → (a ≡ b → ⊥) → children other b (new ∷ []) ≡ 0
  children-elsewhere other b ne =
      children-none other b (new ∷ []) (λ w i e. ne (sym parent-new ∙ ap parent (sym (Memᴰ.eq_of_singleton i)) ∙ e))

  counted-stands : (b : ℕ) (m : Node) (other : Kind) → Stands t s a n stands kind may b m → children other b (addresses after) ≡ count other m
  counted-stands b m other (is_asked q e) =
      ap (λ (x : ℕ). children other x (addresses after)) q ∙ children-after other a
      ∙ ap (λ (k : ℕ). k + children other a (new ∷ [])) (counted a n other stands) ∙ children-new other ∙ ap (count other) (sym e)
  counted-stands b m other (is_new q e) =
      let out = is_new_lem t s a n stands kind may in
      let before : children other new (addresses t) ≡ 0 = children-none other new (addresses t) (no_child t s new out address-new) in
      let itself : children other new (new ∷ []) ≡ 0 =
      children-elsewhere other new (λ z. out (Memᴰ.cast (sym z) (in_tree-record_of a n t stands))) in
      ap (λ (x : ℕ). children other x (addresses after)) q ∙ children-after other new
      ∙ omega (arith, ap (count other) e, count-fresh other new)
  counted-stands b m other (is_other ne e) =
      children-after other b ∙ omega (arith, counted b m other e, children-elsewhere other b ne)

  counted-given : Counted after
  counted-given b m other e = counted-stands b m other (records t s a n stands kind may b m e)

-- ---- requests

module _ (t : Tree) (a : ℕ) (n : Node) (stands : record_of a t ≡ standing n) (kind : Kind) where
  ask-may : MayGive n kind
      → (ask child_of t (request a kind)).tree ≡ replaced a (raised kind n) t ++ (fresh (number (child_bits n kind)) ∷ [])
  ask-may may =
      ask-given child_of t a kind n stands (ap (λ (g : Given). g.refusal) (child_of-given may))
      ∙ ap (λ (g : Given). replaced a g.node t ++ (fresh g.child.number ∷ [])) (child_of-given may)

  ask-refuses : (k : ℕ) → child_of n kind ≡ refuse_child (suc k) n → (ask child_of t (request a kind)).tree ≡ t
  unfolding refuse_child
  ask-refuses k r =
      ask-refused child_of t a kind n stands (λ z. omega (arith, ap (λ (g : Given). g.refusal) r))
      ∙ ap (λ (g : Given). replaced a g.node t) r ∙ replaced-record_of a n t stands

-- what a tree has it has after a request, if also with a child more
pub ask-keeps : (P : Tree → Type 0) (t : Tree) (r : Request) → P t
    → ((a : ℕ) (n : Node) → record_of a t ≡ standing n → (kind : Kind) → MayGive n kind
    → P (replaced a (raised kind n) t ++ (fresh (number (child_bits n kind)) ∷ [])))
    → P (ask child_of t r).tree
ask-keeps P t (request a kind) p given = go (record_of a t) refl
  where
    go : (x : Record) → record_of a t ≡ x → P (ask child_of t (request a kind)).tree
    go (standing n) e =
        ⊎_elim
        (λ (may : MayGive n kind). subst P (sym (ask-may t a n e kind may)) (given a n e kind may))
        (λ (r : (k : ℕ) × (child_of n kind ≡ refuse_child (suc k) n)). subst P (sym (ask-refuses t a n e kind r.0 r.1)) p)
        (child_of-cases n kind)
    go absent e = subst P (sym (ask-nobody child_of t a kind e)) p

-- ---- settings

-- another record of the same address and counts
counted-replaced : (t : Tree) → Counted t → (a : ℕ) (n m : Node) → record_of a t ≡ standing n → address_in m ≡ a
    → ((kind : Kind) → count kind m ≡ count kind n) → Counted (replaced a m t)
counted-replaced t counted a n m stands same counts b o kind e = ap (children kind b) (addresses-replaced m same t) ∙ go (ℕ_discrete a b)
  where
    go : Dec (a ≡ b) → children kind b (addresses t) ≡ count kind o
    go (yes q) =
        let handed : o ≡ m = cc (record_of-replaced m same t (in_tree-record_of a n t stands)) in
        counted b n kind (ap (λ (x : ℕ). record_of x t) (sym q) ∙ stands) ∙ sym (counts kind) ∙ ap (count kind) (sym handed)
    go (no ne) = counted b o kind (sym (record_of-replaced_other m same ne t) ∙ e)

counted-set : (t : Tree) (a : ℕ) (kind : Kind) (k : ℕ) → Counted t → Counted (happen child_of set_limit t (setting a kind k)).tree
counted-set t a kind k counted = go (record_of a t) refl
  where
    go : (x : Record) → record_of a t ≡ x → Counted (happen child_of set_limit t (setting a kind k)).tree
    go (standing n) e =
        subst Counted (sym (set-standing child_of set_limit t a kind k n e))
        (counted-replaced t counted a n (set_limit n kind k).node e (sets_limits.keeps_address n kind k ∙ address_in-record_of a n t e)
        (sets_limits.keeps_counts n kind k))
    go absent e = subst Counted (sym (set-nobody child_of set_limit t a kind k e)) counted

-- ---- a list of both

counted-happen : (t : Tree) (e : Event) → Sound t → Counted t → Counted (happen child_of set_limit t e).tree
counted-happen t (asking r) s c = unfold happen in ask-keeps Counted t r c (counted-given t s c)
counted-happen t (setting a kind k) s c = counted-set t a kind k c

counted-grow : (t : Tree) (es : List Event) → Sound t → Counted t → Counted (grow child_of set_limit t es).tree
unfolding grow
counted-grow t [] s c = c
counted-grow t (e ∷ es) s c = counted-grow (happen child_of set_limit t e).tree es (sound-happen t e s) (counted-happen t e s c)

pub counted-grown : (es : List Event) → Counted (grown child_of set_limit es)
unfolding grown
counted-grown es = counted-grow bare_root es sound-bare_root counted-bare_root
