-- Every grown tree is sound. The bare root is, and a request keeps a sound tree sound: refused or asked of nobody it changes nothing, and a
-- child given is the one step that the count raised makes room for, so it is new, hangs from the node asked, and has no children itself. A setting
-- hands back a good record of the same address and counts, and soundness asks no more of one.
use Prim.Native.Nat.{ℕ, suc, ◌<◌}
use mathlib.Core.Path.{◌≡◌, refl, sym, ap, ◌∙◌, subst}
use mathlib.Core.Bool.{true}
use mathlib.Core.Logic.{◌⊎◌, inl, inr, ⊎_elim}
use mathlib.Core.List.Memᴰ
use mathlib.Core.List.{List, [], ◌∷◌, ◌++◌}
use native.Mathlib.Decide.{ℕ_discrete}
use native.Mathlib.Omega.{arith}
use lib.ListN.{length}
use borrow.Author.Tests.{ne_eqb}
use Rattle.address.specs.declared.Kind.{Kind}
use Rattle.address.specs.Bits.{number, root}
use Rattle.address.specs.Steps.{Step, child, steps}
use Rattle.address.specs.Address.{depth, above, parent}
use Rattle.address.specs.Numbers.{IsAddress}
use Rattle.address.proofs.Steps.{address_of-steps, depth_range}
use Rattle.address.proofs.Ancestors.{steps_injective}
use Rattle.node.specs.Node.{address_in, fresh, count, raised, is_good, child_bits, refuse_child, child_of, set_limit}
use Rattle.node.specs.declared.Node.{Node}
use Rattle.node.proofs.Children.{count-le-raised, lt-raised, address_in-fresh, count-fresh, address_in-raised, count-raised, is_good-fresh}
use Rattle.node.proofs.Children.{MayGive, child_of-cases, child_of-given, is_good-raised, steps-child, address-child, parent-child}
use Rattle.node.proofs.Settings.{sets_limits}
use Rattle.tree.specs.Tree.{ChildRule, SettingRule, Request, request, Event, asking, setting, Tree, bare_root, Record, standing, absent, record_of, replaced, with_child}
use Rattle.tree.specs.Tree.{answered, asked_of, settled, setting_of, ask, happen, grow, grown, addresses, InTree}
use Rattle.tree.proofs.Sound.{Sound}
use Rattle.tree.proofs.Trees.{in_tree-record_of, address_in-record_of, replaced-record_of, addresses-replaced, record_of-replaced}
use Rattle.tree.proofs.Trees.{record_of-replaced_other, in_tree-left, in_tree-right, in_tree-append, in_tree-single, in_tree-only, record_of-left}
use Rattle.tree.proofs.Trees.{record_of-right, record_of-single, all_differ-append}

-- ---- steps, counts and records

address-root : IsAddress root
address-root = record { some = omega arith; fits = omega arith }

-- what has a step is not the root
step-root : {d : ℕ} {s : Step} {up : List Step} → steps d ≡ s ∷ up → d ≡ root → ⊥
unfolding depth
step-root {d} e z = omega (arith, ap length e, ap depth z, depth_range.least)

parent-step : (d : ℕ) {x : ℕ} {s : Step} → IsAddress x → steps d ≡ s ∷ steps x → parent d ≡ x
unfolding parent above
parent-step d a e = rw e (address_of-steps a)

-- ---- the bare root

pub in_tree-bare_root : (a : ℕ) → InTree a bare_root → a ≡ root
unfolding bare_root
in_tree-bare_root a i = sym (in_tree-only (fresh root) i) ∙ address_in-fresh root

pub record_of-bare_root : (a : ℕ) (n : Node) → record_of a bare_root ≡ standing n → n ≡ fresh root
unfolding bare_root
record_of-bare_root a n e = cc (record_of-single (fresh root) (address_in-fresh root ∙ sym (in_tree-bare_root a (in_tree-record_of a n bare_root e))))

pub sound-bare_root : Sound bare_root
unfolding bare_root addresses
sound-bare_root = record {
  rooted = in_tree-single (fresh root) (address_in-fresh root);
  differ = (Memᴰ.not-nil, tt);
  address = λ a i. subst IsAddress (sym (in_tree-bare_root a i)) address-root;
  good = λ a n e. rw (record_of-bare_root a n e) (is_good-fresh address-root);
  parents = λ a i ne. absurd (ne (in_tree-bare_root a i));
  given = λ a n kind i e l. absurd (omega (arith, ap (count kind) (record_of-bare_root a n e), count-fresh kind root));
  counted = λ a d n kind i e in_d s. absurd (step-root s (in_tree-bare_root d in_d));
}

-- ---- one child more

module _ (t : Tree) (s : Sound t) (a : ℕ) (n : Node) (stands : record_of a t ≡ standing n) (kind : Kind) (may : MayGive n kind) where
  -- the child's address, the record handed back and the tree after it
  abbrev new : ℕ
  new = number (child_bits n kind)

  abbrev handed : Node
  handed = raised kind n

  abbrev after : Tree
  after = replaced a handed t ++ (fresh new ∷ [])

  asked : InTree a t
  asked = in_tree-record_of a n t stands

  own : address_in n ≡ a
  own = address_in-record_of a n t stands

  same : address_in handed ≡ a
  same = address_in-raised kind n ∙ own

  address_own : IsAddress (address_in n)
  address_own = rw own (s.address a asked)

  address-new : IsAddress new
  address-new = address-child may address_own

  steps-new : steps new ≡ child kind (count kind n) ∷ steps a
  steps-new = steps-child may address_own ∙ ap (λ (k : ℕ). child kind (count kind n) ∷ steps k) own

  parent-new : parent new ≡ a
  parent-new = parent-child may address_own ∙ own

  pub is_new_lem : InTree new t → ⊥
  is_new_lem i = omega (arith, s.counted a new n kind (count kind n) stands i steps-new)

  -- the nodes after it

  old : (b : ℕ) → InTree b t → InTree b after
  old b i = in_tree-left (replaced a handed t) (fresh new ∷ []) (rw (addresses-replaced handed same t) i)

  born : InTree new after
  born = in_tree-right (replaced a handed t) (fresh new ∷ []) (in_tree-single (fresh new) (address_in-fresh new))

  nodes : (b : ℕ) → InTree b after → InTree b t ⊎ (b ≡ new)
  nodes b i =
      ⊎_elim (λ i. inl (rw (addresses-replaced handed same t) at i)) (λ i. inr (sym (in_tree-only (fresh new) i) ∙ address_in-fresh new))
      (in_tree-append (replaced a handed t) (fresh new ∷ []) i)

  -- the records after it: the one handed back, the child's, and those of the others, as they were

  kept : (b : ℕ) → InTree b t → record_of b after ≡ record_of b (replaced a handed t)
  kept b i = record_of-left (replaced a handed t) (fresh new ∷ []) (rw (addresses-replaced handed same t) i)

  pub record_of-asked : record_of a after ≡ standing handed
  record_of-asked = kept a asked ∙ record_of-replaced handed same t asked

  pub record_of-new : record_of new after ≡ standing (fresh new)
  record_of-new =
      record_of-right (replaced a handed t) (fresh new ∷ []) (λ i. is_new_lem (rw (addresses-replaced handed same t) at i))
      ∙ record_of-single (fresh new) (address_in-fresh new)

  pub record_of_other : (b : ℕ) → (a ≡ b → ⊥) → InTree b t → record_of b after ≡ record_of b t
  record_of_other b ne i = kept b i ∙ record_of-replaced_other handed same ne t

  pub data Stands (b : ℕ) (m : Node) : Type 0 where
    is_asked : b ≡ a → m ≡ handed → Stands b m
    is_new : b ≡ new → m ≡ fresh new → Stands b m
    is_other : (a ≡ b → ⊥) → record_of b t ≡ standing m → Stands b m

  pub records : (b : ℕ) (m : Node) → record_of b after ≡ standing m → Stands b m
  records b m e = ⊎_elim (λ i. there i (ℕ_discrete a b)) (λ q. is_new q (cc record_of-new)) (nodes b (in_tree-record_of b m after e))
    where
      there : InTree b t → Dec (a ≡ b) → Stands b m
      there i (yes q) = is_asked (sym q) (cc record_of-asked)
      there i (no ne) = is_other ne (sym (record_of_other b ne i) ∙ e)

  given-after : (b : ℕ) (m : Node) (other : Kind) (j : ℕ) → Stands b m → j < count other m
      → (d : ℕ) × InTree d after × (steps d ≡ child other j ∷ steps b)
  given-after b m other j (is_asked q e) l =
      ⊎_elim
      (λ less. let d = s.given a n other j stands less in (d.0, old d.0 d.1, d.2 ∙ (cc)))
      (λ one. (new, born, cc steps-new))
      (lt-raised kind other n j (rw e at l))
  given-after b m other j (is_new q e) l = absurd (omega (arith, ap (count other) e, count-fresh other new))
  given-after b m other j (is_other ne e) l = let d = s.given b m other j e l in (d.0, old d.0 d.1, d.2)

  counted-after : (b d : ℕ) (m : Node) (other : Kind) (j : ℕ) → Stands b m → InTree d t ⊎ (d ≡ new) → steps d ≡ child other j ∷ steps b
      → j < count other m
  counted-after b d m other j (is_asked q e) (inl i) below =
      omega (arith, ap (count other) e, s.counted a d n other j stands i (below ∙ (cc)), count-le-raised kind other n)
  counted-after b d m other j (is_asked q e) (inr z) below =
      let index : j ≡ count kind n = cc steps-new in
      let raise : count other m ≡ count kind handed = cc steps-new in
      omega (arith, count-raised kind n)
  counted-after b d m other j (is_new q e) (inl i) below =
      let below_new : steps d ≡ child other j ∷ steps new = cc in
      absurd (is_new_lem (rw (parent-step d address-new below_new) at (s.parents d i (step-root below))))
  counted-after b d m other j (is_new q e) (inr z) below =
      let level : steps d ≡ steps b = cc in
      absurd (omega (arith, ap length level, ap length below))
  counted-after b d m other j (is_other ne e) (inl i) below = s.counted b d m other j e i below
  counted-after b d m other j (is_other ne e) (inr z) below =
      absurd (ne (steps_injective (s.address a asked) (s.address b (in_tree-record_of b m t e)) (cc steps-new)))

  good-after : (b : ℕ) (m : Node) → Stands b m → is_good m ≡ true
  good-after b m (is_asked q e) = rw e (is_good-raised may)
  good-after b m (is_new q e) = rw e (is_good-fresh address-new)
  good-after b m (is_other ne e) = s.good b m e

  sound-given : Sound after
  sound-given = record {
    rooted = old root s.rooted;
    differ = all_differ-append (replaced a handed t) (fresh new) (rw (addresses-replaced handed same t) s.differ)
        (λ i. is_new_lem (rw (address_in-fresh new, addresses-replaced handed same t) at i));
    address = λ b i. ⊎_elim (s.address b) (λ q. rw q address-new) (nodes b i);
    good = λ b m e. good-after b m (records b m e);
    parents = λ b i ne. ⊎_elim (λ i. old (parent b) (s.parents b i ne)) (λ (q : b ≡ new). old (parent b) (rw (q, parent-new) asked)) (nodes b i);
    given = λ b m other j e l. given-after b m other j (records b m e) l;
    counted = λ b d m other j e i below. counted-after b d m other j (records b m e) (nodes d i) below;
  }

-- ---- another record of the same address and counts

module _ (t : Tree) (s : Sound t) (a : ℕ) (n m : Node) (stands : record_of a t ≡ standing n)
    (same : address_in m ≡ a) (good : is_good m ≡ true) (counts : (kind : Kind) → count kind m ≡ count kind n) where
  nodes-kept : (b : ℕ) → InTree b (replaced a m t) → InTree b t
  nodes-kept b i = rw (addresses-replaced m same t) at i

  -- a node's record is the one handed back, or the one that stood there
  records-kept : (b : ℕ) (o : Node) → record_of b (replaced a m t) ≡ standing o → ((b ≡ a) × (o ≡ m)) ⊎ (record_of b t ≡ standing o)
  records-kept b o e = go (ℕ_discrete a b)
    where
      go : Dec (a ≡ b) → ((b ≡ a) × (o ≡ m)) ⊎ (record_of b t ≡ standing o)
      go (yes q) = inl (sym q, cc (record_of-replaced m same t (in_tree-record_of a n t stands)))
      go (no ne) = inr (sym (record_of-replaced_other m same ne t) ∙ e)

  -- so for every record there is one that stood there, of the same counts
  stood : (b : ℕ) (o : Node) → record_of b (replaced a m t) ≡ standing o
      → (old : Node) × (record_of b t ≡ standing old) × ((kind : Kind) → count kind o ≡ count kind old)
  stood b o e =
      ⊎_elim (λ (q : (b ≡ a) × (o ≡ m)). (n, rw q.0 stands, λ kind. rw q.1 (counts kind))) (λ old. (o, old, λ kind. refl)) (records-kept b o e)

  pub sound-replaced : Sound (replaced a m t)
  sound-replaced = record {
    rooted = rw (addresses-replaced m same t) s.rooted;
    differ = rw (addresses-replaced m same t) s.differ;
    address = λ b i. s.address b (nodes-kept b i);
    good = λ b o e. ⊎_elim (λ (q : (b ≡ a) × (o ≡ m)). rw q.1 good) (s.good b o) (records-kept b o e);
    parents = λ b i ne. rw (addresses-replaced m same t) (s.parents b (nodes-kept b i) ne);
    given = λ b o kind i e l.
        let (old, there, same-counts) = stood b o e in
        let (d, j, cut) = s.given b old kind i there (omega (arith, same-counts kind)) in
        (d, rw (addresses-replaced m same t) j, cut);
    counted = λ b d o kind i e j below.
        let (old, there, same-counts) = stood b o e in
        omega (arith, same-counts kind, s.counted b d old kind i there (nodes-kept d j) below);
  }

-- ---- requests and settings

-- a refused one changes nothing
pub answered-refused : (t : Tree) (a : ℕ) (n : Node) → record_of a t ≡ standing n → (k : ℕ) → (answered a (refuse_child (suc k) n) t).tree ≡ t
unfolding answered with_child refuse_child
answered-refused t a n stands k = rw (ne_eqb (suc k) 0 (λ z. omega arith)) (replaced-record_of a n t stands)

pub sound-answered : (t : Tree) → Sound t → (a : ℕ) (n : Node) → record_of a t ≡ standing n → (kind : Kind)
    → Sound (answered a (child_of n kind) t).tree
sound-answered t s a n stands kind =
    ⊎_elim (λ (may : MayGive n kind). rw (child_of-given may) (unfold answered with_child in sound-given t s a n stands kind may))
    (λ (refusal : (k : ℕ) × (child_of n kind ≡ refuse_child (suc k) n)). rw (refusal.1, answered-refused t a n stands refusal.0) s)
    (child_of-cases n kind)

pub sound-ask : (t : Tree) (r : Request) → Sound t → Sound (ask child_of t r).tree
unfolding ask
sound-ask t (request a kind) s = go (record_of a t) refl
  where
    go : (x : Record) → record_of a t ≡ x → Sound (asked_of child_of x a kind t).tree
    go (standing n) e = unfold asked_of in sound-answered t s a n e kind
    go absent e = unfold asked_of in s

pub sound-set : (t : Tree) (a : ℕ) (kind : Kind) (k : ℕ) → Sound t → Sound (setting_of set_limit (record_of a t) a kind k t).tree
sound-set t a kind k s = go (record_of a t) refl
  where
    go : (x : Record) → record_of a t ≡ x → Sound (setting_of set_limit x a kind k t).tree
    go (standing n) e = unfold setting_of settled in
        sound-replaced t s a n (set_limit n kind k).node e (sets_limits.keeps_address n kind k ∙ address_in-record_of a n t e)
        (sets_limits.keeps_good n kind k (s.good a n e)) (sets_limits.keeps_counts n kind k)
    go absent e = unfold setting_of in s

pub sound-happen : (t : Tree) (e : Event) → Sound t → Sound (happen child_of set_limit t e).tree
unfolding happen
sound-happen t (asking r) s = sound-ask t r s
sound-happen t (setting a kind k) s = sound-set t a kind k s

-- ---- lists

-- rules that keep a tree sound, event by event, do so in every list
module _ (child : ChildRule) (set : SettingRule) (each : (t : Tree) (e : Event) → Sound t → Sound (happen child set t e).tree) where
  sound_each : (t : Tree) (es : List Event) → Sound t → Sound (grow child set t es).tree
  unfolding grow
  sound_each t [] s = s
  sound_each t (e ∷ es) s = sound_each (happen child set t e).tree es (each t e s)

  pub sound-list : (es : List Event) → Sound (grown child set es)
  unfolding grown
  sound-list es = sound_each bare_root es sound-bare_root

pub sound-grow : (t : Tree) (es : List Event) → Sound t → Sound (grow child_of set_limit t es).tree
sound-grow = sound_each child_of set_limit sound-happen

pub sound-grown : (es : List Event) → Sound (grown child_of set_limit es)
sound-grown = sound-list child_of set_limit sound-happen
