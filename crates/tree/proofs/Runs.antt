-- One request or setting more at the end of a list, case by case, and what those of a list are replied. Assumes nothing.
use Prim.Native.Nat.{ℕ}
use mathlib.Core.Path.{◌≡◌, refl, sym, ap, ◌∙◌}
use mathlib.Core.List.{List, [], ◌∷◌, ◌++◌, append_assoc}
use borrow.Author.Tests.{eq-eqb, ne_eqb}
use Rattle.address.specs.declared.Kind.{Kind}
use Rattle.node.specs.Node.{fresh}
use Rattle.node.specs.declared.Node.{Node}
use Rattle.tree.specs.Tree.{ChildRule, SettingRule, request, Event, setting, Tree, standing, absent, record_of, replaced, Reply, replied, limited, nobody}
use Rattle.tree.specs.Tree.{with_child, answered, asked_of, settled, setting_of, ask, happen, grow, grown}

module _ (child : ChildRule) (set : SettingRule) where
  pub grow-append : (t : Tree) (es fs : List Event) → (grow child set t (es ++ fs)).tree ≡ (grow child set (grow child set t es).tree fs).tree
  unfolding grow
  grow-append t [] fs = refl
  grow-append t (e ∷ es) fs = grow-append (happen child set t e).tree es fs

  pub replies-append : (t : Tree) (es fs : List Event)
      → (grow child set t (es ++ fs)).replies ≡ (grow child set t es).replies ++ (grow child set (grow child set t es).tree fs).replies
  unfolding grow
  replies-append t [] fs = refl
  replies-append t (e ∷ es) fs =
      ap (λ (l : List Reply). (happen child set t e).replies ++ l) (replies-append (happen child set t e).tree es fs)
      ∙ sym (append_assoc (happen child set t e).replies (grow child set (happen child set t e).tree es).replies _)

  pub grown_snoc : (es : List Event) (e : Event) → grown child set (es ++ (e ∷ [])) ≡ (happen child set (grown child set es) e).tree
  unfolding grown grow
  grown_snoc es e = grow-append _ es (e ∷ [])

module _ (rule : ChildRule) (t : Tree) (a : ℕ) (kind : Kind) where
  pub ask-given : (n : Node) → record_of a t ≡ standing n → (rule n kind).refusal ≡ 0
      → (ask rule t (request a kind)).tree ≡ replaced a (rule n kind).node t ++ (fresh (rule n kind).child.number ∷ [])
  unfolding ask asked_of answered with_child
  ask-given n e z = rw (e, eq-eqb (rule n kind).refusal 0 z)

  pub ask-refused : (n : Node) → record_of a t ≡ standing n → ((rule n kind).refusal ≡ 0 → ⊥)
      → (ask rule t (request a kind)).tree ≡ replaced a (rule n kind).node t
  unfolding ask asked_of answered with_child
  ask-refused n e z = rw (e, ne_eqb (rule n kind).refusal 0 z)

  pub ask-nobody : record_of a t ≡ absent → (ask rule t (request a kind)).tree ≡ t
  unfolding ask asked_of
  ask-nobody e = rw e

  pub replies-standing : (n : Node) → record_of a t ≡ standing n
      → (ask rule t (request a kind)).replies ≡ replied (rule n kind).refusal (rule n kind).child.number ∷ []
  unfolding ask asked_of answered
  replies-standing n e = rw e

  pub replies-absent : record_of a t ≡ absent → (ask rule t (request a kind)).replies ≡ nobody ∷ []
  unfolding ask asked_of
  replies-absent e = rw e

module _ (child : ChildRule) (set : SettingRule) (t : Tree) (a : ℕ) (kind : Kind) (k : ℕ) where
  pub set-standing : (n : Node) → record_of a t ≡ standing n → (happen child set t (setting a kind k)).tree ≡ replaced a (set n kind k).node t
  unfolding happen setting_of settled
  set-standing n e = rw e

  pub set-nobody : record_of a t ≡ absent → (happen child set t (setting a kind k)).tree ≡ t
  unfolding happen setting_of
  set-nobody e = rw e

  pub set-replies : (n : Node) → record_of a t ≡ standing n → (happen child set t (setting a kind k)).replies ≡ limited (set n kind k).refusal ∷ []
  unfolding happen setting_of settled
  set-replies n e = rw e

  pub set-replies-nobody : record_of a t ≡ absent → (happen child set t (setting a kind k)).replies ≡ nobody ∷ []
  unfolding happen setting_of
  set-replies-nobody e = rw e
