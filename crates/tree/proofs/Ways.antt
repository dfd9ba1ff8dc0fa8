-- The ways from a node, for any rule for the next hop. There is one record of a node and one answer, so whatever is a way from it begins as
-- that answer says.
use mathlib.Core.Path.{◌≡◌, refl, ap, ◌∙◌}
use mathlib.Core.List.{List, [], ◌∷◌}
use Prim.Native.Nat.{ℕ}
use Rattle.node.specs.declared.Node.{Node}
use Rattle.tree.specs.Tree.{Tree, standing, record_of, InTree}
use Rattle.tree.specs.Way.{HopRule, Fate, delivered_to, stopped_with, passed_to, fate, End, delivered_at, stopped_at, Way, delivered, stopped, lost, onward, TheWay}

module _ (hop : HopRule) (t : Tree) (p : List ℕ) where
  -- the ways from a node whose answer does this to the packet
  abbrev Ways : ℕ → Fate → List ℕ → End → Type 0
  Ways a (delivered_to x) w e = (w ≡ a ∷ []) × (e ≡ delivered_at a x)
  Ways a (stopped_with k) w e = (w ≡ a ∷ []) × (e ≡ stopped_at k a)
  Ways a (passed_to x) w e = InTree x t → (v : List ℕ) × Way hop t p x v e × (w ≡ a ∷ v)

  ways : {a : ℕ} {n : Node} {w : List ℕ} {e : End} → record_of a t ≡ standing n → Way hop t p a w e → Ways a (fate (hop n p)) w e
  ways {n} s (delivered {x = x} r g) = let same : fate (hop n p) ≡ delivered_to x = cc in rw same (refl, refl)
  ways {n} s (stopped {k = k} r g) = let same : fate (hop n p) ≡ stopped_with k = cc in rw same (refl, refl)
  ways {n} s (lost {x = x} r g out) = let same : fate (hop n p) ≡ passed_to x = cc in rw same (λ m. absurd (out m))
  ways {n} s (onward {x = x} {w = v} r g m w) = let same : fate (hop n p) ≡ passed_to x = cc in rw same (λ m. (v, w, refl))

  module _ {a : ℕ} {n : Node} (r : record_of a t ≡ standing n) where
    pub the_way-delivered : {x : ℕ} → fate (hop n p) ≡ delivered_to x → TheWay hop t p a (a ∷ []) (delivered_at a x)
    the_way-delivered g = record { way = delivered r g; only = λ v f w. rw g at (ways r w) }

    pub the_way-stopped : {k : ℕ} → fate (hop n p) ≡ stopped_with k → TheWay hop t p a (a ∷ []) (stopped_at k a)
    the_way-stopped g = record { way = stopped r g; only = λ v f w. rw g at (ways r w) }

    -- where the packet is passed to a node of the tree, the way goes on there
    pub way-passed : {x : ℕ} {w : List ℕ} {e : End} → fate (hop n p) ≡ passed_to x → InTree x t → Way hop t p a w e
        → (v : List ℕ) × Way hop t p x v e × (w ≡ a ∷ v)
    way-passed {x} {w} {e} g m u = let goes : Ways a (passed_to x) w e = rw g at (ways r u) in goes m

    pub the_way-onward : {x : ℕ} {w : List ℕ} {e : End} → fate (hop n p) ≡ passed_to x → InTree x t → TheWay hop t p x w e
        → TheWay hop t p a (a ∷ w) e
    the_way-onward {x} {w} {e} g m there = record {
      way = onward r g m there.way;
      only = λ v f u.
          let (rest, on, first) = way-passed g m u in
          let same = there.only rest f on in
          (first ∙ ap (λ (l : List ℕ). a ∷ l) same.0, same.1);
    }
