-- The path in a sound tree: it goes up to parents and down to children that lead to its end (`Route`), and whoever is on the way to a node
-- of a sound tree is in it, so each of its steps is a link. Nothing is listed twice, as the route crate knows.
use mathlib.Core.Path.{◌≡◌, refl, sym, ap, ◌∙◌}
use mathlib.Core.Logic.{◌⊎◌, inl, inr}
use mathlib.Core.Bool.{Bool, true, false}
use mathlib.Core.List.Memᴰ
use mathlib.Core.List.{List, [], ◌∷◌, ◌++◌}
use Prim.Native.Nat.{ℕ}
use native.Mathlib.Omega.{arith}
use lib.ListN.{length}
use lib.Seq.{append_snoc}
use Rattle.address.specs.Bits.{root}
use Rattle.address.specs.Steps.{Step, steps, address_of}
use Rattle.address.specs.Address.{depth, parent}
use Rattle.address.specs.Numbers.{IsAddress}
use Rattle.address.specs.Ancestors.{AncestorOrSelf}
use Rattle.address.proofs.Steps.{address_of-steps, depth_range}
use Rattle.address.proofs.Ancestors.{steps_injective}
use Rattle.route.specs.Path.{is_ancestor_or_self, path}
use Rattle.route.proofs.Turning.{ancestor_or_self_next, is_ancestor_or_self_true, is_ancestor_or_self_false}
use Rattle.route.proofs.PathLaws.{address_ancestor_or_self, steps_ancestor_or_self, depth-steps, off_root, address-parent, steps-parent, length-path-pos, path_self, path_up, path-down, path-once}
use Rattle.tree.specs.Tree.{Tree, InTree, AllDiffer, Walk, here, along}
use Rattle.tree.proofs.Sound.{Sound}

-- ---- the path, one node at a time

-- the path to d, as it is made: up from what is not on the way to d, down from what is
pub data Route (d : ℕ) : ℕ → List ℕ → Type 0 where
  arrived : {a : ℕ} → a ≡ d → Route d a (a ∷ [])
  up : {a : ℕ} {w : List ℕ} → (AncestorOrSelf (steps a) (steps d) → ⊥) → Route d (parent a) w → Route d a (a ∷ w)
  down : {a : ℕ} {w : List ℕ} (s : Step) → AncestorOrSelf (s ∷ steps a) (steps d) → Route d (address_of (s ∷ steps a)) w → Route d a (a ∷ w)

route_of : {a d : ℕ} → IsAddress a → IsAddress d → (w : List ℕ) → path a d ≡ w → Route d a w
route_of {a} {d} h b [] e = absurd (omega (arith, length-path-pos a d, ap length e))
route_of {a} {d} h b (x ∷ w) e = go (is_ancestor_or_self (steps a) (steps d)) refl (λ c k. route_of k b w)
  where
    below : (steps a ≡ steps d) ⊎ ((s : Step) × AncestorOrSelf (s ∷ steps a) (steps d)) → ((c : ℕ) → IsAddress c → path c d ≡ w → Route d c w)
        → Route d a (x ∷ w)
    below (inl f) rest =
        let same = steps_injective h b f in
        let one : x ∷ w ≡ a ∷ [] = sym e ∙ ap (path a) (sym same) ∙ path_self h in
        rw one (arrived same)
    below (inr (s, on)) rest =
        let f = path-down h b on.0 s on.1 in
        let first : x ≡ a = cc in
        rw first (down s on (rest (address_of (s ∷ steps a)) (address_ancestor_or_self b (s ∷ steps a) on) (cc)))

    go : (on : Bool) → is_ancestor_or_self (steps a) (steps d) ≡ on → ((c : ℕ) → IsAddress c → path c d ≡ w → Route d c w) → Route d a (x ∷ w)
    go true on rest = below (ancestor_or_self_next (steps a) (steps d) (is_ancestor_or_self_true (steps a) (steps d) on)) rest
    go false on rest =
        let off = is_ancestor_or_self_false (steps a) (steps d) on in
        let f = path_up h d off in
        let first : x ≡ a = cc in
        rw first (up off (rest (parent a) (address-parent h (off_root a d off)) (cc)))

pub route : {a d : ℕ} → IsAddress a → IsAddress d → Route d a (path a d)
route {a} {d} h b = route_of h b (path a d) refl

pub differ-path : {a d : ℕ} → IsAddress a → IsAddress d → AllDiffer (path a d)
differ-path {a} {d} h b = go [] (path a d) refl
  where
    go : (us vs : List ℕ) → path a d ≡ us ++ vs → AllDiffer vs
    go us [] e = tt
    go us (x ∷ vs) e = (path-once h b us x vs e, go (us ++ (x ∷ [])) vs (e ∙ sym (append_snoc us x vs)))

-- what has a last step is not the root, and its parent has the others
module _ {c : ℕ} {s : Step} {up : List Step} (h : IsAddress c) (e : steps c ≡ s ∷ up) where
  not_root_lem : c ≡ root → ⊥
  not_root_lem r = omega (arith, ap length e, ap depth r, depth-steps c, depth_range.least)

  steps-above : steps (parent c) ≡ up
  steps-above = let (s, f) = steps-parent h not_root_lem in cc

  parent-step : {a : ℕ} → IsAddress a → up ≡ steps a → parent c ≡ a
  parent-step b f = steps_injective (address-parent h not_root_lem) b (steps-above ∙ f)

-- ---- in a sound tree

module _ (t : Tree) (sound : Sound t) where
  -- the ancestors of a node are in the tree
  ancestors : (dropped : List Step) {d : ℕ} (x : List Step) → InTree d t → steps d ≡ dropped ++ x → InTree (address_of x) t
  ancestors [] {d} x m e = Memᴰ.cast (ap address_of (sym e) ∙ address_of-steps (sound.address d m)) m
  ancestors (s ∷ dropped) {d} x m e =
      let h = sound.address d m in
      ancestors dropped x (sound.parents d m (not_root_lem h e)) (steps-above h e)

  pub in_tree_ancestor_or_self : {d : ℕ} (x : List Step) → InTree d t → AncestorOrSelf x (steps d) → InTree (address_of x) t
  in_tree_ancestor_or_self x m (dropped, e) = ancestors dropped x m e

  walk_route : {d a : ℕ} {w : List ℕ} → InTree a t → InTree d t → Route d a w → Walk t a d w
  walk_route m k (arrived e) = rw (← e) (here m)
  walk_route {d} {a} m k (up off r) =
      let below = off_root a d off in
      let n = sound.parents a m below in
      along (inl (record { lower = m; upper = n; not_root = below; is_parent = refl })) (walk_route n k r)
  walk_route {d} {a} m k (down s on r) =
      let c = address_of (s ∷ steps a) in
      let n = in_tree_ancestor_or_self (s ∷ steps a) k on in
      let h = sound.address c n in
      let e = steps_ancestor_or_self (sound.address d k) (s ∷ steps a) on in
      let own = parent-step h e (sound.address a m) refl in
      along (inr (record { lower = n; upper = m; not_root = not_root_lem h e; is_parent = own })) (walk_route n k r)

  pub walk_path : {a d : ℕ} → InTree a t → InTree d t → Walk t a d (path a d)
  walk_path {a} {d} m k = walk_route m k (route (sound.address a m) (sound.address d k))
