-- No walk is shorter than the path: a link makes the path to the walk's end longer or shorter by one, and at the end it has one address.
use mathlib.Core.Path.{◌≡◌, ap}
use mathlib.Core.Logic.{◌⊎◌, inl, inr}
use mathlib.Core.List.{List}
use Prim.Native.Nat.{ℕ, ◌+◌, ◌≤◌}
use native.Mathlib.Omega.{arith}
use lib.ListN.{length}
use Rattle.route.specs.Path.{path, hops}
use Rattle.route.proofs.PathLaws.{path_self, length-path-parent}
use Rattle.tree.specs.Tree.{Tree, HangsFrom, Linked, Walk, here, along}
use Rattle.tree.proofs.Sound.{Sound}

module _ (t : Tree) (sound : Sound t) where
  length-path_hangs : {a b : ℕ} → HangsFrom t a b → (d : ℕ)
      → (length (path a d) ≤ length (path b d) + 1) × (length (path b d) ≤ length (path a d) + 1)
  length-path_hangs {a} l d = rw (← l.is_parent) (go (length-path-parent (sound.address a l.lower) l.not_root d))
    where
      go : {m n : ℕ} → (m ≡ n + 1) ⊎ (n ≡ m + 1) → (m ≤ n + 1) × (n ≤ m + 1)
      go (inl e) = omega arith
      go (inr e) = omega arith

  length-path_linked : {a b : ℕ} → Linked t a b → (d : ℕ) → length (path a d) ≤ length (path b d) + 1
  length-path_linked (inl l) d = (length-path_hangs l d).0
  length-path_linked (inr l) d = (length-path_hangs l d).1

  length-path_walk : {a d : ℕ} {w : List ℕ} → Walk t a d w → length (path a d) ≤ length w
  length-path_walk (here {a} m) = omega (arith, ap length (path_self (sound.address a m)))
  length-path_walk (along {d = d} l w) = omega (arith, length-path_linked l d, length-path_walk w)

  pub hops-path_walk : {a d : ℕ} {w : List ℕ} → Walk t a d w → hops (path a d) ≤ hops w
  unfolding hops
  hops-path_walk w = omega (arith, length-path_walk w)
