-- A path has at most 126 addresses. Both ends have at most 63 steps, since the first bit is the root's and a step has at least one. The two
-- ways down from the turning point begin with different steps: one of them has an index above 0 and so a bit more, or leads to a host and is
-- the last. Assumes nothing.
use mathlib.Core.Path.{◌≡◌, ap}
use mathlib.Core.Logic.{◌⊎◌, inl, inr}
use mathlib.Core.List.{List, [], ◌∷◌, ◌++◌}
use Prim.Native.Nat.{ℕ, zero, suc, ◌+◌, ◌*◌, ◌≤◌}
use native.Mathlib.Omega.{arith}
use lib.ListN.{length}
use Rattle.address.specs.Steps.{Step, child, steps, spelled}
use Rattle.address.specs.Address.{depth}
use Rattle.address.specs.declared.Kind.{Kind}
use Rattle.address.specs.declared.Kind.TheVariants.{Router as router, Host as host}
use Rattle.address.specs.Numbers.{IsAddress}
use Rattle.address.specs.Ancestors.{AncestorOrSelf}
use Rattle.address.proofs.Numbers.{bits-string}
use Rattle.address.proofs.Steps.{spelled-steps, length-spelled, length-lt-spelled, depth_range}
use Rattle.address.proofs.Ancestors.{routers-above}
use Rattle.route.specs.Path.{turn}
use Rattle.route.specs.TurningPoint.{IsTurningPoint, AtMost126}
use Rattle.route.proofs.Turning.{ancestor_or_self_next, turning_points}
use Rattle.route.proofs.PathLaws.{depth-steps, length-path}

-- each step below y has at least one bit
length-spelled-append : (dropped y : List Step) → length (spelled y) + length (dropped ++ y) ≤ length (spelled (dropped ++ y)) + length y
length-spelled-append [] y = omega arith
length-spelled-append (child k i ∷ dropped) y = omega (arith, length-spelled-append dropped y, length-spelled k i (dropped ++ y))

depth_le : {a : ℕ} → IsAddress a → (k : Kind) (i : ℕ) (x : List Step) → AncestorOrSelf (child k i ∷ x) (steps a) → depth a + i ≤ 63
depth_le {a} h k i x (dropped, e) =
    let short : length (spelled (steps a)) ≤ 64 = rw (spelled-steps h) (bits-string h).short in
    omega (arith, rw (← e) at (length-spelled-append dropped (child k i ∷ x)), length-spelled k i x, length-lt-spelled x, depth-steps a)

-- nothing is below a host
depth-host : (a i : ℕ) (x : List Step) → AncestorOrSelf (child host i ∷ x) (steps a) → depth a ≡ length x + 1
depth-host a i x ([], e) = omega (arith, ap length e, depth-steps a)
depth-host a i x (s ∷ dropped, e) = absurd (routers-above a s dropped (child host i ∷ x) e)

-- the steps of both together, by those of the turning point
abbrev Few : (a d : ℕ) → List Step → Type 0
Few a d x = depth a + depth d ≤ 125 + 2 * length x

few : {a d : ℕ} (x : List Step) → IsAddress a → IsAddress d → IsTurningPoint (steps a) (steps d) x → Few a d x
few {a} {d} x h l p = go (ancestor_or_self_next x (steps a) p.of_first) (ancestor_or_self_next x (steps d) p.of_second)
  where
    zeros : (k j : Kind) → AncestorOrSelf (child k 0 ∷ x) (steps a) → AncestorOrSelf (child j 0 ∷ x) (steps d) → Few a d x
    zeros router router v w = absurd (omega (arith, p.deepest (child router 0 ∷ x) v w))
    zeros router host v w = omega (arith, depth-host d 0 x w, depth_range.most a h)
    zeros host router v w = omega (arith, depth-host a 0 x v, depth_range.most d l)
    zeros host host v w = absurd (omega (arith, p.deepest (child host 0 ∷ x) v w))

    part : (s t : Step) → AncestorOrSelf (s ∷ x) (steps a) → AncestorOrSelf (t ∷ x) (steps d) → Few a d x
    part (child k zero) (child j zero) v w = zeros k j v w
    part (child k zero) (child j (suc i)) v w = omega (arith, depth_le l j (suc i) x w, depth_range.most a h)
    part (child k (suc i)) t v w = omega (arith, depth_le h k (suc i) x v, depth_range.most d l)

    go : (x ≡ steps a) ⊎ ((s : Step) × AncestorOrSelf (s ∷ x) (steps a)) → (x ≡ steps d) ⊎ ((t : Step) × AncestorOrSelf (t ∷ x) (steps d)) → Few a d x
    go (inl e) w = omega (arith, ap length e, depth-steps a, depth_range.most d l)
    go (inr v) (inl e) = omega (arith, ap length e, depth-steps d, depth_range.most a h)
    go (inr (s, v)) (inr (t, w)) = part s t v w

pub at_most_126 : AtMost126
at_most_126 a d h l = omega (arith, few (turn (steps a) (steps d)) h l (turning_points (steps a) (steps d)), length-path a d)
