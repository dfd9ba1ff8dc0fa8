-- The next hop in terms of steps, which is what a tree is made of: deliver at the node itself; up where the node is not on the destination's
-- way; and toward the child that the destination's next step names, or refusal 7 where that child is not given. Assumes nothing.
use mathlib.Core.Path.{◌≡◌, refl, sym, ap, ◌∙◌}
use mathlib.Core.Bool.{Bool, true, false}
use mathlib.Core.List.{List, [], ◌∷◌, ◌++◌}
use Prim.Native.Nat.{ℕ, suc, ◌+◌, ◌<◌, ◌≤◌}
use native.Mathlib.Omega.{arith}
use lib.ListN.{length, length-append}
use lib.Seq.{append_snoc}
use Rattle.address.specs.declared.Kind.{Kind}
use Rattle.address.specs.Bits.{bits}
use Rattle.address.specs.Steps.{Step, child, steps, address_of, step_bits}
use Rattle.address.specs.Address.{is_host, parent}
use Rattle.address.specs.Numbers.{IsAddress}
use Rattle.address.specs.Ancestors.{AncestorOrSelf}
use Rattle.search.specs.Search.{is_prefix}
use Rattle.address.proofs.Ancestors.{number-child, host_ancestor_or_self, steps_injective}
use Rattle.search.proofs.Prefixes.{looked_at-step, kind_looked-step_bits, index_looked-step_bits, ancestor_or_self_prefix, is_prefix_ancestor_or_self}
use Rattle.node.specs.Node.{address_in, count, is_good}
use Rattle.node.specs.declared.Node.{Node}
use Rattle.forward.specs.Forward.{deliver_at, up_to, down_to, refused_hop, toward, next_hop}
use Rattle.forward.proofs.Rules.{next_hop_same, next_hop-host, next_hop-elsewhere, next_hop-below, toward-given, toward-absent}

-- whoever is on the way to another address has a next step on it
last : (s : Step) (dropped : List Step) → (t : Step) × (more : List Step) × (s ∷ dropped ≡ more ++ (t ∷ []))
last s [] = (s, [], refl)
last s (t ∷ dropped) = let (u, more, e) = last t dropped in (u, s ∷ more, ap (λ (l : List Step). s ∷ l) e)

pub next-step : {c d : ℕ} → IsAddress c → IsAddress d → AncestorOrSelf (steps c) (steps d) → (d ≡ c → ⊥)
    → (s : Step) × (more : List Step) × (steps d ≡ more ++ (s ∷ steps c))
next-step {c} {d} a b ([], e) other = absurd (other (steps_injective b a e))
next-step {c} {d} a b (s ∷ dropped, e) other =
    let (t, more, f) = last s dropped in (t, more, e ∙ ap (λ (l : List Step). l ++ steps c) f ∙ append_snoc more t (steps c))

longer : {c d : ℕ} (more : List Step) (s : Step) → steps d ≡ more ++ (s ∷ steps c) → d ≡ c → ⊥
longer {c} more s e same =
    let two : length (steps c) ≡ length more + suc (length (steps c)) = ap (λ (x : ℕ). length (steps x)) (sym same) ∙ ap length e ∙ length-append more (s ∷ steps c) in
    omega arith

module _ (n : Node) (d : ℕ) (g : is_good n ≡ true) (a : IsAddress (address_in n)) (b : IsAddress d) where
  not-zero : d ≡ 0 → ⊥
  not-zero z = omega (arith, b.some)

  pub next_hop-deliver : d ≡ address_in n → next_hop n d ≡ deliver_at (address_in n)
  next_hop-deliver e = next_hop_same n d g not-zero e

  -- up
  pub next_hop_up : (AncestorOrSelf (steps (address_in n)) (steps d) → ⊥) → next_hop n d ≡ up_to (parent (address_in n))
  next_hop_up off = go (is_host (address_in n)) refl (is_prefix (bits (address_in n)) (bits d)) refl
    where
      other : d ≡ address_in n → ⊥
      other e = off ([], ap steps e)

      go : (h : Bool) → is_host (address_in n) ≡ h → (p : Bool) → is_prefix (bits (address_in n)) (bits d) ≡ p → next_hop n d ≡ up_to (parent (address_in n))
      go true h p f = next_hop-host n d g not-zero other h
      go false h false f = next_hop-elsewhere n d g not-zero other h f
      go false h true f = absurd (off (is_prefix_ancestor_or_self a b h f))

  module _ (more : List Step) (kind : Kind) (i : ℕ) (e : steps d ≡ more ++ (child kind i ∷ steps (address_in n))) where
    below-node : AncestorOrSelf (steps (address_in n)) (steps d)
    below-node = (more ++ (child kind i ∷ []), e ∙ sym (append_snoc more (child kind i) (steps (address_in n))))

    no_host_lem : is_host (address_in n) ≡ false
    no_host_lem = go (is_host (address_in n)) refl
      where
        go : (h : Bool) → is_host (address_in n) ≡ h → h ≡ false
        go true h = absurd (longer more (child kind i) e (sym (host_ancestor_or_self a b h below-node)))
        go false h = refl

    next_hop-step : next_hop n d ≡ toward n (step_bits (child kind i))
    next_hop-step =
        next_hop-below n d g not-zero (longer more (child kind i) e) no_host_lem (ancestor_or_self_prefix a b below-node)
        ∙ ap (toward n) (looked_at-step a b more (child kind i) e)

    -- toward a child
    pub next_hop-down : i < count kind n → next_hop n d ≡ down_to (address_of (child kind i ∷ steps (address_in n)))
    next_hop-down h =
        next_hop-step
        ∙ toward-given n (step_bits (child kind i)) (rw (kind_looked-step_bits kind i, index_looked-step_bits kind i) h)
        ∙ ap down_to (number-child a (child kind i))

    pub next_hop-stop : count kind n ≤ i → next_hop n d ≡ refused_hop 7
    next_hop-stop h = next_hop-step ∙ toward-absent n (step_bits (child kind i)) (rw (kind_looked-step_bits kind i, index_looked-step_bits kind i) h)
