-- How many of some words are children of a node: word by word, a child of the kind counts as one and every other word as none. Assumes nothing.
use Rattle.std.specs.Prelude.{if◌then◌else◌}
use mathlib.Core.Path.{◌≡◌, refl}
use mathlib.Core.Bool.{Bool, true, false, ◌&&◌}
use mathlib.Core.Logic.{◌⊎◌, inl, inr}
use mathlib.Core.List.{List, [], ◌∷◌, ◌++◌, Memᴰ}
use Prim.Native.Nat.{ℕ, suc, ◌+◌}
use native.Mathlib.Omega.{arith}
use borrow.Author.Tests.{eq-eqb, ne_eqb}
use lib.Dec.{eqb}
use Rattle.address.specs.Steps.{Step, child, steps}
use Rattle.address.specs.Address.{parent}
use Rattle.address.specs.Numbers.{IsAddress}
use Rattle.address.specs.declared.Kind.{Kind}
use Rattle.address.specs.declared.Kind.TheVariants.{Router, Host}
use Rattle.address.proofs.Answers.{is_host-steps}
use Rattle.journal.specs.Record.{is_kind, children}

-- ---- the kind of a word, by its last step

pub same_kind : (kind other : Kind) → (kind ≡ other) ⊎ (kind ≡ other → ⊥)
same_kind Router Router = inl refl
same_kind Host Host = inl refl
same_kind Router Host = inr (λ e. let z : ◌≡◌ {A = ℕ} 0 1 = cc in omega arith)
same_kind Host Router = inr (λ e. let z : ◌≡◌ {A = ℕ} 0 1 = cc in omega arith)

module _ {d : ℕ} (h : IsAddress d) (i : ℕ) (up : List Step) where
  is_kind_same : (kind : Kind) → steps d ≡ child kind i ∷ up → is_kind kind d ≡ true
  unfolding is_kind
  is_kind_same Router e = rw (is_host-steps h, e)
  is_kind_same Host e = rw (is_host-steps h, e)

  is_kind_other : (kind other : Kind) → (kind ≡ other → ⊥) → steps d ≡ child kind i ∷ up → is_kind other d ≡ false
  unfolding is_kind
  is_kind_other Router Router ne e = absurd (ne refl)
  is_kind_other Router Host ne e = rw (is_host-steps h, e)
  is_kind_other Host Router ne e = rw (is_host-steps h, e)
  is_kind_other Host Host ne e = absurd (ne refl)

-- ---- some words

module _ (kind : Kind) (a : ℕ) where
  pub children-append : (ws vs : List ℕ) → children kind a (ws ++ vs) ≡ children kind a ws + children kind a vs
  unfolding children
  children-append [] vs = omega arith
  children-append (w ∷ ws) vs = go (eqb (parent w) a && is_kind kind w) (children-append ws vs)
    where
      go : (t : Bool) → children kind a (ws ++ vs) ≡ children kind a ws + children kind a vs
          → (if t then suc (children kind a (ws ++ vs)) else children kind a (ws ++ vs))
          ≡ (if t then suc (children kind a ws) else children kind a ws) + children kind a vs
      go true e = omega arith
      go false e = e

  pub children-none : (ws : List ℕ) → ((w : ℕ) → Memᴰ w ws → parent w ≡ a → ⊥) → children kind a ws ≡ 0
  unfolding children
  children-none [] none = refl
  children-none (w ∷ ws) none =
      rw (ne_eqb (parent w) a (none w (Memᴰ.head refl))) (children-none ws (λ v i. none v (Memᴰ.tail i)))

-- ---- one word that is a child of the node

module _ (a d : ℕ) (h : IsAddress d) (own : parent d ≡ a) (kind : Kind) (i : ℕ) (up : List Step) (e : steps d ≡ child kind i ∷ up) where
  pub children_same : children kind a (d ∷ []) ≡ 1
  unfolding children
  children_same = rw (eq-eqb (parent d) a own, is_kind_same h i up kind e)

  pub children_other : (other : Kind) → (kind ≡ other → ⊥) → children other a (d ∷ []) ≡ 0
  unfolding children
  children_other other ne = rw (eq-eqb (parent d) a own, is_kind_other h i up kind other ne e)
