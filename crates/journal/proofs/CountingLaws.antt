-- The children among some words, counted word by word, and the record that is found. Assumes nothing.
use Rattle.std.specs.Prelude.{if◌then◌else◌}
use Prim.Native.Nat.{ℕ, suc, ◌+◌, min, ◌≤◌, ◌<◌}
use mathlib.Core.Path.{◌≡◌, refl, ap, ◌∙◌}
use mathlib.Core.Bool.{Bool, true, false, not, ◌&&◌}
use mathlib.Core.List.{List, [], ◌∷◌}
use native.Mathlib.Omega.{arith}
use borrow.Author.Tests.{eq-eqb, ne_eqb}
use lib.Dec.{eqb}
use lib.ListN.{length, drop, get_or, drop_of_length-le}
use lib.Seq.{drop-cons}
use Rattle.address.specs.Address.{is_host, parent}
use Rattle.address.specs.declared.Kind.{Kind}
use Rattle.address.specs.declared.Kind.TheVariants.{Router, Host}
use Rattle.node.specs.Node.{fresh, with_counts}
use Rattle.journal.specs.Replay.{among}
use Rattle.journal.specs.Record.{Record, is_kind, children, most_counted, record_in}

module _ (a w : ℕ) where
  pub children_other : (kind : Kind) → (parent w ≡ a → ⊥) → children kind a (w ∷ []) ≡ 0
  unfolding children
  children_other kind ne = rw (ne_eqb (parent w) a ne) refl

  pub children-host : parent w ≡ a → is_host w ≡ true → (children Router a (w ∷ []) ≡ 0) × (children Host a (w ∷ []) ≡ 1)
  unfolding children is_kind
  children-host e h = (rw (eq-eqb (parent w) a e, h) refl, rw (eq-eqb (parent w) a e, h) refl)

  pub children-router : parent w ≡ a → is_host w ≡ false → (children Router a (w ∷ []) ≡ 1) × (children Host a (w ∷ []) ≡ 0)
  unfolding children is_kind
  children-router e h = (rw (eq-eqb (parent w) a e, h) refl, rw (eq-eqb (parent w) a e, h) refl)

pub children-cons : (kind : Kind) (a w : ℕ) (ws : List ℕ) → children kind a (w ∷ ws) ≡ children kind a (w ∷ []) + children kind a ws
unfolding children
children-cons kind a w ws = go (eqb (parent w) a && is_kind kind w)
  where
    go : (is : Bool) → (if is then suc (children kind a ws) else children kind a ws) ≡ (if is then 1 else 0) + children kind a ws
    go true = omega arith
    go false = omega arith

-- one word more is counted, up to the most
pub counted-turn : (kind : Kind) (a : ℕ) (ws : List ℕ) (i before after all : ℕ) → i < length ws
    → after ≡ min (before + children kind a (get_or ws i 0 ∷ [])) most_counted → min (before + children kind a (drop i ws)) most_counted ≡ all
    → min (after + children kind a (drop (suc i) ws)) most_counted ≡ all
counted-turn kind a ws i before after all h e f =
    let rest = ap (children kind a) (drop-cons ws i 0 h) ∙ children-cons kind a (get_or ws i 0) (drop (suc i) ws) in
    omega (arith, e, f, rest)

pub counted-end : (kind : Kind) (a : ℕ) (ws : List ℕ) (i count all : ℕ) → length ws ≤ i → count ≤ most_counted
    → min (count + children kind a (drop i ws)) most_counted ≡ all → count ≡ all
unfolding children
counted-end kind a ws i count all h fits f =
    let none = ap (children kind a) (drop_of_length-le ws h) in
    omega (arith, fits, f, none)

module _ (ws : List ℕ) (a : ℕ) where
  pub record_in-zero : a ≡ 0 → record_in ws a ≡ record { node = fresh 0; found = false }
  unfolding record_in
  record_in-zero e = rw (eq-eqb a 0 e) refl

  pub record_in-absent : among a ws ≡ false → record_in ws a ≡ record { node = fresh 0; found = false }
  unfolding record_in
  record_in-absent e = go (eqb a 0)
    where
      none : Record
      none = record { node = fresh 0; found = false }

      some : Record
      some = record { node = with_counts (min (children Router a ws) most_counted) (min (children Host a ws) most_counted) (fresh a); found = true }

      go : (zero : Bool) → (if not zero && among a ws then some else none) ≡ none
      go true = refl
      go false = rw e refl

  pub record_in-found : (a ≡ 0 → ⊥) → among a ws ≡ true
      → record_in ws a ≡ record { node = with_counts (min (children Router a ws) most_counted) (min (children Host a ws) most_counted) (fresh a); found = true }
  unfolding record_in
  record_in-found ne e = rw (ne_eqb a 0 ne, e) refl
