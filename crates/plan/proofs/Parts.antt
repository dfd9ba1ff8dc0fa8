-- Parts of a text that are read: one that gives some addresses, one with a fault, one behind another, and one inside a group. Assumes nothing.
use mathlib.Core.Path.{◌≡◌, refl, sym, ap, ap₂, ◌∙◌}
use mathlib.Core.List.{List, [], ◌∷◌, ◌++◌}
use Prim.Native.Nat.{ℕ, suc, ◌+◌, ◌≤◌}
use native.Mathlib.Nat.{add-zero, add-suc, suc-add}
use native.Mathlib.Omega.{arith}
use lib.ListN.{length, drop, set, length-append}
use lib.Seq.{sets}
use Rattle.node.specs.declared.Node.{Node}
use Rattle.plan.specs.Limits.{most_groups}
use Rattle.plan.specs.Reading.{Expected, behind, read_from}
use Rattle.plan.specs.Plan.{missing}
use Rattle.plan.specs.Progress.{Progress, PartRead, PartStops}
use Rattle.plan.proofs.Missing.{missing-append}
use Rattle.plan.proofs.MoveLaws.{behind-nil, behind-append}

pub sets_append : (l : List ℕ) (i : ℕ) (p q : List ℕ) → sets l i (p ++ q) ≡ sets (sets l i p) (i + length p) q
sets_append l i [] q = rw add-zero
sets_append l i (a ∷ p) q = rw (add-suc, ← suc-add) (sets_append (set l i a) (suc i) p q)

-- the progress behind a part that gives some addresses

abbrev pub passed : Progress → ℕ → List ℕ → Progress
passed from place given = record { place = place; nodes = from.nodes + length given; missing = from.missing + missing given }

pub given-none : (from : Progress) (place : ℕ) → record { place = place; nodes = from.nodes; missing = from.missing } ≡ passed from place []
unfolding missing
given-none from place = ap₂ (λ (n m : ℕ). record { place = place; nodes = n; missing = m }) (sym (add-zero from.nodes)) (sym (add-zero from.missing))

module _ {text words after : List ℕ} {from to : Progress} {allowed : ℕ} {before behind_it : List Node → Expected} where
  pub part-passed : (place : ℕ) (given : List ℕ) → to ≡ passed from place given → after ≡ sets words from.nodes given
      → from.place + length given ≤ place → place ≤ length text
      → ((up : List Node) → length up + 1 + allowed ≡ most_groups
      → read_from from.place (before up) (drop from.place text) ≡ behind given (read_from place (behind_it up) (drop place text)))
      → PartRead text words after from to allowed before behind_it
  part-passed place given e w forth within reads = record {
    given = given;
    nodes = ap (λ (x : Progress). x.nodes) e;
    missed = ap (λ (x : Progress). x.missing) e;
    stored = w;
    forth = omega (arith, ap (λ (x : Progress). x.place) e);
    within = omega (arith, ap (λ (x : Progress). x.place) e);
    reads = λ up h. reads up h ∙ rw (ap (λ (x : Progress). x.place) e) refl;
  }

  -- with one group more around
  pub part-deeper : {outer : ℕ} (n : Node) → outer ≡ suc allowed → PartRead text words after from to allowed before behind_it
      → PartRead text words after from to outer (λ up. before (n ∷ up)) (λ up. behind_it (n ∷ up))
  part-deeper n e r = record {
    given = r.given;
    nodes = r.nodes;
    missed = r.missed;
    stored = r.stored;
    forth = r.forth;
    within = r.within;
    reads = λ up h. r.reads (n ∷ up) (omega arith);
  }

pub part_none : {text words : List ℕ} {from : Progress} {allowed : ℕ} {before : List Node → Expected}
    → from.place ≤ length text → PartRead text words words from from allowed before before
unfolding missing
part_none {text} {words} {from} {allowed} {before} h = record {
  given = [];
  nodes = sym (add-zero from.nodes);
  missed = sym (add-zero from.missing);
  stored = refl;
  forth = omega arith;
  within = h;
  reads = λ up l. sym (behind-nil (read_from from.place (before up) (drop from.place text)));
}

-- one part behind another
pub part_then : {text words mid after : List ℕ} {from at to : Progress} {allowed : ℕ} {before middle behind_it : List Node → Expected}
    → PartRead text words mid from at allowed before middle
    → PartRead text mid after at to allowed middle behind_it
    → PartRead text words after from to allowed before behind_it
part_then {text} {words} {mid} {after} {from} {at} {to} {allowed} {before} {middle} {behind_it} r t = record {
  given = r.given ++ t.given;
  nodes = omega (arith, r.nodes, t.nodes, length-append r.given t.given);
  missed = omega (arith, r.missed, t.missed, missing-append r.given t.given);
  stored =
      t.stored
      ∙ ap (λ (l : List ℕ). sets l at.nodes t.given) r.stored
      ∙ ap (λ (k : ℕ). sets (sets words from.nodes r.given) k t.given) r.nodes
      ∙ sym (sets_append words from.nodes r.given t.given);
  forth = omega (arith, r.forth, t.forth, length-append r.given t.given);
  within = t.within;
  reads = λ up h.
      r.reads up h
      ∙ ap (behind r.given) (t.reads up h)
      ∙ sym (behind-append r.given t.given (read_from to.place (behind_it up) (drop to.place text)));
}

-- a fault behind a part
pub part_stops : {text words mid : List ℕ} {from at : Progress} {allowed place : ℕ} {before middle : List Node → Expected}
    → PartRead text words mid from at allowed before middle → PartStops text at.place place allowed middle
    → PartStops text from.place place allowed before
unfolding behind
part_stops r s = record { reads = λ up h. r.reads up h ∙ ap (behind r.given) (s.reads up h) }
