-- The whole text: its outermost "R(", the root's group, and nothing behind it. Assumes nothing.
use mathlib.Core.Path.{◌≡◌, refl, sym, ap, ap₂, ◌∙◌}
use mathlib.Core.List.{List, [], ◌∷◌, append-nil}
use Prim.Native.Nat.{ℕ, ◌+◌, ◌-◌, ◌≤◌, ◌<◌}
use native.Mathlib.Omega.{arith}
use lib.ListN.{length, drop, set}
use Rattle.address.specs.Bits.{root}
use Rattle.node.specs.Node.{fresh}
use Rattle.node.specs.declared.Node.{Node}
use Rattle.plan.specs.Limits.{most_groups}
use Rattle.plan.specs.Reading.{start, inside, move, fault_at, behind, ended, read_from, reading}
use Rattle.plan.specs.Progress.{Progress, matched, PartRead, PartStops, HallRead}
use Rattle.plan.proofs.Openings.{matched-le}
use Rattle.plan.proofs.MoveLaws.{starts, moved_move, fault-start}
use Rattle.plan.proofs.Places.{Opens, place-fault, place_end, read_from-opened, read_from_unopened}
use Rattle.plan.specs.Plan.{missing}
use Rattle.plan.proofs.Parts.{part-passed, part_then, part_stops}

abbrev pub begin : Progress
begin = record { place = 0; nodes = 0; missing = 0 }

may_open : (text : List ℕ) → Opens start text (root ∷ []) (fresh root ∷ [])
unfolding ended
may_open text = record {
  named = moved_move (starts refl);
  other = λ o others e r. fault-start o r;
  ends = λ q. refl;
}

abbrev pub rooted : ℕ → Progress
rooted q = record { place = q; nodes = 1; missing = 0 }

module _ (text : List ℕ) where
  pub hall_unopened : {q : ℕ} → q ≡ 0 + matched text → matched text < 2 → reading text ≡ fault_at q
  unfolding reading
  hall_unopened o m = read_from_unopened 0 text (may_open text) m ∙ ap (λ (k : ℕ). fault_at k) (sym o)

  -- the outermost "R(", and then the root's group
  module _ (words mid : List ℕ) {q : ℕ} (two : q ≡ 2) (both : matched text ≡ 2) (w : mid ≡ set words 0 root) {owner : Node} (f : owner ≡ fresh root) where
    root-named : PartRead text words mid begin (rooted q) (most_groups - 1) (λ up. start) (λ up. inside (owner ∷ up))
    unfolding missing
    root-named = part-passed q (root ∷ []) refl w (omega arith) (omega (arith, (matched-le text).0)) reads
      where
        reads : (up : List Node) → length up + 1 + (most_groups - 1) ≡ most_groups
            → read_from 0 start text ≡ behind (root ∷ []) (read_from q (inside (owner ∷ up)) (drop q text))
        reads [] h =
            read_from-opened 0 text (may_open text) (omega arith)
            ∙ ap₂ (λ (k : ℕ) (n : Node). behind (root ∷ []) (read_from k (inside (n ∷ [])) (drop k text))) (sym two) (sym f)
        reads (n ∷ up) h = absurd (omega arith)

    pub hall-stopped : {place : ℕ} → PartStops text q place (most_groups - 1) (λ up. inside (owner ∷ up)) → reading text ≡ fault_at place
    unfolding reading
    hall-stopped s = (part_stops root-named s).reads [] refl

    -- what is behind it
    module _ {after : List ℕ} {end : Progress}
        (r : PartRead text mid after (rooted q) end (most_groups - 1) (λ up. inside (owner ∷ up)) (λ up. inside up)) where
      whole_part : PartRead text words after begin end (most_groups - 1) (λ up. start) (λ up. inside up)
      whole_part = part_then root-named r

      pub hall-surplus : end.place < length text → reading text ≡ fault_at end.place
      unfolding reading behind move
      hall-surplus h = whole_part.reads [] refl ∙ rw (place-fault text end.place (inside []) h refl) refl

      pub hall-whole : length text ≤ end.place → HallRead text words after end
      unfolding reading behind ended
      hall-whole h = record {
        given = whole_part.given;
        nodes = omega (arith, whole_part.nodes);
        missed = omega (arith, whole_part.missed);
        stored = whole_part.stored;
        reads = whole_part.reads [] refl ∙ rw (place_end text end.place (inside []) h, append-nil) refl;
      }
