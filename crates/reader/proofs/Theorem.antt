-- From the first slot on the reader gives the same answers as recovery: asked so often, it has come to the state that a run of as many slots comes
-- to. Assumes nothing.
use Prim.Native.Nat.{ℕ, zero, suc, ◌+◌, ◌≤◌}
use mathlib.Core.Path.{◌≡◌, refl, sym, ap, ◌∙◌}
use mathlib.Core.Bool.{Bool, true, false}
use mathlib.Core.List.{List}
use native.Mathlib.Omega.{arith}
use borrow.Author.Tests.{eq-eqb, ne_eqb, eqb-true, eqb-false}
use lib.Dec.{eqb}
use lib.ListN.{length, set, length-set}
use denote.Ref.{Bor}
use Rattle.address.specs.Bits.{root}
use Rattle.journal.specs.Limits.{most_nodes}
use Rattle.journal.specs.Slots.{slot_count}
use Rattle.journal.specs.Recovery.{unfit, refuse_recovery, recovering}
use Rattle.journal.specs.Reader.{State, run, from, begin, finished}
use Rattle.journal.proofs.RunLaws.{OnTheWay, stepped, run-done, run_step, stepped-way, stepped-slot, from-way}
use Rattle.journal.proofs.RecoverLaws.{is_length-some, unfit-none, recovering-unfit, recovering-run}
use Rattle.reader.specs.SameAnswers.{Answer, reading, came_to, asked, asked_all, by_reader, SameAnswers}

asked-run : (journal : Bor (List ℕ)) (k : ℕ) (s : State) → asked reading k (came_to journal s) ≡ came_to journal (run k journal.now s)
unfolding asked run
asked-run journal zero s = refl
asked-run journal (suc k) s = go s.progress.done refl (asked-run journal k (stepped journal.now s))
  where
    go : (done : Bool) → s.progress.done ≡ done
        → asked reading k (came_to journal (stepped journal.now s)) ≡ came_to journal (run k journal.now (stepped journal.now s))
        → asked reading (suc k) (came_to journal s) ≡ came_to journal (run (suc k) journal.now s)
    go true e rest = rw e refl
    go false e rest = rw e rest

asked_all-run : (journal : Bor (List ℕ)) (words : List ℕ)
    → asked_all reading journal words ≡ came_to journal (run (slot_count journal.now) journal.now (begin words))
unfolding asked_all
asked_all-run journal words = asked-run journal (slot_count journal.now) (begin words)

-- where no more slots are left than are asked for, nothing is left in the end
module _ (journal words : List ℕ) (room : most_nodes ≤ length words) where
  run_ends : (k : ℕ) (s : State) → OnTheWay journal words s → slot_count journal ≤ s.progress.slot + k → (run k journal s).progress.done ≡ true
  unfolding run
  run_ends zero s way few = go s.progress.done refl
    where
      go : (done : Bool) → s.progress.done ≡ done → s.progress.done ≡ true
      go true e = e
      go false e = absurd (omega (arith, few, way.left e))
  run_ends (suc k) s way few = go s.progress.done refl (λ t onward less. run_ends k t onward less)
    where
      go : (done : Bool) → s.progress.done ≡ done
          → ((t : State) → OnTheWay journal words t → slot_count journal ≤ t.progress.slot + k → (run k journal t).progress.done ≡ true)
          → (run (suc k) journal s).progress.done ≡ true
      go true e rest = ap (λ (t : State). t.progress.done) (run-done (suc k) journal s e) ∙ e
      go false e rest =
          ap (λ (t : State). t.progress.done) (run_step k journal s e)
          ∙ rest (stepped journal s) (stepped-way journal words room s way e) (omega (arith, few, stepped-slot journal words room s way e))

all_done : (journal words : List ℕ) → unfit (length journal) (length words) ≡ 0 → (run (slot_count journal) journal (begin words)).progress.done ≡ true
unfolding begin
all_done journal words fit =
    let right = unfit-none (length journal) (length words) fit in
    let room : most_nodes ≤ length (set words 0 root) = omega (arith, right.1, length-set words 0 root) in
    run_ends journal (set words 0 root) room (slot_count journal) (from (set words 0 root))
    (from-way journal (set words 0 root) (is_length-some (length journal) right.0)) (omega arith)

module _ (journal : Bor (List ℕ)) (words : List ℕ) where
  abbrev refusal : ℕ
  refusal = unfit (length journal.now) (length words)

  abbrev end : Answer
  end = asked_all reading journal words

  by_reader_fit : refusal ≡ 0 → by_reader reading journal words ≡ finished end.taken.progress end.words
  unfolding by_reader
  by_reader_fit z = rw (eq-eqb refusal 0 z) refl

  by_reader-unfit : (refusal ≡ 0 → ⊥) → by_reader reading journal words ≡ refuse_recovery refusal words
  unfolding by_reader
  by_reader-unfit ne = rw (ne_eqb refusal 0 ne) refl

  by_reader_lem : by_reader reading journal words ≡ recovering journal.now words
  by_reader_lem = go (eqb refusal 0) refl
    where
      go : (fit : Bool) → eqb refusal 0 ≡ fit → by_reader reading journal words ≡ recovering journal.now words
      go true e =
          let z = eqb-true refusal 0 e in
          let ran = asked_all-run journal words in
          by_reader_fit z
          ∙ sym (recovering-run journal.now words z end.taken.progress end.words
          (ap (λ (a : Answer). a.taken.progress) ran, ap (λ (a : Answer). a.words) ran))
      go false e = let ne = eqb-false refusal 0 e in by_reader-unfit ne ∙ sym (recovering-unfit journal.now words ne)

pub same_answers_lem : SameAnswers reading
same_answers_lem = record {
  keeps = λ r written nodes words. refl;
  place = λ r written nodes words. refl;
  ends = λ journal words fit.
      ap (λ (a : Answer). a.taken.progress.done) (asked_all-run journal words) ∙ all_done journal.now words fit;
  same = by_reader_lem;
}
