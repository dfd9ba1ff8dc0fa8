-- The slots taken one after the other, state by state: what a turn of a loop keeps. Assumes nothing.
use Prim.Native.Nat.{ℕ, zero, suc, ◌+◌, ◌-◌, ◌≤◌, ◌<◌}
use mathlib.Core.Path.{◌≡◌, refl, sym, ap, ◌∙◌}
use mathlib.Core.Bool.{Bool, true, false}
use mathlib.Core.List.{List}
use native.Mathlib.Omega.{arith}
use borrow.Author.Tests.{leb-false}
use lib.Dec.{leb, ltb}
use lib.ListN.{length, take, drop, length-append, length-drop, length-replicate}
use lib.Seq.{length-take-le}
use Rattle.journal.specs.Limits.{most_nodes}
use Rattle.journal.specs.Replay.{Replay, known, fault}
use Rattle.journal.specs.Slots.{slot_count, slot_taken}
use Rattle.journal.specs.Reader.{State, slot_at, written_after, moved, took, step, run, from}
use Rattle.journal.proofs.CountLaws.{Within, within-slot_taken}
use Rattle.journal.proofs.StepLaws.{step-took}

-- the next state
abbrev pub stepped : List ℕ → State → State
stepped journal s = step journal s.progress.slot s.progress.written s.progress.nodes s.words

pub run_none : (journal : List ℕ) (s : State) → run 0 journal s ≡ s
unfolding run
run_none journal s = refl

pub run-done : (k : ℕ) (journal : List ℕ) (s : State) → s.progress.done ≡ true → run k journal s ≡ s
unfolding run
run-done zero journal s e = refl
run-done (suc k) journal s e = rw e refl

pub run_step : (k : ℕ) (journal : List ℕ) (s : State) → s.progress.done ≡ false → run (suc k) journal s ≡ run k journal (stepped journal s)
unfolding run
run_step k journal s e = rw e refl

-- a state on the way: as many words as were lent, no more nodes than there may be, and a slot left where it is not done
pub record OnTheWay (journal words : List ℕ) (s : State) : Type 0 where
  pub same : length s.words ≡ length words
  pub few : s.progress.nodes ≤ most_nodes
  pub left : s.progress.done ≡ false → s.progress.slot < slot_count journal

-- what a slot that is taken leaves
module _ (journal words : List ℕ) (room : most_nodes ≤ length words) (slot written : ℕ) (ws : List ℕ) (same : length ws ≡ length words) where
  abbrev after : Replay → State
  after r = moved r (leb (slot_count journal) (slot + 1)) (slot + 1) written ws

  moved-slot : (r : Replay) → (after r).progress.slot ≡ slot + 1
  unfolding moved
  moved-slot (known xs) = refl
  moved-slot (fault n) = refl

  moved-way : (r : Replay) → Within r → OnTheWay journal words (after r)
  unfolding moved
  moved-way (known xs) few = record {
    same = length-append xs (drop (length xs) ws) ∙ long;
    few = few;
    left = λ e. leb-false (slot_count journal) (slot + 1) e;
  }
    where
      long : length xs + length (drop (length xs) ws) ≡ length words
      long = omega (arith, length-drop (length xs) ws, same, room, few)
  moved-way (fault n) few = record { same = length-replicate (length ws) 0 ∙ same; few = omega arith; left = λ e. absurd (differ e) }
    where
      differ : ◌≡◌ {A = Bool} true false → ⊥
      differ e = let z : ◌≡◌ {A = ℕ} 0 1 = cc in omega arith

module _ (journal words : List ℕ) (room : most_nodes ≤ length words) (s : State) (way : OnTheWay journal words s) (going : s.progress.done ≡ false) where
  abbrev slot : ℕ
  slot = s.progress.slot

  abbrev bytes : List ℕ
  bytes = slot_at journal slot

  abbrev replayed_to : Replay
  replayed_to = slot_taken (ltb s.progress.written slot) (known (take s.progress.nodes s.words)) bytes

  pub stepped-moved : stepped journal s ≡ moved replayed_to (leb (slot_count journal) (slot + 1)) (slot + 1) (written_after slot s.progress.written bytes) s.words
  stepped-moved =
      step-took journal slot s.progress.written s.progress.nodes s.words (way.left going) (omega (arith, room, way.same)) way.few
      ∙ (unfold took in refl)

  pub stepped_within : Within replayed_to
  stepped_within = within-slot_taken _ (known (take s.progress.nodes s.words)) bytes short
    where
      short : length (take s.progress.nodes s.words) ≤ most_nodes
      short = omega (arith, length-take-le s.progress.nodes s.words (omega (arith, way.few, room, way.same)), way.few)

  pub stepped-slot : (stepped journal s).progress.slot ≡ slot + 1
  stepped-slot = ap (λ (t : State). t.progress.slot) stepped-moved ∙ moved-slot journal words room slot _ s.words way.same replayed_to

  pub stepped-way : OnTheWay journal words (stepped journal s)
  stepped-way = rw stepped-moved (moved-way journal words room slot _ s.words way.same replayed_to stepped_within)

pub from-way : (journal words : List ℕ) → 0 < slot_count journal → OnTheWay journal words (from words)
from-way journal words some = record { same = refl; few = omega arith; left = λ _. some }

-- ---- a loop over the slots

-- a state on the way to the whole: as many slots more as are left come to it
pub record Turning (journal words : List ℕ) (s : State) : Type 0 where
  pub way : OnTheWay journal words s
  pub goes : run (slot_count journal - s.progress.slot) journal s ≡ run (slot_count journal) journal (from words)

module _ (journal words : List ℕ) where
  pub turning-from : 0 < slot_count journal → Turning journal words (from words)
  turning-from some = record { way = from-way journal words some; goes = ap (λ (k : ℕ). run k journal (from words)) all }
    where
      all : slot_count journal - 0 ≡ slot_count journal
      all = omega arith

  pub turning-end : (s : State) → Turning journal words s → s.progress.done ≡ true → s ≡ run (slot_count journal) journal (from words)
  turning-end s t e = sym (run-done (slot_count journal - s.progress.slot) journal s e) ∙ t.goes

  module _ (room : most_nodes ≤ length words) (s : State) (t : Turning journal words s) (going : s.progress.done ≡ false) where
    pub turning-turn : Turning journal words (stepped journal s)
    turning-turn = record {
      way = stepped-way journal words room s t.way going;
      goes =
          ap (λ (k : ℕ). run (slot_count journal - k) journal (stepped journal s)) (stepped-slot journal words room s t.way going)
          ∙ sym (run_step (slot_count journal - (s.progress.slot + 1)) journal s going)
          ∙ ap (λ (k : ℕ). run k journal s) more
          ∙ t.goes;
    }
      where
        more : suc (slot_count journal - (s.progress.slot + 1)) ≡ slot_count journal - s.progress.slot
        more = omega (arith, t.way.left going)

    -- with a turn one slot fewer is left
    pub turning-falls : slot_count journal - (stepped journal s).progress.slot < slot_count journal - s.progress.slot
    turning-falls = omega (arith, t.way.left going, stepped-slot journal words room s t.way going)
