-- One slot at a time, with a place counter: what is handed from slot to slot. From the first slot on, asked until it is done, and with what recovery
-- checks before it (`unfit`) and clears behind it (`finished`), this is recovery; the crate reader says so of a reader that keeps hold of the
-- journal. What is answered from any other state is left open by the request, and here fixed.
use Rattle.std.specs.Prelude.{ℕ, zero, suc, ◌+◌, ◌*◌, ◌-◌, Bool, true, false, ◌||◌, List, ◌++◌, length, take, drop, replicate, set, eqb, leb, ltb, if◌then◌else◌}
use Rattle.address.specs.Bits.{root}
use Rattle.block.specs.Block.{slot_bytes}
use Rattle.journal.specs.Limits.{most_nodes}
use Rattle.journal.specs.Replay.{Replay, known, fault}
use Rattle.journal.specs.Slots.{slot_count, is_erased, slot_taken}
use Rattle.journal.specs.Recovery.{RecoverEffect, refuse_recovery}
use Rattle.std.specs.Prelude.{Option, Some, None}
use Rattle.refusal.specs.declared.Refusal.{Refusal}
use Rattle.refusal.specs.Refusal.{number_of}
use Rattle.journal.specs.declared.Progress.{Progress as ProgressOfCode}

-- How far a journal is taken: the next slot; how many slots are not erased; the nodes known, at the front of the words; the first fault, 0 where
-- there is none; and whether nothing is left to take.
pub record Progress : Type 0 where
  pub slot : ℕ
  pub written : ℕ
  pub nodes : ℕ
  pub refusal : ℕ
  pub done : Bool

-- the number of a fault, whatever says which it is, 0 where there is none
abbrev pub fault_by : {R : Type 0} → (R → ℕ) → Option R → ℕ
fault_by number None = 0
fault_by number (Some r) = number r

-- how far the code says that a journal is taken, by these numbers
abbrev pub progress_by : {R : Type 0} → (R → ℕ) → ProgressOfCode R → Progress
progress_by number p = record { slot = p.slot; written = p.written; nodes = p.nodes; refusal = fault_by number p.refusal; done = p.done }

-- the same by the papers' numbers
abbrev pub fault_answer : Option Refusal → ℕ
fault_answer = fault_by number_of

abbrev pub progress_answer : ProgressOfCode Refusal → Progress
progress_answer = progress_by number_of

-- the numbers, and the words beside them
pub record State : Type 0 where
  pub progress : Progress
  pub words : List ℕ

-- where nothing can be taken: no slot is left, or too few words are lent, or more nodes are said than there may be
unfoldable pub stops : List ℕ → ℕ → ℕ → List ℕ → Bool
stops journal slot nodes words = leb (slot_count journal) slot || ltb (length words) most_nodes || ltb most_nodes nodes

unfoldable pub stopped : ℕ → ℕ → ℕ → List ℕ → State
stopped slot written nodes words =
    record { progress = record { slot = slot; written = written; nodes = nodes; refusal = 0; done = true }; words = words }

abbrev pub slot_at : List ℕ → ℕ → List ℕ
slot_at journal slot = take slot_bytes (drop (slot_bytes * slot) journal)

-- slots that are not erased, with this one: all of them so far, where this one is not
unfoldable pub written_after : ℕ → ℕ → List ℕ → ℕ
written_after slot written bytes = if is_erased bytes then written else slot + 1

-- what stands behind a slot: the nodes known, at the front of the words; or the fault, and the words all zeros
unfoldable pub moved : Replay → Bool → ℕ → ℕ → List ℕ → State
moved (known xs) last slot written words = record {
  progress = record { slot = slot; written = written; nodes = length xs; refusal = 0; done = last };
  words = xs ++ drop (length xs) words;
}
moved (fault n) last slot written words = record {
  progress = record { slot = slot; written = 0; nodes = 0; refusal = n; done = true };
  words = replicate (length words) 0;
}

unfoldable pub took : List ℕ → ℕ → ℕ → ℕ → List ℕ → State
took journal slot written nodes words =
    moved (slot_taken (ltb written slot) (known (take nodes words)) (slot_at journal slot)) (leb (slot_count journal) (slot + 1)) (slot + 1)
    (written_after slot written (slot_at journal slot)) words

unfoldable pub step : List ℕ → ℕ → ℕ → ℕ → List ℕ → State
step journal slot written nodes words =
    if stops journal slot nodes words then stopped slot written nodes words
    else took journal slot written nodes words

-- as many slots as are asked for, as long as something is left
unfoldable pub run : ℕ → List ℕ → State → State
run zero journal s = s
run (suc k) journal s =
    if s.progress.done then s
    else run k journal (step journal s.progress.slot s.progress.written s.progress.nodes s.words)

-- the first slot, with the root known
abbrev pub first : Progress
first = record { slot = 0; written = 0; nodes = 1; refusal = 0; done = false }

abbrev pub from : List ℕ → State
from words = record { progress = first; words = words }

unfoldable pub begin : List ℕ → State
begin words = from (set words 0 root)

-- what recovery answers from the last of the states: zeros behind the nodes known, or the fault
unfoldable pub finished : Progress → List ℕ → RecoverEffect
finished end words =
    if eqb end.refusal 0
    then record {
      answer = record { refusal = 0; nodes = end.nodes };
      words = take end.nodes words ++ replicate (length words - end.nodes) 0;
    }
    else refuse_recovery end.refusal words
