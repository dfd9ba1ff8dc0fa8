-- The writer of a block. "The writer refuses in this order: 12 if the journal's length is wrong or n is outside 1 to 63; 14 or 17 exactly if
-- recovery gives it for the journal, or else for its written slots and this block after them, even a 129th; 10 if no slot is erased."
use Rattle.std.specs.Prelude.{ℕ, ◌+◌, ◌*◌, not, ◌&&◌, List, ◌++◌, length, take, drop, eqb, leb, if◌then◌else◌}
use Rattle.journal.specs.Replay.{Replay, known, fault, follow}
use Rattle.block.specs.Block.{slot_bytes, is_count, block}
use Rattle.journal.specs.Slots.{slot_count, slots_of, replayed, written_slots}
use Rattle.journal.specs.Recovery.{is_length}
use Rattle.std.specs.Prelude.{Result, Ok, Err}
use Rattle.refusal.specs.declared.Refusal.{Refusal}
use Rattle.refusal.specs.Refusal.{number_of}

-- What the writer answers: a refusal's number, 0 where the block is written, and its slot, counted from 0; 0 with a refusal.
pub record Placed : Type 0 where
  pub refusal : ℕ
  pub slot : ℕ

-- the papers' numbers for each case of the answer
abbrev pub placed_answer : Result ℕ Refusal → Placed
placed_answer (Ok s) = record { refusal = 0; slot = s }
placed_answer (Err r) = record { refusal = number_of r; slot = 0 }

unfoldable pub refuse_placing : ℕ → Placed
refuse_placing number = record { refusal = number; slot = 0 }

-- "A block goes to the first wholly erased slot.", and "10 if no slot is erased"
unfoldable pub placing : ℕ → ℕ → Placed
placing slots written = if leb slots written then refuse_placing 10 else record { refusal = 0; slot = written }

unfoldable pub judged : Replay → ℕ → ℕ → Placed
judged (known xs) slots written = placing slots written
judged (fault n) slots written = refuse_placing n

-- what the writer answers
unfoldable pub judging : List ℕ → List ℕ → Placed
judging journal addresses =
    if not (is_length (length journal) && is_count (length addresses)) then refuse_placing 12
    else judged (follow (replayed journal) addresses) (slot_count journal) (written_slots (slots_of journal))

-- the journal with other bytes in the place of a slot: "all other slots kept"
unfoldable pub with_slot : ℕ → List ℕ → List ℕ → List ℕ
with_slot slot bytes journal = take (slot_bytes * slot) journal ++ (bytes ++ drop (slot_bytes * slot + slot_bytes) journal)

-- What writing a block comes to: the answer, and what the lent journal holds at the end.
pub record BlockEffect : Type 0 where
  pub answer : Placed
  pub journal : List ℕ

-- a refusal leaves the journal as it is
unfoldable pub stored : Placed → List ℕ → List ℕ → List ℕ
stored placed addresses journal = if eqb placed.refusal 0 then with_slot placed.slot (block addresses) journal else journal

unfoldable pub writing : List ℕ → List ℕ → BlockEffect
writing journal addresses = record { answer = judging journal addresses; journal = stored (judging journal addresses) addresses journal }
