-- "a reader that keeps hold of the lent journal and its place .. which from the first slot on gives the same answers": asked until it is done, it
-- comes to what recovery gives, whatever was lent. A statement of any reader.
use Rattle.std.specs.Prelude.{ℕ, zero, suc, ◌≡◌, true, List, length, eqb, if◌then◌else◌}
use Rattle.std.specs.Borrow.{Bor}
use Rattle.journal.specs.Slots.{slot_count}
use Rattle.journal.specs.Recovery.{RecoverEffect, unfit, refuse_recovery, recovering}
use Rattle.journal.specs.Reader.{State, begin, finished}
use Rattle.reader.specs.Reader.{Reader, Taken, reader_at, taken_at, words_at}

-- What a reader answers for a slot, and what the lent words hold at the end.
pub record Answer : Type 0 where
  pub taken : Taken
  pub words : List ℕ

-- from the reader, how many slots are written and how many nodes known, and the words
abbrev pub ReaderRule : Type 0
ReaderRule = Reader → ℕ → ℕ → List ℕ → Answer

-- what `next` promises
abbrev pub reading : ReaderRule
reading r written nodes words = record { taken = taken_at r written nodes words; words = words_at r written nodes words }

-- a reader of the journal that has come to a state
abbrev pub came_to : Bor (List ℕ) → State → Answer
came_to journal s =
    record { taken = record { reader = reader_at journal s.progress.slot; progress = s.progress }; words = s.words }

-- so many slots, as long as something is left, each asked of the reader that was answered last
unfoldable pub asked : ReaderRule → ℕ → Answer → Answer
asked rule zero a = a
asked rule (suc k) a =
    if a.taken.progress.done then a
    else asked rule k (rule a.taken.reader a.taken.progress.written a.taken.progress.nodes a.words)

-- "from the first slot on"
unfoldable pub asked_all : ReaderRule → Bor (List ℕ) → List ℕ → Answer
asked_all rule journal words = asked rule (slot_count journal.now) (came_to journal (begin words))

-- recovery by a reader
unfoldable pub by_reader : ReaderRule → Bor (List ℕ) → List ℕ → RecoverEffect
by_reader rule journal words =
    if eqb (unfit (length journal.now) (length words)) 0
    then finished (asked_all rule journal words).taken.progress (asked_all rule journal words).words
    else refuse_recovery (unfit (length journal.now) (length words)) words

pub record SameAnswers (rule : ReaderRule) : Type 0 where
  -- "keeps hold of the lent journal", from any state
  pub keeps : (r : Reader) (written nodes : ℕ) (words : List ℕ) → (rule r written nodes words).taken.reader.journal ≡ r.journal
  -- ".. and its place", from any state
  pub place : (r : Reader) (written nodes : ℕ) (words : List ℕ)
      → (rule r written nodes words).taken.reader.slot ≡ (rule r written nodes words).taken.progress.slot
  -- asked as often as there are slots it is done, where recovery comes to take slots
  pub ends : (journal : Bor (List ℕ)) (words : List ℕ) → unfit (length journal.now) (length words) ≡ 0
      → (asked_all rule journal words).taken.progress.done ≡ true
  -- "gives the same answers", and leaves the same words
  pub same : (journal : Bor (List ℕ)) (words : List ℕ) → by_reader rule journal words ≡ recovering journal.now words
