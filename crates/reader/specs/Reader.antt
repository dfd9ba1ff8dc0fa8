-- The reader that keeps hold of a lent journal: what it answers for a slot is what taking that slot comes to, and itself at the slot after it. What
-- it answers from any other state than those from the first slot on is left open by the request; here it is `step` from every state.
use Rattle.std.specs.Prelude.{ℕ, List}
use Rattle.std.specs.Borrow.{Bor}
use Rattle.journal.specs.Reader.{Progress, progress_answer, State, step}
pub use Rattle.reader.specs.declared.Reader.{Reader}
use Rattle.reader.specs.declared.Taken.{Taken as TakenOfCode}

-- What the reader answers for a slot: itself, moved on, and how far the journal is taken.
pub record Taken : Type 0 where
  pub reader : Reader
  pub progress : Progress

-- what the code answers
abbrev pub taken_answer : TakenOfCode → Taken
taken_answer t = record { reader = t.reader; progress = progress_answer t.progress }

abbrev pub reader_at : Bor (List ℕ) → ℕ → Reader
reader_at journal slot = record { journal = journal; slot = slot }

-- what the reader's next slot comes to
abbrev pub step_at : Reader → ℕ → ℕ → List ℕ → State
step_at r written nodes words = step r.journal.now r.slot written nodes words

-- the same journal, at the place that the answer names
abbrev pub moved_to : Reader → Progress → Taken
moved_to r progress = record { reader = reader_at r.journal progress.slot; progress = progress }

abbrev pub taken_at : Reader → ℕ → ℕ → List ℕ → Taken
taken_at r written nodes words = moved_to r (step_at r written nodes words).progress

abbrev pub words_at : Reader → ℕ → ℕ → List ℕ → List ℕ
words_at r written nodes words = (step_at r written nodes words).words
