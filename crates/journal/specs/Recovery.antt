-- Recovery: "Recovery first checks the length (12), then that at least [4,096] words are lent (10), then takes slots in order .. Success returns the
-- number of nodes and leaves root and addresses in order, then zeros to the list's end. Recovery's 14 and 17 leave the list all zeros".
use Rattle.std.specs.Prelude.{ℕ, ◌*◌, ◌-◌, ◌%◌, Bool, not, ◌&&◌, List, ◌++◌, length, replicate, eqb, leb, ltb, if◌then◌else◌}
use Rattle.block.specs.Block.{slot_bytes}
use Rattle.journal.specs.Limits.{most_slots, most_nodes}
use Rattle.journal.specs.Replay.{Replay, known, fault}
use Rattle.journal.specs.Slots.{replayed}
use Rattle.std.specs.Prelude.{Result, Ok, Err}
use Rattle.refusal.specs.declared.Refusal.{Refusal}
use Rattle.refusal.specs.Refusal.{number_of}

-- What recovery answers: a refusal's number, 0 where the nodes are listed, and their number, 0 with a refusal.
pub record Recovered : Type 0 where
  pub refusal : ℕ
  pub nodes : ℕ

-- the numbers for each case of the answer, whatever says why it is refused
abbrev pub recovered_by : {R : Type 0} → (R → ℕ) → Result ℕ R → Recovered
recovered_by number (Ok n) = record { refusal = 0; nodes = n }
recovered_by number (Err r) = record { refusal = number r; nodes = 0 }

-- the same by the papers' numbers
abbrev pub recovered_answer : Result ℕ Refusal → Recovered
recovered_answer = recovered_by number_of

-- the same, where so many nodes are known in the end
abbrev pub known_answer : Result (Unit {0}) Refusal → ℕ → Recovered
known_answer (Ok done) n = record { refusal = 0; nodes = n }
known_answer (Err r) n = record { refusal = number_of r; nodes = 0 }

-- "1 to 128 slots of 512 bytes"
unfoldable pub is_length : ℕ → Bool
is_length bytes = eqb (bytes % slot_bytes) 0 && leb slot_bytes bytes && leb bytes (most_slots * slot_bytes)

-- "Recovery first checks the length (12), then that at least [4,096] words are lent (10)": the refusal of so many bytes and words, 0 where neither is
-- wrong
unfoldable pub unfit : ℕ → ℕ → ℕ
unfit bytes words = if not (is_length bytes) then 12 else if ltb words most_nodes then 10 else 0

-- What recovery comes to: the answer, and what the lent words hold at the end.
pub record RecoverEffect : Type 0 where
  pub answer : Recovered
  pub words : List ℕ

unfoldable pub refuse_recovery : ℕ → List ℕ → RecoverEffect
refuse_recovery number words = record { answer = record { refusal = number; nodes = 0 }; words = words }

-- "leaves root and addresses in order, then zeros to the list's end"; "14 and 17 leave the list all zeros"
unfoldable pub restored : Replay → List ℕ → RecoverEffect
restored (known xs) words = record { answer = record { refusal = 0; nodes = length xs }; words = xs ++ replicate (length words - length xs) 0 }
restored (fault n) words = refuse_recovery n (replicate (length words) 0)

unfoldable pub recovering : List ℕ → List ℕ → RecoverEffect
recovering journal words =
    if not (is_length (length journal)) then refuse_recovery 12 words
    else if ltb (length words) most_nodes then refuse_recovery 10 words
    else restored (replayed journal) words
