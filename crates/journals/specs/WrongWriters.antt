-- Wrong writers, which the claims must exclude: each goes by the right one with one part exchanged. And an order of bytes that is not theirs.
use Rattle.std.specs.Prelude.{ℕ, zero, suc, not, ◌&&◌, List, [], ◌∷◌, length, eqb, if◌then◌else◌}
use Rattle.block.specs.Block.{is_count, block}
use Rattle.journal.specs.Replay.{follow}
use Rattle.journal.specs.Slots.{slot_count, slots_of, ends_erased, replayed, written_slots}
use Rattle.journal.specs.Recovery.{is_length, recovering}
use Rattle.journal.specs.Writing.{refuse_placing, judged, judging, stored, with_slot, writing}
use Rattle.journal.specs.Writing.{Placed}
use Rattle.journals.specs.Refusals.{WriteRule, WriteRefusals}
use Rattle.journals.specs.PowerCuts.{AfterWrite, PowerCut, last_first}

-- by another answer
unfoldable pub answering : (List ℕ → List ℕ → Placed) → WriteRule
answering answer journal addresses = record { answer = answer journal addresses; journal = stored (answer journal addresses) addresses journal }

-- the block's addresses are not looked at
unfoldable pub unchecked : WriteRule
unchecked = answering (λ journal addresses.
    if not (is_length (length journal) && is_count (length addresses)) then refuse_placing 12
    else judged (replayed journal) (slot_count journal) (written_slots (slots_of journal)))

-- a torn slot is taken for an erased one: the first slot that ends in 0xFF
unfoldable pub untorn_slots : List (List ℕ) → ℕ
untorn_slots [] = 0
untorn_slots (slot ∷ slots) = if ends_erased slot then 0 else suc (untorn_slots slots)

unfoldable pub over_torn : WriteRule
over_torn = answering (λ journal addresses.
    if not (is_length (length journal) && is_count (length addresses)) then refuse_placing 12
    else judged (follow (replayed journal) addresses) (slot_count journal) (untorn_slots (slots_of journal)))

-- another right block is put there: that of the first host of the root
unfoldable pub other_block : WriteRule
other_block journal addresses = record {
  answer = judging journal addresses;
  journal = if eqb (judging journal addresses).refusal 0 then with_slot (judging journal addresses).slot (block (0b11 ∷ [])) journal else journal;
}

-- nothing is written, and done is said
unfoldable pub idle : WriteRule
idle journal addresses = record { answer = judging journal addresses; journal = journal }

-- everything is refused
unfoldable pub refuses_all : WriteRule
refuses_all journal addresses = record { answer = refuse_placing 17; journal = journal }

-- the last erased slot is taken in place of the first
unfoldable pub last_slot : WriteRule
last_slot = answering (λ journal addresses. last_of (judging journal addresses) (slot_count journal))
  where
    last_of : Placed → ℕ → Placed
    last_of placed zero = placed
    last_of placed (suc k) = if eqb placed.refusal 0 then record { refusal = 0; slot = k } else placed

-- that none of them is allowed
pub record WrongWritersExcluded : Type 0 where
  -- "Bytes are written in order": the last byte first, whatever follows
  pub last_byte_first : (rest : List ℕ) → PowerCut (last_first rest) writing recovering → ⊥
  pub no_check : AfterWrite unchecked recovering → ⊥
  pub torn_taken : WriteRefusals over_torn → ⊥
  pub another_block : AfterWrite other_block recovering → ⊥
  pub nothing_written : AfterWrite idle recovering → ⊥
  pub all_refused : WriteRefusals refuses_all → ⊥
  pub last_erased : WriteRefusals last_slot → ⊥
