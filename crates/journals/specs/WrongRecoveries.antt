-- Wrong recoveries, which the claims must exclude: each goes by the right one with one part or one number exchanged.
use Rattle.std.specs.Prelude.{ℕ, ◌≡◌, Bool, false, not, List, [], ◌∷◌, ◌++◌, length, drop, leb, ltb, if◌then◌else◌}
use Rattle.node.specs.Node.{with_limits}
use Rattle.block.specs.Block.{is_block, addresses_in}
use Rattle.journal.specs.Limits.{most_nodes}
use Rattle.journal.specs.Replay.{is_next, Replay, known, fault, follow, bare}
use Rattle.journal.specs.Slots.{slots_of, is_erased, spoilt, ends_erased, slot_taken, gap_after, replayed}
use Rattle.journal.specs.Recovery.{is_length, RecoverEffect, refuse_recovery, restored, recovering}
use Rattle.journal.specs.Record.{record_in}
use Rattle.journals.specs.Replays.{RecordRule, Records}
use Rattle.journals.specs.Refusals.{RecoverRule, RecoverRefusals}

-- with another replay of the journal, or another end of it
unfoldable pub replaying : (List ℕ → Replay) → (Replay → List ℕ → RecoverEffect) → RecoverRule
replaying replay end journal words =
    if not (is_length (length journal)) then refuse_recovery 12 words
    else if ltb (length words) most_nodes then refuse_recovery 10 words
    else end (replay journal) words

-- ---- another end

-- the words behind the nodes are left as they came
unfoldable pub kept_behind : Replay → List ℕ → RecoverEffect
kept_behind (known xs) words = record { answer = record { refusal = 0; nodes = length xs }; words = xs ++ drop (length xs) words }
kept_behind (fault n) words = restored (fault n) words

unfoldable pub not_cleared : RecoverRule
not_cleared = replaying replayed kept_behind

-- 14 and 17 leave the list as it came
unfoldable pub kept_at_fault : Replay → List ℕ → RecoverEffect
kept_at_fault (known xs) words = restored (known xs) words
kept_at_fault (fault n) words = refuse_recovery n words

unfoldable pub not_zeroed : RecoverRule
not_zeroed = replaying replayed kept_at_fault

-- ---- another replay

-- slot after slot, by another rule for one
unfoldable pub taking_slots : (Bool → Replay → List ℕ → Replay) → Bool → Replay → List (List ℕ) → Replay
taking_slots taken gap r [] = r
taking_slots taken gap r (slot ∷ slots) = taking_slots taken (gap_after gap slot) (taken gap r slot) slots

abbrev pub taking_all : (Bool → Replay → List ℕ → Replay) → List ℕ → Replay
taking_all taken journal = taking_slots taken false bare (slots_of journal)

-- a torn slot is no right block, and 17
unfoldable pub torn_spoils : Bool → Replay → List ℕ → Replay
torn_spoils gap r slot =
    if is_erased slot then r
    else if gap then spoilt r
    else if is_block slot then follow r (addresses_in slot)
    else spoilt r

unfoldable pub torn_refused : RecoverRule
torn_refused = replaying (taking_all torn_spoils) restored

-- an erased slot may stand before one that isn't
unfoldable pub gap_passed : Bool → Replay → List ℕ → Replay
gap_passed gap r slot = slot_taken false r slot

unfoldable pub gaps_allowed : RecoverRule
gaps_allowed = replaying (taking_all gap_passed) restored

-- ---- another order

-- 10 before 12
unfoldable pub room_first : RecoverRule
room_first journal words =
    if ltb (length words) most_nodes then refuse_recovery 10 words
    else if not (is_length (length journal)) then refuse_recovery 12 words
    else restored (replayed journal) words

-- ---- another number of words

unfoldable pub wanting : ℕ → RecoverRule
wanting most journal words =
    if not (is_length (length journal)) then refuse_recovery 12 words
    else if ltb (length words) most then refuse_recovery 10 words
    else restored (replayed journal) words

-- ---- another number of nodes

-- one address more, and those of a block, with any number in the place of the most nodes
unfoldable pub taken_within : ℕ → List ℕ → ℕ → Replay
taken_within most xs a =
    if not (is_next xs a) then fault 17
    else if leb most (length xs) then fault 14
    else known (xs ++ (a ∷ []))

unfoldable pub next_within : ℕ → Replay → ℕ → Replay
next_within most (known xs) a = taken_within most xs a
next_within most (fault n) a = fault n

unfoldable pub follow_within : ℕ → Replay → List ℕ → Replay
follow_within most r [] = r
follow_within most r (a ∷ xs) = follow_within most (next_within most r a) xs

unfoldable pub slot_within : ℕ → Bool → Replay → List ℕ → Replay
slot_within most gap r slot =
    if is_erased slot then r
    else if gap then spoilt r
    else if ends_erased slot then r
    else if is_block slot then follow_within most r (addresses_in slot)
    else spoilt r

-- recovery that allows so many nodes
unfoldable pub holding : ℕ → RecoverRule
holding most = replaying (taking_all (slot_within most)) restored

-- ---- another record

-- with 0 and 0, as if no node might have a child
unfoldable pub closed_records : RecordRule
closed_records words a = record { node = with_limits 0 0 (record_in words a).node; found = (record_in words a).found }

-- that none of them is allowed; of those that want some number of words, recovery itself alone. `holding` stands in Full.
pub record WrongRecoveriesExcluded : Type 0 where
  -- with recovery's own parts they are recovery
  pub own_end : (journal words : List ℕ) → replaying replayed restored journal words ≡ recovering journal words
  pub own_slots : (journal : List ℕ) → taking_all slot_taken journal ≡ replayed journal
  pub own_words : (journal words : List ℕ) → wanting most_nodes journal words ≡ recovering journal words
  -- "then zeros to the list's end"
  pub left_behind : RecoverRefusals not_cleared → ⊥
  -- "Recovery's 14 and 17 leave the list all zeros"
  pub left_at_fault : RecoverRefusals not_zeroed → ⊥
  -- "A slot that isn't erased but ends in 0xFF is torn and skipped."
  pub torn_not_skipped : RecoverRefusals torn_refused → ⊥
  -- "Any slot that isn't erased, torn or not, standing after an erased one is 17."
  pub gap_not_seen : RecoverRefusals gaps_allowed → ⊥
  -- "Recovery first checks the length (12), then that at least [4,096] words are lent (10)"
  pub other_order : RecoverRefusals room_first → ⊥
  -- "Recovery wants 4,096 words lent."
  pub other_words : (most : ℕ) → RecoverRefusals (wanting most) → most ≡ most_nodes
  -- "recovered nodes have 64 and 64"
  pub other_limits : Records closed_records → ⊥
