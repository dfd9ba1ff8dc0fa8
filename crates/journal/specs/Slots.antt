-- The slots of a journal, one after the other: "then takes slots in order, the first fault deciding, in a slot its place and form before its
-- addresses".
use Rattle.std.specs.Prelude.{ℕ, zero, suc, ◌/◌, Bool, true, false, List, [], ◌∷◌, length, take, drop, get_or, eqb, if◌then◌else◌}
use Rattle.block.specs.Block.{slot_bytes, all_are, is_block, addresses_in}
use Rattle.journal.specs.Replay.{Replay, known, fault, follow, bare}

unfoldable pub slots_in : ℕ → List ℕ → List (List ℕ)
slots_in zero journal = []
slots_in (suc k) journal = take slot_bytes journal ∷ slots_in k (drop slot_bytes journal)

abbrev pub slot_count : List ℕ → ℕ
slot_count journal = length journal / slot_bytes

unfoldable pub slots_of : List ℕ → List (List ℕ)
slots_of journal = slots_in (slot_count journal) journal

-- "erased to 0xFF"
unfoldable pub is_erased : List ℕ → Bool
is_erased slot = all_are 0xFF slot

-- 17, where no fault came before
unfoldable pub spoilt : Replay → Replay
spoilt (known xs) = fault 17
spoilt (fault n) = fault n

-- "A slot that isn't erased but ends in 0xFF is torn and skipped."
unfoldable pub ends_erased : List ℕ → Bool
ends_erased slot = eqb (get_or slot 511 0) 0xFF

-- "A slot ending in anything else must be a right block .. otherwise 17."
unfoldable pub entered : Replay → List ℕ → Replay
entered r slot =
    if ends_erased slot then r
    else if is_block slot then follow r (addresses_in slot)
    else spoilt r

-- a slot that isn't erased, where the test tells whether an erased one stands before it: "Any slot that isn't erased, torn or not, standing after
-- an erased one is 17."
unfoldable pub not_erased : Bool → Replay → List ℕ → Replay
not_erased gap r slot = if gap then spoilt r else entered r slot

unfoldable pub slot_taken : Bool → Replay → List ℕ → Replay
slot_taken gap r slot = if is_erased slot then r else not_erased gap r slot

-- an erased slot leaves a gap for those behind it
unfoldable pub gap_after : Bool → List ℕ → Bool
gap_after gap slot = if is_erased slot then true else gap

unfoldable pub replay : Bool → Replay → List (List ℕ) → Replay
replay gap r [] = r
replay gap r (slot ∷ slots) = replay (gap_after gap slot) (slot_taken gap r slot) slots

-- what a journal comes to
unfoldable pub replayed : List ℕ → Replay
replayed journal = replay false bare (slots_of journal)

-- how many slots stand before the first erased one
unfoldable pub written_slots : List (List ℕ) → ℕ
written_slots [] = 0
written_slots (slot ∷ slots) = if is_erased slot then 0 else suc (written_slots slots)
