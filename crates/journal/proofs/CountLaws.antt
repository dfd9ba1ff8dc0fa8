-- What is replayed stays within the nodes that there may be, and a fault has a number. Assumes nothing.
use Rattle.std.specs.Prelude.{if◌then◌else◌}
use Prim.Native.Nat.{ℕ, ◌≤◌, ◌<◌}
use mathlib.Core.Path.{◌≡◌, refl}
use mathlib.Core.Bool.{Bool, true, false, not}
use mathlib.Core.List.{List, [], ◌∷◌, ◌++◌}
use native.Mathlib.Omega.{arith}
use borrow.Author.Tests.{leb-false}
use lib.Dec.{leb}
use lib.ListN.{length, length-append}
use Rattle.block.specs.Block.{is_block, addresses_in}
use Rattle.journal.specs.Limits.{most_nodes}
use Rattle.journal.specs.Replay.{Replay, known, fault, is_next, taken, next, follow}
use Rattle.journal.specs.Slots.{is_erased, ends_erased, spoilt, entered, not_erased, slot_taken, gap_after, replay}

-- not more nodes than there may be, or a fault that has a number
abbrev pub Within : Replay → Type 0
Within (known xs) = length xs ≤ most_nodes
Within (fault n) = 0 < n

within-taken : (xs : List ℕ) (a : ℕ) → Within (taken xs a)
unfolding taken
within-taken xs a = go (is_next xs a) (leb most_nodes (length xs)) refl
  where
    go : (right full : Bool) → leb most_nodes (length xs) ≡ full
        → Within (if not right then fault 17 else if full then fault 14 else known (xs ++ (a ∷ [])))
    go false full e = omega arith
    go true true e = omega arith
    go true false e = omega (arith, leb-false most_nodes (length xs) e, length-append xs (a ∷ []))

within-next : (r : Replay) (a : ℕ) → Within r → Within (next r a)
unfolding next
within-next (known xs) a h = within-taken xs a
within-next (fault n) a h = h

pub within-follow : (r : Replay) (xs : List ℕ) → Within r → Within (follow r xs)
unfolding follow
within-follow r [] h = h
within-follow r (x ∷ xs) h = within-follow (next r x) xs (within-next r x h)

within-spoilt : (r : Replay) → Within r → Within (spoilt r)
unfolding spoilt
within-spoilt (known xs) h = omega arith
within-spoilt (fault n) h = h

within-entered : (r : Replay) (slot : List ℕ) → Within r → Within (entered r slot)
unfolding entered
within-entered r slot h = go (ends_erased slot) (is_block slot)
  where
    go : (torn right : Bool) → Within (if torn then r else if right then follow r (addresses_in slot) else spoilt r)
    go true right = h
    go false true = within-follow r (addresses_in slot) h
    go false false = within-spoilt r h

within-not_erased : (gap : Bool) (r : Replay) (slot : List ℕ) → Within r → Within (not_erased gap r slot)
unfolding not_erased
within-not_erased true r slot h = within-spoilt r h
within-not_erased false r slot h = within-entered r slot h

pub within-slot_taken : (gap : Bool) (r : Replay) (slot : List ℕ) → Within r → Within (slot_taken gap r slot)
unfolding slot_taken
within-slot_taken gap r slot h = go (is_erased slot)
  where
    go : (erased : Bool) → Within (if erased then r else not_erased gap r slot)
    go true = h
    go false = within-not_erased gap r slot h

pub within-replay : (gap : Bool) (r : Replay) (slots : List (List ℕ)) → Within r → Within (replay gap r slots)
unfolding replay
within-replay gap r [] h = h
within-replay gap r (slot ∷ slots) h = within-replay (gap_after gap slot) (slot_taken gap r slot) slots (within-slot_taken gap r slot h)
