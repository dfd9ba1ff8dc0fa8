-- Every fault is 14 or 17, since no other number is made on the way. Assumes nothing.
use Rattle.std.specs.Prelude.{if◌then◌else◌}
use Prim.Native.Nat.{ℕ}
use mathlib.Core.Path.{◌≡◌, refl}
use mathlib.Core.Bool.{Bool, true, false, not}
use mathlib.Core.Logic.{◌⊎◌, inl, inr}
use mathlib.Core.List.{List, [], ◌∷◌, ◌++◌}
use lib.Dec.{leb}
use lib.ListN.{length}
use Rattle.block.specs.Block.{is_block, addresses_in}
use Rattle.journal.specs.Limits.{most_nodes}
use Rattle.journal.specs.Replay.{Replay, known, fault, is_next, taken, next, follow, bare}
use Rattle.journal.specs.Slots.{slots_of, is_erased, ends_erased, spoilt, entered, not_erased, slot_taken, gap_after, replay, replayed}

abbrev pub Numbered : Replay → Type 0
Numbered (known xs) = Unit {0}
Numbered (fault n) = (n ≡ 14) ⊎ (n ≡ 17)

numbered_next : (r : Replay) (a : ℕ) → Numbered r → Numbered (next r a)
unfolding next taken
numbered_next (known xs) a h = go (is_next xs a) (leb most_nodes (length xs))
  where
    go : (right full : Bool) → Numbered (if not right then fault 17 else if full then fault 14 else known (xs ++ (a ∷ [])))
    go false full = inr refl
    go true true = inl refl
    go true false = tt
numbered_next (fault n) a h = h

pub numbered_follow : (r : Replay) (xs : List ℕ) → Numbered r → Numbered (follow r xs)
unfolding follow
numbered_follow r [] h = h
numbered_follow r (x ∷ xs) h = numbered_follow (next r x) xs (numbered_next r x h)

numbered_spoilt : (r : Replay) → Numbered r → Numbered (spoilt r)
unfolding spoilt
numbered_spoilt (known xs) h = inr refl
numbered_spoilt (fault n) h = h

numbered_slot_taken : (gap : Bool) (r : Replay) (slot : List ℕ) → Numbered r → Numbered (slot_taken gap r slot)
unfolding slot_taken not_erased entered
numbered_slot_taken gap r slot h = go (is_erased slot) gap (ends_erased slot) (is_block slot)
  where
    go : (e g t b : Bool) → Numbered (if e then r else if g then spoilt r else if t then r else if b then follow r (addresses_in slot) else spoilt r)
    go true g t b = h
    go false true t b = numbered_spoilt r h
    go false false true b = h
    go false false false true = numbered_follow r (addresses_in slot) h
    go false false false false = numbered_spoilt r h

numbered_replay : (gap : Bool) (r : Replay) (slots : List (List ℕ)) → Numbered r → Numbered (replay gap r slots)
unfolding replay
numbered_replay gap r [] h = h
numbered_replay gap r (slot ∷ slots) h = numbered_replay (gap_after gap slot) (slot_taken gap r slot) slots (numbered_slot_taken gap r slot h)

pub numbered_replayed : (journal : List ℕ) → Numbered (replayed journal)
unfolding replayed
numbered_replayed journal = numbered_replay false bare (slots_of journal) tt
