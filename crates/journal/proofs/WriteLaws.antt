-- The writer, exit by exit: it stores a block only where its answer names a slot of the journal. Assumes nothing.
use Rattle.std.specs.Prelude.{if◌then◌else◌}
use Prim.Native.Nat.{ℕ, ◌*◌, ◌<◌}
use mathlib.Core.Path.{◌≡◌, refl, sym, ap}
use mathlib.Core.Bool.{Bool, true, false, not, ◌&&◌}
use mathlib.Core.List.{List, ◌++◌}
use native.Mathlib.Omega.{arith}
use borrow.Author.Tests.{leb-false, eq-eqb, ne_eqb}
use borrow.Rule.Slice.PartMut.{put_mid}
use lib.Dec.{leb}
use lib.ListN.{length, take, drop, length-drop}
use lib.Seq.{drop-drop, length-take-le}
use Rattle.block.specs.Block.{slot_bytes, is_count, block, block_put}
use Rattle.journal.specs.Replay.{Replay, known, fault, follow, bare}
use Rattle.journal.specs.Slots.{slot_count, slots_of, replayed, written_slots}
use Rattle.journal.specs.Recovery.{is_length}
use Rattle.journal.specs.Writing.{Placed, BlockEffect, refuse_placing, placing, judged, judging, with_slot, stored, writing}
use Rattle.journal.proofs.CountLaws.{Within, within-follow, within-replay}

placing-slot : (slots written : ℕ) → (placing slots written).refusal ≡ 0 → (placing slots written).slot < slots
unfolding placing refuse_placing
placing-slot slots written = go (leb slots written) refl
  where
    go : (full : Bool) → leb slots written ≡ full → (if full then refuse_placing 10 else record { refusal = 0; slot = written }).refusal ≡ 0
        → (if full then refuse_placing 10 else record { refusal = 0; slot = written }).slot < slots
    go true e z = absurd (omega (arith, z))
    go false e z = leb-false slots written e

judged-slot : (r : Replay) (slots written : ℕ) → Within r → (judged r slots written).refusal ≡ 0 → (judged r slots written).slot < slots
unfolding judged refuse_placing
judged-slot (known xs) slots written h z = placing-slot slots written z
judged-slot (fault n) slots written h z = absurd (omega (arith, h, z))

module _ (journal addresses : List ℕ) where
  judging-cases : (P : Placed → Type 0) → P (refuse_placing 12)
      → (is_count (length addresses) ≡ true → P (judged (follow (replayed journal) addresses) (slot_count journal) (written_slots (slots_of journal))))
      → P (judging journal addresses)
  unfolding judging
  judging-cases P twelve other = go (is_length (length journal)) (is_count (length addresses)) refl
    where
      go : (right count : Bool) → is_count (length addresses) ≡ count
          → P (if not (right && count) then refuse_placing 12 else judged (follow (replayed journal) addresses) (slot_count journal) (written_slots (slots_of journal)))
      go false count e = twelve
      go true false e = twelve
      go true true e = other e

  -- a slot that is named is one of the journal, and the count is right
  pub judging-slot : (judging journal addresses).refusal ≡ 0 → ((judging journal addresses).slot < slot_count journal) × (is_count (length addresses) ≡ true)
  unfolding refuse_placing
  judging-slot =
      judging-cases (λ (p : Placed). p.refusal ≡ 0 → (p.slot < slot_count journal) × (is_count (length addresses) ≡ true)) (λ z. absurd (omega (arith, z)))
      (λ count z. (judged-slot _ _ _ (within-follow (replayed journal) addresses within-replayed) z, count))
    where
      within-replayed : Within (replayed journal)
      within-replayed = unfold replayed in within-replay false bare (slots_of journal) (omega arith)

  pub writing-refused : ((judging journal addresses).refusal ≡ 0 → ⊥) → writing journal addresses ≡ record { answer = judging journal addresses; journal = journal }
  unfolding writing stored
  writing-refused ne = rw (ne_eqb (judging journal addresses).refusal 0 ne) refl

  pub writing-stored : (judging journal addresses).refusal ≡ 0
      → writing journal addresses ≡ record { answer = judging journal addresses; journal = with_slot (judging journal addresses).slot (block addresses) journal }
  unfolding writing stored
  writing-stored z = rw (eq-eqb (judging journal addresses).refusal 0 z) refl

-- what the code answers and leaves is what the effect says
pub writing_says : {p : Placed} {bytes : List ℕ} (e : BlockEffect) → e ≡ record { answer = p; journal = bytes } → (p ≡ e.answer) × (bytes ≡ e.journal)
writing_says e h = (ap (λ (x : BlockEffect). x.answer) (sym h), ap (λ (x : BlockEffect). x.journal) (sym h))

-- a whole slot takes the block
pub block_put-whole : (addresses slot : List ℕ) → length slot ≡ slot_bytes → is_count (length addresses) ≡ true → block_put addresses slot ≡ block addresses
unfolding block_put
block_put-whole addresses slot e count = rw (eq-eqb (length slot) slot_bytes e, count) refl

-- a slot stored as a part of the journal
pub with_slot-part : (slot named k : ℕ) (part journal addresses : List ℕ) → slot ≡ named → k ≡ slot_bytes → part ≡ block addresses
    → put_mid (slot_bytes * slot) k journal part ≡ with_slot named (block addresses) journal
unfolding with_slot
with_slot-part slot named k part journal addresses e w p = rw (e, w, p) (ap (λ (l : List ℕ). take (slot_bytes * named) journal ++ (block addresses ++ l)) (drop-drop slot_bytes (slot_bytes * named) journal))

-- a slot of the journal is a whole one
pub length_part : (slot k : ℕ) (journal : List ℕ) → slot < slot_count journal → k ≡ slot_bytes → length (take k (drop (slot_bytes * slot) journal)) ≡ slot_bytes
length_part slot k journal within w =
    rw w (length-take-le slot_bytes (drop (slot_bytes * slot) journal) (omega (arith, length-drop (slot_bytes * slot) journal, within)))
