-- One slot: each test says of 512 octets what the request means by it, so what is done with a slot goes by its place, its end and its form.
-- Assumes nothing.
use Prim.Native.Nat.{ℕ, ◌<◌}
use mathlib.Core.Path.{◌≡◌, refl, sym, ap, ◌∙◌}
use mathlib.Core.Bool.{Bool, true, false, true≢false}
use mathlib.Core.List.{List, [], ◌∷◌, ◌++◌}
use native.Mathlib.Omega.{arith}
use borrow.Author.Tests.{eq-eqb, ne_eqb, eqb-true, eqb-false}
use lib.ListN.{length, get_or, replicate, get_or-replicate, length-replicate}
use Rattle.octets.specs.Octets.{AreOctets}
use Rattle.block.specs.Block.{slot_bytes, block, is_block, addresses_in}
use Rattle.block.specs.Blocks.{AreWords, IsCount, IsBlockOf}
use Rattle.block.proofs.Laws.{all_are-replicate}
use Rattle.block.proofs.Theorem.{blocks}
use Rattle.journal.specs.Replay.{Replay, known, fault, follow}
use Rattle.journal.specs.Slots.{is_erased, ends_erased, spoilt, entered, not_erased, slot_taken, gap_after}
use Rattle.journals.specs.Slots.{IsErased, EndsErased}

-- a slot as it stands in a journal
pub record IsSlot (slot : List ℕ) : Type 0 where
  pub size : length slot ≡ slot_bytes
  pub octets : AreOctets slot

abbrev pub AreSlots : List (List ℕ) → Type 0
AreSlots [] = Unit {0}
AreSlots (slot ∷ slots) = IsSlot slot × AreSlots slots

pub are_slots_append : (xs ys : List (List ℕ)) → AreSlots xs → AreSlots ys → AreSlots (xs ++ ys)
are_slots_append [] ys h k = k
are_slots_append (x ∷ xs) ys h k = (h.0, are_slots_append xs ys h.1 k)

pub are_slots_front : (xs ys : List (List ℕ)) → AreSlots (xs ++ ys) → AreSlots xs
are_slots_front [] ys h = tt
are_slots_front (x ∷ xs) ys h = (h.0, are_slots_front xs ys h.1)

pub are_slots_behind : (xs ys : List (List ℕ)) → AreSlots (xs ++ ys) → AreSlots ys
are_slots_behind [] ys h = h
are_slots_behind (x ∷ xs) ys h = are_slots_behind xs ys h.1

-- ---- erased

-- also of a slot that is too long or too short
pub is_erased-erased : (slot : List ℕ) → IsErased slot → is_erased slot ≡ true
unfolding is_erased
is_erased-erased slot e =
    (all_are-replicate 0xFF slot).1 (e ∙ ap (λ (k : ℕ). replicate k 0xFF) (sym (ap length e ∙ length-replicate {A = ℕ} slot_bytes 0xFF)))

pub other_is_erased : (slot : List ℕ) → is_erased slot ≡ false → IsErased slot → ⊥
other_is_erased slot e h = true≢false (sym (is_erased-erased slot h) ∙ e)

module _ (slot : List ℕ) (size : length slot ≡ slot_bytes) where
  pub erased-is_erased : is_erased slot ≡ true → IsErased slot
  unfolding is_erased
  erased-is_erased e = (all_are-replicate 0xFF slot).0 e ∙ ap (λ (k : ℕ). replicate k 0xFF) size

  pub is_erased_other : (IsErased slot → ⊥) → is_erased slot ≡ false
  is_erased_other out = go (is_erased slot) refl
    where
      go : (t : Bool) → is_erased slot ≡ t → t ≡ false
      go true e = absurd (out (erased-is_erased e))
      go false e = refl

-- a slot with another byte in it is not erased
pub other_erased : (slot : List ℕ) (i : ℕ) → i < slot_bytes → (get_or slot i 0 ≡ 0xFF → ⊥) → IsErased slot → ⊥
other_erased slot i h out e = out (ap (λ (l : List ℕ). get_or l i 0) e ∙ get_or-replicate slot_bytes i 0xFF 0 h)

-- ---- ends in 0xFF

module _ (slot : List ℕ) where
  pub ends-ends_erased : ends_erased slot ≡ true → EndsErased slot
  unfolding ends_erased
  ends-ends_erased e = eqb-true (get_or slot 511 0) 0xFF e

  pub other_ends_erased : ends_erased slot ≡ false → EndsErased slot → ⊥
  unfolding ends_erased
  other_ends_erased e = eqb-false (get_or slot 511 0) 0xFF e

-- ---- blocks

module _ {xs slot : List ℕ} (b : IsBlockOf xs slot) where
  is_block_of-last : get_or slot 511 0 ≡ 0xA5
  is_block_of-last = ap (λ (l : List ℕ). get_or l 511 0) b.bytes ∙ (blocks.whole xs b.count).2

  pub is_block_of-ends : EndsErased slot → ⊥
  is_block_of-ends e = omega (arith, is_block_of-last, e)

  pub is_block_of-erased : IsErased slot → ⊥
  is_block_of-erased = other_erased slot 511 (omega arith) is_block_of-ends

  pub is_block_of-slot : IsSlot slot
  is_block_of-slot = record {
    size = ap length b.bytes ∙ (blocks.whole xs b.count).0;
    octets = rw b.bytes (blocks.whole xs b.count).3;
  }

  pub is_block_of-right : is_block slot ≡ true
  is_block_of-right = ap is_block b.bytes ∙ (blocks.reads_back xs b.words b.count).0

  pub is_block_of-addresses : addresses_in slot ≡ xs
  is_block_of-addresses = sym (blocks.only xs slot b)

pub block-is_block_of : (xs : List ℕ) → AreWords xs → IsCount (length xs) → IsBlockOf xs (block xs)
block-is_block_of xs words count = record { words = words; count = count; bytes = refl }

-- a slot that is no block is the block of no addresses
pub is_block-none : (slot : List ℕ) → is_block slot ≡ false → (xs : List ℕ) → IsBlockOf xs slot → ⊥
is_block-none slot e xs b = true≢false (sym (is_block_of-right b) ∙ e)

pub none-is_block : (slot : List ℕ) → AreOctets slot → ((xs : List ℕ) → IsBlockOf xs slot → ⊥) → is_block slot ≡ false
none-is_block slot all out = go (is_block slot) refl
  where
    go : (t : Bool) → is_block slot ≡ t → t ≡ false
    go true e = absurd (out (addresses_in slot) ((blocks.exactly slot all).0 e))
    go false e = refl

-- ---- what is done with a slot

pub spoilt-known : (xs : List ℕ) → spoilt (known xs) ≡ fault 17
unfolding spoilt
spoilt-known xs = refl

module _ (gap : Bool) (r : Replay) (slot : List ℕ) where
  pub slot_taken-erased : is_erased slot ≡ true → slot_taken gap r slot ≡ r
  unfolding slot_taken
  slot_taken-erased e = rw e refl

  pub gap_after-erased : is_erased slot ≡ true → gap_after gap slot ≡ true
  unfolding gap_after
  gap_after-erased e = rw e refl

  module _ (some : is_erased slot ≡ false) where
    pub gap_after_other : gap_after gap slot ≡ gap
    unfolding gap_after
    gap_after_other = rw some refl

    pub slot_taken-gap : gap ≡ true → slot_taken gap r slot ≡ spoilt r
    unfolding slot_taken not_erased
    slot_taken-gap g = rw (some, g) refl

    pub slot_taken-torn : gap ≡ false → EndsErased slot → slot_taken gap r slot ≡ r
    unfolding slot_taken not_erased entered ends_erased
    slot_taken-torn g z = rw (some, g, eq-eqb (get_or slot 511 0) 0xFF z) refl

    module _ (whole : EndsErased slot → ⊥) where
      pub slot_taken_wrong : gap ≡ false → is_block slot ≡ false → slot_taken gap r slot ≡ spoilt r
      unfolding slot_taken not_erased entered ends_erased
      slot_taken_wrong g b = rw (some, g, ne_eqb (get_or slot 511 0) 0xFF whole, b) refl

      pub slot_taken-block : gap ≡ false → is_block slot ≡ true → slot_taken gap r slot ≡ follow r (addresses_in slot)
      unfolding slot_taken not_erased entered ends_erased
      slot_taken-block g b = rw (some, g, ne_eqb (get_or slot 511 0) 0xFF whole, b) refl
