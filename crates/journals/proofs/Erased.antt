-- An erased journal: so many bytes 0xFF are so many erased slots, of which none is written, and it comes to a bare root. Assumes nothing.
use Prim.Native.Nat.{ℕ, zero, suc, ◌+◌, ◌*◌, ◌≤◌}
use mathlib.Core.Path.{◌≡◌, refl, sym, ap, ◌∙◌}
use mathlib.Core.Bool.{false}
use mathlib.Core.List.{List, ◌++◌}
use native.Mathlib.Omega.{arith}
use lib.ListN.{length, replicate, length-replicate, replicate-append-replicate}
use Rattle.octets.specs.Octets.{AreOctets}
use Rattle.block.specs.Block.{slot_bytes}
use Rattle.journal.specs.Limits.{most_slots}
use Rattle.journal.specs.Replay.{bare}
use Rattle.journal.specs.Slots.{slots_of, replay, replayed, written_slots}
use Rattle.journals.specs.Slots.{IsLength, AllErased}
use Rattle.journals.specs.RoundTrip.{joined}
use Rattle.journals.proofs.SlotTests.{IsSlot, AreSlots}
use Rattle.journals.proofs.SlotReplays.{replay-free}
use Rattle.journals.proofs.Lengths.{slots_of-joined}
use Rattle.journals.proofs.Placing.{written_slots-free}

abbrev pub erased_slot : List ℕ
erased_slot = replicate slot_bytes 0xFF

abbrev pub erased_journal : ℕ → List ℕ
erased_journal slots = replicate (slot_bytes * slots) 0xFF

pub replicate-octets : (k : ℕ) → AreOctets (replicate k 0xFF)
replicate-octets zero = tt
replicate-octets (suc k) = (omega arith, replicate-octets k)

pub slot-erased : IsSlot erased_slot
slot-erased = record { size = length-replicate {A = ℕ} slot_bytes 0xFF; octets = replicate-octets slot_bytes }

slots-erased : (n : ℕ) → AreSlots (replicate n erased_slot)
slots-erased zero = tt
slots-erased (suc n) = (slot-erased, slots-erased n)

pub all_erased : (n : ℕ) → AllErased (replicate n erased_slot)
all_erased zero = tt
all_erased (suc n) = (refl, all_erased n)

joined-erased : (n : ℕ) → joined (replicate n erased_slot) ≡ erased_journal n
unfolding joined
joined-erased zero = refl
joined-erased (suc n) =
    let whole : slot_bytes + slot_bytes * n ≡ slot_bytes * suc n = omega arith in
    ap (λ (l : List ℕ). erased_slot ++ l) (joined-erased n)
    ∙ replicate-append-replicate {A = ℕ} slot_bytes (slot_bytes * n) 0xFF
    ∙ ap (λ (k : ℕ). replicate k 0xFF) whole

pub slots_of-erased : (n : ℕ) → slots_of (erased_journal n) ≡ replicate n erased_slot
slots_of-erased n = ap slots_of (sym (joined-erased n)) ∙ slots_of-joined (replicate n erased_slot) (slots-erased n)

module _ (n : ℕ) where
  pub octets-erased : AreOctets (erased_journal n)
  octets-erased = replicate-octets (slot_bytes * n)

  pub length-erased : length (erased_journal n) ≡ slot_bytes * n
  length-erased = length-replicate {A = ℕ} (slot_bytes * n) 0xFF

  pub is_length-erased : 1 ≤ n → n ≤ most_slots → IsLength (length (erased_journal n))
  is_length-erased some few = record { slots = n; some = some; few = few; whole = length-erased }

  pub slot_count-erased : length (slots_of (erased_journal n)) ≡ n
  slot_count-erased = ap length (slots_of-erased n) ∙ length-replicate {A = List ℕ} n erased_slot

  pub replayed-erased : replayed (erased_journal n) ≡ bare
  unfolding replayed
  replayed-erased = ap (replay false bare) (slots_of-erased n) ∙ replay-free false bare (replicate n erased_slot) (all_erased n)

  pub written_slots-erased : written_slots (slots_of (erased_journal n)) ≡ 0
  written_slots-erased = ap written_slots (slots_of-erased n) ∙ written_slots-free (replicate n erased_slot) (all_erased n)
