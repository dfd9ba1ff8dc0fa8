-- A journal without a fault is its written slots and then its erased ones, so the first erased slot stands behind the written; with another slot
-- there it comes to what stood before and then that slot's addresses. Assumes nothing.
use Prim.Native.Nat.{ℕ, suc, ◌+◌, ◌*◌, ◌≤◌, ◌<◌}
use mathlib.Core.Path.{◌≡◌, refl, sym, ap, ap₂, subst, ◌∙◌}
use mathlib.Core.Bool.{false}
use mathlib.Core.List.{List, [], ◌∷◌, ◌++◌, append-nil}
use native.Mathlib.Omega.{arith}
use lib.ListN.{length, take, drop, length-append}
use lib.Seq.{append_snoc, take_at, drop-append-add, drop_at}
use Rattle.octets.specs.Octets.{AreOctets}
use Rattle.block.specs.Block.{slot_bytes}
use Rattle.journal.specs.Replay.{Replay, known, follow, bare}
use Rattle.journal.specs.Slots.{slot_count, slots_of, replay, replayed, written_slots}
use Rattle.journal.specs.Writing.{with_slot}
use Rattle.journal.proofs.ReplayLaws.{follow-append}
use Rattle.journals.specs.Replays.{IsReplayed}
use Rattle.journals.specs.Slots.{IsLength, IsErased, Holds, AllErased, Right}
use Rattle.journals.specs.Refusals.{NoneErased, Written, none, skipped, kept, IsFirstErased}
use Rattle.journals.specs.RoundTrip.{joined}
use Rattle.journals.proofs.GivenReplayed.{follow-replayed}
use Rattle.journals.proofs.SlotTests.{IsSlot, AreSlots, are_slots_append, are_slots_front, are_slots_behind, is_erased-erased, is_erased_other}
use Rattle.journals.proofs.SlotReplays.{holds-append, holds-none_erased, replay-written}
use Rattle.journals.proofs.Lengths.{length-slots_of, slots-slots_of, joined-slots_of, length-joined, slots_of-joined, octets-joined, joined-append}

-- ---- the slots that are written

pub written_slots-free : (slots : List (List ℕ)) → AllErased slots → written_slots slots ≡ 0
unfolding written_slots
written_slots-free [] free = refl
written_slots-free (slot ∷ slots) free = rw (is_erased-erased slot free.0) refl

written_slots-parts : (xs ys : List (List ℕ)) → AreSlots xs → NoneErased xs → AllErased ys → written_slots (xs ++ ys) ≡ length xs
unfolding written_slots
written_slots-parts [] ys s out free = written_slots-free ys free
written_slots-parts (x ∷ xs) ys s out free =
    rw (is_erased_other x s.0.size out.0) (ap suc (written_slots-parts xs ys s.1 out.1 free))

written-free : (slots : List (List ℕ)) → AllErased slots → Written slots []
written-free [] free = none
written-free (slot ∷ slots) free = skipped free.0 (written-free slots free.1)

written-parts : (xs ys : List (List ℕ)) → NoneErased xs → AllErased ys → Written (xs ++ ys) xs
written-parts [] ys out free = written-free ys free
written-parts (x ∷ xs) ys out free = kept out.0 (written-parts xs ys out.1 free)

-- there is one list of them
written_one_lem : {slots xs ys : List (List ℕ)} → Written slots xs → Written slots ys → xs ≡ ys
written_one_lem none none = refl
written_one_lem (skipped e p) (skipped f q) = written_one_lem p q
written_one_lem (skipped e p) (kept f q) = absurd (f e)
written_one_lem (kept e p) (skipped f q) = absurd (e f)
written_one_lem (kept {slot = slot} e p) (kept f q) = ap (λ (l : List (List ℕ)). slot ∷ l) (written_one_lem p q)

none_erased-behind : (xs ys : List (List ℕ)) → NoneErased (xs ++ ys) → NoneErased ys
none_erased-behind [] ys out = out
none_erased-behind (x ∷ xs) ys out = none_erased-behind xs ys out.1

module _ (journal nodes : List ℕ) (all : AreOctets journal) (r : Right (slots_of journal) nodes) where
  -- its slots
  right-slots : AreSlots (r.written ++ r.erased)
  right-slots = subst AreSlots r.parts (slots-slots_of journal all)

  pub slots-written : AreSlots r.written
  slots-written = are_slots_front r.written r.erased right-slots

  pub right-written : Written (slots_of journal) r.written
  right-written =
      subst (λ (l : List (List ℕ)). Written l r.written) (sym r.parts)
      (written-parts r.written r.erased (holds-none_erased r.holds) r.free)

  pub written-only : (written : List (List ℕ)) → Written (slots_of journal) written → written ≡ r.written
  written-only written w = written_one_lem w right-written

  pub written_slots-right : written_slots (slots_of journal) ≡ length r.written
  written_slots-right =
      ap written_slots r.parts ∙ written_slots-parts r.written r.erased slots-written (holds-none_erased r.holds) r.free

  slots-counted : slot_count journal ≡ length r.written + length r.erased
  slots-counted = sym (length-slots_of journal) ∙ ap length r.parts ∙ length-append r.written r.erased

  -- where no slot is left, none is erased
  pub none_erased-full : slot_count journal ≤ written_slots (slots_of journal) → NoneErased (slots_of journal)
  none_erased-full full =
      subst NoneErased (sym r.parts)
      (go r.erased (omega (arith, slots-counted, written_slots-right)))
    where
      go : (erased : List (List ℕ)) → length erased ≡ 0 → NoneErased (r.written ++ erased)
      go [] z = subst NoneErased (sym (append-nil r.written)) (holds-none_erased r.holds)
      go (x ∷ xs) z = absurd (omega arith)

  -- where one is left, the first erased one stands behind the written
  pub first_erased_left : written_slots (slots_of journal) < slot_count journal
      → (erased : List ℕ) × (rest : List (List ℕ)) × (slots_of journal ≡ r.written ++ erased ∷ rest) × IsErased erased × AllErased rest
  first_erased_left left = go r.erased r.parts r.free (omega (arith, slots-counted, written_slots-right))
    where
      go : (free : List (List ℕ)) → slots_of journal ≡ r.written ++ free → AllErased free → 0 < length free
          → (erased : List ℕ) × (rest : List (List ℕ)) × (slots_of journal ≡ r.written ++ erased ∷ rest) × IsErased erased × AllErased rest
      go [] e f some = absurd (omega arith)
      go (x ∷ xs) e f some = (x, xs, e, f.0, f.1)

  pub some-erased : written_slots (slots_of journal) < slot_count journal → NoneErased (slots_of journal) → ⊥
  some-erased left out = go (first_erased_left left)
    where
      go : (erased : List ℕ) × (rest : List (List ℕ)) × (slots_of journal ≡ r.written ++ erased ∷ rest) × IsErased erased × AllErased rest → ⊥
      go (erased, rest, parts, e, f) = (none_erased-behind r.written (erased ∷ rest) (subst NoneErased parts out)).0 e

  pub is_first_erased-left : written_slots (slots_of journal) < slot_count journal → IsFirstErased (slots_of journal) (written_slots (slots_of journal))
  is_first_erased-left left = go (first_erased_left left)
    where
      go : (erased : List ℕ) × (rest : List (List ℕ)) × (slots_of journal ≡ r.written ++ erased ∷ rest) × IsErased erased × AllErased rest
          → IsFirstErased (slots_of journal) (written_slots (slots_of journal))
      go (erased, rest, parts, e, f) = record {
        before = r.written;
        erased = erased;
        rest = rest;
        parts = parts;
        place = written_slots-right;
        none_before = holds-none_erased r.holds;
        free = e;
      }

-- ---- another slot in the place of one

module _ (journal : List ℕ) (h : IsLength (length journal)) (all : AreOctets journal) (before : List (List ℕ)) (old : List ℕ) (rest : List (List ℕ))
    (parts : slots_of journal ≡ before ++ old ∷ rest) where
  old-slots : AreSlots (before ++ old ∷ rest)
  old-slots = subst AreSlots parts (slots-slots_of journal all)

  slots-before : AreSlots before
  slots-before = are_slots_front before (old ∷ rest) old-slots

  pub slot-old : IsSlot old
  slot-old = (are_slots_behind before (old ∷ rest) old-slots).0

  slots-rest : AreSlots rest
  slots-rest = (are_slots_behind before (old ∷ rest) old-slots).1

  pub length_before : length (joined before) ≡ slot_bytes * length before
  length_before = length-joined before slots-before

  -- the journal, cut at the slot
  pub journal-parts : journal ≡ joined before ++ (old ++ joined rest)
  unfolding joined
  journal-parts = sym (joined-slots_of journal h) ∙ ap joined parts ∙ joined-append before (old ∷ rest)

  pub behind-slot : drop (slot_bytes * length before + slot_bytes) journal ≡ joined rest
  behind-slot =
      let whole : slot_bytes * length before + slot_bytes ≡ length (joined before) + slot_bytes = omega (arith, length_before) in
      ap₂ drop whole journal-parts
      ∙ drop-append-add (joined before) (old ++ joined rest) slot_bytes
      ∙ drop_at old (joined rest) slot_bytes slot-old.size

  pub with_slot-parts : (new : List ℕ) → with_slot (length before) new journal ≡ joined before ++ (new ++ joined rest)
  unfolding with_slot
  with_slot-parts new =
      ap₂ (λ (l m : List ℕ). l ++ (new ++ m))
      (
      ap (take (slot_bytes * length before)) journal-parts
      ∙ take_at (joined before) (old ++ joined rest) (slot_bytes * length before) length_before
      )
      behind-slot

  module _ (new : List ℕ) (s : IsSlot new) where
    slots-new : AreSlots (before ++ new ∷ rest)
    slots-new = are_slots_append before (new ∷ rest) slots-before (s, slots-rest)

    with_slot-joined : with_slot (length before) new journal ≡ joined (before ++ new ∷ rest)
    unfolding joined
    with_slot-joined = with_slot-parts new ∙ sym (joined-append before (new ∷ rest))

    pub slots_of-with_slot : slots_of (with_slot (length before) new journal) ≡ before ++ new ∷ rest
    slots_of-with_slot = ap slots_of with_slot-joined ∙ slots_of-joined (before ++ new ∷ rest) slots-new

    pub octets-with_slot : AreOctets (with_slot (length before) new journal)
    octets-with_slot = rw with_slot-joined (octets-joined (before ++ new ∷ rest) slots-new)

    pub length-with_slot : length (with_slot (length before) new journal) ≡ length journal
    length-with_slot =
        ap length (with_slot-parts new)
        ∙ (
        let same : length new ≡ length old = s.size ∙ sym slot-old.size in
        length-append (joined before) (new ++ joined rest)
        ∙ ap (λ (k : ℕ). length (joined before) + k)
        (length-append new (joined rest) ∙ ap (λ (k : ℕ). k + length (joined rest)) same ∙ sym (length-append old (joined rest)))
        ∙ sym (length-append (joined before) (old ++ joined rest))
        )
        ∙ ap length (sym journal-parts)

    -- what it comes to: what stood before, and then what the slot holds
    pub replayed-with_slot : {xs more nodes : List ℕ} → Holds before xs → IsReplayed xs nodes → Holds (new ∷ []) more → AllErased rest
        → replayed (with_slot (length before) new journal) ≡ follow (known nodes) more
    unfolding replayed
    replayed-with_slot {xs} {more} {nodes} k r m free =
        ap (replay false bare) (slots_of-with_slot ∙ sym (append_snoc before new rest))
        ∙ replay-written rest (holds-append k m) (are_slots_append before (new ∷ []) slots-before (s, tt)) free bare
        ∙ follow-append bare xs more
        ∙ ap (λ (x : Replay). follow x more) (follow-replayed xs nodes r)

    -- and one slot more is written
    pub written_slots-with_slot : {xs more : List ℕ} → Holds before xs → Holds (new ∷ []) more → AllErased rest
        → written_slots (slots_of (with_slot (length before) new journal)) ≡ suc (length before)
    written_slots-with_slot k m free =
        ap written_slots (slots_of-with_slot ∙ sym (append_snoc before new rest))
        ∙ written_slots-parts (before ++ (new ∷ [])) rest (are_slots_append before (new ∷ []) slots-before (s, tt))
        (holds-none_erased (holds-append k m)) free
        ∙ (let more : length before + 1 ≡ suc (length before) = omega arith in length-append before (new ∷ []) ∙ more)
