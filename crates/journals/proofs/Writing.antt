-- The writer ends in one of five ways, each with its condition and with those before it passed: so each refusal is given exactly when the request
-- says, and without one the block stands in the first erased slot. Assumes nothing.
use Rattle.std.specs.Prelude.{if◌then◌else◌}
use Prim.Native.Nat.{ℕ, ◌≤◌, ◌<◌}
use mathlib.Core.Path.{◌≡◌, refl, sym, ap, subst, ◌∙◌}
use mathlib.Core.Bool.{Bool, true, false, not, ◌&&◌, true≢false}
use mathlib.Core.Logic.{◌⊎◌, inl, inr}
use mathlib.Core.List.{List, [], ◌∷◌, ◌++◌}
use native.Mathlib.Omega.{arith}
use borrow.Author.Tests.{leb-true, leb-false, lt-leb, ne_eqb}
use lib.Dec.{leb}
use lib.ListN.{length}
use Rattle.address.specs.Order.{Order, First, done, ◌when◌otherwise◌}
use Rattle.address.proofs.OrderLaws.{given-exactly}
use Rattle.octets.specs.Octets.{AreOctets}
use Rattle.block.specs.Block.{is_count, block}
use Rattle.block.specs.Blocks.{AreWords, IsCount}
use Rattle.block.proofs.Cases.{is_count_true, true_is_count}
use Rattle.journal.specs.Replay.{Replay, known, fault, follow, bare}
use Rattle.journal.specs.Slots.{slot_count, slots_of, replay, replayed, written_slots}
use Rattle.journal.specs.Recovery.{is_length}
use Rattle.journal.specs.Writing.{Placed}
use Rattle.journal.specs.Writing.{refuse_placing, placing, judged, judging, with_slot, BlockEffect, stored, writing}
use Rattle.journal.proofs.ReplayLaws.{follow-fault, follow-append}
use Rattle.journals.specs.Slots.{IsLength, Right, Fault}
use Rattle.journals.specs.Refusals.{FaultWith, NoneErased, IsFirstErased, write_order, WriteRefusals}
use Rattle.journals.proofs.GivenReplayed.{follow-replayed}
use Rattle.journals.proofs.SlotTests.{AreSlots, are_slots_append, is_block_of-slot, block-is_block_of}
use Rattle.journals.proofs.SlotReplays.{holds-append, holds-block, replay-holds}
use Rattle.journals.proofs.SlotOutcomes.{replay-fault-exactly}
use Rattle.journals.proofs.Lengths.{is_length-right, right-is_length}
use Rattle.journals.proofs.FaultNumbers.{Numbered, numbered_follow}
use Rattle.journals.proofs.Recovering.{known-fault, right-replayed, fault-replayed, known_no_fault, one-fault, fault-number, first-fault}
use Rattle.journals.proofs.Placing.{slots-written, right-written, written-only, none_erased-full, some-erased, is_first_erased-left}

-- ---- the five ends

-- a refusal, and the journal as it was
unfoldable pub refused : ℕ → List ℕ → BlockEffect
refused n journal = record { answer = refuse_placing n; journal = journal }

-- the block in a slot
unfoldable pub written : ℕ → List ℕ → List ℕ → BlockEffect
written slot addresses journal = record { answer = record { refusal = 0; slot = slot }; journal = with_slot slot (block addresses) journal }

-- a length and a count that are right
pub record Sized (journal addresses : List ℕ) : Type 0 where
  pub is_long : IsLength (length journal)
  pub counted : IsCount (length addresses)

pub data WriteEnd (journal addresses : List ℕ) : BlockEffect → Type 0 where
  wrong_size : (IsLength (length journal) → ⊥) ⊎ (IsCount (length addresses) → ⊥) → WriteEnd journal addresses (refused 12 journal)
  faulty : Sized journal addresses → (n : ℕ) → replayed journal ≡ fault n → WriteEnd journal addresses (refused n journal)
  wrong_block : Sized journal addresses → (nodes : List ℕ) → replayed journal ≡ known nodes → (n : ℕ) → follow (known nodes) addresses ≡ fault n
      → WriteEnd journal addresses (refused n journal)
  full : Sized journal addresses → (nodes more : List ℕ) → replayed journal ≡ known nodes → follow (known nodes) addresses ≡ known more
      → slot_count journal ≤ written_slots (slots_of journal) → WriteEnd journal addresses (refused 10 journal)
  placed : Sized journal addresses → (nodes more : List ℕ) → replayed journal ≡ known nodes → follow (known nodes) addresses ≡ known more
      → written_slots (slots_of journal) < slot_count journal → WriteEnd journal addresses (written (written_slots (slots_of journal)) addresses journal)

-- what comes of an answer
abbrev effect_of : List ℕ → List ℕ → Placed → BlockEffect
effect_of journal addresses answer = record { answer = answer; journal = stored answer addresses journal }

effect_of-refused : (journal addresses : List ℕ) (n : ℕ) → (n ≡ 0 → ⊥) → effect_of journal addresses (refuse_placing n) ≡ refused n journal
unfolding refuse_placing stored refused
effect_of-refused journal addresses n some = rw (ne_eqb n 0 some) refl

effect_of-written : (journal addresses : List ℕ) (slot : ℕ)
    → effect_of journal addresses (record { refusal = 0; slot = slot }) ≡ written slot addresses journal
unfolding stored written
effect_of-written journal addresses slot = refl

number-some : {n : ℕ} → (n ≡ 14) ⊎ (n ≡ 17) → n ≡ 0 → ⊥
number-some (inl e) z = omega arith
number-some (inr e) z = omega arith

module _ (journal addresses : List ℕ) where
  abbrev Ends : Placed → Type 0
  Ends answer = WriteEnd journal addresses (effect_of journal addresses answer)

  ends-refused : (n : ℕ) → (n ≡ 0 → ⊥) → WriteEnd journal addresses (refused n journal) → Ends (refuse_placing n)
  ends-refused n some end = subst (WriteEnd journal addresses) (sym (effect_of-refused journal addresses n some)) end

  placing-end : Sized journal addresses → (nodes more : List ℕ) → replayed journal ≡ known nodes → follow (known nodes) addresses ≡ known more
      → Ends (placing (slot_count journal) (written_slots (slots_of journal)))
  unfolding placing
  placing-end s nodes more e f = go (leb (slot_count journal) (written_slots (slots_of journal))) refl
    where
      go : (t : Bool) → leb (slot_count journal) (written_slots (slots_of journal)) ≡ t
          → Ends (if t then refuse_placing 10 else record { refusal = 0; slot = written_slots (slots_of journal) })
      go true t = ends-refused 10 (λ z. omega arith) (full s nodes more e f (leb-true (slot_count journal) (written_slots (slots_of journal)) t))
      go false t =
          subst (WriteEnd journal addresses) (sym (effect_of-written journal addresses (written_slots (slots_of journal))))
          (placed s nodes more e f (leb-false (slot_count journal) (written_slots (slots_of journal)) t))

  judged-end : Sized journal addresses → (r : Replay) → replayed journal ≡ r
      → Ends (judged (follow r addresses) (slot_count journal) (written_slots (slots_of journal)))
  judged-end s (fault n) e =
      subst (λ (x : Replay). Ends (judged x (slot_count journal) (written_slots (slots_of journal)))) (sym (follow-fault n addresses))
      (unfold judged in ends-refused n (number-some (fault-number journal n e)) (faulty s n e))
  judged-end s (known nodes) e = go (follow (known nodes) addresses) refl (numbered_follow (known nodes) addresses tt)
    where
      go : (x : Replay) → follow (known nodes) addresses ≡ x → Numbered x
          → Ends (judged x (slot_count journal) (written_slots (slots_of journal)))
      go (known more) f num = unfold judged in placing-end s nodes more e f
      go (fault n) f num = unfold judged in ends-refused n (number-some num) (wrong_block s nodes e n f)

  pub writing-end : WriteEnd journal addresses (writing journal addresses)
  unfolding writing judging
  writing-end = go (is_length (length journal)) refl (is_count (length addresses)) refl
    where
      go : (l : Bool) → is_length (length journal) ≡ l → (c : Bool) → is_count (length addresses) ≡ c
          → Ends (if not (l && c) then refuse_placing 12
          else judged (follow (replayed journal) addresses) (slot_count journal) (written_slots (slots_of journal)))
      go true l true c =
          judged-end (record { is_long = right-is_length (length journal) l; counted = true_is_count (length addresses) c }) (replayed journal) refl
      go true l false c =
          ends-refused 12 (λ z. omega arith) (wrong_size (inr (λ h. true≢false (sym (is_count_true (length addresses) h) ∙ c))))
      go false l c d =
          ends-refused 12 (λ z. omega arith) (wrong_size (inl (λ h. true≢false (sym (is_length-right (length journal) h) ∙ l))))

-- ---- "for its written slots and this block after them"

module _ (journal addresses nodes : List ℕ) (all : AreOctets journal) (words : AreWords addresses) (count : IsCount (length addresses))
    (e : replayed journal ≡ known nodes) where
  abbrev right : Right (slots_of journal) nodes
  right = right-replayed journal all nodes e

  abbrev with_block : List (List ℕ)
  with_block = right.written ++ (block addresses ∷ [])

  slots-with_block : AreSlots with_block
  slots-with_block =
      are_slots_append right.written (block addresses ∷ []) (slots-written journal nodes all right)
      (is_block_of-slot (block-is_block_of addresses words count), tt)

  replay-with_block : replay false bare with_block ≡ follow (known nodes) addresses
  replay-with_block =
      replay-holds (holds-append right.holds (holds-block (block-is_block_of addresses words count))) slots-with_block bare
      ∙ follow-append bare right.addresses addresses
      ∙ ap (λ (x : Replay). follow x addresses) (follow-replayed right.addresses nodes right.replayed)

  fault_with_fault : (n : ℕ) → follow (known nodes) addresses ≡ fault n → FaultWith journal addresses n
  fault_with_fault n f =
      (right.written, right-written journal nodes all right, (replay-fault-exactly with_block n slots-with_block).0 (replay-with_block ∙ f))

  fault_fault_with : (n : ℕ) → FaultWith journal addresses n → follow (known nodes) addresses ≡ fault n
  fault_fault_with n (slots, w, f) =
      sym replay-with_block
      ∙ (replay-fault-exactly with_block n slots-with_block).1
      (subst (λ (l : List (List ℕ)). Fault (l ++ (block addresses ∷ [])) n) (written-only journal nodes all right slots w) f)

  known_no_fault_with : (after : List ℕ) (n : ℕ) → follow (known nodes) addresses ≡ known after → FaultWith journal addresses n → ⊥
  known_no_fault_with after n k f = known-fault (sym k ∙ fault_fault_with n f)

-- ---- what each end says

number-follow : (nodes addresses : List ℕ) {n : ℕ} → follow (known nodes) addresses ≡ fault n → (n ≡ 14) ⊎ (n ≡ 17)
number-follow nodes addresses f = subst Numbered f (numbered_follow (known nodes) addresses tt)

-- the order behind the journal's own faults
abbrev block_order : List ℕ → List ℕ → Order
block_order journal addresses =
    14 when FaultWith journal addresses 14
    otherwise 17 when FaultWith journal addresses 17
    otherwise 10 when NoneErased (slots_of journal)
    otherwise done

module _ {journal addresses : List ℕ} where
  -- the size is right
  past_size : Sized journal addresses → (IsLength (length journal) → ⊥) ⊎ (IsCount (length addresses) → ⊥) → ⊥
  past_size s (inl out) = out s.is_long
  past_size s (inr out) = out s.counted

  -- and the block is
  past_block : AreOctets journal → AreWords addresses → Sized journal addresses → (nodes more : List ℕ) → replayed journal ≡ known nodes
      → follow (known nodes) addresses ≡ known more → (k : ℕ) → First (10 when NoneErased (slots_of journal) otherwise done) k
      → First (write_order journal addresses) k
  past_block all words s nodes more e f k rest =
      let none = known_no_fault_with journal addresses nodes all words s.counted e more in
      inr (
        past_size s,
        inr (
          known_no_fault journal all nodes 14 e,
          inr (known_no_fault journal all nodes 17 e, inr (λ w. none 14 f w, inr (λ w. none 17 f w, rest))),
        ),
      )

  pub write_end_first : AreOctets journal → AreWords addresses → {e : BlockEffect} → WriteEnd journal addresses e
      → First (write_order journal addresses) e.answer.refusal
  unfolding refused written refuse_placing
  write_end_first all words (wrong_size out) = inl (out, refl)
  write_end_first all words (faulty s n e) =
      inr (
        past_size s,
        first-fault (Fault (slots_of journal)) (block_order journal addresses) n (fault-number journal n e) (fault-replayed journal all n e)
            (one-fault journal all n e),
      )
  write_end_first all words (wrong_block s nodes e n f) =
      inr (
        past_size s,
        inr (
          known_no_fault journal all nodes 14 e,
          inr (
            known_no_fault journal all nodes 17 e,
            first-fault (FaultWith journal addresses) (10 when NoneErased (slots_of journal) otherwise done) n (number-follow nodes addresses f)
                (fault_with_fault journal addresses nodes all words s.counted e n f)
                (λ m w. let both = sym f ∙ fault_fault_with journal addresses nodes all words s.counted e m w in cc),
          ),
        ),
      )
  write_end_first all words (full s nodes more e f l) =
      past_block all words s nodes more e f 10 (inl (none_erased-full journal nodes all (right-replayed journal all nodes e) l, refl))
  write_end_first all words (placed s nodes more e f l) =
      past_block all words s nodes more e f 0 (inr (some-erased journal nodes all (right-replayed journal all nodes e) l, refl))

  pub write_end_beside : {e : BlockEffect} → WriteEnd journal addresses e → (e.answer.refusal ≡ 0 → ⊥)
      → (e.answer.slot ≡ 0) × (e.journal ≡ journal)
  unfolding refused written refuse_placing
  write_end_beside (wrong_size out) h = (refl, refl)
  write_end_beside (faulty s n e) h = (refl, refl)
  write_end_beside (wrong_block s nodes e n f) h = (refl, refl)
  write_end_beside (full s nodes more e f l) h = (refl, refl)
  write_end_beside (placed s nodes more e f l) h = absurd (h refl)

  -- without a refusal a slot is left, and the journal and the block are replayed
  pub write_end_without : {e : BlockEffect} → WriteEnd journal addresses e → e.answer.refusal ≡ 0
      → Sized journal addresses × (nodes : List ℕ) × (more : List ℕ) × (replayed journal ≡ known nodes)
      × (follow (known nodes) addresses ≡ known more) × (written_slots (slots_of journal) < slot_count journal)
      × (e ≡ written (written_slots (slots_of journal)) addresses journal)
  unfolding refused refuse_placing
  write_end_without (wrong_size out) z = absurd (omega arith)
  write_end_without (faulty s n e) z = absurd (number-some (fault-number journal n e) z)
  write_end_without (wrong_block s nodes e n f) z = absurd (number-some (number-follow nodes addresses f) z)
  write_end_without (full s nodes more e f l) z = absurd (omega arith)
  write_end_without (placed s nodes more e f l) z = (s, nodes, more, e, f, l, refl)

-- the block stands in the first erased slot
without_refusal : (journal addresses : List ℕ) → AreOctets journal → {e : BlockEffect} → WriteEnd journal addresses e → e.answer.refusal ≡ 0
    → IsFirstErased (slots_of journal) e.answer.slot × (e.journal ≡ with_slot e.answer.slot (block addresses) journal)
unfolding refused written refuse_placing
without_refusal journal addresses all (wrong_size out) z = absurd (omega arith)
without_refusal journal addresses all (faulty s n e) z = absurd (number-some (fault-number journal n e) z)
without_refusal journal addresses all (wrong_block s nodes e n f) z = absurd (number-some (number-follow nodes addresses f) z)
without_refusal journal addresses all (full s nodes more e f l) z = absurd (omega arith)
without_refusal journal addresses all (placed s nodes more e f l) z =
    (is_first_erased-left journal nodes all (right-replayed journal all nodes e) l, refl)

pub write-refusals : WriteRefusals writing
write-refusals = record {
  given = λ journal addresses all words.
      given-exactly (write_order journal addresses) (write_end_first all words (writing-end journal addresses));
  beside = λ journal addresses. write_end_beside (writing-end journal addresses);
  without = λ journal addresses all. without_refusal journal addresses all (writing-end journal addresses);
}

-- and where nothing speaks against it, none is given
pub writing-accepts : (journal addresses nodes more : List ℕ) → Sized journal addresses → replayed journal ≡ known nodes
    → follow (known nodes) addresses ≡ known more → written_slots (slots_of journal) < slot_count journal
    → (writing journal addresses).answer.refusal ≡ 0
unfolding writing judging judged placing
writing-accepts journal addresses nodes more s e f left =
    rw (
      is_length-right (length journal) s.is_long,
      is_count_true (length addresses) s.counted,
      e,
      f,
      lt-leb (slot_count journal) (written_slots (slots_of journal)) left,
    )
    refl
