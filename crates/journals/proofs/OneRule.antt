-- The statements of the refusals allow one recovery and one writer: they give the refusal's number, and with that the nodes and the words, or the
-- slot and the journal, since slots are right in one way and have one first erased slot. Assumes nothing.
use Prim.Native.Nat.{ℕ, suc, ◌-◌}
use mathlib.Core.Path.{◌≡◌, refl, sym, ap, ◌∙◌}
use mathlib.Core.Logic.{inl, inr, ⊎_map}
use mathlib.Core.List.{List, [], ◌∷◌, ◌++◌}
use native.Mathlib.Decide.{ℕ_discrete}
use lib.ListN.{length, replicate}
use Rattle.octets.specs.Octets.{AreOctets}
use Rattle.block.specs.Block.{block}
use Rattle.block.specs.Blocks.{AreWords}
use Rattle.journal.specs.Slots.{slots_of}
use Rattle.journal.specs.Recovery.{RecoverEffect, refuse_recovery, recovering}
use Rattle.journal.specs.Writing.{BlockEffect, with_slot, writing}
use Rattle.journals.specs.Slots.{IsErased, Right}
use Rattle.journals.specs.Refusals.{RecoverRule, RecoverRefusals, WriteRule, WriteRefusals, NoneErased, IsFirstErased}
use Rattle.journals.specs.OneRule.{OneRecovery, OneWriter}
use Rattle.journals.proofs.SlotOutcomes.{replay-right}
use Rattle.journals.proofs.Lengths.{slots-slots_of}
use Rattle.journals.proofs.Recovering.{RecoverEnd, wrong_length, no_room, faulty, whole, recovering-end, recover_end_first, fault-number}
use Rattle.journals.proofs.Recovering.{recover-refusals}
use Rattle.journals.proofs.Writing.{write-refusals}

-- ---- recovery

pub right-once : (journal xs ys : List ℕ) → AreOctets journal → Right (slots_of journal) xs → Right (slots_of journal) ys → xs ≡ ys
right-once journal xs ys all p q =
    let s = slots-slots_of journal all in
    let both = sym (replay-right (slots_of journal) xs s p) ∙ replay-right (slots_of journal) ys s q in
    cc

module _ (rule : RecoverRule) (claim : RecoverRefusals rule) (journal words : List ℕ) (all : AreOctets journal) where
  abbrev found : RecoverEffect
  found = rule journal words

  module _ {e : RecoverEffect} (end : RecoverEnd journal words e) where
    same_refusal : found.answer.refusal ≡ e.answer.refusal
    same_refusal = (claim.given journal words all e.answer.refusal).1 (recover_end_first all end)

  same_number : found.answer.refusal ≡ (recovering journal words).answer.refusal
  same_number = same_refusal (recovering-end journal words)

  -- with a refusal
  refused-words : {e : RecoverEffect} → RecoverEnd journal words e → (e.answer.refusal ≡ 0 → ⊥) → found.words ≡ e.words
  unfolding refuse_recovery
  refused-words (wrong_length out) h = claim.spared journal words (inl (same_refusal (wrong_length out)))
  refused-words (no_room l short) h = claim.spared journal words (inr (same_refusal (no_room l short)))
  refused-words (faulty l room n e) h =
      let same = same_refusal (faulty l room n e) in
      claim.zeroed journal words (⊎_map (λ z. same ∙ z) (λ z. same ∙ z) (fault-number journal n e))
  refused-words (whole l room nodes e) h = absurd (h refl)

  same_found : (found.answer.nodes ≡ (recovering journal words).answer.nodes) × (found.words ≡ (recovering journal words).words)
  same_found = go (ℕ_discrete (recovering journal words).answer.refusal 0)
    where
      go : Dec ((recovering journal words).answer.refusal ≡ 0)
          → (found.answer.nodes ≡ (recovering journal words).answer.nodes) × (found.words ≡ (recovering journal words).words)
      go (yes h) =
          let (xs, p, n, w) = claim.without journal words all (same_number ∙ h) in
          let (ys, q, m, v) = recover-refusals.without journal words all h in
          let same = right-once journal xs ys all p q in (
            n ∙ ap length same ∙ sym m,
            w ∙ ap (λ (l : List ℕ). l ++ replicate (length words - length l) 0) same ∙ sym v,
          )
      go (no h) = (
        claim.beside journal words (λ z. h (sym same_number ∙ z)) ∙ sym (recover-refusals.beside journal words h),
        refused-words (recovering-end journal words) h,
      )

pub one_recovery : OneRecovery
one_recovery = record {
  only = λ rule claim journal words all i. record {
    answer = record { refusal = same_number rule claim journal words all i; nodes = (same_found rule claim journal words all).0 i };
    words = (same_found rule claim journal words all).1 i;
  };
}

-- ---- the writer

first-erased-once : (xs ys : List (List ℕ)) (a b : List ℕ) (us vs : List (List ℕ)) → xs ++ a ∷ us ≡ ys ++ b ∷ vs → NoneErased xs → NoneErased ys
    → IsErased a → IsErased b → length xs ≡ length ys
first-erased-once [] [] a b us vs e p q f g = refl
first-erased-once [] (y ∷ ys) a b us vs e p q f g = let same : a ≡ y = cc in absurd (q.0 (sym same ∙ f))
first-erased-once (x ∷ xs) [] a b us vs e p q f g = let same : x ≡ b = cc in absurd (p.0 (same ∙ g))
first-erased-once (x ∷ xs) (y ∷ ys) a b us vs e p q f g =
    let same : xs ++ a ∷ us ≡ ys ++ b ∷ vs = cc in
    ap suc (first-erased-once xs ys a b us vs same p.1 q.1 f g)

first-erased-one : {slots : List (List ℕ)} {j k : ℕ} → IsFirstErased slots j → IsFirstErased slots k → j ≡ k
first-erased-one p q =
    p.place
    ∙ first-erased-once p.before q.before p.erased q.erased p.rest q.rest (sym p.parts ∙ q.parts)
    p.none_before q.none_before p.free q.free
    ∙ sym q.place

module _ (rule : WriteRule) (claim : WriteRefusals rule) (journal addresses : List ℕ) (all : AreOctets journal) (words : AreWords addresses) where
  abbrev made : BlockEffect
  made = rule journal addresses

  same_answer : made.answer.refusal ≡ (writing journal addresses).answer.refusal
  same_answer =
      let n = (writing journal addresses).answer.refusal in
      (claim.given journal addresses all words n).1 ((write-refusals.given journal addresses all words n).0 refl)

  same_made : (made.answer.slot ≡ (writing journal addresses).answer.slot) × (made.journal ≡ (writing journal addresses).journal)
  same_made = go (ℕ_discrete (writing journal addresses).answer.refusal 0)
    where
      go : Dec ((writing journal addresses).answer.refusal ≡ 0)
          → (made.answer.slot ≡ (writing journal addresses).answer.slot) × (made.journal ≡ (writing journal addresses).journal)
      go (yes h) =
          let theirs = claim.without journal addresses all (same_answer ∙ h) in
          let ours = write-refusals.without journal addresses all h in
          let slot = first-erased-one theirs.0 ours.0 in
          (slot, theirs.1 ∙ ap (λ (k : ℕ). with_slot k (block addresses) journal) slot ∙ sym ours.1)
      go (no h) =
          let theirs = claim.beside journal addresses (λ z. h (sym same_answer ∙ z)) in
          let ours = write-refusals.beside journal addresses h in
          (theirs.0 ∙ sym ours.0, theirs.1 ∙ sym ours.1)

pub one_writer_lem : OneWriter
one_writer_lem = record {
  only = λ rule claim journal addresses all words i. record {
    answer = record {
      refusal = same_answer rule claim journal addresses all words i;
      slot = (same_made rule claim journal addresses all words).0 i;
    };
    journal = (same_made rule claim journal addresses all words).1 i;
  };
}
