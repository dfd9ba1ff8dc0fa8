-- Each wrong recovery is refuted by one journal: of one erased slot, of one torn slot, of an erased slot and a torn one behind it, or of no byte.
-- The statements allow one recovery, and there it answers or leaves something else. The wrong record is refuted by the bare root's. Assumes nothing.
use Prim.Native.Nat.{ℕ, ◌≤◌, ◌<◌}
use mathlib.Core.Path.{◌≡◌, refl, sym, ap, ◌∙◌}
use mathlib.Core.Bool.{Bool, true, false}
use mathlib.Core.List.{List, [], ◌∷◌}
use native.Mathlib.Omega.{arith}
use borrow.Author.Tests.{ltb-true, ltb-false, lt-ltb, le-ltb}
use lib.ListN.{length, get_or, replicate, length-replicate}
use lib.Dec.{ltb}
use Rattle.address.specs.Bits.{root}
use Rattle.address.specs.declared.Kind.TheVariants.{Router}
use Rattle.octets.specs.Octets.{AreOctets}
use Rattle.node.specs.Node.{fresh, limit, with_limits, child_of, set_limit}
use Rattle.node.proofs.Children.{address_in-fresh}
use Rattle.tree.specs.Tree.{bare_root, standing, record_of, grow, grown}
use Rattle.tree.proofs.Trees.{record_of-single}
use Rattle.block.proofs.Cases.{is_block-first}
use Rattle.journal.specs.Limits.{most_nodes}
use Rattle.journal.specs.Replay.{Replay, fault, bare}
use Rattle.journal.specs.Slots.{slots_of, is_erased, slot_taken, gap_after, replay, replayed}
use Rattle.journal.specs.Recovery.{is_length, RecoverEffect, refuse_recovery, restored, recovering}
use Rattle.journals.specs.Replays.{Records}
use Rattle.journals.specs.Slots.{IsLength}
use Rattle.journals.specs.Refusals.{RecoverRefusals}
use Rattle.journals.specs.RoundTrip.{joined}
use Rattle.journals.specs.WrongRecoveries.{replaying, kept_behind, not_cleared, kept_at_fault, not_zeroed, taking_slots, taking_all, torn_spoils}
use Rattle.journals.specs.WrongRecoveries.{torn_refused, gap_passed, gaps_allowed, room_first, wanting, closed_records, WrongRecoveriesExcluded}
use Rattle.journals.proofs.Recovered.{limit-recovered}
use Rattle.journals.proofs.SlotTests.{AreSlots, is_erased-erased, is_erased_other, spoilt-known, slot_taken-erased, slot_taken-gap}
use Rattle.journals.proofs.SlotTests.{slot_taken-torn}
use Rattle.journals.proofs.SlotReplays.{replay-none, replay-erased, replay_other}
use Rattle.journals.proofs.Lengths.{is_length-right, length-joined, slots_of-joined, slots_of-one, octets-joined}
use Rattle.journals.proofs.Erased.{erased_slot, slot-erased, octets-erased, is_length-erased, replayed-erased}
use Rattle.journals.proofs.OneRule.{one_recovery}
use Rattle.journals.proofs.Orders.{one}
use Rattle.journals.proofs.WrongWriters.{torn, slot-torn, begins-torn, ends-torn, is_length-torn, replayed-torn}

-- ---- with recovery's own parts

own_end_lem : (journal words : List ℕ) → replaying replayed restored journal words ≡ recovering journal words
unfolding replaying recovering
own_end_lem journal words = refl

taking_own : (gap : Bool) (r : Replay) (slots : List (List ℕ)) → taking_slots slot_taken gap r slots ≡ replay gap r slots
unfolding taking_slots replay
taking_own gap r [] = refl
taking_own gap r (slot ∷ slots) = taking_own (gap_after gap slot) (slot_taken gap r slot) slots

own_slots_lem : (journal : List ℕ) → taking_all slot_taken journal ≡ replayed journal
unfolding replayed
own_slots_lem journal = taking_own false bare (slots_of journal)

-- ---- with others

-- words enough, and none of them zero
abbrev pub ones : List ℕ
ones = replicate most_nodes 1

room : most_nodes ≤ length ones
room = omega (arith, length-replicate {A = ℕ} most_nodes 1)

-- past the first two refusals
module _ (journal words : List ℕ) (h : IsLength (length journal)) (lent : most_nodes ≤ length words) where
  ends_wrong : (come : List ℕ → Replay) (end : Replay → List ℕ → RecoverEffect) (r : Replay) → come journal ≡ r
      → replaying come end journal words ≡ end r words
  unfolding replaying
  ends_wrong come end r e = rw (is_length-right (length journal) h, le-ltb (length words) most_nodes lent, e) refl

  ends-right : (r : Replay) → replayed journal ≡ r → recovering journal words ≡ restored r words
  unfolding recovering
  ends-right r e = rw (is_length-right (length journal) h, le-ltb (length words) most_nodes lent, e) refl

-- what a rule that is allowed comes to there
pub both_ends : (come : List ℕ → Replay) (end : Replay → List ℕ → RecoverEffect) → RecoverRefusals (replaying come end)
    → (journal : List ℕ) → IsLength (length journal) → AreOctets journal → (r s : Replay) → come journal ≡ r → replayed journal ≡ s
    → end r ones ≡ restored s ones
both_ends come end claim journal h all r s e f =
    sym (ends_wrong journal ones h room come end r e)
    ∙ one_recovery.only (replaying come end) claim journal ones all
    ∙ ends-right journal ones h room s f

-- ---- one erased slot

not_cleared_refuted : RecoverRefusals not_cleared → ⊥
unfolding not_cleared kept_behind restored
not_cleared_refuted claim =
    let same =
    both_ends replayed kept_behind claim one (is_length-erased 1 (omega arith) (omega arith)) (octets-erased 1) bare bare (replayed-erased 1)
    (replayed-erased 1) in
    let second : ◌≡◌ {A = ℕ} 1 0 = ap (λ (e : RecoverEffect). get_or e.words 1 0) same in
    omega (arith, second)

-- ---- one torn slot

some-torn : is_erased torn ≡ false
some-torn = is_erased_other torn slot-torn.size begins-torn

torn_spoils-torn : taking_all torn_spoils torn ≡ fault 17
unfolding taking_slots torn_spoils
torn_spoils-torn =
    ap (taking_slots torn_spoils false bare) (slots_of-one torn slot-torn)
    ∙ (rw (some-torn, is_block-first torn slot-torn.size (λ e. omega (arith, e))) (spoilt-known (1 ∷ [])))

torn_refused_refuted : RecoverRefusals torn_refused → ⊥
unfolding torn_refused restored refuse_recovery
torn_refused_refuted claim =
    let same = both_ends (taking_all torn_spoils) restored claim torn is_length-torn slot-torn.octets (fault 17) bare torn_spoils-torn replayed-torn in
    let refusal : ◌≡◌ {A = ℕ} 17 0 = ap (λ (e : RecoverEffect). e.answer.refusal) same in
    omega (arith, refusal)

-- ---- an erased slot, and a torn one behind it

abbrev gapped : List (List ℕ)
gapped = erased_slot ∷ torn ∷ []

slots-gapped : AreSlots gapped
slots-gapped = (slot-erased, (slot-torn, tt))

is_length-gapped : IsLength (length (joined gapped))
is_length-gapped = record { slots = 2; some = omega arith; few = omega arith; whole = length-joined gapped slots-gapped }

first-erased : is_erased erased_slot ≡ true
first-erased = is_erased-erased erased_slot refl

replayed-gapped : replayed (joined gapped) ≡ fault 17
unfolding replayed
replayed-gapped =
    ap (replay false bare) (slots_of-joined gapped slots-gapped)
    ∙ replay-erased false bare erased_slot (torn ∷ []) first-erased
    ∙ replay_other true bare torn [] some-torn (slot_taken-gap true bare torn some-torn refl ∙ spoilt-known (1 ∷ []))
    ∙ replay-none true (fault 17)

gap_passed-gapped : taking_all gap_passed (joined gapped) ≡ bare
unfolding taking_slots gap_passed
gap_passed-gapped =
    ap (taking_slots gap_passed false bare) (slots_of-joined gapped slots-gapped)
    ∙ ap (λ (r : Replay). slot_taken false r torn) (slot_taken-erased false bare erased_slot first-erased)
    ∙ slot_taken-torn false bare torn some-torn refl ends-torn

gaps_allowed_refuted : RecoverRefusals gaps_allowed → ⊥
unfolding gaps_allowed restored refuse_recovery
gaps_allowed_refuted claim =
    let same =
    both_ends (taking_all gap_passed) restored claim (joined gapped) is_length-gapped (octets-joined gapped slots-gapped) bare (fault 17)
    gap_passed-gapped replayed-gapped in
    let refusal : ◌≡◌ {A = ℕ} 0 17 = ap (λ (e : RecoverEffect). e.answer.refusal) same in
    omega (arith, refusal)

not_zeroed_refuted : RecoverRefusals not_zeroed → ⊥
unfolding not_zeroed kept_at_fault restored refuse_recovery
not_zeroed_refuted claim =
    let same =
    both_ends replayed kept_at_fault claim (joined gapped) is_length-gapped (octets-joined gapped slots-gapped) (fault 17) (fault 17) replayed-gapped
    replayed-gapped in
    let first : ◌≡◌ {A = ℕ} 1 0 = ap (λ (e : RecoverEffect). get_or e.words 0 0) same in
    omega (arith, first)

-- ---- no byte, and no word

room_first_refuted : RecoverRefusals room_first → ⊥
unfolding room_first recovering is_length refuse_recovery
room_first_refuted claim =
    let refusal : ◌≡◌ {A = ℕ} 10 12 = ap (λ (e : RecoverEffect). e.answer.refusal) (one_recovery.only room_first claim [] [] tt) in
    omega (arith, refusal)

-- ---- one erased slot, and as many words as one of two rules wants

own_words_lem : (journal words : List ℕ) → wanting most_nodes journal words ≡ recovering journal words
unfolding wanting recovering
own_words_lem journal words = refl

-- two such rules that answer alike: the first does not want fewer words than the second
no_fewer-words : (most many : ℕ) → ((words : List ℕ) → wanting most one words ≡ wanting many one words) → many ≤ most
unfolding wanting refuse_recovery restored
no_fewer-words most many alike = go (ltb most many) refl
  where
    words : List ℕ
    words = replicate most 0

    lent : length words ≡ most
    lent = length-replicate {A = ℕ} most 0

    right : is_length (length one) ≡ true
    right = is_length-right (length one) (is_length-erased 1 (omega arith) (omega arith))

    refused : most < many → wanting many one words ≡ refuse_recovery 10 words
    refused h = rw (right, lt-ltb (length words) many (omega (arith, lent))) refl

    done : wanting most one words ≡ restored bare words
    done = rw (right, le-ltb (length words) most (omega (arith, lent)), replayed-erased 1) refl

    go : (b : Bool) → ltb most many ≡ b → many ≤ most
    go false e = ltb-false most many e
    go true e =
        let same = sym done ∙ alike words ∙ refused (ltb-true most many e) in
        let refusal : ◌≡◌ {A = ℕ} 0 10 = ap (λ (e : RecoverEffect). e.answer.refusal) same in
        absurd (omega (arith, refusal))

only_these_words : (most : ℕ) → RecoverRefusals (wanting most) → most ≡ most_nodes
only_these_words most claim =
    omega (arith, no_fewer-words most most_nodes alike, no_fewer-words most_nodes most (λ words. sym (alike words)))
  where
    alike : (words : List ℕ) → wanting most one words ≡ wanting most_nodes one words
    alike words = one_recovery.only (wanting most) claim one words (octets-erased 1) ∙ sym (own_words_lem one words)

-- ---- the bare root's record

closed_records_refuted : Records closed_records → ⊥
unfolding closed_records with_limits limit
closed_records_refuted claim =
    let node = (claim.found [] 0 root (fresh root) stands).1 in
    omega (arith, ap (limit Router) node, limit-recovered (fresh root) Router)
  where
    stands : record_of root (grown child_of set_limit []) ≡ standing (fresh root)
    stands = unfold grown grow bare_root in record_of-single (fresh root) (address_in-fresh root)

-- ---- all of them

pub wrong_recoveries_excluded : WrongRecoveriesExcluded
wrong_recoveries_excluded = record {
  own_end = own_end_lem;
  own_slots = own_slots_lem;
  own_words = own_words_lem;
  left_behind = not_cleared_refuted;
  left_at_fault = not_zeroed_refuted;
  torn_not_skipped = torn_refused_refuted;
  gap_not_seen = gaps_allowed_refuted;
  other_order = room_first_refuted;
  other_words = only_these_words;
  other_limits = closed_records_refuted;
}
