-- Each wrong writer is refuted by one journal: of one erased slot, of two, or of one torn slot, with the block of the root's first router, or of an
-- address that is no next child. What stands there comes from laws, not from computing 512 bytes. Assumes nothing.
use Rattle.std.specs.Prelude.{if◌then◌else◌}
use Prim.Native.Nat.{ℕ, suc, ◌≤◌, ◌<◌}
use mathlib.Core.Path.{◌≡◌, refl, sym, ap, ◌∙◌}
use mathlib.Core.Bool.{false}
use mathlib.Core.List.{List, [], ◌∷◌, ◌++◌}
use native.Mathlib.Omega.{arith}
use lib.Dec.{eqb, lit<}
use lib.ListN.{length, get_or, replicate, length-append, length-replicate, get_or-replicate}
use borrow.Author.Tests.{lt-leb}
use Rattle.block.specs.Block.{block}
use Rattle.block.specs.Blocks.{AreWords, IsCount}
use Rattle.block.proofs.Cases.{is_count_true}
use Rattle.journal.specs.Replay.{Replay, known, fault, among, before, is_next, taken, next, follow, bare}
use Rattle.journal.specs.Slots.{slot_count, slots_of, ends_erased, replay, replayed, written_slots}
use Rattle.journal.specs.Recovery.{recovering}
use Rattle.journal.specs.Writing.{Placed}
use Rattle.journal.specs.Writing.{refuse_placing, placing, judged, judging, with_slot, stored, BlockEffect, writing}
use Rattle.journals.specs.Slots.{IsLength, IsErased, EndsErased, none}
use Rattle.journals.specs.Refusals.{WriteRefusals}
use Rattle.journals.specs.PowerCuts.{RecoversTo, AfterWrite, last_first}
use Rattle.journals.specs.WrongWriters.{answering, unchecked, untorn_slots, over_torn, other_block, idle, refuses_all, last_slot}
use Rattle.journals.specs.WrongWriters.{WrongWritersExcluded}
use Rattle.journals.proofs.SlotTests.{IsSlot, other_erased, is_block_of-slot, block-is_block_of}
use Rattle.journals.proofs.SlotReplays.{holds-torn, holds-block, replay-holds}
use Rattle.journals.proofs.SlotOutcomes.{root-replayed}
use Rattle.journals.proofs.Lengths.{is_length-right, length-slots_of, slots_of-one}
use Rattle.journals.proofs.Recovering.{known-fault, known_recovers}
use Rattle.journals.proofs.Placing.{replayed-with_slot}
use Rattle.journals.proofs.Writing.{Sized, written, writing-end, writing-accepts, write_end_without}
use Rattle.journals.proofs.Erased.{erased_slot, erased_journal, all_erased, slots_of-erased, replicate-octets, octets-erased}
use Rattle.journals.proofs.Erased.{is_length-erased, replayed-erased, written_slots-erased, slot_count-erased}
use Rattle.journals.proofs.Orders.{one, router, follow-router, early_refuted}
use Rattle.journals.proofs.OneRule.{one_writer_lem}

-- ---- the blocks

-- beside the root's first router, its first host, and a router of the first router, which is not given yet
abbrev host : List ℕ
host = 0b11 ∷ []

abbrev too_early : List ℕ
too_early = 0b100 ∷ []

single : (a : ℕ) → IsCount (length (a ∷ []))
single a = (omega arith, omega arith)

follow-host : follow bare host ≡ known (1 ∷ 3 ∷ [])
unfolding follow next taken is_next among before
follow-host = refl

follow-too_early : follow bare too_early ≡ fault 17
unfolding follow next taken is_next among before
follow-too_early = refl

-- ---- an erased journal

module _ (n : ℕ) (few : suc n ≤ 128) where
  abbrev empty : List ℕ
  empty = erased_journal (suc n)

  is_long : IsLength (length empty)
  is_long = is_length-erased (suc n) (omega arith) few

  left : written_slots (slots_of empty) < slot_count empty
  left = omega (arith, written_slots-erased (suc n), slot_count-erased (suc n), length-slots_of empty)

  -- a right block goes to the first slot
  writing-empty : (xs more : List ℕ) → IsCount (length xs) → follow bare xs ≡ known more → writing empty xs ≡ written 0 xs empty
  writing-empty xs more count f =
      let sized : Sized empty xs = record { is_long = is_long; counted = count } in
      let done = writing-accepts empty xs (1 ∷ []) more sized (replayed-erased (suc n)) f left in
      (write_end_without (writing-end empty xs) done).6 ∙ ap (λ (k : ℕ). written k xs empty) (written_slots-erased (suc n))

  -- what it comes to with a block there
  replayed-first : (xs : List ℕ) → AreWords xs → IsCount (length xs) → replayed (with_slot 0 (block xs) empty) ≡ follow bare xs
  replayed-first xs words count =
      let b = block-is_block_of xs words count in
      replayed-with_slot empty is_long (octets-erased (suc n)) [] erased_slot (replicate n erased_slot) (slots_of-erased (suc n)) (block xs)
      (is_block_of-slot b) none root-replayed (holds-block b) (all_erased n)

  unchecked-empty : (xs : List ℕ) → IsCount (length xs) → unchecked empty xs ≡ written 0 xs empty
  unfolding unchecked answering judged placing stored written
  unchecked-empty xs count =
      rw (
        is_length-right (length empty) is_long,
        is_count_true (length xs) count,
        replayed-erased (suc n),
        lt-leb (slot_count empty) (written_slots (slots_of empty)) left,
        written_slots-erased (suc n),
      )
      refl

-- ---- a journal of one erased slot

wrote-journal : (e : BlockEffect) (slot : ℕ) (xs journal : List ℕ) → e ≡ written slot xs journal → e.journal ≡ with_slot slot (block xs) journal
unfolding written
wrote-journal e slot xs journal same = ap (λ (x : BlockEffect). x.journal) same

wrote-refusal : (e : BlockEffect) (slot : ℕ) (xs journal : List ℕ) → e ≡ written slot xs journal → e.answer.refusal ≡ 0
unfolding written
wrote-refusal e slot xs journal same = ap (λ (x : BlockEffect). x.answer.refusal) same

-- what is recovered is what is replayed
recovered-replayed : (journal nodes : List ℕ) (r : Replay) → RecoversTo recovering journal nodes → replayed journal ≡ r → known nodes ≡ r
recovered-replayed journal nodes r h e = sym (known_recovers journal nodes h).1 ∙ e

-- the address that is no next child is written
unchecked_refuted : AfterWrite unchecked recovering → ⊥
unchecked_refuted claim =
    let same = unchecked-empty 0 (omega arith) too_early (single 4) in
    let (nodes, was, is) = claim one too_early (record {
      octets = octets-erased 1;
      words = (lit< tt, tt);
      accepted = wrote-refusal (unchecked one too_early) 0 too_early one same;
    }) in
    known-fault
    (recovered-replayed (unchecked one too_early).journal (nodes ++ too_early) (fault 17) is
    (
    ap replayed (wrote-journal (unchecked one too_early) 0 too_early one same)
    ∙ replayed-first 0 (omega arith) too_early (lit< tt, tt) (single 4) ∙ follow-too_early
    ))

-- the right answer, at the root's first router
module _ (n : ℕ) (few : suc n ≤ 128) where
  answer-empty : judging (erased_journal (suc n)) router ≡ record { refusal = 0; slot = 0 }
  unfolding writing written
  answer-empty = ap (λ (x : BlockEffect). x.answer) (writing-empty n few router (1 ∷ 2 ∷ []) (single 2) follow-router)

one_answer : judging one router ≡ record { refusal = 0; slot = 0 }
one_answer = answer-empty 0 (omega arith)

words-router : AreWords router
words-router = (lit< tt, tt)

-- the bare root
recovers_one : (nodes : List ℕ) → RecoversTo recovering one nodes → nodes ≡ 1 ∷ []
recovers_one nodes h = let same = recovered-replayed one nodes bare h (replayed-erased 1) in cc

-- a host is written, where a router was asked
other_block_refuted : AfterWrite other_block recovering → ⊥
other_block_refuted claim =
    let (nodes, was, is) = claim one router (record { octets = octets-erased 1; words = words-router; accepted = done }) in
    let made = recovered-replayed (other_block one router).journal (nodes ++ router) (known (1 ∷ 3 ∷ [])) is
    (ap replayed puts ∙ replayed-first 0 (omega arith) host (lit< tt, tt) (single 3) ∙ follow-host) in
    let same : nodes ++ router ≡ 1 ∷ 3 ∷ [] = cc in
    omega (arith, ap (λ (l : List ℕ). get_or l 1 0) (sym (ap (λ (l : List ℕ). l ++ router) (recovers_one nodes was)) ∙ same))
  where
    done : (other_block one router).answer.refusal ≡ 0
    done = unfold other_block in ap (λ (p : Placed). p.refusal) one_answer

    puts : (other_block one router).journal ≡ with_slot 0 (block host) one
    puts = unfold other_block in ap (λ (p : Placed). if eqb p.refusal 0 then with_slot p.slot (block host) one else one) one_answer

-- the router is not there
idle_refuted : AfterWrite idle recovering → ⊥
idle_refuted claim =
    let (nodes, was, is) = claim one router (record { octets = octets-erased 1; words = words-router; accepted = done }) in
    let after = recovers_one (nodes ++ router) (unfold idle in is) in
    omega (arith, ap length after, length-append nodes router, ap length (recovers_one nodes was))
  where
    done : (idle one router).answer.refusal ≡ 0
    done = unfold idle in ap (λ (p : Placed). p.refusal) one_answer

refuses_all_refuted : WriteRefusals refuses_all → ⊥
unfolding refuses_all refuse_placing writing
refuses_all_refuted claim =
    omega (
      arith,
      ap (λ (x : BlockEffect). x.answer.refusal) (one_writer_lem.only refuses_all claim one router (octets-erased 1) words-router),
      ap (λ (p : Placed). p.refusal) one_answer,
    )

-- ---- a journal of two erased slots

abbrev two : List ℕ
two = erased_journal 2

two_answer : judging two router ≡ record { refusal = 0; slot = 0 }
two_answer = answer-empty 1 (omega arith)

last_slot_two : (last_slot two router).answer.slot ≡ 1
unfolding last_slot answering
last_slot_two = rw two_answer refl

last_slot_refuted : WriteRefusals last_slot → ⊥
unfolding writing
last_slot_refuted claim =
    omega (
      arith,
      last_slot_two,
      ap (λ (x : BlockEffect). x.answer.slot) (one_writer_lem.only last_slot claim two router (octets-erased 2) words-router),
      ap (λ (p : Placed). p.slot) two_answer,
    )

-- ---- a journal of one torn slot

abbrev pub torn : List ℕ
torn = 0 ∷ replicate 511 0xFF

pub slot-torn : IsSlot torn
slot-torn = record { size = ap suc (length-replicate {A = ℕ} 511 0xFF); octets = (lit< tt, replicate-octets 511) }

pub begins-torn : IsErased torn → ⊥
begins-torn = other_erased torn 0 (omega arith) (λ e. omega (arith, e))

pub ends-torn : EndsErased torn
ends-torn = get_or-replicate 511 510 0xFF 0 (omega arith)

pub is_length-torn : IsLength (length torn)
is_length-torn = record { slots = 1; some = omega arith; few = omega arith; whole = slot-torn.size }

pub replayed-torn : replayed torn ≡ bare
unfolding replayed follow
replayed-torn =
    ap (replay false bare) (slots_of-one torn slot-torn) ∙ replay-holds (holds-torn (begins-torn, ends-torn)) (slot-torn, tt) bare

untorn_slots-torn : untorn_slots (slots_of torn) ≡ 0
untorn_slots-torn =
    ap untorn_slots (slots_of-one torn slot-torn) ∙ (unfold untorn_slots ends_erased in refl)

over_torn-torn : (over_torn torn router).answer.refusal ≡ 0
unfolding over_torn answering judged placing
over_torn-torn =
    rw (is_length-right (length torn) is_length-torn, is_count_true (length router) (single 2), replayed-torn, follow-router, untorn_slots-torn) refl

-- the slot that it takes is not erased
over_torn_refuted : WriteRefusals over_torn → ⊥
over_torn_refuted claim =
    let first = (claim.without torn router slot-torn.octets over_torn-torn).0 in
    go first.before first.erased first.rest (sym (slots_of-one torn slot-torn) ∙ first.parts) first.free
  where
    go : (front : List (List ℕ)) (erased : List ℕ) (rest : List (List ℕ)) → torn ∷ [] ≡ front ++ erased ∷ rest → IsErased erased → ⊥
    go [] erased rest e free = let same : torn ≡ erased = cc in begins-torn (same ∙ free)
    go (x ∷ front) erased rest e free = omega (arith, ap length e, length-append front (erased ∷ rest))

-- ---- all of them

pub wrong_writers_excluded : WrongWritersExcluded
wrong_writers_excluded = record {
  last_byte_first = λ rest. early_refuted (last_first rest) 0 (omega arith) (omega arith) refl;
  no_check = unchecked_refuted;
  torn_taken = over_torn_refuted;
  another_block = other_block_refuted;
  nothing_written = idle_refuted;
  all_refused = refuses_all_refuted;
  last_erased = last_slot_refuted;
}
