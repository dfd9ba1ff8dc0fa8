-- The addresses of a hall, cut into blocks of 63, go into 65 slots; behind as many nodes as are allowed a next child is 14, and a fault stays.
-- Assumes nothing.
use Rattle.std.specs.Prelude.{if◌then◌else◌}
use Prim.Native.Nat.{ℕ, zero, suc, ◌*◌, ◌^◌, ◌≤◌, ◌<◌}
use mathlib.Core.Path.{◌≡◌, refl, sym, ap, subst, ◌∙◌}
use mathlib.Core.List.{List, [], ◌∷◌, ◌++◌, map}
use mathlib.Core.Bool.{Bool, true, false, not, true≢false}
use mathlib.Core.Logic.{inl, inr}
use native.Mathlib.Omega.{arith}
use lib.Dec.{ltb}
use borrow.Author.Tests.{ltb-true, ltb-false, le-ltb}
use lib.ListN.{length, take, drop, replicate, length-append, length-drop, length-map, take-append-drop}
use Rattle.node.specs.Node.{child_of, set_limit}
use Rattle.address.specs.Bits.{root}
use Rattle.address.specs.Order.{First}
use Rattle.address.proofs.OrderLaws.{given-exactly}
use Rattle.octets.specs.Octets.{AreOctets}
use Rattle.tree.specs.Tree.{Tree, Record, standing, absent, record_of, addresses, request, Event, asking, setting, Reply, replied, given_by, happen, grown, given_in}
use Rattle.tree.proofs.Runs.{grown_snoc, replies-standing, replies-absent, set-replies, set-replies-nobody}
use Rattle.tree.proofs.Given.{addresses-happen, addresses-grown}
use Rattle.tree.proofs.Growth.{sound-grown}
use Rattle.block.specs.Block.{block}
use Rattle.block.specs.Blocks.{AreWords}
use Rattle.block.proofs.Cases.{is_count_true}
use Rattle.block.proofs.Theorem.{blocks}
use Rattle.journal.specs.Limits.{most_nodes}
use Rattle.journal.specs.Replay.{Replay, known, fault, follow, bare}
use Rattle.journal.specs.Slots.{slots_of, replay, replayed}
use Rattle.journal.specs.Recovery.{is_length, unfit, refuse_recovery, restored, recovering}
use Rattle.journal.specs.Writing.{refuse_placing, judged, judging, stored, writing}
use Rattle.journal.proofs.ReplayLaws.{follow-fault, follow-append}
use Rattle.journals.specs.Replays.{IsNextChild, nodes_of}
use Rattle.journals.specs.Slots.{IsLength, Holds, none as Holds·none, block as Holds·block}
use Rattle.journals.specs.PowerCuts.{RecoversTo}
use Rattle.journals.specs.RoundTrip.{joined, AreBlocks, AllWritten}
use Rattle.journals.specs.Full.{unfit_order, FullJournals}
use Rattle.journals.proofs.NextChild.{address-next}
use Rattle.journals.proofs.GivenReplayed.{are_words_behind, next-given, follow-grown}
use Rattle.journals.proofs.SlotTests.{AreSlots, are_slots_front, block-is_block_of}
use Rattle.journals.proofs.SlotReplays.{replay-fault, gaps_after, replay-append, are_words_append, replay-holds}
use Rattle.journals.proofs.Recovering.{known_recovers}
use Rattle.journals.proofs.AfterWrites.{put-accepted, octets-put}
use Rattle.journals.proofs.Lengths.{is_length-right, right-is_length, slots-slots_of, length-joined, slots_of-joined, octets-joined}
use Rattle.journals.proofs.Erased.{erased_journal, octets-erased}
use Rattle.journals.proofs.RoundTrips.{are_words_front, nodes_of-words, round_trip}
use Rattle.journals.proofs.Theorem.{replays}

-- ---- into blocks of 63

cut : ℕ → List ℕ → List (List ℕ)
cut zero xs = []
cut (suc k) [] = []
cut (suc k) (x ∷ xs) = take 63 (x ∷ xs) ∷ cut k (drop 63 (x ∷ xs))

length_cut : (k : ℕ) (xs : List ℕ) → length (cut k xs) ≤ k
unfolding cut
length_cut zero xs = omega arith
length_cut (suc k) [] = omega arith
length_cut (suc k) (x ∷ xs) = omega (arith, length_cut k (drop 63 (x ∷ xs)))

take_most : (k : ℕ) (xs : List ℕ) → length (take k xs) ≤ k
take_most zero xs = omega arith
take_most (suc k) [] = omega arith
take_most (suc k) (x ∷ xs) = omega (arith, take_most k xs)

blocks-cut : (k : ℕ) (xs : List ℕ) → AreBlocks (cut k xs)
unfolding cut
blocks-cut zero xs = tt
blocks-cut (suc k) [] = tt
blocks-cut (suc k) (x ∷ xs) = ((omega arith, omega (arith, take_most 63 (x ∷ xs))), blocks-cut k (drop 63 (x ∷ xs)))

joined-cut : (k : ℕ) (xs : List ℕ) → length xs ≤ 63 * k → xs ≡ joined (cut k xs)
unfolding cut joined
joined-cut zero [] h = refl
joined-cut zero (x ∷ xs) h = absurd (omega arith)
joined-cut (suc k) [] h = refl
joined-cut (suc k) (x ∷ xs) h =
    sym (take-append-drop 63 (x ∷ xs))
    ∙ ap (λ (l : List ℕ). take 63 (x ∷ xs) ++ l) (joined-cut k (drop 63 (x ∷ xs)) (omega (arith, h, length-drop 63 (x ∷ xs))))

-- ---- the journal at the end

at_end : (P : List ℕ → Type 0) (blocks : List (List ℕ)) (journal : List ℕ) → AreOctets journal → AllWritten writing journal blocks P
    → (after : List ℕ) × AreOctets after × P after
at_end P [] journal all w = (journal, all, w)
at_end P (xs ∷ blocks) journal all w =
    let (nodes, put) = put-accepted journal xs all w.0 in
    at_end P blocks (writing journal xs).journal (subst AreOctets (sym put.wrote) (octets-put all put)) w.1

every-hall : (es : List Event) → length (nodes_of es) ≤ most_nodes → (journal : List ℕ) × AreOctets journal × RecoversTo recovering journal (nodes_of es)
every-hall es few =
    let given = given_in child_of set_limit es in
    at_end (λ after. RecoversTo recovering after (nodes_of es)) (cut 65 given) (erased_journal 65) (octets-erased 65)
    (round_trip.whole 65 es (cut 65 given) (omega arith) (omega arith) (joined-cut 65 given (omega (arith, few, ap length (addresses-grown es)))) (blocks-cut 65 given) (length_cut 65 given) few)

-- ---- one next child more

module _ (es : List Event) (a : ℕ) (full : length (nodes_of es) ≡ most_nodes) (child : IsNextChild (grown child_of set_limit es) a) where
  fits-child : a < 2 ^ 64
  fits-child = (address-next (grown child_of set_limit es) (sound-grown es) child).fits

  pub follow_more : (rest : List ℕ) → follow (known (nodes_of es)) (a ∷ rest) ≡ fault 14
  unfolding follow
  follow_more rest =
      ap (λ (r : Replay). follow r rest) ((replays.fault14 es a fits-child).1 (child, omega (arith, full))) ∙ follow-fault 14 rest

  pub follow_all : (rest : List ℕ) → follow bare (given_in child_of set_limit es ++ (a ∷ rest)) ≡ fault 14
  follow_all rest =
      follow-append bare (given_in child_of set_limit es) (a ∷ rest)
      ∙ ap (λ (r : Replay). follow r (a ∷ rest)) (follow-grown es (omega (arith, full)))
      ∙ follow_more rest

  writer_refuses_lem : (journal rest : List ℕ) → RecoversTo recovering journal (nodes_of es) → length rest ≤ 62
      → writing journal (a ∷ rest) ≡ record { answer = refuse_placing 14; journal = journal }
  unfolding writing judging judged stored refuse_placing
  writer_refuses_lem journal rest r short =
      let (is_long, e) = known_recovers journal (nodes_of es) r in
      rw (is_length-right (length journal) is_long, is_count_true (suc (length rest)) (omega arith, omega arith), e, follow_more rest) refl

  module _ (journal : List ℕ) (kept behind : List (List ℕ)) (rest : List ℕ) (octets : AreOctets journal) (is_long : IsLength (length journal))
      (parts : slots_of journal ≡ kept ++ behind) (holds : Holds kept (given_in child_of set_limit es ++ (a ∷ rest))) where
    kept-slots : AreSlots kept
    kept-slots = are_slots_front kept behind (subst AreSlots parts (slots-slots_of journal octets))

    replays_more : replayed journal ≡ fault 14
    unfolding replayed
    replays_more =
        ap (replay false bare) parts ∙ replay-append false bare kept behind
        ∙ ap (λ (r : Replay). replay (gaps_after false kept) r behind) (replay-holds holds kept-slots bare ∙ follow_all rest)
        ∙ replay-fault (gaps_after false kept) 14 behind

    recovery_refuses_lem : (words : List ℕ) → most_nodes ≤ length words → recovering journal words ≡ refuse_recovery 14 (replicate (length words) 0)
    unfolding recovering restored
    recovery_refuses_lem words room =
        rw (is_length-right (length journal) is_long, le-ltb (length words) most_nodes room, replays_more) refl

-- ---- a journal of any addresses

block-slots : (bs : List (List ℕ)) → AreBlocks bs → AreSlots (map block bs)
block-slots [] counts = tt
block-slots (xs ∷ bs) counts =
    let whole = blocks.whole xs counts.0 in (record { size = whole.0; octets = whole.3 }, block-slots bs counts.1)

block-holds : (bs : List (List ℕ)) → AreBlocks bs → AreWords (joined bs) → Holds (map block bs) (joined bs)
unfolding joined
block-holds [] counts words = Holds·none
block-holds (xs ∷ bs) counts words =
    Holds·block (block-is_block_of xs (are_words_front xs (joined bs) words) counts.0) (block-holds bs counts.1 (are_words_behind xs (joined bs) words))

cut-some : (k : ℕ) (xs : List ℕ) → 1 ≤ length xs → 1 ≤ length (cut (suc k) xs)
unfolding cut
cut-some k [] h = absurd (omega arith)
cut-some k (x ∷ xs) h = omega arith

-- some journal's slots hold them, in full blocks but for the last
abbrev pub JournalOf : List ℕ → Type 0
JournalOf xs = (journal : List ℕ) × AreOctets journal × IsLength (length journal) × Holds (slots_of journal) xs

module _ (xs : List ℕ) (words : AreWords xs) (some : 1 ≤ length xs) (few : length xs ≤ 63 * 128) where
  abbrev slots : List (List ℕ)
  slots = map block (cut 128 xs)

  whole-cut : xs ≡ joined (cut 128 xs)
  whole-cut = joined-cut 128 xs few

  are-slots : AreSlots slots
  are-slots = block-slots (cut 128 xs) (blocks-cut 128 xs)

  is_long_lem : IsLength (length (joined slots))
  is_long_lem = record {
    slots = length slots;
    some = omega (arith, length-map (cut 128 xs) block, cut-some 127 xs some);
    few = omega (arith, length-map (cut 128 xs) block, length_cut 128 xs);
    whole = length-joined slots are-slots;
  }

  pub journal_of : JournalOf xs
  journal_of = (
    joined slots,
    octets-joined slots are-slots,
    is_long_lem,
    subst (λ (ls : List (List ℕ)). Holds ls xs) (sym (slots_of-joined slots are-slots))
        (subst (Holds slots) (sym whole-cut) (block-holds (cut 128 xs) (blocks-cut 128 xs) (subst AreWords whole-cut words))),
  )

-- ---- the journals of as many nodes as are allowed, and of a next child more

pub words-given : (es : List Event) → AreWords (given_in child_of set_limit es)
words-given es = are_words_behind (root ∷ []) (given_in child_of set_limit es) (subst AreWords (addresses-grown es) (nodes_of-words es))

pub length-given : (es : List Event) → suc (length (given_in child_of set_limit es)) ≡ length (nodes_of es)
length-given es = ap length (sym (addresses-grown es))

pub one_too_many_lem : (es : List Event) (a : ℕ) → length (nodes_of es) ≡ most_nodes → IsNextChild (grown child_of set_limit es) a
    → JournalOf (given_in child_of set_limit es ++ (a ∷ []))
one_too_many_lem es a full child =
    let given = given_in child_of set_limit es in
    let counted = length-append given (a ∷ []) in
    journal_of (given ++ (a ∷ [])) (are_words_append given (a ∷ []) (words-given es) (fits-child es a full child, tt)) (omega (arith, counted))
    (omega (arith, counted, full, length-given es))

-- ---- what one more event gives

module _ (t : Tree) where
  abbrev Gives : List Reply → Type 0
  Gives ls = 0 < length (given_by ls) → (a : ℕ) × IsNextChild t a

  gives-replied : (a n : ℕ) → (n ≡ 0 → IsNextChild t a) → Gives (replied n a ∷ [])
  unfolding given_by
  gives-replied a zero c h = (a, c refl)
  gives-replied a (suc n) c h = absurd (omega arith)

  gives-happen : (e : Event) → Gives (happen child_of set_limit t e).replies
  gives-happen (asking (request a kind)) = go (record_of a t) refl
    where
      go : (x : Record) → record_of a t ≡ x → Gives (happen child_of set_limit t (asking (request a kind))).replies
      go (standing n) e = unfold happen in
          subst Gives (sym (replies-standing child_of t a kind n e))
          (gives-replied (child_of n kind).child.number (child_of n kind).refusal (next-given t a kind n e))
      go absent e = unfold happen given_by in subst Gives (sym (replies-absent child_of t a kind e)) (λ h. absurd (omega arith))
  gives-happen (setting a kind k) = go (record_of a t) refl
    where
      go : (x : Record) → record_of a t ≡ x → Gives (happen child_of set_limit t (setting a kind k)).replies
      go (standing n) e = unfold given_by in subst Gives (sym (set-replies child_of set_limit t a kind k n e)) (λ h. absurd (omega arith))
      go absent e = unfold given_by in subst Gives (sym (set-replies-nobody child_of set_limit t a kind k e)) (λ h. absurd (omega arith))

next_one_lem : (es : List Event) (e : Event) → length (nodes_of es) < length (nodes_of (es ++ (e ∷ []))) → (a : ℕ) × IsNextChild (grown child_of set_limit es) a
next_one_lem es e more =
    let t = grown child_of set_limit es in
    let after = ap (λ (t : Tree). length (addresses t)) (grown_snoc child_of set_limit es e) in
    gives-happen t e
    (omega (arith, more, after, ap length (addresses-happen t e), length-append (addresses t) (given_by (happen child_of set_limit t e).replies)))

-- ---- before the journal is looked into

unfit-first : (bytes words : ℕ) → First (unfit_order bytes words) (unfit bytes words)
unfolding unfit
unfit-first bytes words = go (is_length bytes) refl (ltb words most_nodes) refl
  where
    go : (l : Bool) → is_length bytes ≡ l → (s : Bool) → ltb words most_nodes ≡ s
        → First (unfit_order bytes words) (if not l then 12 else if s then 10 else 0)
    go false l s e = inl (λ h. true≢false (sym (is_length-right bytes h) ∙ l), refl)
    go true l true e = inr (λ n. n (right-is_length bytes l), inl (ltb-true words most_nodes e, refl))
    go true l false e = inr (λ n. n (right-is_length bytes l), inr (λ few. omega (arith, few, ltb-false words most_nodes e), refl))

pub full_journals : FullJournals
full_journals = record {
  unfit_exactly = λ bytes words. given-exactly (unfit_order bytes words) (unfit-first bytes words);
  every_hall = every-hall;
  writer_refuses = λ journal es a rest r full child short. writer_refuses_lem es a full child journal rest r short;
  recovery_refuses = λ journal kept behind es a rest octets is_long parts holds full child.
      recovery_refuses_lem es a full child journal kept behind rest octets is_long parts holds;
  one_too_many = one_too_many_lem;
  next_one = next_one_lem;
}
