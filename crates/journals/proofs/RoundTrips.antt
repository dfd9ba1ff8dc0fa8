-- Blocks written one after the other: each is accepted, since its addresses are next children and a slot is left, so by induction on the blocks
-- the journal comes to all their addresses; those of a list of requests and settings are such. Assumes nothing.
use Prim.Native.Nat.{ℕ, suc, ◌+◌, ◌^◌, ◌≤◌, ◌<◌}
use mathlib.Core.Path.{◌≡◌, refl, sym, ap, ap₂, subst, ◌∙◌}
use mathlib.Core.List.{List, [], ◌∷◌, ◌++◌, Memᴰ}
use native.Mathlib.Omega.{arith}
use lib.ListN.{length, length-append}
use Rattle.node.specs.Node.{child_of, set_limit}
use Rattle.octets.specs.Octets.{AreOctets}
use Rattle.tree.specs.Tree.{Event, given_in}
use Rattle.tree.proofs.Growth.{sound-grown}
use Rattle.tree.proofs.Given.{addresses-grown}
use Rattle.block.specs.Block.{block}
use Rattle.block.specs.Blocks.{AreWords, IsCount}
use Rattle.journal.specs.Limits.{most_nodes}
use Rattle.journal.specs.Replay.{Replay, known, fault, follow, bare}
use Rattle.journal.specs.Slots.{slot_count, slots_of, replayed, written_slots}
use Rattle.journal.specs.Recovery.{recovering}
use Rattle.journal.specs.Writing.{writing}
use Rattle.journal.proofs.ReplayLaws.{follow-fault, follow-append}
use Rattle.journals.specs.Replays.{nodes_of}
use Rattle.journals.specs.Slots.{IsLength}
use Rattle.journals.specs.PowerCuts.{RecoversTo}
use Rattle.journals.specs.RoundTrip.{joined, AreBlocks, AllWritten, RoundTrip}
use Rattle.journals.proofs.Outcomes.{nodes_of-none}
use Rattle.journals.proofs.GivenReplayed.{follow-grown, are_words_behind}
use Rattle.journals.proofs.Lengths.{length-slots_of}
use Rattle.journals.proofs.Recovering.{known-fault, right-replayed, recovers_known, known_recovers}
use Rattle.journals.proofs.Placing.{written-only, written_slots-right}
use Rattle.journals.proofs.Writing.{writing-accepts}
use Rattle.journals.proofs.AfterWrites.{Put, put-accepted, is_length-put, slot-block, octets-put, slot_count-put, written_slots-put, replayed-put}
use Rattle.journals.proofs.Erased.{erased_journal, octets-erased, is_length-erased, slot_count-erased, replayed-erased, written_slots-erased}

-- ---- one after the other

-- a journal on the way: what it comes to, and that the slots left suffice for so many blocks
record Onward (journal nodes : List ℕ) (blocks : ℕ) : Type 0 where
  is_long : IsLength (length journal)
  octets : AreOctets journal
  replays : replayed journal ≡ known nodes
  room : written_slots (slots_of journal) + blocks ≤ slot_count journal

pub are_words_front : (xs ys : List ℕ) → AreWords (xs ++ ys) → AreWords xs
are_words_front [] ys w = tt
are_words_front (x ∷ xs) ys w = (w.0, are_words_front xs ys w.1)

-- the first addresses are followed where all are
follow-front : (nodes xs ys after : List ℕ) → follow (known nodes) (xs ++ ys) ≡ known after
    → (more : List ℕ) × (follow (known nodes) xs ≡ known more) × (follow (known more) ys ≡ known after)
follow-front nodes xs ys after e = go (follow (known nodes) xs) refl
  where
    both : follow (follow (known nodes) xs) ys ≡ known after
    both = sym (follow-append (known nodes) xs ys) ∙ e

    go : (r : Replay) → follow (known nodes) xs ≡ r
        → (more : List ℕ) × (follow (known nodes) xs ≡ known more) × (follow (known more) ys ≡ known after)
    go (known more) f = (more, f, ap (λ (r : Replay). follow r ys) (sym f) ∙ both)
    go (fault n) f = absurd (known-fault (sym both ∙ ap (λ (r : Replay). follow r ys) f ∙ follow-fault n ys))

module _ (journal nodes xs more : List ℕ) (k : ℕ) (w : Onward journal nodes (suc k)) (count : IsCount (length xs)) (words : AreWords xs)
    (e : follow (known nodes) xs ≡ known more) where
  accepted : (writing journal xs).answer.refusal ≡ 0
  accepted = writing-accepts journal xs nodes more (record { is_long = w.is_long; counted = count }) w.replays e (omega (arith, w.room))

  onward-one : Onward (writing journal xs).journal more k
  onward-one = go (put-accepted journal xs w.octets accepted)
    where
      go : (found : List ℕ) × Put journal xs found → Onward (writing journal xs).journal more k
      go (found, put) = subst (λ (j : List ℕ). Onward j more k) (sym put.wrote) (record {
        is_long = is_length-put w.octets put (block xs) (slot-block w.octets put);
        octets = octets-put w.octets put;
        replays =
            let same = sym put.replays ∙ w.replays in
            let nodes_same : found ≡ nodes = cc in
            let follows = sym put.follows ∙ ap (λ (l : List ℕ). follow (known l) xs) nodes_same ∙ e in
            replayed-put w.octets put words ∙ follows;
        room = omega (arith, w.room, written_slots-put w.octets put words, slot_count-put w.octets put);
      })

all_written : (blocks : List (List ℕ)) (journal nodes after : List ℕ) → Onward journal nodes (length blocks) → AreBlocks blocks
    → AreWords (joined blocks) → follow (known nodes) (joined blocks) ≡ known after
    → AllWritten writing journal blocks (λ j. RecoversTo recovering j after)
unfolding joined follow
all_written [] journal nodes after w counts words e = recovers_known journal after w.is_long (w.replays ∙ e)
all_written (xs ∷ blocks) journal nodes after w counts words e =
    let (more, f, g) = follow-front nodes xs (joined blocks) after e in
    let first = are_words_front xs (joined blocks) words in (
      accepted journal nodes xs more (length blocks) w counts.0 first f,
      all_written blocks (writing journal xs).journal more after (onward-one journal nodes xs more (length blocks) w counts.0 first f) counts.1
          (are_words_behind xs (joined blocks) words) g,
    )

-- ---- the addresses of requests and settings

are_words_all : (xs : List ℕ) → ((a : ℕ) → Memᴰ a xs → a < 2 ^ 64) → AreWords xs
are_words_all [] h = tt
are_words_all (x ∷ xs) h = (h x (Memᴰ.head refl), are_words_all xs (λ a i. h a (Memᴰ.tail i)))

pub nodes_of-words : (es : List Event) → AreWords (nodes_of es)
nodes_of-words es = are_words_all (nodes_of es) (λ a i. ((sound-grown es).address a i).fits)

cons_tail : {x : ℕ} {xs ys : List ℕ} → x ∷ xs ≡ x ∷ ys → xs ≡ ys
cons_tail e = cc

module _ (es more : List Event) (xs : List ℕ) (e : nodes_of (es ++ more) ≡ nodes_of es ++ xs) (few : length (nodes_of (es ++ more)) ≤ most_nodes) where
  given-words : AreWords xs
  given-words = are_words_behind (nodes_of es) xs (subst AreWords e (nodes_of-words (es ++ more)))

  follow-given : follow (known (nodes_of es)) xs ≡ known (nodes_of (es ++ more))
  follow-given =
      let given : given_in child_of set_limit (es ++ more) ≡ given_in child_of set_limit es ++ xs =
      cons_tail (sym (addresses-grown (es ++ more)) ∙ e ∙ ap (λ (l : List ℕ). l ++ xs) (addresses-grown es)) in
      ap (λ (r : Replay). follow r xs) (sym (follow-grown es (omega (arith, ap length e, length-append (nodes_of es) xs))))
      ∙ sym (follow-append bare (given_in child_of set_limit es) xs)
      ∙ ap (follow bare) (sym given)
      ∙ follow-grown (es ++ more) few

events-written : (journal : List ℕ) (es more : List Event) (blocks : List (List ℕ)) → Onward journal (nodes_of es) (length blocks)
    → nodes_of (es ++ more) ≡ nodes_of es ++ joined blocks → AreBlocks blocks → length (nodes_of (es ++ more)) ≤ most_nodes
    → AllWritten writing journal blocks (λ after. RecoversTo recovering after (nodes_of (es ++ more)))
events-written journal es more blocks w e counts few =
    all_written blocks journal (nodes_of es) (nodes_of (es ++ more)) w counts (given-words es more (joined blocks) e few)
    (follow-given es more (joined blocks) e few)

pub round_trip : RoundTrip writing recovering
round_trip = record {
  onward = λ journal written es more blocks all w r e counts room few.
      let (is_long, replays) = known_recovers journal (nodes_of es) r in
      let right = right-replayed journal all (nodes_of es) replays in
      let same = ap length (written-only journal (nodes_of es) all right written w) in
      let slots = written_slots-right journal (nodes_of es) all right in
      let counted = length-slots_of journal in
      events-written journal es more blocks (record { is_long = is_long; octets = all; replays = replays; room = omega arith }) e counts few;
  whole = λ slots es blocks some few e counts room nodes.
      let none = written_slots-erased slots in
      let all = slot_count-erased slots in
      let counted = length-slots_of (erased_journal slots) in
      events-written (erased_journal slots) [] es blocks
      (record {
        is_long = is_length-erased slots some few;
        octets = octets-erased slots;
        replays = replayed-erased slots ∙ ap (λ (l : List ℕ). known l) (sym nodes_of-none);
        room = omega arith;
      })
      (addresses-grown es ∙ ap₂ (λ (l m : List ℕ). l ++ m) (sym nodes_of-none) e) counts nodes;
}
