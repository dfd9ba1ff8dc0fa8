-- The front page's lines on a journal, each taken from the record that carries it. Assumes nothing.
use Rattle.std.specs.Prelude.{if◌then◌else◌}
use Prim.Native.Nat.{ℕ, suc, ◌/◌, ◌%◌, ◌^◌, ◌≤◌}
use mathlib.Core.Path.{◌≡◌, refl, sym, ap, ap₂, subst, ◌∙◌}
use mathlib.Core.Bool.{Bool, true, false, not, ◌&&◌, and-false}
use mathlib.Core.Logic.{◌⊎◌, inl, inr}
use mathlib.Core.List.{List, [], ◌∷◌, ◌++◌}
use native.Mathlib.Omega.{arith}
use borrow.Author.Tests.{eq-eqb, ne_eqb}
use lib.Dec.{eqb}
use lib.ListN.{length, get_or, replicate, length-append}
use lib.Seq.{take_at, drop_at, take_all}
use Rattle.address.specs.Address.{is_host, parent}
use Rattle.address.specs.declared.Kind.{Kind}
use Rattle.address.specs.declared.Kind.TheVariants.{Router, Host}
use Rattle.octets.specs.Octets.{AreOctets}
use Rattle.crc.specs.Crc.{bit, moved_up, shift_in, shift_bits, shift_octet, crc_from, crc}
use Rattle.crc.specs.Checks.{remainder}
use Rattle.crc.proofs.ShiftLaws.{crc-fits, halves}
use Rattle.crc.proofs.Table.{table_rule, by_table_lem}
use Rattle.crc.proofs.Known.{known_checks}
use Rattle.crc.proofs.WrongChecks.{wrong_checks}
use Rattle.node.specs.Node.{fresh, with_counts, count}
use Rattle.block.specs.Block.{spread, content, block, is_count, block_put, addresses_in, is_block}
use Rattle.block.specs.Blocks.{IsBlockOf}
use Rattle.block.proofs.Cases.{is_count_true, true_is_count}
use Rattle.block.proofs.Laws.{all_are-replicate}
use Rattle.block.proofs.Theorem.{blocks}
use Rattle.journal.specs.Replay.{Replay, known, fault}
use Rattle.journal.specs.Slots.{slots_in, slots_of, replayed}
use Rattle.journal.specs.Writing.{with_slot, writing}
use Rattle.journal.specs.Record.{is_kind, children}
use Rattle.journals.specs.Replays.{recovered, IsReplayed, IsFirstFault}
use Rattle.journals.specs.Slots.{Right, Holds, none, torn, block as a_block, Fault, misplaced, no_block, wrong_address}
use Rattle.journals.specs.Refusals.{Written, none as none_written, skipped, kept}
use Rattle.journals.specs.PowerCuts.{Accepts, stored_at, in_order}
use Rattle.journals.specs.RoundTrip.{joined}
use Rattle.journals.proofs.Recovering.{recover-refusals, recover_end_without, recovering-end, right-replayed, fault-replayed, recovers_known}
use Rattle.journals.proofs.Recovering.{known_no_fault, one-fault, fault-number}
use Rattle.journals.proofs.SlotOutcomes.{replay-known, replay-fault-exactly}
use Rattle.journals.proofs.Lengths.{slots-slots_of}
use Rattle.journals.proofs.Writing.{write-refusals}
use Rattle.journals.proofs.AfterWrites.{after_write_lem}
use Rattle.journals.proofs.Cuts.{length-up_to, get_d_up_to, power-cut, stored-whole, cut-octets}
use Rattle.journals.proofs.RoundTrips.{round_trip}
use Rattle.journals.proofs.Finding.{found-exactly, found-counts, found-limits, node-not_found}
use Rattle.journals.proofs.Theorem.{replays, given-replayed, records}
use Rattle.journals.proofs.OneRule.{right-once, one_recovery, one_writer_lem}
use Rattle.journals.proofs.WrongRecoveries.{wrong_recoveries_excluded}
use Rattle.journals.proofs.Orders.{orders}
use Rattle.journals.proofs.WrongWriters.{wrong_writers_excluded}
use Rattle.claims.specs.Journals.{TheCheck, TheBlock, TheSlots, JournalRefusals, RecoversTo, TheJournal, ThePowerCut}
use Rattle.claims.specs.Journals.{TheRecord, OneJournalRule, WrongJournalRules}

pub the_check : TheCheck
unfolding bit moved_up shift_in shift_bits shift_octet crc_from crc remainder
the_check = record {
  bit_of = λ k n. refl;
  up = λ register. refl;
  alike = λ register b e. rw (eq-eqb (register / 2 ^ 15 % 2) b e) refl;
  unlike = λ register b ne. rw (ne_eqb (register / 2 ^ 15 % 2) b ne) refl;
  no_bit = λ register n. refl;
  one_bit = λ k register n. refl;
  an_octet = λ register o. refl;
  no_octet = λ register. refl;
  one_octet = λ register o os. refl;
  start = λ os. refl;
  fits = crc-fits;
  sixteen = table_rule.sixteen;
  table = table_rule.each;
  entry = λ half. refl;
  by_table = λ register half h. sym (by_table_lem register half h);
  by_halves = λ register o. sym (halves register o);
  nine = known_checks.of_nine;
}

tested-back : (slot : List ℕ) → AreOctets slot → (xs : List ℕ) → IsBlockOf xs slot → is_block slot ≡ true
tested-back slot all xs b =
    (blocks.exactly slot all).1 (subst (λ (ys : List ℕ). IsBlockOf ys slot) (blocks.only xs slot b) b)

block_put-whole : (xs slot : List ℕ) → length slot ≡ 512 → 1 ≤ length xs → length xs ≤ 63 → block_put xs slot ≡ block xs
unfolding block_put
block_put-whole xs slot e some few = rw (eq-eqb (length slot) 512 e, is_count_true (length xs) (some, few)) refl

block_put-not : (xs slot : List ℕ) → (length slot ≡ 512 → ⊥) ⊎ ((1 ≤ length xs) × (length xs ≤ 63) → ⊥) → block_put xs slot ≡ slot
unfolding block_put
block_put-not xs slot (inl ne) = rw (ne_eqb (length slot) 512 ne) refl
block_put-not xs slot (inr out) = go (eqb (length slot) 512) (is_count (length xs)) refl
  where
    go : (whole count : Bool) → is_count (length xs) ≡ count → (if whole && count then block xs else slot) ≡ slot
    go false count e = refl
    go true false e = refl
    go true true e = absurd (out (true_is_count (length xs) e))

pub the_block : TheBlock
unfolding spread content block
the_block = record {
  no_address = refl;
  one_address = λ a xs. refl;
  bytes = λ xs content e. rw e refl;
  whole = λ xs some few. blocks.whole xs (some, few);
  is_block_of = λ xs slot. (
    λ b. (b.words, b.count.0, b.count.1, b.bytes),
    λ h. record { words = h.0; count = (h.1, h.2); bytes = h.3 },
  );
  no_other = λ xs ys slot b c. blocks.only xs slot b ∙ sym (blocks.only ys slot c);
  tested = λ slot all. (λ e. (addresses_in slot, (blocks.exactly slot all).0 e), λ h. tested-back slot all h.0 h.1);
  alike = all_are-replicate;
  put = λ xs slot e some few. block_put-whole xs slot e some few;
  not_put = block_put-not;
  no_word = (λ h. h, λ h. h);
  one_word = λ a xs. (λ h. h, λ h. h);
}

pub journal-refusals : JournalRefusals
journal-refusals = record {
  a_recovery = recover-refusals.given;
  a_block = write-refusals.given;
  beside_ablock = write-refusals.beside;
  beside_arecovery = recover-refusals.beside;
  spared = recover-refusals.spared;
  zeroed = recover-refusals.zeroed;
}

-- ---- the slots

slots_of-cons : (slot rest : List ℕ) → length slot ≡ 512 → slots_of (slot ++ rest) ≡ slot ∷ slots_of rest
unfolding slots_of slots_in
slots_of-cons slot rest e =
    let count : length (slot ++ rest) / 512 ≡ suc (length rest / 512) = omega (arith, length-append slot rest, e) in
    ap (λ (k : ℕ). slots_in k (slot ++ rest)) count
    ∙ ap₂ (λ (s r : List ℕ). s ∷ slots_in (length rest / 512) r) (take_at slot rest 512 e) (drop_at slot rest 512 e)

holds-none : (xs : List ℕ) → Holds [] xs → xs ≡ []
holds-none xs none = refl

abbrev HoldsOne : (slot : List ℕ) (slots : List (List ℕ)) (xs : List ℕ) → Type 0
HoldsOne slot slots xs =
    ((slot ≡ replicate 512 0xFF → ⊥) × (get_or slot 511 0 ≡ 0xFF) × Holds slots xs)
    ⊎ ((more : List ℕ) × (others : List ℕ) × (xs ≡ more ++ others) × IsBlockOf more slot × Holds slots others)

holds-one : (slot : List ℕ) (slots : List (List ℕ)) (xs : List ℕ) → Holds (slot ∷ slots) xs → HoldsOne slot slots xs
holds-one slot slots xs (torn t h) = inl (t.0, t.1, h)
holds-one slot slots xs (a_block {more = more} {addresses = others} b h) = inr (more, others, refl, b, h)

one_holds : (slot : List ℕ) (slots : List (List ℕ)) (xs : List ℕ) → HoldsOne slot slots xs → Holds (slot ∷ slots) xs
one_holds slot slots xs (inl h) = torn (h.0, h.1) h.2
one_holds slot slots xs (inr h) = subst (Holds (slot ∷ slots)) (sym h.2) (a_block h.3 h.4)

written_none_lem : (all : List (List ℕ)) → Written [] all → all ≡ []
written_none_lem all none_written = refl

abbrev WrittenOne : (slot : List ℕ) (slots all : List (List ℕ)) → Type 0
WrittenOne slot slots all =
    ((slot ≡ replicate 512 0xFF) × Written slots all)
    ⊎ ((others : List (List ℕ)) × (all ≡ slot ∷ others) × (slot ≡ replicate 512 0xFF → ⊥) × Written slots others)

written_one_lem : (slot : List ℕ) (slots all : List (List ℕ)) → Written (slot ∷ slots) all → WrittenOne slot slots all
written_one_lem slot slots all (skipped e w) = inl (e, w)
written_one_lem slot slots all (kept {written = others} ne w) = inr (others, refl, ne, w)

one_written : (slot : List ℕ) (slots all : List (List ℕ)) → WrittenOne slot slots all → Written (slot ∷ slots) all
one_written slot slots all (inl h) = skipped h.0 h.1
one_written slot slots all (inr h) = subst (Written (slot ∷ slots)) (sym h.1) (kept h.2 h.3)

abbrev FaultCases : (slots : List (List ℕ)) (n : ℕ) → Type 0
FaultCases slots n =
    ((before : List (List ℕ)) × (erased : List ℕ) × (between : List (List ℕ)) × (slot : List ℕ) × (rest : List (List ℕ)) × (nodes : List ℕ)
    × (slots ≡ before ++ (erased ∷ between) ++ slot ∷ rest) × Right (before ++ (erased ∷ between)) nodes × (erased ≡ replicate 512 0xFF)
    × (slot ≡ replicate 512 0xFF → ⊥) × (n ≡ 17))
    ⊎ ((before : List (List ℕ)) × (slot : List ℕ) × (rest : List (List ℕ)) × (xs : List ℕ) × (nodes : List ℕ) × (slots ≡ before ++ slot ∷ rest)
    × Holds before xs × IsReplayed xs nodes × (get_or slot 511 0 ≡ 0xFF → ⊥) × ((more : List ℕ) → IsBlockOf more slot → ⊥) × (n ≡ 17))
    ⊎ ((before : List (List ℕ)) × (slot : List ℕ) × (rest : List (List ℕ)) × (xs : List ℕ) × (more : List ℕ) × (nodes : List ℕ)
    × (slots ≡ before ++ slot ∷ rest) × Holds before xs × IsReplayed xs nodes × IsBlockOf more slot × IsFirstFault (xs ++ more) n)

fault-cases : (slots : List (List ℕ)) (n : ℕ) → Fault slots n → FaultCases slots n
fault-cases slots n (misplaced before erased slot between rest nodes parts right e ne z) =
    inl (before, erased, between, slot, rest, nodes, parts, right, e, ne, z)
fault-cases slots n (no_block before slot rest xs nodes parts holds replayed ne out z) =
    inr (inl (before, slot, rest, xs, nodes, parts, holds, replayed, ne, out, z))
fault-cases slots n (wrong_address before slot rest xs more nodes parts holds replayed b f) =
    inr (inr (before, slot, rest, xs, more, nodes, parts, holds, replayed, b, f))

cases-fault : (slots : List (List ℕ)) (n : ℕ) → FaultCases slots n → Fault slots n
cases-fault slots n (inl h) = misplaced h.0 h.1 h.3 h.2 h.4 h.5 h.6 h.7 h.8 h.9 h.10
cases-fault slots n (inr (inl h)) = no_block h.0 h.1 h.2 h.3 h.4 h.5 h.6 h.7 h.8 h.9 h.10
cases-fault slots n (inr (inr h)) = wrong_address h.0 h.1 h.2 h.3 h.4 h.5 h.6 h.7 h.8 h.9 h.10

right-known : (journal nodes : List ℕ) → AreOctets journal → Right (slots_of journal) nodes → replayed journal ≡ known nodes
unfolding replayed
right-known journal nodes all right = (replay-known (slots_of journal) nodes (slots-slots_of journal all)).1 right

fault-known : (journal : List ℕ) (n : ℕ) → AreOctets journal → Fault (slots_of journal) n → replayed journal ≡ fault n
unfolding replayed
fault-known journal n all f = (replay-fault-exactly (slots_of journal) n (slots-slots_of journal all)).1 f

one-or_other : (journal : List ℕ) → AreOctets journal
    → ((nodes : List ℕ) × Right (slots_of journal) nodes) ⊎ ((n : ℕ) × ((n ≡ 14) ⊎ (n ≡ 17)) × Fault (slots_of journal) n)
one-or_other journal all = go (replayed journal) refl
  where
    go : (r : Replay) → replayed journal ≡ r
        → ((nodes : List ℕ) × Right (slots_of journal) nodes) ⊎ ((n : ℕ) × ((n ≡ 14) ⊎ (n ≡ 17)) × Fault (slots_of journal) n)
    go (known nodes) e = inl (nodes, right-replayed journal all nodes e)
    go (fault n) e = inr (n, fault-number journal n e, fault-replayed journal all n e)

pub the_slots : TheSlots
the_slots = record {
  is_length = λ bytes. (
    λ l. (l.slots, l.some, l.few, l.whole),
    λ h. record { slots = h.0; some = h.1; few = h.2; whole = h.3 },
  );
  no_slot = unfold slots_of slots_in in refl;
  one_slot = slots_of-cons;
  holds_none = λ xs. (holds-none xs, λ e. subst (Holds []) (sym e) none);
  holds_one = λ slot slots xs. (holds-one slot slots xs, one_holds slot slots xs);
  none_erased = (λ h. h, λ h. h);
  all_erased = λ slot slots. (λ h. h, λ h. h);
  next_child = λ t a. (
    λ c. (c.node, c.kind, c.stands, c.given, c.child),
    λ h. record { node = h.0; kind = h.1; stands = h.2; given = h.3; child = h.4 },
  );
  without_limits = λ n. (unfold recovered with_counts count fresh in refl);
  with_settings = given-replayed;
  is_replayed = λ xs nodes. (
    λ r. (r.requests, r.addresses_given, r.the_nodes, r.few),
    λ h. record { requests = h.0; addresses_given = h.1; the_nodes = h.2; few = h.3 },
  );
  is_first_fault = λ xs n. (
    λ f. (f.requests, f.address, f.rest, f.addresses_given, f.few, f.number),
    λ h. record { requests = h.0; address = h.1; rest = h.2; addresses_given = h.3; few = h.4; number = h.5 },
  );
  right = λ slots nodes. (
    λ r. (r.written, r.erased, r.addresses, r.parts, r.holds, r.free, r.replayed, r.in_order),
    λ h. record { written = h.0; erased = h.1; addresses = h.2; parts = h.3; holds = h.4; free = h.5; replayed = h.6; in_order = h.7 },
  );
  faults = λ slots n. (fault-cases slots n, cases-fault slots n);
  one_or_other = one-or_other;
  not_both = λ journal nodes n all right f. known_no_fault journal all nodes n (right-known journal nodes all right) f;
  one_fault = λ journal n m all f g. one-fault journal all n (fault-known journal n all f) m g;
  one_tree = right-once;
  written_none = λ all. (written_none_lem all, λ e. subst (Written []) (sym e) none_written);
  written_one = λ slot slots all. (written_one_lem slot slots all, one_written slot slots all);
  free_none = (λ h. h, λ h. h);
  free_one = λ slot slots. (λ h. h, λ h. h);
}

-- ---- the journal

pub the_journal : TheJournal
unfolding with_slot joined
the_journal = record {
  a_hall = λ journal words all z.
      let (nodes, e, same, l) = recover_end_without (recovering-end journal words) z in
      let right = right-replayed journal all nodes e in
      let (rs, given, tree, demand3) = replays.demand3 right.addresses nodes right.replayed in
      (nodes, right, recovers_known journal nodes l e, (rs, tree, demand3));
  the_slot = λ journal xs all z.
      let (first, stored) = write-refusals.without journal xs all z in (
        first.before,
        first.erased,
        first.rest,
        first.parts,
        first.place,
        first.none_before,
        first.free,
        stored ∙ ap (λ (k : ℕ). with_slot k (block xs) journal) first.place,
      );
  its_place = λ slot bytes journal. refl;
  after_awrite = λ journal xs all words z. after_write_lem journal xs (record { octets = all; words = words; accepted = z });
  every_list = round_trip.whole;
  onward = round_trip.onward;
  no_blocks = (refl, (λ h. h, λ h. h));
  blocks_one = λ xs blocks. (refl, (λ h. h, λ h. h));
  written_none = λ journal nodes. (λ h. h, λ h. h);
  written_one = λ journal nodes xs blocks. (λ h. h, λ h. h);
}

-- ---- the power cut

pub the_power-cut : ThePowerCut
unfolding stored_at
the_power-cut = record {
  no_place = λ slot new old. refl;
  one_place = λ slot place places new old. refl;
  places = length-up_to 512;
  placed = λ k h. get_d_up_to k 512 h;
  state_before = λ journal xs all words z.
      let accepts : Accepts writing journal xs = record { octets = all; words = words; accepted = z } in
      let (nodes, before) = power-cut.stands journal xs accepts in (
        nodes,
        before,
        λ k h. power-cut.before journal xs nodes k accepts before h,
        subst
            (λ (places : List ℕ).
            RecoversTo (stored_at (writing journal xs).answer.slot places (writing journal xs).journal journal) (nodes ++ xs))
            (take_all 512 in_order (omega (arith, length-up_to 512)))
            (power-cut.after journal xs nodes accepts before),
      );
  all_stored = stored-whole;
  octets_again = cut-octets;
  any_order = orders.exactly;
  is_order = λ order. (λ o. (o.steps, o.every, o.once), λ h. record { steps = h.0; every = h.1; once = h.2 });
  power_cut = λ order write recover. (
    λ p. (p.stands, p.before, p.after),
    λ h. record { stands = h.0; before = h.1; after = h.2 },
  );
  accepts = λ write journal xs. (
    λ a. (a.octets, a.words, a.accepted),
    λ h. record { octets = h.0; words = h.1; accepted = h.2 },
  );
}

-- ---- a node's record

module _ (a w : ℕ) (words : List ℕ) where
  children-router : parent w ≡ a → is_host w ≡ false → children Router a (w ∷ words) ≡ suc (children Router a words)
  unfolding children is_kind
  children-router e h = rw (eq-eqb (parent w) a e, h) refl

  children-host : parent w ≡ a → is_host w ≡ true → children Host a (w ∷ words) ≡ suc (children Host a words)
  unfolding children is_kind
  children-host e h = rw (eq-eqb (parent w) a e, h) refl

  children_other : (kind : Kind) → (eqb (parent w) a && is_kind kind w) ≡ false → children kind a (w ∷ words) ≡ children kind a words
  unfolding children
  children_other kind e = rw e refl

  no_kind : (kind : Kind) → (parent w ≡ a → ⊥) ⊎ (is_kind kind w ≡ false) → (eqb (parent w) a && is_kind kind w) ≡ false
  no_kind kind (inl ne) = rw (ne_eqb (parent w) a ne) refl
  no_kind kind (inr e) = rw e (and-false (eqb (parent w) a))

  no_router_lem : (parent w ≡ a → ⊥) ⊎ (is_host w ≡ true) → (parent w ≡ a → ⊥) ⊎ (is_kind Router w ≡ false)
  unfolding is_kind
  no_router_lem (inl ne) = inl ne
  no_router_lem (inr e) = inr (ap not e)

  no_host_lem : (parent w ≡ a → ⊥) ⊎ (is_host w ≡ false) → (parent w ≡ a → ⊥) ⊎ (is_kind Host w ≡ false)
  unfolding is_kind
  no_host_lem (inl ne) = inl ne
  no_host_lem (inr e) = inr e

pub the_record : TheRecord
the_record = record {
  found = found-exactly;
  its_counts = found-counts;
  not_found = node-not_found;
  no_word = λ kind a. (unfold children in refl);
  a_router = children-router;
  a_host = children-host;
  no_router = λ a w words h. children_other a w words Router (no_kind a w words Router (no_router_lem a w words h));
  no_host = λ a w words h. children_other a w words Host (no_kind a w words Host (no_host_lem a w words h));
  its_limits = λ words a kind. found-limits words a kind;
  of_atree = records.found;
  of_requests = records.same;
  no_node = records.absent;
}

-- ---- one rule, and wrong ones

pub one-journal_rule : OneJournalRule
one-journal_rule = record {
  recover_refusals = λ rule. (
    λ r. (r.given, r.beside, r.spared, r.zeroed, r.without),
    λ h. record { given = h.0; beside = h.1; spared = h.2; zeroed = h.3; without = h.4 },
  );
  write_refusals = λ rule. (
    λ r. (r.given, r.beside, r.without),
    λ h. record { given = h.0; beside = h.1; without = h.2 },
  );
  is_first_erased = λ slots slot. (
    λ f. (f.before, f.erased, f.rest, f.parts, f.place, f.none_before, f.free),
    λ h. record { before = h.0; erased = h.1; rest = h.2; parts = h.3; place = h.4; none_before = h.5; free = h.6 },
  );
  after_write = λ write recover. (λ h. h, λ h. h);
  after_ours = after_write_lem;
  to_recover = one_recovery.only;
  ours = recover-refusals;
  to_write = one_writer_lem.only;
  ours_too = write-refusals;
}

pub wrong_journal-rules : WrongJournalRules
wrong_journal-rules = record {
  last_byte_first = wrong_writers_excluded.last_byte_first;
  no_check = wrong_writers_excluded.no_check;
  another_block = wrong_writers_excluded.another_block;
  nothing_written = wrong_writers_excluded.nothing_written;
  torn_taken = wrong_writers_excluded.torn_taken;
  all_refused = wrong_writers_excluded.all_refused;
  last_erased = wrong_writers_excluded.last_erased;
  left_behind = wrong_recoveries_excluded.left_behind;
  left_at_fault = wrong_recoveries_excluded.left_at_fault;
  torn_not_skipped = wrong_recoveries_excluded.torn_not_skipped;
  gap_not_seen = wrong_recoveries_excluded.gap_not_seen;
  room_before_length = wrong_recoveries_excluded.other_order;
  with_limits = wrong_recoveries_excluded.other_limits;
  zero_start = wrong_checks.zero_start;
  other_polynomial = wrong_checks.other_polynomial;
  low_bit = wrong_checks.low_bit;
  low_half = wrong_checks.low_half;
  inverted = wrong_checks.inverted;
  last_half = wrong_checks.last_half;
}
