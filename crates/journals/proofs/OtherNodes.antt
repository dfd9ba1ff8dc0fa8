-- A recovery that allows another number of nodes: of fewer it refuses the journal of as many as are allowed, of more it takes the one that has a next
-- child behind them; recovery does neither. Assumes nothing.
use Rattle.std.specs.Prelude.{if◌then◌else◌}
use Prim.Native.Nat.{ℕ, suc, ◌+◌, ◌≤◌, ◌<◌}
use mathlib.Core.Path.{◌≡◌, refl, sym, ap, ap₂, ◌∙◌}
use mathlib.Core.Bool.{Bool, true, false, not}
use mathlib.Core.List.{List, [], ◌∷◌, ◌++◌}
use native.Mathlib.Omega.{arith}
use borrow.Author.Tests.{eq-eqb, ne_eqb, ltb-true, ltb-false, le-leb, lt-leb, leb-true, leb-false}
use lib.Dec.{leb, ltb}
use lib.ListN.{length, get_or, length-append}
use Rattle.address.specs.Bits.{root}
use Rattle.node.specs.Node.{child_of, set_limit}
use Rattle.tree.specs.Tree.{Event, grown, given_in}
use Rattle.block.specs.Block.{is_block, addresses_in}
use Rattle.block.specs.Blocks.{IsBlockOf}
use Rattle.journal.specs.Limits.{most_nodes}
use Rattle.journal.specs.Replay.{is_next, Replay, known, fault, taken, next, follow, bare}
use Rattle.journal.specs.Slots.{slots_of, is_erased, spoilt, ends_erased, entered, not_erased, slot_taken, gap_after, replayed}
use Rattle.journal.specs.Recovery.{is_length, RecoverEffect, refuse_recovery, restored, recovering}
use Rattle.journal.proofs.ReplayLaws.{follow-fault}
use Rattle.journals.specs.Replays.{IsNextChild, nodes_of}
use Rattle.journals.specs.Slots.{EndsErased, Holds, none, torn, block}
use Rattle.journals.specs.Refusals.{RecoverRefusals}
use Rattle.journals.specs.WrongRecoveries.{replaying, taking_slots, taking_all, taken_within, next_within, follow_within, slot_within, holding}
use Rattle.journals.specs.Full.{OtherNodesExcluded}
use Rattle.journals.proofs.GivenReplayed.{follow-grown}
use Rattle.journals.proofs.SlotTests.{AreSlots, is_erased_other, is_block_of-ends, is_block_of-erased, is_block_of-right, is_block_of-addresses}
use Rattle.journals.proofs.SlotTests.{gap_after_other}
use Rattle.journals.proofs.SlotReplays.{replay-holds}
use Rattle.journals.proofs.Lengths.{slots-slots_of}
use Rattle.journals.proofs.WrongRecoveries.{ones, both_ends, wrong_recoveries_excluded}
use Rattle.journals.proofs.Full.{JournalOf, journal_of, one_too_many_lem, words-given, length-given, follow_all, follow_more}

-- ---- with the right number it is recovery

next_own : (r : Replay) (a : ℕ) → next_within most_nodes r a ≡ next r a
unfolding next_within taken_within next taken
next_own (known xs) a = refl
next_own (fault n) a = refl

follow_own : (xs : List ℕ) (r : Replay) → follow_within most_nodes r xs ≡ follow r xs
unfolding follow_within follow
follow_own [] r = refl
follow_own (a ∷ xs) r = ap (λ (s : Replay). follow_within most_nodes s xs) (next_own r a) ∙ follow_own xs (next r a)

slot_own : (gap : Bool) (r : Replay) (slot : List ℕ) → slot_within most_nodes gap r slot ≡ slot_taken gap r slot
unfolding slot_within slot_taken not_erased entered
slot_own gap r slot =
    ap (λ (s : Replay). if is_erased slot then r else if gap then spoilt r else if ends_erased slot then r else if is_block slot then s else spoilt r)
    (follow_own (addresses_in slot) r)

slots_own : (gap : Bool) (r : Replay) (slots : List (List ℕ)) → taking_slots (slot_within most_nodes) gap r slots ≡ taking_slots slot_taken gap r slots
unfolding taking_slots
slots_own gap r [] = refl
slots_own gap r (slot ∷ slots) =
    ap (λ (s : Replay). taking_slots (slot_within most_nodes) (gap_after gap slot) s slots) (slot_own gap r slot)
    ∙ slots_own (gap_after gap slot) (slot_taken gap r slot) slots

own_nodes_lem : (journal words : List ℕ) → holding most_nodes journal words ≡ recovering journal words
unfolding holding replaying
own_nodes_lem journal words =
    ap (λ (r : Replay).
    if not (is_length (length journal)) then refuse_recovery 12 words
    else if ltb (length words) most_nodes then refuse_recovery 10 words
    else restored r words) (slots_own false bare (slots_of journal) ∙ wrong_recoveries_excluded.own_slots journal)
    ∙ wrong_recoveries_excluded.own_end journal words

-- ---- addresses that are followed

-- the first of them is a next child, and there is room for it
follow-cons : (xs ys zs : List ℕ) (a : ℕ) → follow (known ys) (a ∷ xs) ≡ known zs
    → (is_next ys a ≡ true) × (follow (known (ys ++ (a ∷ []))) xs ≡ known zs)
unfolding follow next taken
follow-cons xs ys zs a = go (is_next ys a) refl (leb most_nodes (length ys))
  where
    no_fault : (n : ℕ) → follow (fault n) xs ≡ known zs → ⊥
    no_fault n h =
        let clash : fault n ≡ known zs = sym (follow-fault n xs) ∙ h in
        let z : ◌≡◌ {A = ℕ} 0 1 = cc in omega (arith, z)

    go : (n : Bool) → is_next ys a ≡ n → (f : Bool)
        → follow (if not n then fault 17 else if f then fault 14 else known (ys ++ (a ∷ []))) xs ≡ known zs
        → (is_next ys a ≡ true) × (follow (known (ys ++ (a ∷ []))) xs ≡ known zs)
    go false e f h = absurd (no_fault 17 h)
    go true e true h = absurd (no_fault 14 h)
    go true e false h = (e, h)

length_snoc : (ys : List ℕ) (a : ℕ) → length (ys ++ (a ∷ [])) ≡ suc (length ys)
length_snoc ys a = omega (arith, length-append ys (a ∷ []))

length-followed : (xs ys zs : List ℕ) → follow (known ys) xs ≡ known zs → length zs ≡ length ys + length xs
length-followed [] ys zs h = unfold follow in
    let same : zs ≡ ys = cc in omega (arith, ap length same)
length-followed (a ∷ xs) ys zs h =
    omega (arith, length-followed xs (ys ++ (a ∷ [])) zs (follow-cons xs ys zs a h).1, length_snoc ys a)

module _ (most : ℕ) where
  within-fault : (n : ℕ) (xs : List ℕ) → follow_within most (fault n) xs ≡ fault n
  unfolding follow_within next_within
  within-fault n [] = refl
  within-fault n (a ∷ xs) = within-fault n xs

  within-append : (r : Replay) (xs ys : List ℕ) → follow_within most r (xs ++ ys) ≡ follow_within most (follow_within most r xs) ys
  unfolding follow_within
  within-append r [] ys = refl
  within-append r (a ∷ xs) ys = within-append (next_within most r a) xs ys

  within-room : (ys : List ℕ) (a : ℕ) → is_next ys a ≡ true → length ys < most → next_within most (known ys) a ≡ known (ys ++ (a ∷ []))
  unfolding next_within taken_within
  within-room ys a e h = rw (e, lt-leb most (length ys) h) refl

  within_none : (ys : List ℕ) (a : ℕ) → is_next ys a ≡ true → most ≤ length ys → next_within most (known ys) a ≡ fault 14
  unfolding next_within taken_within
  within_none ys a e h = rw (e, le-leb most (length ys) h) refl

  -- where the number allows all of them
  within-known : (xs ys zs : List ℕ) → follow (known ys) xs ≡ known zs → length zs ≤ most → follow_within most (known ys) xs ≡ known zs
  unfolding follow_within
  within-known [] ys zs h few = unfold follow in h
  within-known (a ∷ xs) ys zs h few =
      let (e, rest) = follow-cons xs ys zs a h in
      let counted = length-followed (a ∷ xs) ys zs h in
      ap (λ (r : Replay). follow_within most r xs) (within-room ys a e (omega (arith, few, counted))) ∙ within-known xs (ys ++ (a ∷ [])) zs rest few

  -- and where it does not
  within-full : (xs ys zs : List ℕ) → follow (known ys) xs ≡ known zs → most < length zs → 1 ≤ length xs → follow_within most (known ys) xs ≡ fault 14
  within-full [] ys zs h many some = absurd (omega (arith, some))
  within-full (a ∷ xs) ys zs h many some =
      let (e, rest) = follow-cons xs ys zs a h in
      go (leb most (length ys)) refl e (length-followed (a ∷ xs) ys zs h) (within-full xs (ys ++ (a ∷ [])) zs rest many)
    where
      go : (b : Bool) → leb most (length ys) ≡ b → is_next ys a ≡ true → length zs ≡ length ys + suc (length xs)
          → (1 ≤ length xs → follow_within most (known (ys ++ (a ∷ []))) xs ≡ fault 14) → follow_within most (known ys) (a ∷ xs) ≡ fault 14
      go true b e counted on = unfold follow_within in
          ap (λ (r : Replay). follow_within most r xs) (within_none ys a e (leb-true most (length ys) b)) ∙ within-fault 14 xs
      go false b e counted on = unfold follow_within in
          let room = leb-false most (length ys) b in
          ap (λ (r : Replay). follow_within most r xs) (within-room ys a e room) ∙ on (omega (arith, many, counted, room))

  -- ---- slots that hold them

  module _ (r : Replay) (slot : List ℕ) (some : is_erased slot ≡ false) where
    slot-torn : EndsErased slot → slot_within most false r slot ≡ r
    unfolding slot_within ends_erased
    slot-torn e = rw (some, eq-eqb (get_or slot 511 0) 0xFF e) refl

    slot-block : {xs : List ℕ} → IsBlockOf xs slot → slot_within most false r slot ≡ follow_within most r xs
    unfolding slot_within ends_erased
    slot-block b =
        rw (some, ne_eqb (get_or slot 511 0) 0xFF (is_block_of-ends b), is_block_of-right b) (ap (follow_within most r) (is_block_of-addresses b))

    slot_then : (slots : List (List ℕ)) {s : Replay} → slot_within most false r slot ≡ s
        → taking_slots (slot_within most) false r (slot ∷ slots) ≡ taking_slots (slot_within most) false s slots
    unfolding taking_slots
    slot_then slots e = ap₂ (λ (g : Bool) (q : Replay). taking_slots (slot_within most) g q slots) (gap_after_other false r slot some) e

  taking_holds : {slots : List (List ℕ)} {xs : List ℕ} → Holds slots xs → AreSlots slots → (r : Replay)
      → taking_slots (slot_within most) false r slots ≡ follow_within most r xs
  taking_holds none s r = unfold taking_slots follow_within in refl
  taking_holds (torn {slot = slot} {slots = slots} t h) s r =
      let some = is_erased_other slot s.0.size t.0 in
      slot_then r slot some slots (slot-torn r slot some t.1) ∙ taking_holds h s.1 r
  taking_holds (block {slot = slot} {slots = slots} {more = more} {addresses = addresses} b h) s r =
      let some = is_erased_other slot s.0.size (is_block_of-erased b) in
      slot_then r slot some slots (slot-block r slot some b) ∙ taking_holds h s.1 (follow_within most r more) ∙ sym (within-append r more addresses)

-- ---- two journals

module _ (es : List Event) (a : ℕ) (full : length (nodes_of es) ≡ most_nodes) (child : IsNextChild (grown child_of set_limit es) a)
    (most : ℕ) (claim : RecoverRefusals (holding most)) where
  abbrev given : List ℕ
  given = given_in child_of set_limit es

  followed : follow bare given ≡ known (nodes_of es)
  followed = follow-grown es (omega (arith, full))

  -- what both come to at a journal that holds addresses
  alike : (xs : List ℕ) → JournalOf xs → (r s : Replay) → follow_within most bare xs ≡ r → follow bare xs ≡ s → restored r ones ≡ restored s ones
  unfolding holding replayed
  alike xs (journal, octets, is_long, holds) r s e f =
      let are = slots-slots_of journal octets in
      both_ends (taking_all (slot_within most)) restored claim journal is_long octets r s (taking_holds most holds are bare ∙ e) (replay-holds holds are bare ∙ f)

  not-fewer : most < most_nodes → ⊥
  unfolding restored refuse_recovery
  not-fewer few =
      let counted = length-given es in
      let same =
      alike given (journal_of given (words-given es) (omega (arith, counted, full)) (omega (arith, counted, full))) (fault 14) (known (nodes_of es))
      (within-full most given (root ∷ []) (nodes_of es) followed (omega (arith, few, full)) (omega (arith, counted, full))) followed in
      let refusal : ◌≡◌ {A = ℕ} 14 0 = ap (λ (e : RecoverEffect). e.answer.refusal) same in
      omega (arith, refusal)

  next-child : is_next (nodes_of es) a ≡ true
  unfolding follow next taken
  next-child = go (is_next (nodes_of es) a) refl (leb most_nodes (length (nodes_of es))) (follow_more es a full child [])
    where
      go : (n : Bool) → is_next (nodes_of es) a ≡ n → (f : Bool)
          → (if not n then fault 17 else if f then fault 14 else known (nodes_of es ++ (a ∷ []))) ≡ fault 14 → is_next (nodes_of es) a ≡ true
      go true e f h = e
      go false e f h = let z : ◌≡◌ {A = ℕ} 17 14 = cc in absurd (omega (arith, z))

  taken_all : most_nodes < most → follow_within most bare (given ++ (a ∷ [])) ≡ known (nodes_of es ++ (a ∷ []))
  taken_all many =
      within-append most bare given (a ∷ [])
      ∙ ap (λ (r : Replay). follow_within most r (a ∷ [])) (within-known most given (root ∷ []) (nodes_of es) followed (omega (arith, many, full)))
      ∙ (unfold follow_within in within-room most (nodes_of es) a next-child (omega (arith, many, full)))

  not_more : most_nodes < most → ⊥
  unfolding restored refuse_recovery
  not_more many =
      let same =
      alike (given ++ (a ∷ [])) (one_too_many_lem es a full child) (known (nodes_of es ++ (a ∷ []))) (fault 14) (taken_all many) (follow_all es a full child [])
      in
      let refusal : ◌≡◌ {A = ℕ} 0 14 = ap (λ (e : RecoverEffect). e.answer.refusal) same in
      omega (arith, refusal)

  other_nodes_lem : most ≡ most_nodes
  other_nodes_lem = go (ltb most most_nodes) refl (ltb most_nodes most) refl
    where
      go : (f : Bool) → ltb most most_nodes ≡ f → (m : Bool) → ltb most_nodes most ≡ m → most ≡ most_nodes
      go true f m e = absurd (not-fewer (ltb-true most most_nodes f))
      go false f true m = absurd (not_more (ltb-true most_nodes most m))
      go false f false m = omega (arith, ltb-false most most_nodes f, ltb-false most_nodes most m)

pub other_nodes_excluded : OtherNodesExcluded
other_nodes_excluded = record { own_nodes = own_nodes_lem; other_nodes = other_nodes_lem }
