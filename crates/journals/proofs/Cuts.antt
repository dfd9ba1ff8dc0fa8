-- A power cut leaves the bytes of the block at some places of the erased slot, and 0xFF at the others: as long as the last byte is not among them
-- the slot is erased or torn, and skipped; with every place it is the block. So it is with every order that ends in the last byte, and with the
-- bytes in order. Assumes nothing.
use Prim.Native.Nat.{ℕ, zero, suc, ◌+◌, ◌*◌, ◌-◌, ◌≤◌, ◌<◌}
use mathlib.Core.Path.{◌≡◌, refl, sym, ap, ap₂, subst, ◌∙◌}
use mathlib.Core.Bool.{Bool, true, false}
use mathlib.Core.List.{List, [], ◌∷◌, ◌++◌}
use native.Mathlib.Nat.{zero-add, suc-add}
use native.Mathlib.Omega.{arith}
use native.Mathlib.Decide.{dec_le, ℕ_discrete}
use lib.ListN.{length, take, get_or, set, length-append, length-set, get_or-replicate, get_or-append}
use lib.Seq.{take_all, get_or_at, get_or-append-add, get_or-take, length-take-le, lt-length-set, set-append_left, set_out, set-get_or, get_or-set_same}
use lib.Seq.{get_or-set_other, ext_get_or}
use Rattle.octets.specs.Octets.{AreOctets}
use Rattle.block.specs.Block.{slot_bytes, block}
use Rattle.block.specs.Blocks.{AreWords}
use Rattle.journal.specs.Replay.{known, follow}
use Rattle.journal.specs.Slots.{slots_of, is_erased, replayed}
use Rattle.journal.specs.Recovery.{recovering}
use Rattle.journal.specs.Writing.{with_slot, writing}
use Rattle.journals.specs.Slots.{IsLength, IsErased, EndsErased}
use Rattle.journals.specs.RoundTrip.{joined}
use Rattle.journals.specs.PowerCuts.{RecoversTo, stored_at, cut_after, PowerCut, up_to, in_order}
use Rattle.journals.specs.Orders.{IsOrder}
use Rattle.journals.proofs.SlotTests.{IsSlot, erased-is_erased, other_is_erased}
use Rattle.journals.proofs.SlotReplays.{holds-torn}
use Rattle.journals.proofs.Recovering.{recovers_known, known_recovers}
use Rattle.journals.proofs.Placing.{slot-old, length_before, journal-parts, with_slot-parts, octets-with_slot, replayed-with_slot}
use Rattle.journals.proofs.AfterWrites.{Put, put-accepted, is_length-put, slot-block, recovers_put}

-- ---- a slot with the bytes of another at some places

unfoldable pub stored_in : List ℕ → List ℕ → List ℕ → List ℕ
stored_in [] new old = old
stored_in (place ∷ places) new old = stored_in places new (set old place (get_or new place 0))

get_d_octets : (os : List ℕ) (i : ℕ) → AreOctets os → get_or os i 0 < 256
get_d_octets [] i all = omega arith
get_d_octets (o ∷ os) zero all = all.0
get_d_octets (o ∷ os) (suc i) all = get_d_octets os i all.1

set-octets : (os : List ℕ) (i b : ℕ) → b < 256 → AreOctets os → AreOctets (set os i b)
set-octets [] i b fits all = tt
set-octets (o ∷ os) zero b fits all = (fits, all.1)
set-octets (o ∷ os) (suc i) b fits all = (all.0, set-octets os i b fits all.1)

module _ (new : List ℕ) where
  pub length-stored : (places old : List ℕ) → length (stored_in places new old) ≡ length old
  unfolding stored_in
  length-stored [] old = refl
  length-stored (x ∷ places) old = length-stored places (set old x (get_or new x 0)) ∙ length-set old x (get_or new x 0)

  octets-stored : AreOctets new → (places old : List ℕ) → AreOctets old → AreOctets (stored_in places new old)
  unfolding stored_in
  octets-stored n [] old o = o
  octets-stored n (x ∷ places) old o = octets-stored n places (set old x (get_or new x 0)) (set-octets old x (get_or new x 0) (get_d_octets new x n) o)

  -- what is right already stays
  stored-stays : (places old : List ℕ) (p : ℕ) → get_or old p 0 ≡ get_or new p 0 → get_or (stored_in places new old) p 0 ≡ get_or new p 0
  unfolding stored_in
  stored-stays [] old p h = h
  stored-stays (x ∷ places) old p h = stored-stays places (set old x (get_or new x 0)) p (go (ℕ_discrete p x))
    where
      go : Dec (p ≡ x) → get_or (set old x (get_or new x 0)) p 0 ≡ get_or new p 0
      go (yes e) =
          let same : get_or new x 0 ≡ get_or old x 0 = ap (λ (i : ℕ). get_or new i 0) (sym e) ∙ sym h ∙ ap (λ (i : ℕ). get_or old i 0) e in
          ap (λ (l : List ℕ). get_or l p 0) (ap (set old x) same ∙ set-get_or old x 0) ∙ h
      go (no ne) = get_or-set_other old x p (get_or new x 0) 0 ne ∙ h

  -- a place at some step is stored
  pub stored_there : (places old : List ℕ) (step p : ℕ) → step < length places → get_or places step 0 ≡ p → p < length old
      → get_or (stored_in places new old) p 0 ≡ get_or new p 0
  unfolding stored_in
  stored_there [] old step p l e h = absurd (omega arith)
  stored_there (x ∷ places) old zero p l e h =
      stored-stays places (set old x (get_or new x 0)) p
      (
      ap (λ (i : ℕ). get_or (set old x (get_or new x 0)) i 0) (sym e)
      ∙ get_or-set_same old x (get_or new x 0) 0 (omega (arith, e))
      ∙ ap (λ (i : ℕ). get_or new i 0) e
      )
  stored_there (x ∷ places) old (suc step) p l e h =
      stored_there places (set old x (get_or new x 0)) step p (omega arith) e (lt-length-set old x (get_or new x 0) h)

  -- a place at no step is kept
  pub stored_other : (places old : List ℕ) (p : ℕ) → ((step : ℕ) → step < length places → get_or places step 0 ≡ p → ⊥)
      → get_or (stored_in places new old) p 0 ≡ get_or old p 0
  unfolding stored_in
  stored_other [] old p out = refl
  stored_other (x ∷ places) old p out =
      stored_other places (set old x (get_or new x 0)) p (λ step l. out (suc step) (omega arith))
      ∙ get_or-set_other old x p (get_or new x 0) 0 (λ e. out 0 (omega arith) (sym e))

-- with every place it is the other slot
stored-every : (order new old : List ℕ) → IsOrder order → length new ≡ slot_bytes → length old ≡ slot_bytes → stored_in order new old ≡ new
stored-every order new old h n o =
    let long = length-stored new order old in
    ext_get_or 0 (stored_in order new old) new (long ∙ o ∙ sym n) (λ i l. at i (omega arith))
  where
    at : (i : ℕ) → i < slot_bytes → get_or (stored_in order new old) i 0 ≡ get_or new i 0
    at i l = let (step, few, e) = h.every i l in stored_there new order old step i (omega (arith, h.steps)) e (omega arith)

-- ---- the same in the midst of a journal

set-append-add : (xs ys : List ℕ) (i b : ℕ) → set (xs ++ ys) (length xs + i) b ≡ xs ++ set ys i b
set-append-add [] ys i b = ap (λ (k : ℕ). set ys k b) (zero-add i)
set-append-add (x ∷ xs) ys i b =
    ap (λ (k : ℕ). set (x ∷ (xs ++ ys)) k b) (suc-add (length xs) i) ∙ ap (λ (l : List ℕ). x ∷ l) (set-append-add xs ys i b)

module _ (front new back : List ℕ) where
  -- a place behind the slot holds the same in both journals, so nothing is changed there
  set-part : (slot : List ℕ) (p : ℕ) → length slot ≡ length new
      → set (slot ++ back) p (get_or (new ++ back) p 0) ≡ set slot p (get_or new p 0) ++ back
  set-part slot p same = go (dec_le (length slot) p)
    where
      go : Dec (length slot ≤ p) → set (slot ++ back) p (get_or (new ++ back) p 0) ≡ set slot p (get_or new p 0) ++ back
      go (no l) =
          ap (set (slot ++ back) p) (get_or-append new back 0 p (omega arith)) ∙ set-append_left slot back p (get_or new p 0) (omega arith)
      go (yes l) =
          let behind-new : p ≡ length new + (p - length new) = omega arith in
          let behind : length slot + (p - length new) ≡ p = omega arith in
          let kept : get_or (new ++ back) p 0 ≡ get_or (slot ++ back) p 0 =
          ap (λ (i : ℕ). get_or (new ++ back) i 0) behind-new
          ∙ get_or-append-add new back (p - length new) 0
          ∙ sym (get_or-append-add slot back (p - length new) 0)
          ∙ ap (λ (i : ℕ). get_or (slot ++ back) i 0) behind in
          ap (set (slot ++ back) p) kept ∙ set-get_or (slot ++ back) p 0
          ∙ ap (λ (x : List ℕ). x ++ back) (sym (set_out slot p (get_or new p 0) l))

  stored_at-part : (n : ℕ) → length front ≡ slot_bytes * n → (places slot : List ℕ) → length slot ≡ length new
      → stored_at n places (front ++ (new ++ back)) (front ++ (slot ++ back)) ≡ front ++ (stored_in places new slot ++ back)
  unfolding stored_at stored_in
  stored_at-part n long [] slot same = refl
  stored_at-part n long (x ∷ places) slot same =
      ap (stored_at n places (front ++ (new ++ back)))
      (
      ap (λ (k : ℕ). set (front ++ (slot ++ back)) (k + x) (get_or (front ++ (new ++ back)) (k + x) 0)) (sym long)
      ∙ ap (set (front ++ (slot ++ back)) (length front + x)) (get_or-append-add front (new ++ back) x 0)
      ∙ set-append-add front (slot ++ back) x (get_or (new ++ back) x 0)
      ∙ ap (λ (l : List ℕ). front ++ l) (set-part slot x same)
      )
      ∙ stored_at-part n long places (set slot x (get_or new x 0)) (length-set slot x (get_or new x 0) ∙ same)

module _ (journal : List ℕ) (h : IsLength (length journal)) (all : AreOctets journal) (before : List (List ℕ)) (old : List ℕ) (rest : List (List ℕ))
    (parts : slots_of journal ≡ before ++ old ∷ rest) (new : List ℕ) (s : IsSlot new) where
  stored_at-slot : (places : List ℕ)
      → stored_at (length before) places (with_slot (length before) new journal) journal ≡ with_slot (length before) (stored_in places new old) journal
  stored_at-slot places =
      ap₂ (stored_at (length before) places) (with_slot-parts journal h all before old rest parts new)
      (journal-parts journal h all before old rest parts)
      ∙ stored_at-part (joined before) new (joined rest) (length before) (length_before journal h all before old rest parts) places old
      ((slot-old journal h all before old rest parts).size ∙ sym s.size)
      ∙ sym (with_slot-parts journal h all before old rest parts (stored_in places new old))

-- ---- a block that is cut

module _ {journal addresses nodes : List ℕ} (all : AreOctets journal) (put : Put journal addresses nodes) (places : List ℕ) where
  abbrev begun : List (List ℕ)
  begun = put.right.written

  -- the slot, and the journal, with the block's bytes at these places
  abbrev pub slot_cut : List ℕ
  slot_cut = stored_in places (block addresses) put.erased

  abbrev pub journal_cut : List ℕ
  journal_cut = stored_at (writing journal addresses).answer.slot places (writing journal addresses).journal journal

  slot-erased : IsSlot put.erased
  slot-erased = slot-old journal put.is_long all begun put.erased put.rest put.parts

  pub slot-cut : IsSlot slot_cut
  slot-cut = record {
    size = length-stored (block addresses) places put.erased ∙ slot-erased.size;
    octets = octets-stored (block addresses) (slot-block all put).octets places put.erased slot-erased.octets;
  }

  pub journal-cut : journal_cut ≡ with_slot (length begun) slot_cut journal
  journal-cut =
      ap₂ (λ (slot : ℕ) (new : List ℕ). stored_at slot places new journal) put.slot put.wrote
      ∙ stored_at-slot journal put.is_long all begun put.erased put.rest put.parts (block addresses) (slot-block all put) places

  pub octets-cut : AreOctets journal_cut
  octets-cut =
      subst AreOctets (sym journal-cut)
      (octets-with_slot journal put.is_long all begun put.erased put.rest put.parts slot_cut slot-cut)

  -- where it is erased again, the journal is what it was
  cut-erased : IsErased slot_cut → journal_cut ≡ journal
  cut-erased e =
      journal-cut
      ∙ ap (λ (x : List ℕ). with_slot (length begun) x journal) (e ∙ sym put.first)
      ∙ with_slot-parts journal put.is_long all begun put.erased put.rest put.parts put.erased
      ∙ sym (journal-parts journal put.is_long all begun put.erased put.rest put.parts)

  -- where it is torn, it is skipped
  replayed-torn : (IsErased slot_cut → ⊥) → EndsErased slot_cut → replayed (with_slot (length begun) slot_cut journal) ≡ known nodes
  unfolding follow
  replayed-torn some ends =
      replayed-with_slot journal put.is_long all begun put.erased put.rest put.parts slot_cut slot-cut put.right.holds
      put.right.replayed (holds-torn (some, ends)) put.free

  -- so as long as the last byte is not written, the state is the one before
  pub recovers_before : EndsErased slot_cut → RecoversTo recovering journal_cut nodes
  recovers_before ends = go (is_erased slot_cut) refl
    where
      go : (t : Bool) → is_erased slot_cut ≡ t → RecoversTo recovering journal_cut nodes
      go true t =
          subst (λ (j : List ℕ). RecoversTo recovering j nodes) (sym (cut-erased (erased-is_erased slot_cut slot-cut.size t)))
          (recovers_known journal nodes put.is_long put.replays)
      go false t =
          subst (λ (j : List ℕ). RecoversTo recovering j nodes) (sym journal-cut)
          (
          recovers_known (with_slot (length begun) slot_cut journal) nodes (is_length-put all put slot_cut slot-cut)
          (replayed-torn (other_is_erased slot_cut t) ends)
          )

  -- and with every place written the journal is the new one
  pub stored_all : IsOrder places → journal_cut ≡ (writing journal addresses).journal
  stored_all h =
      journal-cut
      ∙ ap (λ (x : List ℕ). with_slot (length begun) x journal)
      (stored-every places (block addresses) put.erased h (slot-block all put).size slot-erased.size)
      ∙ sym put.wrote

-- ---- an order that ends in the last byte

-- a journal recovers to one list of nodes
pub same_nodes : (journal xs ys : List ℕ) → RecoversTo recovering journal xs → RecoversTo recovering journal ys → xs ≡ ys
same_nodes journal xs ys p q = let both = sym (known_recovers journal xs p).1 ∙ (known_recovers journal ys q).1 in cc

take_order : (order : List ℕ) → IsOrder order → take slot_bytes order ≡ order
take_order order h = take_all slot_bytes order (omega (arith, h.steps))

module _ (order : List ℕ) (h : IsOrder order) (last : get_or order 511 0 ≡ 511) where
  -- the last byte is not among the first ones
  not_last : (k : ℕ) → k < slot_bytes → (step : ℕ) → step < length (take k order) → get_or (take k order) step 0 ≡ 511 → ⊥
  not_last k l step few e =
      let long = length-take-le k order (omega (arith, h.steps)) in
      let first : get_or order step 0 ≡ 511 = sym (get_or-take k order step 0 (omega arith)) ∙ e in
      omega (arith, h.once step 511 (omega arith) (omega arith) (first ∙ sym last))

  module _ {journal addresses nodes : List ℕ} (all : AreOctets journal) (put : Put journal addresses nodes) where
    ends-cut : (k : ℕ) → k < slot_bytes → EndsErased (slot_cut all put (take k order))
    ends-cut k l =
        stored_other (block addresses) (take k order) put.erased 511 (not_last k l)
        ∙ ap (λ (x : List ℕ). get_or x 511 0) put.first ∙ get_or-replicate slot_bytes 511 0xFF 0 (omega arith)

    recovers_after : AreWords addresses → RecoversTo recovering (cut_after slot_bytes order writing journal addresses) (nodes ++ addresses)
    recovers_after words =
        subst (λ (j : List ℕ). RecoversTo recovering j (nodes ++ addresses))
        (sym (ap (journal_cut all put) (take_order order h) ∙ stored_all all put order h ∙ put.wrote))
        (recovers_put all put words)

  pub power-cut-last : PowerCut order writing recovering
  power-cut-last = record {
    stands = λ journal addresses a.
        let (nodes, put) = put-accepted journal addresses a.octets a.accepted in
        (nodes, recovers_known journal nodes put.is_long put.replays);
    before = λ journal addresses nodes k a r l.
        let (found, put) = put-accepted journal addresses a.octets a.accepted in
        let same = same_nodes journal found nodes (recovers_known journal found put.is_long put.replays) r in
        subst (RecoversTo recovering (cut_after k order writing journal addresses)) same
        (recovers_before a.octets put (take k order) (ends-cut a.octets put k l));
    after = λ journal addresses nodes a r.
        let (found, put) = put-accepted journal addresses a.octets a.accepted in
        let same = same_nodes journal found nodes (recovers_known journal found put.is_long put.replays) r in
        subst (λ (l : List ℕ). RecoversTo recovering (cut_after slot_bytes order writing journal addresses) (l ++ addresses)) same
        (recovers_after a.octets put a.words);
  }

-- ---- the bytes in order

pub length-up_to : (k : ℕ) → length (up_to k) ≡ k
unfolding up_to
length-up_to zero = refl
length-up_to (suc k) = omega (arith, length-append (up_to k) (k ∷ []), length-up_to k)

pub get_d_up_to : (k n : ℕ) → k < n → get_or (up_to n) k 0 ≡ k
unfolding up_to
get_d_up_to k zero h = absurd (omega arith)
get_d_up_to k (suc n) h = go (dec_le n k) (get_d_up_to k n)
  where
    go : Dec (n ≤ k) → (k < n → get_or (up_to n) k 0 ≡ k) → get_or (up_to n ++ (n ∷ [])) k 0 ≡ k
    go (yes le) before = let same : n ≡ k = omega arith in get_or_at (up_to n) n [] 0 k (length-up_to n ∙ same) ∙ same
    go (no gt) before = let less : k < n = omega arith in get_or-append (up_to n) (n ∷ []) 0 k (omega (arith, length-up_to n)) ∙ before less

pub in_order_lem : IsOrder in_order
in_order_lem = record {
  steps = length-up_to slot_bytes;
  every = λ place l. (place, l, get_d_up_to place slot_bytes l);
  once = λ i j l m e. sym (get_d_up_to i slot_bytes l) ∙ e ∙ get_d_up_to j slot_bytes m;
}

pub power-cut : PowerCut in_order writing recovering
power-cut = power-cut-last in_order in_order_lem (get_d_up_to 511 slot_bytes (omega arith))

-- ---- what stands there after a cut

-- all stored is the new journal
pub stored-whole : (journal xs : List ℕ) → AreOctets journal → (writing journal xs).answer.refusal ≡ 0
    → stored_at (writing journal xs).answer.slot in_order (writing journal xs).journal journal ≡ (writing journal xs).journal
stored-whole journal xs all accepted = let (nodes, put) = put-accepted journal xs all accepted in stored_all all put in_order in_order_lem

-- octets again, after any number of bytes in any order: so what holds of a journal holds of it after a cut
pub cut-octets : (k : ℕ) (order journal xs : List ℕ) → AreOctets journal → (writing journal xs).answer.refusal ≡ 0
    → AreOctets (cut_after k order writing journal xs)
cut-octets k order journal xs all accepted = let (nodes, put) = put-accepted journal xs all accepted in octets-cut all put (take k order)
