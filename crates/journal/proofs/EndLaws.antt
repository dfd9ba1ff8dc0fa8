-- The slots taken one after the other come to what is replayed: one induction over the slots that are left. Assumes nothing.
use Rattle.std.specs.Prelude.{if◌then◌else◌}
use Prim.Native.Nat.{ℕ, zero, suc, ◌+◌, ◌*◌, ◌≤◌, ◌<◌}
use mathlib.Core.Path.{◌≡◌, refl, sym, ap, ap₂, ◌∙◌, subst}
use mathlib.Core.Bool.{Bool, true, false}
use mathlib.Core.List.{List, [], ◌∷◌, ◌++◌}
use native.Mathlib.Omega.{arith}
use borrow.Author.Tests.{lt-leb, lt-ltb, le-ltb, ltb-false}
use lib.Dec.{leb, ltb}
use lib.ListN.{length, take, drop, set, replicate, length-set}
use lib.Seq.{take-append_seam, drop-drop, take-suc-set}
use Rattle.address.specs.Bits.{root}
use Rattle.block.specs.Block.{slot_bytes}
use Rattle.journal.specs.Limits.{most_nodes}
use Rattle.journal.specs.Replay.{Replay, known, fault, bare}
use Rattle.journal.specs.Slots.{slots_in, slot_count, slots_of, is_erased, spoilt, not_erased, slot_taken, gap_after, replay, replayed, written_slots}
use Rattle.journal.specs.Follows.{shown}
use Rattle.journal.specs.Reader.{Progress, State, slot_at, written_after, moved, run, from, begin}
use Rattle.journal.proofs.CountLaws.{Within}
use Rattle.journal.proofs.SlotLaws.{slot_taken_other, slot_taken-fault}
use Rattle.journal.proofs.RunLaws.{run_none, run-done, run_step, OnTheWay, stepped-moved, stepped_within, stepped-way}

pub replay-fault : (gap : Bool) (n : ℕ) (slots : List (List ℕ)) → replay gap (fault n) slots ≡ fault n
unfolding replay
replay-fault gap n [] = refl
replay-fault gap n (slot ∷ slots) =
    ap (λ (r : Replay). replay (gap_after gap slot) r slots) (slot_taken-fault gap n slot) ∙ replay-fault (gap_after gap slot) n slots

replay-cons : (gap : Bool) (r : Replay) (slot : List ℕ) (slots : List (List ℕ))
    → replay gap r (slot ∷ slots) ≡ replay (gap_after gap slot) (slot_taken gap r slot) slots
unfolding replay
replay-cons gap r slot slots = refl

-- ---- the slots that are not erased

-- how many they are in all, where so many of the slots before this one are not
unfoldable pub in_all : ℕ → ℕ → List (List ℕ) → ℕ
in_all written slot slots = if ltb written slot then written else slot + written_slots slots

-- a slot that is taken without a fault moves them on
record Goes (written slot : ℕ) (bytes : List ℕ) : Type 0 where
  gap : ltb (written_after slot written bytes) (slot + 1) ≡ gap_after (ltb written slot) bytes
  least : written_after slot written bytes ≤ slot + 1
  total : (rest : List (List ℕ)) → in_all (written_after slot written bytes) (slot + 1) rest ≡ in_all written slot (bytes ∷ rest)

none_left : (written slot : ℕ) → written ≤ slot → in_all written slot [] ≡ written
unfolding in_all written_slots
none_left written slot le = go (ltb written slot) refl
  where
    go : (late : Bool) → ltb written slot ≡ late → (if late then written else slot + 0) ≡ written
    go true l = refl
    go false l = omega (arith, le, ltb-false written slot l)

module _ (written slot : ℕ) (bytes : List ℕ) (le : written ≤ slot) where
  within : ltb written (slot + 1) ≡ true
  within = lt-ltb written (slot + 1) (omega (arith, le))

  all_written : (late : Bool) → ltb written slot ≡ late → written ≡ (if ltb written slot then written else slot + 0)
  all_written true l = rw l refl
  all_written false l = rw l (omega (arith, le, ltb-false written slot l))

  goes-erased : is_erased bytes ≡ true → Goes written slot bytes
  unfolding in_all written_after gap_after written_slots
  goes-erased z = record {
    gap = rw z within;
    least = rw z (omega (arith, le));
    total = λ rest. rw (z, within) (all_written (ltb written slot) refl);
  }

  goes_other : is_erased bytes ≡ false → ltb written slot ≡ false → Goes written slot bytes
  unfolding in_all written_after gap_after written_slots
  goes_other z l = record {
    gap = rw (z, l) (le-ltb (slot + 1) (slot + 1) (omega arith));
    least = rw z (omega arith);
    total = λ rest. rw (z, l, le-ltb (slot + 1) (slot + 1) (omega arith)) (omega arith);
  }

no_gap : (xs ys bytes : List ℕ) → not_erased true (known xs) bytes ≡ known ys → ⊥
unfolding not_erased spoilt
no_gap xs ys bytes f = let z : ◌≡◌ {A = ℕ} 0 1 = cc in omega arith

goes : (written slot : ℕ) (bytes xs ys : List ℕ) → written ≤ slot → slot_taken (ltb written slot) (known xs) bytes ≡ known ys → Goes written slot bytes
goes written slot bytes xs ys le e = go (is_erased bytes) (ltb written slot) refl refl
  where
    go : (erased late : Bool) → is_erased bytes ≡ erased → ltb written slot ≡ late → Goes written slot bytes
    go true late z l = goes-erased written slot bytes le z
    go false true z l = absurd (no_gap xs ys bytes
        (sym (ap (λ (g : Bool). slot_taken g (known xs) bytes) l ∙ slot_taken_other true (known xs) bytes z) ∙ e))
    go false false z l = goes_other written slot bytes le z l

-- ---- where a run ends

-- what is replayed, in the words, with so many slots not erased; or the fault, and the words all zeros
pub record Ends (words : List ℕ) (r : Replay) (written : ℕ) (s : State) : Type 0 where
  pub same : length s.words ≡ length words
  pub few : s.progress.nodes ≤ most_nodes
  pub shows : r ≡ shown s.progress.refusal (take s.progress.nodes s.words)
  pub counted : s.progress.refusal ≡ 0 → s.progress.written ≡ written
  pub zeros : (s.progress.refusal ≡ 0 → ⊥) → s.words ≡ replicate (length words) 0

ends_same : (words : List ℕ) (s : State) (r q : Replay) (written before : ℕ) → r ≡ q → written ≡ before → Ends words q before s → Ends words r written s
ends_same words s r q written before e f h = subst (λ (w : ℕ). Ends words r w s) (sym f) (subst (λ (p : Replay). Ends words p before s) (sym e) h)

module _ (journal words : List ℕ) where
  ends-known : (xs : List ℕ) (last : Bool) (slot written : ℕ) (ws : List ℕ) → OnTheWay journal words (moved (known xs) last slot written ws)
      → Ends words (known xs) written (moved (known xs) last slot written ws)
  unfolding moved shown
  ends-known xs last slot written ws way = record {
    same = way.same;
    few = way.few;
    shows = ap known (sym (take-append_seam xs (drop (length xs) ws)));
    counted = λ _. refl;
    zeros = λ z. absurd (z refl);
  }

  ends-fault : (n written : ℕ) (last : Bool) (slot before : ℕ) (ws : List ℕ) → 0 < n → OnTheWay journal words (moved (fault n) last slot before ws)
      → length ws ≡ length words → Ends words (fault n) written (moved (fault n) last slot before ws)
  unfolding moved shown
  ends-fault (suc n) written last slot before ws some way e = record {
    same = way.same;
    few = way.few;
    shows = refl;
    counted = λ z. absurd (omega (arith, z));
    zeros = λ _. ap (λ (k : ℕ). replicate k 0) e;
  }
  ends-fault zero written last slot before ws some way e = absurd (omega (arith, some))

  module _ (room : most_nodes ≤ length words) where
    -- the slots from a place on
    abbrev slots_from : ℕ → ℕ → List (List ℕ)
    slots_from k slot = slots_in k (drop (slot_bytes * slot) journal)

    slots_from-next : (k slot : ℕ) → slots_in k (drop slot_bytes (drop (slot_bytes * slot) journal)) ≡ slots_from k (slot + 1)
    slots_from-next k slot =
        let next : slot_bytes * slot + slot_bytes ≡ slot_bytes * (slot + 1) = omega arith in
        ap (slots_in k) (drop-drop slot_bytes (slot_bytes * slot) journal ∙ ap (λ (n : ℕ). drop n journal) next)

    slots_from-cons : (k slot : ℕ) → slots_from (suc k) slot ≡ slot_at journal slot ∷ slots_from k (slot + 1)
    unfolding slots_in
    slots_from-cons k slot = ap (λ (slots : List (List ℕ)). slot_at journal slot ∷ slots) (slots_from-next k slot)

    -- what is replayed from a state on
    abbrev Outcome : ℕ → State → State → Type 0
    Outcome k s end =
        Ends words
        (replay (ltb s.progress.written s.progress.slot) (known (take s.progress.nodes s.words)) (slots_from k s.progress.slot))
        (in_all s.progress.written s.progress.slot (slots_from k s.progress.slot)) end

    -- one slot, taken without a fault: what is replayed behind it is what is replayed with it
    outcome-known : (k slot written nodes : ℕ) (ws xs : List ℕ) (end : State) → written ≤ slot
        → slot_taken (ltb written slot) (known (take nodes ws)) (slot_at journal slot) ≡ known xs
        → Ends words
        (replay (ltb (written_after slot written (slot_at journal slot)) (slot + 1)) (known (take (length xs) (xs ++ drop (length xs) ws))) (slots_from k (slot + 1)))
        (in_all (written_after slot written (slot_at journal slot)) (slot + 1) (slots_from k (slot + 1))) end
        → Ends words (replay (ltb written slot) (known (take nodes ws)) (slots_from (suc k) slot)) (in_all written slot (slots_from (suc k) slot)) end
    outcome-known k slot written nodes ws xs end le e f =
        let g = goes written slot (slot_at journal slot) (take nodes ws) xs le e in
        let behind = slots_from-cons k slot in
        ends_same words end _ _ _ _
        (ap (replay (ltb written slot) (known (take nodes ws))) behind
        ∙ replay-cons (ltb written slot) (known (take nodes ws)) (slot_at journal slot) (slots_from k (slot + 1))
        ∙ ap₂ (λ (gap : Bool) (r : Replay). replay gap r (slots_from k (slot + 1))) (sym g.gap)
        (e ∙ ap known (sym (take-append_seam xs (drop (length xs) ws)))))
        (ap (in_all written slot) behind ∙ sym (g.total (slots_from k (slot + 1)))) f

    outcome-fault : (k slot written nodes n : ℕ) (ws : List ℕ) (end : State)
        → slot_taken (ltb written slot) (known (take nodes ws)) (slot_at journal slot) ≡ fault n
        → Ends words (fault n) (in_all written slot (slots_from (suc k) slot)) end
        → Ends words (replay (ltb written slot) (known (take nodes ws)) (slots_from (suc k) slot)) (in_all written slot (slots_from (suc k) slot)) end
    outcome-fault k slot written nodes n ws end e f =
        ends_same words end _ _ _ _
        (ap (replay (ltb written slot) (known (take nodes ws))) (slots_from-cons k slot)
        ∙ replay-cons (ltb written slot) (known (take nodes ws)) (slot_at journal slot) (slots_from k (slot + 1))
        ∙ ap (λ (r : Replay). replay (gap_after (ltb written slot) (slot_at journal slot)) r (slots_from k (slot + 1))) e
        ∙ replay-fault (gap_after (ltb written slot) (slot_at journal slot)) n (slots_from k (slot + 1)))
        refl f

    module _ (s : State) (way : OnTheWay journal words s) (going : s.progress.done ≡ false) (le : s.progress.written ≤ s.progress.slot) where
      abbrev slot : ℕ
      slot = s.progress.slot

      abbrev bytes : List ℕ
      bytes = slot_at journal slot

      abbrev last : Bool
      last = leb (slot_count journal) (slot + 1)

      abbrev written : ℕ
      written = written_after slot s.progress.written bytes

      abbrev Taken : Replay → Type 0
      Taken r = slot_taken (ltb s.progress.written slot) (known (take s.progress.nodes s.words)) bytes ≡ r

      -- one slot is taken, and as many others as are left
      run-taken : (k : ℕ) (r : Replay) → Taken r → run (suc k) journal s ≡ run k journal (moved r last (slot + 1) written s.words)
      run-taken k r e =
          run_step k journal s going
          ∙ ap (run k journal) (stepped-moved journal words room s way going)
          ∙ ap (λ (q : Replay). run k journal (moved q last (slot + 1) written s.words)) e

      onward : (r : Replay) → Taken r → OnTheWay journal words (moved r last (slot + 1) written s.words)
      onward r e =
          subst (λ (q : Replay). OnTheWay journal words (moved q last (slot + 1) written s.words)) e
          (subst (OnTheWay journal words) (stepped-moved journal words room s way going) (stepped-way journal words room s way going))

      some-fault : (n : ℕ) → Taken (fault n) → 0 < n
      some-fault n e = subst Within e (stepped_within journal words room s way going)

      ends_at_fault : (k n : ℕ) → Taken (fault n) → Outcome (suc k) s (run (suc k) journal s)
      ends_at_fault k n e =
          outcome-fault k slot s.progress.written s.progress.nodes n s.words (run (suc k) journal s) e
          (subst (Ends words (fault n) _) (sym (run-taken k (fault n) e ∙ run-done k journal _ (unfold moved in refl)))
          (ends-fault n _ last (slot + 1) written s.words (some-fault n e) (onward (fault n) e) way.same))

      ends_at_last : (xs : List ℕ) → Taken (known xs) → Outcome 1 s (run 1 journal s)
      ends_at_last xs e =
          outcome-known 0 slot s.progress.written s.progress.nodes s.words xs (run 1 journal s) le e
          (ends_same words (run 1 journal s) _ (known xs) _ written
          (unfold replay slots_in in ap known (take-append_seam xs (drop (length xs) s.words)))
          (unfold slots_in in none_left written (slot + 1) (goes s.progress.written slot bytes (take s.progress.nodes s.words) xs le e).least)
          (subst (Ends words (known xs) written) (sym (run-taken 0 (known xs) e ∙ run_none journal _))
          (ends-known xs last (slot + 1) written s.words (onward (known xs) e))))

      -- the rest is replayed by what is handed in
      ends-before : (k : ℕ) (xs : List ℕ) → slot + suc (suc k) ≡ slot_count journal
          → ((t : State) → OnTheWay journal words t → t.progress.done ≡ false → t.progress.written ≤ t.progress.slot
          → t.progress.slot + suc k ≡ slot_count journal → Outcome (suc k) t (run (suc k) journal t))
          → Taken (known xs) → Outcome (suc (suc k)) s (run (suc (suc k)) journal s)
      unfolding moved
      ends-before k xs left rest e =
          outcome-known (suc k) slot s.progress.written s.progress.nodes s.words xs (run (suc (suc k)) journal s) le e
          (subst (Ends words _ _) (sym (run-taken (suc k) (known xs) e))
          (rest (moved (known xs) last (slot + 1) written s.words) (onward (known xs) e)
          (lt-leb (slot_count journal) (slot + 1) (omega (arith, left)))
          (goes s.progress.written slot bytes (take s.progress.nodes s.words) xs le e).least (omega (arith, left))))

    -- as many slots as are left
    pub ends : (k : ℕ) (s : State) → OnTheWay journal words s → s.progress.done ≡ false → s.progress.written ≤ s.progress.slot
        → s.progress.slot + suc k ≡ slot_count journal → Outcome (suc k) s (run (suc k) journal s)
    ends zero s way going le left = go _ refl
      where
        go : (r : Replay) → Taken s way going le r → Outcome 1 s (run 1 journal s)
        go (fault n) e = ends_at_fault s way going le 0 n e
        go (known xs) e = ends_at_last s way going le xs e
    ends (suc k) s way going le left = go (λ t way going le left. ends k t way going le left) _ refl
      where
        go : ((t : State) → OnTheWay journal words t → t.progress.done ≡ false → t.progress.written ≤ t.progress.slot
            → t.progress.slot + suc k ≡ slot_count journal → Outcome (suc k) t (run (suc k) journal t))
            → (r : Replay) → Taken s way going le r → Outcome (suc (suc k)) s (run (suc (suc k)) journal s)
        go rest (fault n) e = ends_at_fault s way going le (suc k) n e
        go rest (known xs) e = ends-before s way going le k xs left rest e

-- the whole: from the first slot on
module _ (journal words : List ℕ) (room : most_nodes ≤ length words) (some : 0 < slot_count journal) where
  abbrev lent : List ℕ
  lent = set words 0 root

  first_way : OnTheWay journal words (from lent)
  first_way = record { same = length-set words 0 root; few = omega arith; left = λ _. some }

  first-nodes : take 1 lent ≡ root ∷ []
  first-nodes = take-suc-set words 0 root (omega (arith, room))

  first-written : (slots : List (List ℕ)) → written_slots slots ≡ in_all 0 0 slots
  unfolding in_all
  first-written slots = omega arith

  pub ends-whole : Ends words (replayed journal) (written_slots (slots_of journal)) (run (slot_count journal) journal (begin words))
  unfolding begin replayed slots_of
  ends-whole = go (slot_count journal) refl
    where
      go : (k : ℕ) → slot_count journal ≡ k → Ends words (replay false bare (slots_in k journal)) (written_slots (slots_in k journal)) (run k journal (from lent))
      go zero e = absurd (omega (arith, some, e))
      go (suc k) e =
          ends_same words (run (suc k) journal (from lent)) _ _ _ _
          (ap (λ (xs : List ℕ). replay false (known xs) (slots_in (suc k) journal)) (sym first-nodes)) (first-written (slots_in (suc k) journal))
          (ends journal words room k (from lent) first_way refl (omega arith) (omega (arith, e)))

  -- as the code has it: the numbers answered, and the words left
  pub ends_so : (at : Progress) (ws : List ℕ)
      → (at ≡ (run (slot_count journal) journal (begin words)).progress) × (ws ≡ (run (slot_count journal) journal (begin words)).words)
      → Ends words (replayed journal) (written_slots (slots_of journal)) (record { progress = at; words = ws })
  ends_so at ws e = rw (e.0, e.1) ends-whole
