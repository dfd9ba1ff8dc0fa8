-- Recovery ends in one of four ways, each with its condition and with those before it passed: so each refusal is given exactly when the request
-- says, and a journal recovers to the nodes that it is replayed to. Assumes nothing.
use Rattle.std.specs.Prelude.{if◌then◌else◌}
use Prim.Native.Nat.{ℕ, ◌-◌, ◌≤◌, ◌<◌}
use mathlib.Core.Path.{◌≡◌, refl, sym, ap, subst, ◌∙◌}
use mathlib.Core.Bool.{Bool, true, false, not}
use mathlib.Core.Logic.{◌⊎◌, inl, inr, ⊎_elim}
use mathlib.Core.List.{List}
use native.Mathlib.Omega.{arith}
use borrow.Author.Tests.{ltb-true, ltb-false, le-ltb}
use lib.Dec.{ltb}
use lib.ListN.{length, take, replicate, length-replicate}
use lib.Seq.{take_at}
use Rattle.address.specs.Order.{Order, First, done, ◌when◌otherwise◌}
use Rattle.address.proofs.OrderLaws.{given-exactly}
use Rattle.octets.specs.Octets.{AreOctets}
use Rattle.journal.specs.Limits.{most_nodes}
use Rattle.journal.specs.Replay.{Replay, known, fault}
use Rattle.journal.specs.Slots.{slots_of, replayed}
use Rattle.journal.specs.Recovery.{is_length, RecoverEffect, refuse_recovery, restored, recovering}
use Rattle.journals.specs.Slots.{IsLength, Right, Fault}
use Rattle.journals.specs.Refusals.{recover_order, RecoverRefusals}
use Rattle.journals.specs.PowerCuts.{recovered_to, RecoversTo}
use Rattle.journals.proofs.Lengths.{is_length-right, right-is_length, slots-slots_of}
use Rattle.journals.proofs.FaultNumbers.{Numbered, numbered_replayed}
use Rattle.journals.proofs.SlotOutcomes.{replay-known, replay-fault-exactly}

-- ---- what a journal is replayed to

pub known-fault : {xs : List ℕ} {n : ℕ} → known xs ≡ fault n → ⊥
known-fault e = let z : ◌≡◌ {A = ℕ} 0 1 = cc in omega arith

module _ (journal : List ℕ) (all : AreOctets journal) where
  pub right-replayed : (nodes : List ℕ) → replayed journal ≡ known nodes → Right (slots_of journal) nodes
  unfolding replayed
  right-replayed nodes e = (replay-known (slots_of journal) nodes (slots-slots_of journal all)).0 e

  pub fault-replayed : (n : ℕ) → replayed journal ≡ fault n → Fault (slots_of journal) n
  unfolding replayed
  fault-replayed n e = (replay-fault-exactly (slots_of journal) n (slots-slots_of journal all)).0 e

  pub replayed-fault : (n : ℕ) → Fault (slots_of journal) n → replayed journal ≡ fault n
  unfolding replayed
  replayed-fault n f = (replay-fault-exactly (slots_of journal) n (slots-slots_of journal all)).1 f

  pub known_no_fault : (nodes : List ℕ) (n : ℕ) → replayed journal ≡ known nodes → Fault (slots_of journal) n → ⊥
  known_no_fault nodes n e f = known-fault (sym e ∙ replayed-fault n f)

  pub one-fault : (n : ℕ) → replayed journal ≡ fault n → (m : ℕ) → Fault (slots_of journal) m → n ≡ m
  one-fault n e m f = let both = sym e ∙ replayed-fault m f in cc

-- the number of a fault
pub fault-number : (journal : List ℕ) (n : ℕ) → replayed journal ≡ fault n → (n ≡ 14) ⊎ (n ≡ 17)
fault-number journal n e = subst Numbered e (numbered_replayed journal)

-- in an order: 14 comes before 17, and there is one fault
pub first-fault : (P : ℕ → Type 0) (rest : Order) (n : ℕ) → (n ≡ 14) ⊎ (n ≡ 17) → P n → ((m : ℕ) → P m → n ≡ m)
    → First (14 when P 14 otherwise 17 when P 17 otherwise rest) n
first-fault P rest n (inl e) p one = inl (subst P e p, e)
first-fault P rest n (inr e) p one = inr (λ q. omega (arith, one 14 q), inl (subst P e p, e))

-- ---- the four ends

pub data RecoverEnd (journal words : List ℕ) : RecoverEffect → Type 0 where
  wrong_length : (IsLength (length journal) → ⊥) → RecoverEnd journal words (refuse_recovery 12 words)
  no_room : IsLength (length journal) → length words < most_nodes → RecoverEnd journal words (refuse_recovery 10 words)
  faulty : IsLength (length journal) → most_nodes ≤ length words → (n : ℕ) → replayed journal ≡ fault n
      → RecoverEnd journal words (refuse_recovery n (replicate (length words) 0))
  whole : IsLength (length journal) → most_nodes ≤ length words → (nodes : List ℕ) → replayed journal ≡ known nodes
      → RecoverEnd journal words (recovered_to nodes words)

module _ (journal words : List ℕ) where
  restored-end : IsLength (length journal) → most_nodes ≤ length words → (r : Replay) → replayed journal ≡ r
      → RecoverEnd journal words (restored r words)
  unfolding restored
  restored-end h room (known nodes) e = whole h room nodes e
  restored-end h room (fault n) e = faulty h room n e

  pub recovering-end : RecoverEnd journal words (recovering journal words)
  unfolding recovering
  recovering-end = go (is_length (length journal)) refl (ltb (length words) most_nodes) refl
    where
      go : (l : Bool) → is_length (length journal) ≡ l → (s : Bool) → ltb (length words) most_nodes ≡ s
          → RecoverEnd journal words
          (if not l then refuse_recovery 12 words else if s then refuse_recovery 10 words else restored (replayed journal) words)
      go false l s e = wrong_length (λ h. let z : ◌≡◌ {A = ℕ} 0 1 = cc (is_length-right (length journal) h) in omega arith)
      go true l true e = no_room (right-is_length (length journal) l) (ltb-true (length words) most_nodes e)
      go true l false e = restored-end (right-is_length (length journal) l) (ltb-false (length words) most_nodes e) (replayed journal) refl

-- ---- what each end says

module _ {journal words : List ℕ} where
  pub recover_end_first : AreOctets journal → {e : RecoverEffect} → RecoverEnd journal words e
      → First (recover_order journal words) e.answer.refusal
  unfolding refuse_recovery
  recover_end_first all (wrong_length out) = inl (out, refl)
  recover_end_first all (no_room h short) = inr (λ o. o h, inl (short, refl))
  recover_end_first all (faulty h room n e) =
      inr (
        λ o. o h,
        inr (
          λ short. omega arith,
          first-fault (Fault (slots_of journal)) done n (fault-number journal n e) (fault-replayed journal all n e) (one-fault journal all n e),
        ),
      )
  recover_end_first all (whole h room nodes e) =
      inr (λ o. o h, inr (λ short. omega arith, inr (known_no_fault journal all nodes 14 e, inr (known_no_fault journal all nodes 17 e, refl))))

  pub recover_end_beside : {e : RecoverEffect} → RecoverEnd journal words e → (e.answer.refusal ≡ 0 → ⊥) → e.answer.nodes ≡ 0
  unfolding refuse_recovery
  recover_end_beside (wrong_length out) h = refl
  recover_end_beside (no_room l short) h = refl
  recover_end_beside (faulty l room n e) h = refl
  recover_end_beside (whole l room nodes e) h = absurd (h refl)

  pub recover_end_spared : {e : RecoverEffect} → RecoverEnd journal words e → (e.answer.refusal ≡ 12) ⊎ (e.answer.refusal ≡ 10) → e.words ≡ words
  unfolding refuse_recovery
  recover_end_spared (wrong_length out) h = refl
  recover_end_spared (no_room l short) h = refl
  recover_end_spared (faulty l room n e) h = absurd (go h (fault-number journal n e))
    where
      go : (n ≡ 12) ⊎ (n ≡ 10) → (n ≡ 14) ⊎ (n ≡ 17) → ⊥
      go (inl a) (inl b) = omega arith
      go (inl a) (inr b) = omega arith
      go (inr a) (inl b) = omega arith
      go (inr a) (inr b) = omega arith
  recover_end_spared (whole l room nodes e) h = absurd (⊎_elim (λ z. omega arith) (λ z. omega arith) h)

  pub recover_end_zeroed : {e : RecoverEffect} → RecoverEnd journal words e → (e.answer.refusal ≡ 14) ⊎ (e.answer.refusal ≡ 17)
      → e.words ≡ replicate (length words) 0
  unfolding refuse_recovery
  recover_end_zeroed (wrong_length out) h = absurd (⊎_elim (λ z. omega arith) (λ z. omega arith) h)
  recover_end_zeroed (no_room l short) h = absurd (⊎_elim (λ z. omega arith) (λ z. omega arith) h)
  recover_end_zeroed (faulty l room n e) h = refl
  recover_end_zeroed (whole l room nodes e) h = absurd (⊎_elim (λ z. omega arith) (λ z. omega arith) h)

  -- without a refusal there is room, and the journal is replayed
  pub recover_end_without : {e : RecoverEffect} → RecoverEnd journal words e → e.answer.refusal ≡ 0
      → (nodes : List ℕ) × (replayed journal ≡ known nodes) × (e ≡ recovered_to nodes words) × IsLength (length journal)
  unfolding refuse_recovery
  recover_end_without (wrong_length out) h = absurd (omega arith)
  recover_end_without (no_room l short) h = absurd (omega arith)
  recover_end_without (faulty l room n e) h = absurd (⊎_elim (λ z. omega arith) (λ z. omega arith) (fault-number journal n e))
  recover_end_without (whole l room nodes e) h = (nodes, e, refl, l)

pub recover-refusals : RecoverRefusals recovering
recover-refusals = record {
  given = λ journal words all. given-exactly (recover_order journal words) (recover_end_first all (recovering-end journal words));
  beside = λ journal words. recover_end_beside (recovering-end journal words);
  spared = λ journal words. recover_end_spared (recovering-end journal words);
  zeroed = λ journal words. recover_end_zeroed (recovering-end journal words);
  without = λ journal words all z.
      let (nodes, e, same, l) = recover_end_without (recovering-end journal words) z in (
        nodes,
        right-replayed journal all nodes e,
        ap (λ (x : RecoverEffect). x.answer.nodes) same,
        ap (λ (x : RecoverEffect). x.words) same,
      );
}

-- ---- with words enough

module _ (journal nodes : List ℕ) where
  pub recovers_known : IsLength (length journal) → replayed journal ≡ known nodes → RecoversTo recovering journal nodes
  unfolding recovering restored
  recovers_known h e words room = rw (is_length-right (length journal) h, le-ltb (length words) most_nodes room, e) refl

  pub known_recovers : RecoversTo recovering journal nodes → IsLength (length journal) × (replayed journal ≡ known nodes)
  known_recovers r =
      let words : List ℕ = replicate most_nodes 0 in
      let e = r words (omega (arith, length-replicate {A = ℕ} most_nodes 0)) in
      go words (recover_end_without (recovering-end journal words) (ap (λ (x : RecoverEffect). x.answer.refusal) e)) e
    where
      go : (words : List ℕ)
          → (all : List ℕ) × (replayed journal ≡ known all) × (recovering journal words ≡ recovered_to all words) × IsLength (length journal)
          → recovering journal words ≡ recovered_to nodes words → IsLength (length journal) × (replayed journal ≡ known nodes)
      go words (all, e, same, l) given =
          let both = sym same ∙ given in
          let as_many = ap (λ (x : RecoverEffect). x.answer.nodes) both in
          let zeros : ℕ → List ℕ = λ k. replicate (length words - k) 0 in
          let nodes_same : all ≡ nodes =
          sym (take_at all (zeros (length all)) (length all) refl)
          ∙ ap (λ (x : RecoverEffect). take (length all) x.words) both
          ∙ take_at nodes (zeros (length nodes)) (length all) (sym as_many) in
          (l, e ∙ ap (λ (l : List ℕ). known l) nodes_same)
