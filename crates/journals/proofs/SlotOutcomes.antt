-- What slots come to: by induction on the slots, with those before them right so far, they end without a fault or at the first one; and what is
-- right so, or has this first fault, comes to that. Assumes nothing.
use Prim.Native.Nat.{ℕ}
use mathlib.Core.Path.{◌≡◌, refl, sym, ap, ap₂, subst, subst₂, ◌∙◌}
use mathlib.Core.Bool.{Bool, true, false}
use mathlib.Core.Logic.{◌↔◌}
use mathlib.Core.List.{List, [], ◌∷◌, ◌++◌, append-nil, append_assoc}
use native.Mathlib.Omega.{arith}
use lib.Seq.{append_snoc}
use Rattle.address.specs.Bits.{root}
use Rattle.tree.proofs.Given.{addresses-grown}
use Rattle.block.specs.Block.{is_block, addresses_in}
use Rattle.block.specs.Blocks.{IsBlockOf}
use Rattle.block.proofs.Theorem.{blocks}
use Rattle.journal.specs.Replay.{Replay, known, fault, follow, bare}
use Rattle.journal.specs.Slots.{is_erased, ends_erased, slot_taken, replay}
use Rattle.journal.proofs.ReplayLaws.{follow-append}
use Rattle.journals.specs.Replays.{alone, IsReplayed}
use Rattle.journals.specs.Slots.{IsErased, EndsErased, Holds, none, AllErased, Right, Fault, misplaced, no_block, wrong_address}
use Rattle.journals.proofs.Outcomes.{Outcome, outcome-bare}
use Rattle.journals.proofs.GivenReplayed.{follow-replayed, follow_first_fault}
use Rattle.journals.proofs.SlotTests.{IsSlot, AreSlots, are_slots_front, are_slots_behind, erased-is_erased, is_erased_other, other_is_erased}
use Rattle.journals.proofs.SlotTests.{other_erased}
use Rattle.journals.proofs.SlotTests.{ends-ends_erased, other_ends_erased, is_block-none, none-is_block, is_block_of-ends, is_block_of-erased}
use Rattle.journals.proofs.SlotTests.{is_block_of-right, is_block_of-addresses}
use Rattle.journals.proofs.SlotTests.{spoilt-known, slot_taken-gap, slot_taken-torn, slot_taken_wrong, slot_taken-block}
use Rattle.journals.proofs.SlotReplays.{replay-fault, replay-none, replay-erased, replay_other, replay-append, gaps_after-erased}
use Rattle.journals.proofs.SlotReplays.{gaps_after-none}
use Rattle.journals.proofs.SlotReplays.{holds-append, holds-torn, holds-block, holds-words, holds-none_erased, are_words_append, replay-holds}
use Rattle.journals.proofs.SlotReplays.{replay-written}

-- what some slots end as
abbrev pub SlotOutcome : List (List ℕ) → Replay → Type 0
SlotOutcome slots (known nodes) = Right slots nodes
SlotOutcome slots (fault n) = Fault slots n

-- the same of the same slots
same_outcome : {xs ys : List (List ℕ)} {r s : Replay} → ys ≡ xs → s ≡ r → SlotOutcome ys s → SlotOutcome xs r
same_outcome e f o = subst₂ SlotOutcome e f o

nodes-in_order : {xs nodes : List ℕ} → IsReplayed xs nodes → nodes ≡ root ∷ xs
nodes-in_order r = r.the_nodes ∙ addresses-grown (alone r.requests) ∙ ap (λ (l : List ℕ). root ∷ l) (sym r.addresses_given)

module _ {before : List (List ℕ)} {xs : List ℕ} (h : Holds before xs) {nodes : List ℕ} (replayed : IsReplayed xs nodes) where
  -- erased slots behind the others
  right-free : (erased : List (List ℕ)) → AllErased erased → Right (before ++ erased) nodes
  right-free erased free = record {
    written = before;
    erased = erased;
    addresses = xs;
    parts = refl;
    holds = h;
    free = free;
    replayed = replayed;
    in_order = nodes-in_order replayed;
  }

  -- behind an erased slot
  outcome-gap : (first : List ℕ) → IsErased first → (between : List (List ℕ)) → AllErased between → (slots : List (List ℕ)) → AreSlots slots
      → SlotOutcome (before ++ (first ∷ between) ++ slots) (replay true (known nodes) slots)
  outcome-gap first e between free [] s =
      same_outcome (sym (append-nil (before ++ (first ∷ between)))) (sym (replay-none true (known nodes))) (right-free (first ∷ between) (e, free))
  outcome-gap first e between free (slot ∷ slots) s = go (is_erased slot) refl (λ more. outcome-gap first e (between ++ (slot ∷ [])) more slots s.1)
    where
      all_erased_snoc : (l : List (List ℕ)) → AllErased l → IsErased slot → AllErased (l ++ (slot ∷ []))
      all_erased_snoc [] f g = (g, tt)
      all_erased_snoc (x ∷ l) f g = (f.0, all_erased_snoc l f.1 g)

      regroup : before ++ (first ∷ (between ++ (slot ∷ []))) ++ slots ≡ before ++ (first ∷ between) ++ slot ∷ slots
      regroup =
          ap (λ (l : List (List ℕ)). l ++ slots) (sym (append_assoc before (first ∷ between) (slot ∷ [])))
          ∙ append_snoc (before ++ (first ∷ between)) slot slots

      go : (t : Bool) → is_erased slot ≡ t
          → (AllErased (between ++ (slot ∷ []))
          → SlotOutcome (before ++ (first ∷ (between ++ (slot ∷ []))) ++ slots) (replay true (known nodes) slots))
          → SlotOutcome (before ++ (first ∷ between) ++ slot ∷ slots) (replay true (known nodes) (slot ∷ slots))
      go true t rest =
          same_outcome regroup (sym (replay-erased true (known nodes) slot slots t))
          (rest (all_erased_snoc between free (erased-is_erased slot s.0.size t)))
      go false t rest =
          let taken = slot_taken-gap true (known nodes) slot t refl ∙ spoilt-known nodes in
          same_outcome refl (sym (replay_other true (known nodes) slot slots t taken ∙ replay-fault true 17 slots))
          (misplaced before first slot between slots nodes refl (right-free (first ∷ between) (e, free)) e (other_is_erased slot t) refl)

-- behind torn slots and blocks that are replayed
pub outcome-slots : {before : List (List ℕ)} {xs : List ℕ} → Holds before xs → {nodes : List ℕ} → IsReplayed xs nodes → (slots : List (List ℕ))
    → AreSlots slots → SlotOutcome (before ++ slots) (replay false (known nodes) slots)
outcome-slots {before} h {nodes} replayed [] s = same_outcome refl (sym (replay-none false (known nodes))) (right-free h replayed [] tt)
outcome-slots {before} {xs} h {nodes} replayed (slot ∷ slots) s =
    erased-or (is_erased slot) refl
    (λ more k all r. subst (λ (l : List (List ℕ)). SlotOutcome l (replay false (known all) slots)) (append_snoc before slot slots)
    (outcome-slots (holds-append h k) r slots s.1))
  where
    -- what follows behind this slot, where it holds some addresses more
    Onward : Type 0
    Onward = (more : List ℕ) → Holds (slot ∷ []) more → (all : List ℕ) → IsReplayed (xs ++ more) all
        → SlotOutcome (before ++ slot ∷ slots) (replay false (known all) slots)

    torn-slot : is_erased slot ≡ false → EndsErased slot → Onward → SlotOutcome (before ++ slot ∷ slots) (replay false (known nodes) (slot ∷ slots))
    torn-slot t z onward =
        same_outcome refl (sym (replay_other false (known nodes) slot slots t (slot_taken-torn false (known nodes) slot t refl z)))
        (onward [] (holds-torn (other_is_erased slot t, z)) nodes (subst (λ (l : List ℕ). IsReplayed l nodes) (sym (append-nil xs)) replayed))

    wrong_slot : is_erased slot ≡ false → (EndsErased slot → ⊥) → is_block slot ≡ false
        → SlotOutcome (before ++ slot ∷ slots) (replay false (known nodes) (slot ∷ slots))
    wrong_slot t z b =
        same_outcome refl
        (sym (
        replay_other false (known nodes) slot slots t (slot_taken_wrong false (known nodes) slot t z refl b ∙ spoilt-known nodes)
        ∙ replay-fault false 17 slots
        ))
        (no_block before slot slots xs nodes refl h replayed z (is_block-none slot b) refl)

    block-slot : is_erased slot ≡ false → (EndsErased slot → ⊥) → is_block slot ≡ true → Onward
        → SlotOutcome (before ++ slot ∷ slots) (replay false (known nodes) (slot ∷ slots))
    block-slot t z b onward =
        same_outcome refl (sym (replay_other false (known nodes) slot slots t (slot_taken-block false (known nodes) slot t z refl b)))
        (
        go (follow (known nodes) more)
        (subst (Outcome (xs ++ more)) both (outcome-bare (xs ++ more) (are_words_append xs more (holds-words h) is.words)))
        )
      where
        more : List ℕ
        more = addresses_in slot

        is : IsBlockOf (addresses_in slot) slot
        is = (blocks.exactly slot s.0.octets).0 b

        both : follow bare (xs ++ more) ≡ follow (known nodes) more
        both = follow-append bare xs more ∙ ap (λ (r : Replay). follow r more) (follow-replayed xs nodes replayed)

        go : (r : Replay) → Outcome (xs ++ more) r → SlotOutcome (before ++ slot ∷ slots) (replay false r slots)
        go (known all) o = onward more (holds-block is) all o
        go (fault n) o = same_outcome refl (sym (replay-fault false n slots)) (wrong_address before slot slots xs more nodes refl h replayed is o)

    erased-or : (t : Bool) → is_erased slot ≡ t → Onward → SlotOutcome (before ++ slot ∷ slots) (replay false (known nodes) (slot ∷ slots))
    erased-or true t onward =
        same_outcome (append_snoc before slot slots) (sym (replay-erased false (known nodes) slot slots t))
        (outcome-gap h replayed slot (erased-is_erased slot s.0.size t) [] tt slots s.1)
    erased-or false t onward = go (ends_erased slot) refl (is_block slot) refl
      where
        go : (z : Bool) → ends_erased slot ≡ z → (b : Bool) → is_block slot ≡ b
            → SlotOutcome (before ++ slot ∷ slots) (replay false (known nodes) (slot ∷ slots))
        go true z b f = torn-slot t (ends-ends_erased slot z) onward
        go false z true f = block-slot t (other_ends_erased slot z) f onward
        go false z false f = wrong_slot t (other_ends_erased slot z) f

-- ---- from a bare root

pub root-replayed : IsReplayed [] (root ∷ [])
unfolding follow
root-replayed = outcome-bare [] tt

pub outcome-journal : (slots : List (List ℕ)) → AreSlots slots → SlotOutcome slots (replay false bare slots)
outcome-journal slots s = outcome-slots none root-replayed slots s

-- ---- and the other way round

pub replay-right : (slots : List (List ℕ)) (nodes : List ℕ) → AreSlots slots → Right slots nodes → replay false bare slots ≡ known nodes
replay-right slots nodes s r =
    ap (replay false bare) r.parts
    ∙ replay-written r.erased r.holds (are_slots_front r.written r.erased (subst AreSlots r.parts s)) r.free bare
    ∙ follow-replayed r.addresses nodes r.replayed

module _ (slots : List (List ℕ)) (n : ℕ) (s : AreSlots slots) where
  -- the slot where the fault is, behind others
  behind : (before : List (List ℕ)) (slot : List ℕ) (rest : List (List ℕ)) → slots ≡ before ++ slot ∷ rest → AreSlots before × IsSlot slot
  behind before slot rest e =
      let t = subst AreSlots e s in
      (are_slots_front before (slot ∷ rest) t, (are_slots_behind before (slot ∷ rest) t).0)

  at_block : (before : List (List ℕ)) (slot : List ℕ) (rest : List (List ℕ)) {xs nodes : List ℕ} → slots ≡ before ++ slot ∷ rest
      → Holds before xs → IsReplayed xs nodes → is_erased slot ≡ false → slot_taken false (known nodes) slot ≡ fault n
      → replay false bare slots ≡ fault n
  at_block before slot rest {xs} {nodes} e h r t f =
      let (sb, ss) = behind before slot rest e in
      ap (replay false bare) e
      ∙ replay-append false bare before (slot ∷ rest)
      ∙ ap₂ (λ (g : Bool) (x : Replay). replay g x (slot ∷ rest)) (gaps_after-none false before sb (holds-none_erased h))
      (replay-holds h sb bare ∙ follow-replayed xs nodes r)
      ∙ replay_other false (known nodes) slot rest t f
      ∙ replay-fault false n rest

  pub replay-faulty : Fault slots n → replay false bare slots ≡ fault n
  replay-faulty (misplaced before erased slot between rest nodes e r gap other number) =
      let front = before ++ (erased ∷ between) in
      let (sb, ss) = behind front slot rest e in
      let t = is_erased_other slot ss.size other in
      ap (replay false bare) e
      ∙ replay-append false bare front (slot ∷ rest)
      ∙ ap₂ (λ (g : Bool) (x : Replay). replay g x (slot ∷ rest)) (gaps_after-erased false before erased between gap) (replay-right front nodes sb r)
      ∙ replay_other true (known nodes) slot rest t (slot_taken-gap true (known nodes) slot t refl ∙ spoilt-known nodes)
      ∙ replay-fault true 17 rest ∙ ap (λ (k : ℕ). fault k) (sym number)
  replay-faulty (no_block before slot rest xs nodes e h r whole wrong number) =
      let (sb, ss) = behind before slot rest e in
      let t = is_erased_other slot ss.size (other_erased slot 511 (omega arith) whole) in
      at_block before slot rest e h r t
      (
      slot_taken_wrong false (known nodes) slot t whole refl (none-is_block slot ss.octets wrong)
      ∙ spoilt-known nodes ∙ ap (λ (k : ℕ). fault k) (sym number)
      )
  replay-faulty (wrong_address before slot rest xs more nodes e h r is f) =
      let (sb, ss) = behind before slot rest e in
      let t = is_erased_other slot ss.size (is_block_of-erased is) in
      at_block before slot rest e h r t
      (
      slot_taken-block false (known nodes) slot t (is_block_of-ends is) refl (is_block_of-right is)
      ∙ ap (follow (known nodes)) (is_block_of-addresses is)
      ∙ sym (follow-append bare xs more ∙ ap (λ (x : Replay). follow x more) (follow-replayed xs nodes r))
      ∙ follow_first_fault (xs ++ more) n (are_words_append xs more (holds-words h) is.words) f
      )

-- ---- exactly

pub replay-known : (slots : List (List ℕ)) (nodes : List ℕ) → AreSlots slots → (replay false bare slots ≡ known nodes) ↔ Right slots nodes
replay-known slots nodes s = (λ e. subst (SlotOutcome slots) e (outcome-journal slots s), replay-right slots nodes s)

pub replay-fault-exactly : (slots : List (List ℕ)) (n : ℕ) → AreSlots slots → (replay false bare slots ≡ fault n) ↔ Fault slots n
replay-fault-exactly slots n s = (λ e. subst (SlotOutcome slots) e (outcome-journal slots s), replay-faulty slots n s)
