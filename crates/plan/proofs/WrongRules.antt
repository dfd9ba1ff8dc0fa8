-- Each wrong rule is refuted by its answer to one text: what the right rule comes to there is all that the statement allows. Where the text is
-- long, laws say what it comes to.
use Rattle.std.specs.Prelude.{if◌then◌else◌}
use Prim.Native.Nat.{ℕ, zero, suc, ◌+◌, ◌≤◌, ◌<◌}
use mathlib.Core.Path.{◌≡◌, refl, sym, ap, subst, ◌∙◌}
use mathlib.Core.Bool.{Bool, true, false}
use mathlib.Core.Logic.{inl, inr, ⊎_elim}
use mathlib.Core.List.Memᴰ.{head as first}
use mathlib.Core.List.Memᴰ.{tail as later}
use mathlib.Core.List.{List, [], ◌∷◌, ◌++◌, map, Memᴰ}
use native.Mathlib.Omega.{arith}
use lib.ListN.{length, drop, replicate, get_or, length-replicate}
use lib.Dec.{ltb}
use borrow.Author.Tests.{ltb-true, ltb-false, lt-ltb, le-ltb}
use Rattle.address.specs.Bits.{last_bit, bits_in, bits, digit, number_from, number, root}
use Rattle.address.specs.Steps.{last_of, step_bits}
use Rattle.address.specs.Address.{bit_length, ends_in_one, is_host}
use Rattle.address.specs.declared.Kind.TheVariants.{Host}
use Rattle.node.specs.Node.{fresh, count, child_of}
use Rattle.node.specs.declared.Node.{Node}
use Rattle.node.proofs.ChildLaws.{room}
use Rattle.node.proofs.Opened.{records-opened}
use Rattle.node.proofs.Children.{count-raised, count-le}
use Rattle.node.proofs.RefusalLaws.{child-refusals}
use Rattle.node.proofs.GivenChildren.{gives-children}
use Rattle.plan.specs.Limits.{most_bytes, most_nodes}
use Rattle.plan.specs.Grammar.{letter_r, letter_h, opening, closing, Items, none, router, items_text, plan_text, groups_open, IsText}
use Rattle.plan.specs.Hall.{answers, hall, items, nodes, refusal_of, SomeTooLong}
use Rattle.plan.specs.Reading.{Expected, start, Move, to, fault, move_item, move, Reading, whole, fault_at, behind, ended, read_from, reading}
use Rattle.plan.specs.Plan.{PlanEffect, refuse_plan, missing, listed, judged, planning}
use Rattle.plan.specs.Refusals.{PlanRefusals}
use Rattle.plan.specs.Largest.{hosts}
use Rattle.plan.specs.WrongRules.{judged_by, planning_by, right_parts, refuses_all, grammar_first, letter_count, nodes_first, room_first}
use Rattle.plan.specs.WrongRules.{listing, listed_within, planning_within}
use Rattle.plan.specs.WrongRules.{place_from_one, place_beside, writes_without_room, writes_root, root_uncounted}
use Rattle.plan.specs.WrongRules.{read_from_by, moving, move_unlimited, unlimited, without_address, closing_address, move_late, routers_late}
use Rattle.plan.proofs.Answers.{length-hall}
use Rattle.plan.proofs.Spelling.{plan_text-one}
use Rattle.plan.proofs.Wholly.{reading-spells}
use Rattle.plan.proofs.Exact.{not-both, fault_at-stops}
use Rattle.plan.proofs.Inner.{Inner, inner-root, inner-refusal, inner-next}
use Rattle.plan.proofs.RefusalLaws.{too_long}
use Rattle.plan.proofs.Largest.{hosts-spelled, nonsense-stops}
use Rattle.plan.proofs.OneRule.{only_end, one_rule}

-- ---- the wrong rules are made as the right one is

judged_by-right : (r : Reading) (words : List ℕ) → judged_by right_parts r words ≡ judged r words
unfolding judged_by judged
judged_by-right (whole given) words = refl
judged_by-right (fault_at place) words = refl

planning_by-right : (text words : List ℕ) → planning_by right_parts text words ≡ planning text words
unfolding planning_by planning
planning_by-right text words = rw (judged_by-right (reading text) words)

read_from_by-right : (s : List ℕ) (p : ℕ) (e : Expected) → read_from_by move p e s ≡ read_from p e s
unfolding read_from_by read_from
read_from_by-right [] p e = refl
read_from_by-right (o ∷ s) p e = elim (move e o) as (λ (m : Move).
    ◌≡◌ {A = Reading} (elim m [
      | to given next ↦ behind given (read_from_by move (suc p) next s)
      | fault ↦ fault_at p
    ]) (elim m [
      | to given next ↦ behind given (read_from (suc p) next s)
      | fault ↦ fault_at p
    ])) [
      | to given next ↦ ap (behind given) (read_from_by-right s (suc p) next)
      | fault ↦ refl
    ]

-- ---- by computing

-- whoever unfolds `opened` unfolds all that the answers below are computed by

addresses-opened : Unit {0}
unfolding last_bit bits_in bits digit number_from number last_of step_bits bit_length ends_in_one is_host records-opened
addresses-opened = tt

opened : Unit {0}
unfolding move_item move behind ended read_from reading refuse_plan missing listed judged planning judged_by planning_by
opened = tt

-- "R()"
abbrev bare : List ℕ
bare = letter_r ∷ opening ∷ closing ∷ []

-- a bare root with a word for it
pub refuses_all_refuted : PlanRefusals refuses_all → ⊥
unfolding opened refuses_all
refuses_all_refuted claim = omega (arith, ap (λ (e : PlanEffect). e.answer.refusal) (one_rule refuses_all claim bare (0 ∷ [])))

-- no text: the fault is at 0
pub place_from_one_refuted : PlanRefusals place_from_one → ⊥
unfolding opened place_from_one
place_from_one_refuted claim = omega (arith, ap (λ (e : PlanEffect). e.answer.place) (one_rule place_from_one claim [] []))

pub writes_root_refuted : PlanRefusals writes_root → ⊥
unfolding opened writes_root
writes_root_refuted claim = omega (arith, ap (λ (e : PlanEffect). get_or e.words 0 0) (one_rule writes_root claim [] (0 ∷ [])))

-- a bare root with no word
pub place_beside_refuted : PlanRefusals place_beside → ⊥
unfolding opened place_beside
place_beside_refuted claim = omega (arith, ap (λ (e : PlanEffect). e.answer.place) (one_rule place_beside claim bare []))

pub root_uncounted_refuted : PlanRefusals root_uncounted → ⊥
unfolding opened root_uncounted
root_uncounted_refuted claim = omega (arith, ap (λ (e : PlanEffect). e.answer.nodes) (one_rule root_uncounted claim bare (0 ∷ [])))

-- "R(H)" with one word: 10, and 1 in the word
pub writes_without_room_refuted : PlanRefusals writes_without_room → ⊥
unfolding opened addresses-opened writes_without_room
writes_without_room_refuted claim =
    omega (
      arith,
      ap (λ (e : PlanEffect). get_or e.words 0 0)
          (one_rule writes_without_room claim (letter_r ∷ opening ∷ letter_h ∷ closing ∷ []) (0 ∷ [])),
    )

-- "R(R(H))": 1, 10, 101, and not 1, 101, 10
pub routers_late_refuted : PlanRefusals routers_late → ⊥
unfolding opened addresses-opened read_from_by without_address closing_address move_late routers_late
routers_late_refuted claim =
    omega (
      arith,
      ap (λ (e : PlanEffect). get_or e.words 1 0)
          (one_rule routers_late claim (letter_r ∷ opening ∷ letter_r ∷ opening ∷ letter_h ∷ closing ∷ closing ∷ []) (0 ∷ 0 ∷ 0 ∷ [])),
    )

-- ---- long texts

-- a text that begins with a host is none
no_text : (s : List ℕ) → IsText (letter_h ∷ s) → ⊥
no_text s t = not-both (letter_h ∷ s) 0 t (fault_at-stops (letter_h ∷ s) 0 (nonsense-stops s))

-- a byte too many, all of them "H": too many bytes, and not a fault
pub grammar_first_refuted : PlanRefusals grammar_first → ⊥
unfolding grammar_first judged refuse_plan
grammar_first_refuted claim =
    let s = replicate most_bytes letter_h in
    let long : most_bytes < suc (length s) = omega (arith, length-replicate most_bytes letter_h) in
    let made = ap (λ (r : Reading). (judged r []).answer.refusal) (nonsense-stops s) in
    let right = (claim.given (letter_h ∷ s) [] 14).1 (inl (long, refl)) in
    omega arith

-- more "H" than nodes are allowed: a fault, and not too many nodes
pub nodes_first_refuted : PlanRefusals nodes_first → ⊥
unfolding nodes_first letter_count refuse_plan
nodes_first_refuted claim =
    let s = replicate most_nodes letter_h in
    omega (arith, (claim.given (letter_h ∷ s) [] 13).1 (inr (λ l. omega (arith, length-replicate most_nodes letter_h), inl (no_text s, refl))))

-- ---- so many hosts

-- among more hosts than there is room for one is refused
hosts-refused : (k : ℕ) (n : Node) → Inner n → room n < count Host n + k → Memᴰ 3 (map refusal_of (answers n (hosts k)))
unfolding answers hosts
hosts-refused zero n inner h = absurd (omega (arith, count-le n inner.good inner.no_host Host))
hosts-refused (suc k) n inner h =
    ⊎_elim (λ e. first (sym e)) (λ e. later (hosts-refused k (child_of n Host).node (inner-next Host inner) (fewer e))) (inner-refusal Host inner)
  where
    fewer : (child_of n Host).refusal ≡ 0 → room (child_of n Host).node < count Host (child_of n Host).node + k
    fewer e =
        omega (
          arith,
          ap (count Host) (child-refusals.without n Host e),
          count-raised Host n,
          ap bit_length (gives-children.keeps_address n Host),
        )

abbrev many_hosts : List ℕ
many_hosts = plan_text (hosts 64)

hosts_too_long : SomeTooLong (hosts 64)
unfolding fresh count bit_length bits bits_in last_bit
hosts_too_long = hosts-refused 64 (fresh root) inner-root (omega arith)

-- 64 hosts of the root and no words: the last address is too long
room_first-hosts : room_first many_hosts [] ≡ refuse_plan 10 0 []
unfolding room_first planning_by judged_by hosts plan_text items_text items nodes
room_first-hosts = rw (reading-spells many_hosts (hosts 64) (hosts-spelled 64), length-hall (hosts 64))

pub room_first_refuted : PlanRefusals room_first → ⊥
unfolding refuse_plan hosts plan_text items_text items nodes
room_first_refuted claim =
    let right = only_end room_first claim many_hosts [] (too_long (omega arith) (hosts 64) (hosts-spelled 64) (omega arith) hosts_too_long) in
    omega (arith, ap (λ (e : PlanEffect). e.answer.refusal) (sym room_first-hosts ∙ right))

-- ---- other limits

nodes-hosts : (k : ℕ) → nodes (hosts k) ≡ suc k
unfolding nodes items hosts
nodes-hosts zero = refl
nodes-hosts (suc k) = ap suc (nodes-hosts k)

length-hosts : (k : ℕ) → length (plan_text (hosts k)) ≡ k + 3
unfolding plan_text items_text hosts
length-hosts zero = refl
length-hosts (suc k) = omega (arith, length-hosts k)

-- with the right numbers it is the right rule
pub within-right : (text words : List ℕ) → planning_within most_bytes most_nodes text words ≡ planning text words
unfolding planning_within judged_by judged listed_within listed planning
within-right text words = go (reading text)
  where
    go : (r : Reading)
        → (if ltb most_bytes (length text) then refuse_plan 14 0 words else judged_by (listing (listed_within most_nodes)) r words)
        ≡ (if ltb most_bytes (length text) then refuse_plan 14 0 words else judged r words)
    go (whole given) = refl
    go (fault_at place) = refl

module _ (bytes most : ℕ) where
  within-over : (text : List ℕ) → bytes < length text → planning_within bytes most text [] ≡ refuse_plan 14 0 []
  unfolding planning_within
  within-over text h = rw (lt-ltb bytes (length text) h) refl

  within-fault : (s : List ℕ) → length s < bytes → planning_within bytes most (letter_h ∷ s) [] ≡ refuse_plan 13 0 []
  unfolding planning_within judged_by
  within-fault s h = rw (le-ltb bytes (suc (length s)) h, nonsense-stops s) refl

  module _ (k : ℕ) (short : k + 3 ≤ bytes) where
    within-hosts : planning_within bytes most (plan_text (hosts k)) [] ≡ listed_within most (hall (hosts k)) []
    unfolding planning_within judged_by
    within-hosts =
        rw (le-ltb bytes (length (plan_text (hosts k))) (omega (arith, length-hosts k)), reading-spells (plan_text (hosts k)) (hosts k) (hosts-spelled k))
        refl

    counted : length (hall (hosts k)) ≡ suc k
    counted = length-hall (hosts k) ∙ nodes-hosts k

    within-many : most ≤ k → planning_within bytes most (plan_text (hosts k)) [] ≡ refuse_plan 14 0 []
    unfolding listed_within
    within-many many = within-hosts ∙ rw (counted, lt-ltb most (suc k) (omega (arith, many))) refl

    within-few : k < most → planning_within bytes most (plan_text (hosts k)) [] ≡ refuse_plan 14 0 [] → ⊥
    unfolding listed_within refuse_plan
    within-few few e =
        go (ltb 0 (missing (hall (hosts k)))) (ap (λ (p : PlanEffect). p.answer.refusal) (sym (within-hosts ∙ listed-few) ∙ e))
      where
        listed-few : listed_within most (hall (hosts k)) [] ≡ (if ltb 0 (missing (hall (hosts k))) then refuse_plan 3 0 [] else refuse_plan 10 0 [])
        listed-few = rw (counted, le-ltb most (suc k) few, lt-ltb 0 (suc k) (omega arith)) refl

        go : (l : Bool) → (if l then refuse_plan 3 0 [] else refuse_plan 10 0 []).answer.refusal ≡ 14 → ⊥
        go true z = omega (arith, z)
        go false z = omega (arith, z)

-- two such rules that answer alike
abbrev Alike : ℕ → ℕ → ℕ → ℕ → Type 0
Alike bytes most others many = (text : List ℕ) → planning_within bytes most text [] ≡ planning_within others many text []

-- the first does not take fewer bytes than the second: as many "H" and one more would be a fault to the second alone
no_fewer-bytes : (bytes most others many : ℕ) → Alike bytes most others many → others ≤ bytes
unfolding refuse_plan
no_fewer-bytes bytes most others many alike = go (ltb bytes others) refl
  where
    s : List ℕ
    s = replicate bytes letter_h

    long : length s ≡ bytes
    long = length-replicate bytes letter_h

    go : (b : Bool) → ltb bytes others ≡ b → others ≤ bytes
    go false e = ltb-false bytes others e
    go true e =
        let over = within-over bytes most (letter_h ∷ s) (omega (arith, long)) in
        let fault = within-fault others many s (omega (arith, long, ltb-true bytes others e)) in
        absurd (omega (arith, ap (λ (p : PlanEffect). p.answer.refusal) (sym over ∙ alike (letter_h ∷ s) ∙ fault)))

-- nor fewer nodes: the root with as many hosts would be too much to the first alone
no_fewer-nodes : (bytes most many : ℕ) → most + 3 ≤ bytes → Alike bytes most bytes many → many ≤ most
no_fewer-nodes bytes most many short alike = go (ltb most many) refl
  where
    over : planning_within bytes many (plan_text (hosts most)) [] ≡ refuse_plan 14 0 []
    over = sym (alike (plan_text (hosts most))) ∙ within-many bytes most most short (omega arith)

    go : (b : Bool) → ltb most many ≡ b → many ≤ most
    go false e = ltb-false most many e
    go true e = absurd (within-few bytes many most short (ltb-true most many e) over)

same_nodes : (most : ℕ) → Alike most_bytes most most_bytes most_nodes → most ≡ most_nodes
same_nodes most alike = go (ltb most_nodes most) refl
  where
    few : most ≤ most_nodes → most ≡ most_nodes
    few h = omega (arith, h, no_fewer-nodes most_bytes most most_nodes (omega (arith, h)) alike)

    go : (t : Bool) → ltb most_nodes most ≡ t → most ≡ most_nodes
    go true e = few (no_fewer-nodes most_bytes most_nodes most (omega arith) (λ text. sym (alike text)))
    go false e = few (ltb-false most_nodes most e)

-- "4,096 nodes, the root counted, and a plan 32,768 bytes": the statement allows no other numbers
pub only_these_limits : (bytes most : ℕ) → PlanRefusals (planning_within bytes most) → (bytes ≡ most_bytes) × (most ≡ most_nodes)
only_these_limits bytes most claim =
    (same_bytes, same_nodes most (subst (λ (b : ℕ). Alike b most most_bytes most_nodes) same_bytes alike))
  where
    alike : Alike bytes most most_bytes most_nodes
    alike text = one_rule (planning_within bytes most) claim text [] ∙ sym (within-right text [])

    same_bytes : bytes ≡ most_bytes
    same_bytes =
        omega (
          arith,
          no_fewer-bytes bytes most most_bytes most_nodes alike,
          no_fewer-bytes most_bytes most_nodes bytes most (λ text. sym (alike text)),
        )

-- ---- groups in groups

nested : ℕ → Items
nested zero = none
nested (suc k) = router (nested k) none

abbrev deep : List ℕ
deep = plan_text (nested 64)

deep_no_text : IsText deep → ⊥
unfolding nested groups_open
deep_no_text (plan, s) =
    omega (arith, s.within, ap groups_open (plan_text-one plan (nested 64) (sym s.spelled)))

is_whole : Reading → Bool
is_whole (whole given) = true
is_whole (fault_at place) = false

deep-whole : is_whole (read_from_by move_unlimited 0 start deep) ≡ true
unfolding nested plan_text items_text is_whole read_from_by move_unlimited move move_item behind ended
deep-whole = refl

-- a list of addresses is never a fault
listed_no_fault : (given words : List ℕ) → (listed given words).answer.refusal ≡ 13 → ⊥
unfolding listed refuse_plan
listed_no_fault given words = go (ltb most_nodes (length given)) (ltb 0 (missing given)) (ltb (length words) (length given))
  where
    effect : Bool → Bool → Bool → PlanEffect
    effect m l r =
        if m then refuse_plan 14 0 words else if l then refuse_plan 3 0 words else if r then refuse_plan 10 0 words
        else record { answer = record { refusal = 0; nodes = length given; place = 0 }; words = given ++ drop (length given) words }

    go : (m l r : Bool) → (effect m l r).answer.refusal ≡ 13 → ⊥
    go true l r e = omega arith
    go false true r e = omega arith
    go false false true e = omega arith
    go false false false e = omega arith

whole_no_fault : (r : Reading) (words : List ℕ) → is_whole r ≡ true → (judged_by (moving move_unlimited) r words).answer.refusal ≡ 13 → ⊥
unfolding is_whole judged_by
whole_no_fault (whole given) words w e = listed_no_fault given words e
whole_no_fault (fault_at place) words w e = let z : ◌≡◌ {A = ℕ} 0 1 = cc in omega arith

-- 65 groups in one another: a fault
pub unlimited_refuted : PlanRefusals unlimited → ⊥
unfolding unlimited planning_by nested plan_text items_text
unlimited_refuted claim =
    whole_no_fault (read_from_by move_unlimited 0 start deep) [] deep-whole
    ((claim.given deep [] 13).1 (inr (λ l. omega arith, inl (deep_no_text, refl))))
