-- The front page's lines on a hall's plan, each taken from the record that carries it. Assumes nothing.
use Prim.Native.Nat.{ℕ}
use mathlib.Core.Path.{◌≡◌, refl, sym, ap, ap₂, subst, ◌∙◌}
use mathlib.Core.Logic.{◌⊎◌, inl, inr}
use mathlib.Core.List.{List, [], ◌∷◌, ◌++◌, map}
use native.Mathlib.Numerals.{add-one}
use native.Mathlib.Omega.{arith}
use borrow.Author.Tests.{ne_eqb}
use lib.ListN.{length, take, drop}
use lib.Seq.{take-append_seam, drop-append_seam}
use Rattle.node.specs.Node.{child_of, set_limit}
use Rattle.tree.specs.Tree.{asking, grown, addresses, AllDiffer}
use Rattle.plan.specs.Grammar.{Items, none, host, router, items_text, plan_text, groups_open}
use Rattle.plan.specs.Hall.{answers, nodes, hall}
use Rattle.plan.specs.Reading.{whole, reading}
use Rattle.plan.specs.Plan.{missing, listed, judged, planning}
use Rattle.plan.proofs.Exact.{plan-or-place, exactly_the_grammar}
use Rattle.plan.proofs.RefusalLaws.{plan-refusals}
use Rattle.halls.specs.Requests.{requests_in, requests}
use Rattle.halls.specs.Halls.{letters, replies_to}
use Rattle.halls.specs.Example.{small}
use Rattle.halls.proofs.ExampleLaws.{small-hall}
use Rattle.halls.proofs.Planned.{planned_halls}
use Rattle.halls.proofs.Theorem.{halls_read}
use Rattle.claims.specs.Plans.{TheText, TheHall, WhatIsRead}

no_other_item_lem : (items : Items)
    → (items ≡ none) ⊎ ((behind : Items) × (items ≡ host behind)) ⊎ ((group : Items) × (behind : Items) × (items ≡ router group behind))
no_other_item_lem none = inl refl
no_other_item_lem (host behind) = inr (inl (behind, refl))
no_other_item_lem (router group behind) = inr (inr (group, behind, refl))

pub the_text : TheText
unfolding items_text plan_text groups_open
the_text = record {
  no_other_item = no_other_item_lem;
  of_no_item = refl;
  of_ahost = λ behind. refl;
  of_arouter = λ group behind. refl;
  of_aplan = λ plan. refl;
  open_in_none = refl;
  open_in_ahost = λ behind. refl;
  open_in_arouter = λ group behind. rw add-one;
  spells = λ text plan. (
    λ s. (s.spelled, omega (arith, s.within)),
    λ h. record { spelled = h.0; within = omega (arith, h.1) },
  );
  is_text = λ text. (λ h. h, λ h. h);
  is_start = λ text. (λ h. h, λ h. h);
  stops = λ text p. rw add-one (λ s. (s.start, s.stops), λ h. record { start = h.0; stops = h.1 });
  one_plan = plan-or-place.one_plan;
  one_place = plan-or-place.one_place;
  either = plan-or-place.either;
  not_both = plan-or-place.not_both;
}

other_byte_lem : (o : ℕ) (text : List ℕ) → (o ≡ 82 → ⊥) → (o ≡ 72 → ⊥) → letters (o ∷ text) ≡ letters text
unfolding letters
other_byte_lem o text r h = rw (ne_eqb o 82 r, ne_eqb o 72 h)

-- "`R(R(H)H)` gives 1, 10, 101, 11."

small-reading : reading (82 ∷ 40 ∷ 82 ∷ 40 ∷ 72 ∷ 41 ∷ 72 ∷ 41 ∷ []) ≡ whole (0b1 ∷ 0b10 ∷ 0b101 ∷ 0b11 ∷ [])
unfolding small groups_open
small-reading =
    (exactly_the_grammar.wholly _ _).1 (small, record { spelled = sym small-hall.text; within = omega arith }, sym small-hall.listed)

small-planning : planning (82 ∷ 40 ∷ 82 ∷ 40 ∷ 72 ∷ 41 ∷ 72 ∷ 41 ∷ []) (0 ∷ 0 ∷ 0 ∷ 0 ∷ 7 ∷ [])
    ≡ record { answer = record { refusal = 0; nodes = 4; place = 0 }; words = 0b1 ∷ 0b10 ∷ 0b101 ∷ 0b11 ∷ 7 ∷ [] }
unfolding planning judged listed missing
small-planning = rw small-reading

pub the_hall : TheHall
unfolding requests_in requests letters replies_to answers hall
the_hall = record {
  of_no_item = λ n. refl;
  of_ahost = λ n behind. refl;
  of_arouter = λ n group behind. refl;
  of_aplan = λ plan. refl;
  letter_by_letter = planned_halls.text;
  letter_r = λ text. refl;
  letter_h = λ text. refl;
  other_byte = other_byte_lem;
  no_byte = refl;
  counted = planned_halls.counted;
  root_first = λ plan. refl;
  answered_none = λ n. refl;
  answered_host = λ n behind. refl;
  answered_router = λ n group behind. refl;
  refused_in_both = planned_halls.too_long;
  is_atree = λ plan free. planned_halls.tree plan (λ long. free ((planned_halls.too_long plan).0 long));
  example = small-planning;
}

-- a list in front of others, and its length
front : (all l words : List ℕ) (k : ℕ) → k ≡ length l → all ≡ l ++ drop k words → (take k all ≡ l) × (drop k all ≡ drop k words)
front all l words k e w = (
  ap₂ (λ (i : ℕ) (a : List ℕ). take i a) e w ∙ take-append_seam l (drop k words),
  ap₂ (λ (i : ℕ) (a : List ℕ). drop i a) e w ∙ drop-append_seam l (drop k words),
)

pub what_is_read : WhatIsRead
unfolding replies_to
what_is_read = record {
  a_hall = λ text words z.
      let read = halls_read.without text words z in
      let counted = plan-refusals.without text words z in
      let listed = read.2 in
      let tree = addresses (grown child_of set_limit (map asking (requests read.0))) in
      let many = sym listed.number in
      let parts = front (planning text words).words tree words (planning text words).answer.nodes listed.number
      (listed.listed ∙ ap (λ (k : ℕ). tree ++ drop k words) many) in
      record {
        plan = read.0;
        spelt = read.1;
        number = counted.2.0 ∙ ap nodes (plan-or-place.one_plan text counted.0 read.0 counted.1 read.1);
        listed = parts.0;
        behind = parts.1;
        differ = subst AllDiffer (sym (parts.0 ∙ listed.demand3.nodes)) listed.demand3.differ;
        demand3 = listed.demand3;
      };
  too_long = halls_read.too_long;
}
