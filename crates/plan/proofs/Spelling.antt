-- A text spells one plan: what stands before the ")" of a group is its items', since no two items begin with the same byte but those of a
-- kind. Assumes nothing.
use Prim.Native.Nat.{ℕ}
use mathlib.Core.Path.{◌≡◌, refl, sym, ap, ap₂, subst, ◌∙◌}
use mathlib.Core.List.{List, [], ◌∷◌, ◌++◌, append_assoc, head-eq_of_cons-eq, tail-eq_of_cons-eq}
use native.Mathlib.Omega.{arith}
use Rattle.plan.specs.Grammar.{letter_r, opening, closing, Items, none, host, router, items_text, plan_text, Spells}
use Rattle.plan.specs.Refusals.{PlanOf}

-- a router's group and the items behind it, with more behind those
pub items_text-router : (group others : Items) (s : List ℕ)
    → items_text (router group others) ++ s ≡ letter_r ∷ opening ∷ (items_text group ++ closing ∷ (items_text others ++ s))
unfolding items_text
items_text-router group others s = ap (λ (l : List ℕ). letter_r ∷ opening ∷ l) (append_assoc (items_text group) (closing ∷ items_text others) s)

apart : {o q : ℕ} {s t : List ℕ} {A : Type 0} → ◌≡◌ {A = List ℕ} (o ∷ s) (q ∷ t) → (o ≡ q → ⊥) → A
apart e other = absurd (other (head-eq_of_cons-eq e))

-- the items before a ")", and what is behind it
one-items : (i j : Items) (s t : List ℕ) → items_text i ++ closing ∷ s ≡ items_text j ++ closing ∷ t → (i ≡ j) × (s ≡ t)
unfolding items_text
one-items none none s t e = (refl, tail-eq_of_cons-eq e)
one-items none (host j) s t e = apart e (λ z. omega arith)
one-items none (router h j) s t e = apart e (λ z. omega arith)
one-items (host i) none s t e = apart e (λ z. omega arith)
one-items (host i) (host j) s t e = let (same, rest) = one-items i j s t (tail-eq_of_cons-eq e) in (ap host same, rest)
one-items (host i) (router h j) s t e = apart e (λ z. omega arith)
one-items (router g i) none s t e = apart e (λ z. omega arith)
one-items (router g i) (host j) s t e = apart e (λ z. omega arith)
one-items (router g i) (router h j) s t e =
    let texts = sym (items_text-router g i (closing ∷ s)) ∙ e ∙ items_text-router h j (closing ∷ t) in
    let (group, others) = one-items g h (items_text i ++ closing ∷ s) (items_text j ++ closing ∷ t) (tail-eq_of_cons-eq (tail-eq_of_cons-eq texts)) in
    let (same, rest) = one-items i j s t others in
    (ap₂ router group same, rest)

pub plan_text-one : (plan other : Items) → plan_text plan ≡ plan_text other → plan ≡ other
unfolding plan_text
plan_text-one plan other e = (one-items plan other [] [] (tail-eq_of_cons-eq (tail-eq_of_cons-eq e))).0

pub one-plan : (text : List ℕ) (plan other : Items) → Spells text plan → Spells text other → plan ≡ other
one-plan text plan other s t = plan_text-one plan other (sym s.spelled ∙ t.spelled)

-- what holds of a plan that the text spells holds of the one that it spells
pub of_the_plan : {text : List ℕ} {plan : Items} (P : Items → Type 0) → Spells text plan → PlanOf text P → P plan
of_the_plan {text} {plan} P s (other, t, holds) = subst P (one-plan text other plan t s) holds
