-- A text is read whole exactly if the grammar spells it, and otherwise the fault is where it stops: a start's beginnings are starts, so there is
-- one such place, and the reading finds it. Assumes nothing.
use Prim.Native.Nat.{ℕ, suc, ◌≤◌, ◌<◌}
use mathlib.Core.Path.{◌≡◌, refl, sym, ap, subst, ◌∙◌}
use mathlib.Core.Logic.{◌⊎◌, inl, inr}
use mathlib.Core.List.{List, [], ◌++◌, append_assoc, append-nil}
use native.Mathlib.Decide.{dec_lt}
use native.Mathlib.Omega.{arith}
use lib.ListN.{length, take, drop, take-append-drop}
use lib.Seq.{take-take}
use Rattle.plan.specs.Grammar.{Items, Spells, IsText, IsStart, Stops}
use Rattle.plan.specs.Hall.{hall}
use Rattle.plan.specs.Reading.{start, Reading, whole, fault_at, reading}
use Rattle.plan.specs.Exactly.{PlanOrPlace, ExactlyTheGrammar}
use Rattle.plan.proofs.Spelling.{one-plan}
use Rattle.plan.proofs.Completing.{completes_text}
use Rattle.plan.proofs.Wholly.{reading-spells}
use Rattle.plan.proofs.Stopping.{read_from-whole, HaltsIn, StopsIn, Stopped, stopped, read_from-fault_at}

-- ---- starts

-- the beginning of a start is a start
start-append : (s t : List ℕ) → IsStart (s ++ t) → IsStart s
start-append s t (behind, text) = (t ++ behind, subst IsText (append_assoc s t behind) text)

start-take : (m n : ℕ) (text : List ℕ) → m ≤ n → IsStart (take n text) → IsStart (take m text)
start-take m n text l s =
    let front = subst IsStart (sym (take-append-drop m (take n text))) s in
    subst IsStart (take-take m n text l) (start-append (take m (take n text)) (drop m (take n text)) front)

-- a text is a start
start-text : (text : List ℕ) → IsText text → IsStart text
start-text text t = ([], subst IsText (sym (append-nil text)) t)

-- ---- one place

-- one byte more is no start, or there is none more
abbrev Halts : List ℕ → ℕ → Type 0
Halts text p = ((p < length text) × (IsStart (take (suc p) text) → ⊥)) ⊎ ((p ≡ length text) × (IsText text → ⊥))

never-before : (text : List ℕ) (p q : ℕ) → Stops text p → Stops text q → p < q → ⊥
never-before text p q s t l = go s.stops t.stops
  where
    go : Halts text p → Halts text q → ⊥
    go (inl (short, none)) others = none (start-take (suc p) q text l t.start)
    go (inr (all, none)) (inl (short, other)) = omega arith
    go (inr (all, none)) (inr (same, other)) = omega arith

pub one_place_lem : (text : List ℕ) (p q : ℕ) → Stops text p → Stops text q → p ≡ q
one_place_lem text p q s t = go (dec_lt p q) (dec_lt q p)
  where
    go : Dec (p < q) → Dec (q < p) → p ≡ q
    go (yes l) d = absurd (never-before text p q s t l)
    go (no n) (yes l) = absurd (never-before text q p t s l)
    go (no n) (no m) = omega arith

pub not-both : (text : List ℕ) (p : ℕ) → IsText text → Stops text p → ⊥
not-both text p t s = go s.stops
  where
    go : Halts text p → ⊥
    go (inl (short, none)) =
        none (start-append (take (suc p) text) (drop (suc p) text) (subst IsStart (sym (take-append-drop (suc p) text)) (start-text text t)))
    go (inr (all, none)) = none t

-- ---- the reading

whole-text : (text given : List ℕ) → reading text ≡ whole given → IsText text
unfolding reading
whole-text text given h = (completes_text text).0 (read_from-whole text 0 start tt h)

pub fault_at-stops : (text : List ℕ) (p : ℕ) → reading text ≡ fault_at p → Stops text p
unfolding reading
fault_at-stops text p h = go (read_from-fault_at text 0 start tt h)
  where
    ends : (k : ℕ) → HaltsIn start text k → Halts text k
    ends k (inl (short, none)) = inl (short, λ (t, i). none t ((completes_text (take (suc k) text ++ t)).1 i))
    ends k (inr (all, none)) = inr (all, λ i. none ((completes_text text).1 i))

    stops_at : (k : ℕ) → StopsIn start text k → Stops text k
    stops_at k s = record { start = (s.rest, (completes_text (take k text ++ s.rest)).0 s.begun); stops = ends k s.stops }

    go : Stopped start text 0 p → Stops text p
    go (stopped k at s) = let same : k ≡ p = omega arith in subst (Stops text) same (stops_at k s)

whole-hall : (text given : List ℕ) → reading text ≡ whole given → (plan : Items) × Spells text plan × (given ≡ hall plan)
whole-hall text given h =
    let (plan, s) = whole-text text given h in
    (plan, s, go plan (sym h ∙ reading-spells text plan s))
  where
    go : (plan : Items) → whole given ≡ whole (hall plan) → given ≡ hall plan
    go plan e = cc

pub exactly_the_grammar : ExactlyTheGrammar
exactly_the_grammar = record {
  wholly = λ text given. (whole-hall text given, λ (plan, s, e). reading-spells text plan s ∙ ap whole (sym e));
  stops = λ text p. (fault_at-stops text p, λ s. found text p s (reading text) refl);
}
  where
    found : (text : List ℕ) (p : ℕ) → Stops text p → (r : Reading) → reading text ≡ r → reading text ≡ fault_at p
    found text p s (whole given) h = absurd (not-both text p (whole-text text given h) s)
    found text p s (fault_at q) h = h ∙ ap fault_at (one_place_lem text q p (fault_at-stops text q h) s)

text-or-stops : (text : List ℕ) → IsText text ⊎ ((p : ℕ) × Stops text p)
text-or-stops text = go (reading text) refl
  where
    go : (r : Reading) → reading text ≡ r → IsText text ⊎ ((p : ℕ) × Stops text p)
    go (whole given) h = inl (whole-text text given h)
    go (fault_at p) h = inr (p, fault_at-stops text p h)

pub plan-or-place : PlanOrPlace
plan-or-place = record { one_plan = one-plan; one_place = one_place_lem; either = text-or-stops; not_both = not-both }
