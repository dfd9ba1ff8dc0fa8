-- The first condition of an order that holds: there is one number, and a chain of tests finds it.
use Rattle.std.specs.Prelude.{if◌then◌else◌}
use Prim.Native.Nat.{ℕ, ◌<◌}
use mathlib.Core.Path.{◌≡◌, refl, sym, subst, ◌∙◌}
use mathlib.Core.Bool.{Bool, true, false}
use mathlib.Core.Logic.{inl, inr}
use native.Mathlib.Omega.{arith}
use Rattle.address.specs.Order.{Order, done, ◌when◌otherwise◌, ◌then◌, First, GivenExactly}

pub first-only : (order : Order) {r k : ℕ} → First order r → First order k → r ≡ k
first-only done e f = e ∙ sym f
first-only (n when p otherwise rest) (inl h) (inl i) = h.1 ∙ sym i.1
first-only (n when p otherwise rest) (inl h) (inr i) = absurd (i.0 h.0)
first-only (n when p otherwise rest) (inr h) (inl i) = absurd (h.0 i.0)
first-only (n when p otherwise rest) (inr h) (inr i) = first-only rest h.1 i.1

pub given-exactly : (order : Order) {r : ℕ} → First order r → GivenExactly order r
given-exactly order {r} h k = (λ e. subst (λ (x : ℕ). First order x) e h, λ f. first-only order h f)

-- an answer by a test: where the test tells the condition, and the answer of its first branch has the condition's number
pub first-if : {E : Type 0} (number : E → ℕ) (t : Bool) (a b : E) {n : ℕ} {p : Type 0} (rest : Order) → number a ≡ n → (t ≡ true → p)
    → (t ≡ false → (p → ⊥) × First rest (number b)) → First (n when p otherwise rest) (number (if t then a else b))
first-if number true a b rest e holds fails = inl (holds refl, e)
first-if number false a b rest e holds fails = inr (fails refl)

-- no condition has the number 0, which is "done"
abbrev pub Numbered : Order → Type 0
Numbered done = Unit {0}
Numbered (n when p otherwise rest) = (0 < n) × Numbered rest

-- one order behind another: the second decides where the first finds nothing
pub first_then : (order after : Order) {r s t : ℕ} → Numbered order → First order r → (r ≡ 0 → First after s) → (r ≡ 0 → t ≡ s) → ((r ≡ 0 → ⊥) → t ≡ r)
    → First (order then after) t
unfolding ◌then◌
first_then done after numbered e behind same other = subst (λ (x : ℕ). First after x) (sym (same e)) (behind e)
first_then (n when p otherwise rest) after numbered (inl h) behind same other = inl (h.0, other (λ z. omega (arith, numbered.0, h.1)) ∙ h.1)
first_then (n when p otherwise rest) after numbered (inr h) behind same other =
    inr (h.0, first_then rest after numbered.1 h.1 behind same other)
