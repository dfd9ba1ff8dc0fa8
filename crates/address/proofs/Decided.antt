-- What is decided: a condition either holds or fails, which is one step along an order of refusals; so does one of two. Assumes nothing.
use mathlib.Core.Logic.Dec
use mathlib.Core.Logic.{◌⊎◌, inl, inr}

-- what follows where the condition holds, and where it fails
pub decided : {condition holding failing : Type 0} → Dec condition → (condition → holding) → ((condition → ⊥) → failing)
    → (condition × holding) ⊎ ((condition → ⊥) × failing)
decided (yes h) holds fails = inl (h, holds h)
decided (no h) holds fails = inr (h, fails h)

pub one_of : {A B : Type 0} → Dec A → Dec B → Dec (A ⊎ B)
one_of (yes a) d = yes (inl a)
one_of (no n) (yes b) = yes (inr b)
one_of (no n) (no m) = no (neither n m)
  where
    neither : {A B : Type 0} → (A → ⊥) → (B → ⊥) → A ⊎ B → ⊥
    neither n m (inl a) = n a
    neither n m (inr b) = m b

pub holds : {A : Type 0} → Dec A → ((A → ⊥) → ⊥) → A
holds d h = (Dec.not-not d).0 h
