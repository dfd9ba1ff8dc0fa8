-- An answer's number is 0 where it is done, and there alone; and with what is done it leaves one answer. Assumes nothing.
use Rattle.std.specs.Prelude.{◌≡◌, ℕ, Result, Ok, Err, IsOk}
use Rattle.std.proofs.Common.{refl, sym, ap, ◌∙◌}
use Rattle.refusal.specs.declared.Refusal.{Refusal}
use Rattle.refusal.specs.Refusal.{number_of}
use Rattle.refusal.specs.Outcome.{outcome_number, OutcomesTold}
use Rattle.refusal.proofs.Numbers.{some, one}

pub outcome-done : {A : Type 0} (r : Result A Refusal) → outcome_number r ≡ 0 → IsOk r
outcome-done (Ok value) e = refl
outcome-done (Err r) e = absurd (some r e)

pub outcomes-told : OutcomesTold
outcomes-told A (Ok value) = (λ e. refl, λ h. refl)
outcomes-told A (Err r) = (λ e. absurd (some r e), λ h. cc)

-- wherever a definition turns an answer into numbers so: a refusal into its own, and what is done into 0 and values from which it can be had back
pub one-answer : {A W : Type 0} (answer : Result A Refusal → W) (refusal : W → ℕ) (done : W → A)
    → ((a : A) → refusal (answer (Ok a)) ≡ 0) → ((a : A) → done (answer (Ok a)) ≡ a) → ((x : Refusal) → refusal (answer (Err x)) ≡ number_of x)
    → (r s : Result A Refusal) → answer r ≡ answer s → r ≡ s
one-answer answer refusal done zero back number (Ok a) (Ok b) e = ap Ok (sym (back a) ∙ ap done e ∙ back b)
one-answer answer refusal done zero back number (Err x) (Err y) e = ap Err (one x y (sym (number x) ∙ ap refusal e ∙ number y))
one-answer answer refusal done zero back number (Ok a) (Err y) e = absurd (some y (sym (number y) ∙ ap refusal (sym e) ∙ zero a))
one-answer answer refusal done zero back number (Err x) (Ok b) e = absurd (some x (sym (number x) ∙ ap refusal e ∙ zero b))
