-- The number that an answer gives, whatever it answers where it is done; and the statement that it tells which of the two it is.
use Rattle.std.specs.Prelude.{◌≡◌, ◌↔◌, ℕ, Result, Ok, Err, IsOk}
use Rattle.refusal.specs.declared.Refusal.{Refusal}
use Rattle.refusal.specs.Refusal.{number_of}

-- "0 is done", and else it is the refusal's
abbrev pub outcome_number : {A : Type 0} → Result A Refusal → ℕ
outcome_number (Ok value) = 0
outcome_number (Err r) = number_of r

-- it is 0 exactly where the answer is done
abbrev pub OutcomesTold : Type 1
OutcomesTold = (A : Type 0) (r : Result A Refusal) → (outcome_number r ≡ 0) ↔ IsOk r
