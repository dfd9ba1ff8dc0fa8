-- That a refusal's number says which it is: the statement alone.
use Rattle.std.specs.Prelude.{◌≡◌}
use Rattle.refusal.specs.declared.Refusal.{Refusal}
use Rattle.refusal.specs.Refusal.{number_of}

pub record Numbered : Type 0 where
  -- "0 is done"
  pub some : (r : Refusal) → number_of r ≡ 0 → ⊥
  pub one : (r s : Refusal) → number_of r ≡ number_of s → r ≡ s
