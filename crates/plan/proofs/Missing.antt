-- The addresses that are missing among some: those in whose place there is 0. Assumes nothing.
use mathlib.Core.Path.{◌≡◌, refl}
use mathlib.Core.Logic.{◌↔◌, ⊎_elim}
use mathlib.Core.List.Memᴰ
use mathlib.Core.List.Memᴰ.{head as first}
use mathlib.Core.List.Memᴰ.{tail as later}
use mathlib.Core.List.{List, [], ◌∷◌, ◌++◌, Memᴰ}
use Prim.Native.Nat.{ℕ, zero, suc, ◌+◌, ◌≤◌, ◌<◌}
use native.Mathlib.Omega.{arith}
use lib.ListN.{length}
use Rattle.std.proofs.Common.{nat_eq}
use mir.Val.{bool_byte}
use borrow.Author.Tests.{ne_eqb}
use Rattle.plan.specs.Plan.{missing}

-- whether an address is missing, as the code counts it
pub missing_one : (a : ℕ) → missing (a ∷ []) ≡ bool_byte (nat_eq a 0)
unfolding missing
missing_one zero = refl
missing_one (suc a) = rw (ne_eqb (suc a) 0 (λ z. omega arith)) refl

pub missing-le : (given : List ℕ) → missing given ≤ length given
unfolding missing
missing-le [] = omega arith
missing-le (zero ∷ given) = omega (arith, missing-le given)
missing-le (suc a ∷ given) = omega (arith, missing-le given)

pub missing-append : (given others : List ℕ) → missing (given ++ others) ≡ missing given + missing others
unfolding missing
missing-append [] others = omega arith
missing-append (zero ∷ given) others = omega (arith, missing-append given others)
missing-append (suc a ∷ given) others = missing-append given others

-- some are missing exactly if 0 stands among them
pub missing_mem : (given : List ℕ) → (0 < missing given) ↔ Memᴰ 0 given
unfolding missing
missing_mem [] = (λ h. absurd (omega arith), λ m. elim m [ ])
missing_mem (zero ∷ given) = (λ h. first refl, λ m. omega arith)
missing_mem (suc a ∷ given) = (
  λ h. later ((missing_mem given).0 h),
  λ m. ⊎_elim (λ e. absurd (omega arith)) (missing_mem given).1 (Memᴰ.cases_cons m),
)
