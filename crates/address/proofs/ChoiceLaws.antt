-- What is known where a check found no fault: a choice between a fault's number and what the next check says is 0 only by the next check.
-- Assumes nothing.
use Rattle.std.specs.Prelude.{if◌then◌else◌}
use mathlib.Core.Path.{◌≡◌, refl}
use mathlib.Core.Bool.{Bool, true, false}
use Prim.Native.Nat.{ℕ, suc}
use native.Mathlib.Omega.{arith}

pub if-zero : (t : Bool) (fault rest : ℕ) → (if t then suc fault else rest) ≡ 0 → (t ≡ false) × (rest ≡ 0)
if-zero true fault rest e = absurd (omega arith)
if-zero false fault rest e = (refl, e)

pub else_zero : (t : Bool) (rest fault : ℕ) → (if t then rest else suc fault) ≡ 0 → (t ≡ true) × (rest ≡ 0)
else_zero true rest fault e = (refl, e)
else_zero false rest fault e = absurd (omega arith)
