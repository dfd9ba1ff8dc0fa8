-- A number in decimal digits, and the number that digits say: read apart from how they were written.
use Rattle.std.specs.Prelude.{◌≡◌, List, [], ◌∷◌, ℕ, ◌+◌, ◌*◌, ◌-◌, ◌≤◌, ◌<◌}
use Rattle.address.specs.Numbers.{IsAddress}
use Rattle.route.specs.Path.{path, hops}
use Rattle.line.specs.Line.{digit_zero, decimal}

-- the number n with some decimal digits behind its own
unfoldable pub decimal_from : ℕ → List ℕ → ℕ
decimal_from n [] = n
decimal_from n (o ∷ os) = decimal_from (n * 10 + (o - digit_zero)) os

-- the number that decimal digits say, most significant first
unfoldable pub decimal_value : List ℕ → ℕ
decimal_value os = decimal_from 0 os

-- ASCII 0 to 9
abbrev pub AreDecimalDigits : List ℕ → Type 0
AreDecimalDigits [] = Unit {0}
AreDecimalDigits (o ∷ os) = ((48 ≤ o) × (o ≤ 57)) × AreDecimalDigits os

-- a number below 1000 has the usual text: digits, at least one, that say the number, and no zero in front of another digit
pub record DecimalReadsBack : Type 0 where
  pub digits : (n : ℕ) → n < 1000 → AreDecimalDigits (decimal n)
  pub value : (n : ℕ) → n < 1000 → decimal_value (decimal n) ≡ n
  pub some : (n : ℕ) → decimal n ≡ [] → ⊥
  pub unpadded : (n : ℕ) (rest : List ℕ) → decimal n ≡ digit_zero ∷ rest → (n ≡ 0) × (rest ≡ [])
  -- "It has at most 126 addresses (125 hops).": so a path's hops are such a number
  pub hops_below : (a d : ℕ) → IsAddress a → IsAddress d → hops (path a d) < 1000
