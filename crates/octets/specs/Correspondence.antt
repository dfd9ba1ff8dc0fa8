-- That the tests and the numbers say of octets what is meant, apart from how they are computed: the statements alone.
use Rattle.std.specs.Prelude.{◌≡◌, true, ◌↔◌, List, ◌∷◌, ℕ, ◌+◌, ◌*◌, ◌^◌, ◌<◌, length, replicate}
use Rattle.octets.specs.Octets.{octets, value, same, AreOctets}

-- the test says so exactly of the same octets
abbrev pub SameExactly : Type 0
SameExactly = (xs ys : List ℕ) → (same xs ys ≡ true) ↔ (xs ≡ ys)

-- the numbers below 256 ^ k and k octets correspond one to one
pub record OctetsOneToOne : Type 0 where
  pub held : (k n : ℕ) → n < 256 ^ k → AreOctets (octets k n) × (length (octets k n) ≡ k) × (value (octets k n) ≡ n)
  pub shown : (os : List ℕ) → AreOctets os → (value os < 256 ^ length os) × (octets (length os) (value os) ≡ os)
  -- "most significant octet first"
  pub most_first : (o : ℕ) (os : List ℕ) → value (o ∷ os) ≡ o * 256 ^ length os + value os
  -- zero is zeros alone, be they octets or not
  pub zeros : (os : List ℕ) → (value os ≡ 0) ↔ (os ≡ replicate (length os) 0)
