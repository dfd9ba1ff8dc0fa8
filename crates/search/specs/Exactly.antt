-- What the words of the search mean, told apart from their tests: statements alone.
use Rattle.std.specs.Prelude.{ℕ, ◌≡◌, true, ◌⊎◌, ◌↔◌, List, [], ◌∷◌, ◌++◌, replicate}
use Rattle.address.specs.Bits.{Bit, O, I, bits}
use Rattle.address.specs.Steps.{steps}
use Rattle.address.specs.Kinds.{IsRoot, IsRouter}
use Rattle.address.specs.Numbers.{IsAddress}
use Rattle.address.specs.Ancestors.{AncestorOrSelf}
use Rattle.search.specs.Search.{looked_at, same_bit, is_prefix}

-- "stop at the first 0 or at D's last bit": a beginning, ones and then the first 0; or ones alone, and nothing is left
pub record Stops (bs : List Bit) : Type 0 where
  pub ones : ℕ
  pub rest : List Bit
  pub beginning : bs ≡ looked_at bs ++ rest
  pub stop : (looked_at bs ≡ replicate ones I ++ (O ∷ [])) ⊎ ((looked_at bs ≡ replicate ones I) × (rest ≡ []))

pub record SearchWords : Type 0 where
  pub same : (b c : Bit) → (same_bit b c ≡ true) ↔ (b ≡ c)
  -- one string begins another exactly if there is a rest
  pub begins : (cs ds : List Bit) → (is_prefix cs ds ≡ true) ↔ ((rest : List Bit) × (ds ≡ cs ++ rest))
  pub looked : (bs : List Bit) → Stops bs
  -- the root or a router is a prefix of an address, in bits, exactly if its steps begin the address's steps
  pub by_steps : (c d : ℕ) → IsAddress c → IsAddress d → IsRoot c ⊎ IsRouter c → (is_prefix (bits c) (bits d) ≡ true) ↔ AncestorOrSelf (steps c) (steps d)
