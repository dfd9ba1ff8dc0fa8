-- Which addresses are the root, a router and a host: propositions by the last bit of the bit string, apart from the test `is_host`.
use Rattle.std.specs.Prelude.{ℕ, ◌<◌, ◌≡◌, true, ◌⊎◌, ◌↔◌, List, [], ◌∷◌, ◌++◌}
use Rattle.address.specs.Bits.{Bit, O, I, bits, root}
use Rattle.address.specs.Address.{bit_length, is_host}

-- the bit string of a number ends in this bit
abbrev pub EndsIn : Bit → ℕ → Type 0
EndsIn b a = (front : List Bit) × (bits a ≡ front ++ (b ∷ []))

-- "The root is 1."
abbrev pub IsRoot : ℕ → Type 0
IsRoot a = a ≡ root

-- "A router ends in 0."
abbrev pub IsRouter : ℕ → Type 0
IsRouter a = EndsIn O a

-- "A host ends in 1 and is longer than one bit."
abbrev pub IsHost : ℕ → Type 0
IsHost a = EndsIn I a × (1 < bit_length a)

pub record Kinds : Type 0 where
  -- the test is right about every number, zero included
  pub tested : (a : ℕ) → (is_host a ≡ true) ↔ IsHost a
  -- every number but zero is the root, a router or a host
  pub some : (a : ℕ) → 0 < a → IsRoot a ⊎ IsRouter a ⊎ IsHost a
  -- "The root ends in 1 and is no host.", and no router is the root or a host
  pub root_ends : EndsIn I root
  pub root_no_host : IsHost root → ⊥
  pub router_no_root : (a : ℕ) → IsRouter a → IsRoot a → ⊥
  pub router_no_host : (a : ℕ) → IsRouter a → IsHost a → ⊥
