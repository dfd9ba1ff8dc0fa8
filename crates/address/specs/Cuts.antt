-- "the string is cut into steps", and "Every address has exactly one such reading.": the statements alone. The word reading is kept for what
-- comes from outside; here it is a cut.
use Rattle.std.specs.Prelude.{◌≡◌, ℕ, ◌≤◌, List, [], ◌∷◌, length}
use Rattle.address.specs.Bits.{bits, longest}
use Rattle.address.specs.Steps.{Step, child, router, host, steps, spelled, address_of}
use Rattle.address.specs.Numbers.{IsAddress}

-- every step leads to a router
abbrev pub AllRouters : List Step → Type 0
AllRouters [] = Unit {0}
AllRouters (child router i ∷ up) = AllRouters up
AllRouters (child host i ∷ up) = ⊥

-- steps that an address can have: only the last one may lead to a host
abbrev pub AreSteps : List Step → Type 0
AreSteps [] = Unit {0}
AreSteps (s ∷ up) = AllRouters up

-- "Every address has exactly one such reading.": it has one, whatever else spells it is the same, and all steps of at most 64 bits are those
-- of the address they spell
pub record ExactlyOneCut : Type 0 where
  pub has : (n : ℕ) → IsAddress n → AreSteps (steps n) × (spelled (steps n) ≡ bits n)
  pub only : (n : ℕ) (ss : List Step) → IsAddress n → AreSteps ss → spelled ss ≡ bits n → ss ≡ steps n
  pub back : (ss : List Step) → AreSteps ss → length (spelled ss) ≤ longest → IsAddress (address_of ss) × (steps (address_of ss) ≡ ss)
