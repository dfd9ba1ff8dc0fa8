-- Which refusal an entry gives: "Given exactly when", and the "Order". An entry's conditions stand in the document's order, each with its
-- number; they are propositions in the document's words, apart from the tests that the definitions run.
use Rattle.std.specs.Prelude.{ℕ, ◌≡◌, ◌⊎◌, ◌↔◌}

infixr 20 ◌when◌otherwise◌
pub data Order : Type 1 where
  -- "0 is done."
  done : Order
  ◌when◌otherwise◌ : ℕ → Type 0 → Order → Order

-- one order behind another
infixr 15 ◌then◌
unfoldable pub ◌then◌ : Order → Order → Order
done then after = after
(n when condition otherwise rest) then after = n when condition otherwise (rest then after)

-- the number is that of the first condition that holds, none before it does; and 0 where none does
abbrev pub First : Order → ℕ → Type 0
First done r = r ≡ 0
First (n when condition otherwise rest) r = (condition × (r ≡ n)) ⊎ ((condition → ⊥) × First rest r)

-- "Given exactly when": for every number, the refusal is this number exactly if its condition holds and none that comes before it in the
-- order does; otherwise it is 0
abbrev pub GivenExactly : Order → ℕ → Type 0
GivenExactly order refusal = (k : ℕ) → (refusal ≡ k) ↔ First order k
