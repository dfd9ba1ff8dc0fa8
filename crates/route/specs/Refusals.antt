-- Demand 1 for the path call: each refusal is "given exactly when that document says", in the order 9, 10, and with any of them no word lent is
-- changed.
use Rattle.std.specs.Prelude.{ℕ, ◌+◌, ◌<◌, ◌≡◌, ◌⊎◌, List, ◌++◌, length, drop}
use Rattle.address.specs.Order.{Order, done, ◌when◌otherwise◌, GivenExactly}
use Rattle.route.specs.Path.{path, listing}

-- "For a path 9, 10."
abbrev pub path_order : ℕ → ℕ → List ℕ → Order
path_order a d words =
    -- "an address is zero"
    9 when (a ≡ 0) ⊎ (d ≡ 0)
    -- "lent output too short"
    otherwise 10 when length words < length (path a d)
    otherwise done

pub record PathRefusals : Type 0 where
  pub given : (a d : ℕ) (words : List ℕ) → GivenExactly (path_order a d words) (listing a d words).answer.refusal
  -- "With any refusal the .. hop count .. [is] 0 .. and no byte or word lent is changed."
  pub beside : (a d : ℕ) (words : List ℕ) → ((listing a d words).answer.refusal ≡ 0 → ⊥)
      → ((listing a d words).answer.hops ≡ 0) × ((listing a d words).words ≡ words)
  -- "the count is the listed path's length less one"; "On success only the words or octets named are written."
  pub without : (a d : ℕ) (words : List ℕ) → (listing a d words).answer.refusal ≡ 0
      → ((listing a d words).answer.hops + 1 ≡ length (path a d)) × ((listing a d words).words ≡ path a d ++ drop (length (path a d)) words)
