-- Demand 1 for making an address from a number: its refusal is "given exactly when that document says".
use Rattle.std.specs.Prelude.{ℕ, ◌≡◌}
use Rattle.address.specs.Order.{Order, done, ◌when◌otherwise◌, GivenExactly}
use Rattle.address.specs.Address.{made}

abbrev pub address_order : ℕ → Order
address_order number =
    -- "an address is zero"
    9 when number ≡ 0
    otherwise done

pub record AddressRefusals : Type 0 where
  pub given : (number : ℕ) → GivenExactly (address_order number) (made number).refusal
  -- "With any refusal the address .. and every other number returned beside its own are 0"
  pub beside : (number : ℕ) → ((made number).refusal ≡ 0 → ⊥) → (made number).address ≡ 0
  -- and without one it is the number's own
  pub without : (number : ℕ) → (made number).refusal ≡ 0 → (made number).address ≡ number
