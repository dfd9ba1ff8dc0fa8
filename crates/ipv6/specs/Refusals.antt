-- Demand 1 for the IPv6 form: each refusal is "given exactly when that document says", in the document's order. The conditions are the
-- document's words about lengths and octets, apart from the tests that `form_writing` and `form_reading` run.
use Rattle.std.specs.Prelude.{◌≡◌, ◌⊎◌, List, ◌++◌, ℕ, ◌<◌, length, take, drop, replicate}
use Rattle.address.specs.Order.{Order, done, ◌when◌otherwise◌, GivenExactly}
use Rattle.octets.specs.Octets.{value}
use Rattle.octets.specs.Lent.{RefusalLeaves, SuccessWrites}
use Rattle.ipv6.specs.Form.{form, form_writing, form_reading}

-- ---- writing

-- "For IPv6 out 12, 9, 10."
abbrev pub form_writing_order : List ℕ → ℕ → List ℕ → Order
form_writing_order prefix a buffer =
    -- "a prefix isn't 8" octets
    12 when (length prefix ≡ 8 → ⊥)
    -- "an address is zero"
    otherwise 9 when a ≡ 0
    -- "lent output too short"
    otherwise 10 when length buffer < 16
    otherwise done

pub record FormWriteRefusals : Type 0 where
  pub given : (prefix : List ℕ) (a : ℕ) (buffer : List ℕ)
      → GivenExactly (form_writing_order prefix a buffer) (form_writing prefix a buffer).answer.refusal
  pub beside : (prefix : List ℕ) (a : ℕ) (buffer : List ℕ) → RefusalLeaves buffer (form_writing prefix a buffer)
  pub without : (prefix : List ℕ) (a : ℕ) (buffer : List ℕ) → SuccessWrites (form prefix a) buffer (form_writing prefix a buffer)

-- ---- reading

-- "For IPv6 back 12, 8, 9."
abbrev pub form_reading_order : List ℕ → List ℕ → Order
form_reading_order prefix ipv6 =
    -- "an IPv6 address isn't 16 octets, or a prefix isn't 8"
    12 when ((length ipv6 ≡ 16 → ⊥) ⊎ (length prefix ≡ 8 → ⊥))
    -- "IPv6 prefix differs": "the first 8 octets must equal the prefix"
    otherwise 8 when (take 8 ipv6 ≡ prefix → ⊥)
    -- "an address is zero": "the other 8 are the address"
    otherwise 9 when drop 8 ipv6 ≡ replicate 8 0
    otherwise done

-- "prefix of 8 octets, then the address in 8 octets"
pub record AcceptedForm (prefix ipv6 : List ℕ) (address : ℕ) : Type 0 where
  pub os : List ℕ
  pub laid : ipv6 ≡ prefix ++ os
  pub halves : (length prefix ≡ 8) × (length os ≡ 8)
  pub number : address ≡ value os

pub record FormReadRefusals : Type 0 where
  pub given : (prefix ipv6 : List ℕ) → GivenExactly (form_reading_order prefix ipv6) (form_reading prefix ipv6).refusal
  -- "With any refusal the address, .. and every other number returned beside its own are 0"
  pub beside : (prefix ipv6 : List ℕ) → ((form_reading prefix ipv6).refusal ≡ 0 → ⊥) → (form_reading prefix ipv6).address ≡ 0
  pub without : (prefix ipv6 : List ℕ) → (form_reading prefix ipv6).refusal ≡ 0 → AcceptedForm prefix ipv6 (form_reading prefix ipv6).address
