-- Demand 1 for the request for a child and the setting of a limit: each refusal is "given exactly when that document says", in the order 1, 2, 15,
-- 3, and with any of them "a returned record is the one handed in".
use Rattle.std.specs.Prelude.{ℕ, ◌+◌, ◌-◌, ◌<◌, ◌≤◌, ◌≡◌, true, ◌⊎◌, ◌↔◌}
use Rattle.address.specs.Bits.{longest}
use Rattle.address.specs.Address.{bit_length}
use Rattle.address.specs.Kinds.{IsRoot, IsRouter, IsHost}
use Rattle.address.specs.Order.{Order, done, ◌when◌otherwise◌, GivenExactly}
use Rattle.address.specs.declared.Kind.{Kind}
use Rattle.node.specs.Node.{Node, Given, Limited, address_in, no_cap, count, raised, limit, with_limit, is_good}

-- "For the root or a router of n bits each count is 0 to 64-n. For a host both are 0."
pub data FitsAddress (n : Node) : Type 0 where
  inner : IsRoot (address_in n) ⊎ IsRouter (address_in n) → n.routers ≤ longest - bit_length (address_in n)
      → n.hosts ≤ longest - bit_length (address_in n) → FitsAddress n
  outer : IsHost (address_in n) → n.routers ≡ 0 → n.hosts ≡ 0 → FitsAddress n

-- "two limits, routers and hosts, 0 to 64 each"; "a limit above 64, or a count above its limit, makes the record bad"
pub record FitsLimits (n : Node) : Type 0 where
  pub most : (kind : Kind) → limit kind n ≤ no_cap
  pub kept : (kind : Kind) → count kind n ≤ limit kind n

pub record IsGood (n : Node) : Type 0 where
  pub address : FitsAddress n
  pub limits : FitsLimits n

-- "Any other record is bad."
abbrev pub IsBad : Node → Type 0
IsBad n = IsGood n → ⊥

-- "own address, then as many ones as the old count of that kind, then 0 for a router or 1 for a host"
abbrev pub child_length : Node → Kind → ℕ
child_length n kind = bit_length (address_in n) + count kind n + 1

-- "a child at its limit": as many children of the kind are given as it may give
abbrev pub AtLimit : Node → Kind → Type 0
AtLimit n kind = count kind n ≡ limit kind n

-- "Order: for a child 1, 2, 3."; "Asked for a child at its limit, a node answers 15, after 2 and before 3."
abbrev pub child_order : Node → Kind → Order
child_order n kind =
    -- "the node record is bad"
    1 when IsBad n
    -- "a host is asked for a child"
    otherwise 2 when IsHost (address_in n)
    -- "Asked for a child at its limit"
    otherwise 15 when AtLimit n kind
    -- "the child would be longer than 64 bits"
    otherwise 3 when longest < child_length n kind
    otherwise done

-- the test is right about every record
abbrev pub GoodRecords : Type 0
GoodRecords = (n : Node) → (is_good n ≡ true) ↔ IsGood n

-- a statement of any rule for a child, so that a wrong one can be refuted by it
pub record ChildRefusals (rule : Node → Kind → Given) : Type 0 where
  pub given : (n : Node) (kind : Kind) → GivenExactly (child_order n kind) (rule n kind).refusal
  -- "With any refusal the address .. and every other number returned beside its own are 0, a returned record is the one handed in"
  pub beside : (n : Node) (kind : Kind) → ((rule n kind).refusal ≡ 0 → ⊥) → ((rule n kind).child.number ≡ 0) × ((rule n kind).node ≡ n)
  -- "the node hands itself back with one count raised"
  pub without : (n : Node) (kind : Kind) → (rule n kind).refusal ≡ 0 → (rule n kind).node ≡ raised kind n

-- "Setting a limit outside 0 to 64 or below its count, or on a bad record, is refused with 1": a limit is asked as a number from 0 on
abbrev pub setting_order : Node → Kind → ℕ → Order
setting_order n kind k = 1 when (no_cap < k) ⊎ (k < count kind n) ⊎ IsBad n otherwise done

-- a statement of any rule for a setting
pub record SettingRefusals (rule : Node → Kind → ℕ → Limited) : Type 0 where
  pub given : (n : Node) (kind : Kind) (k : ℕ) → GivenExactly (setting_order n kind k) (rule n kind k).refusal
  -- "a returned record is the one handed in"
  pub beside : (n : Node) (kind : Kind) (k : ℕ) → ((rule n kind k).refusal ≡ 0 → ⊥) → (rule n kind k).node ≡ n
  -- "otherwise the record comes back with that limit as asked and nothing else changed"
  pub without : (n : Node) (kind : Kind) (k : ℕ) → (rule n kind k).refusal ≡ 0 → (rule n kind k).node ≡ with_limit kind k n
