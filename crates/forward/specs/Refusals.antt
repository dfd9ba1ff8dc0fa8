-- Demand 1 for the next hop from an address: each refusal is "given exactly when that document says", in the order 1, 9, 7. The document's
-- addresses and records hold 64-bit numbers, and so do the statements.
use Rattle.std.specs.Prelude.{ℕ, ◌^◌, ◌<◌, ◌≤◌, ◌≡◌, List, ◌∷◌, ◌++◌}
use Rattle.address.specs.Bits.{longest}
use Rattle.address.specs.Steps.{Step, child, steps}
use Rattle.address.specs.Order.{Order, done, ◌when◌otherwise◌, GivenExactly}
use Rattle.address.specs.declared.Kind.{Kind}
use Rattle.node.specs.Node.{address_in, count}
use Rattle.node.specs.Refusals.{IsBad}
use Rattle.node.specs.declared.Node.{Node}
use Rattle.forward.specs.Forward.{HopAnswer, stop, refused_hop}

-- "destination below this node, child not given": the destination's steps go on behind the node's, and the index of the next one is not below
-- the node's count of that kind
pub record ChildNotGiven (n : Node) (d : ℕ) : Type 0 where
  pub kind : Kind
  pub index : ℕ
  pub more : List Step
  pub below : steps d ≡ more ++ (child kind index ∷ steps (address_in n))
  pub absent : count kind n ≤ index

-- "For a next hop from an address 1, 9, 7"
abbrev pub hop_order : Node → ℕ → Order
hop_order n d =
    -- "the node record is bad"
    1 when IsBad n
    -- "an address is zero"
    otherwise 9 when d ≡ 0
    otherwise 7 when ChildNotGiven n d
    otherwise done

-- a statement of any rule for the next hop from an address, so that a wrong one can be refuted by it
pub record HopRefusals (rule : Node → ℕ → HopAnswer) : Type 0 where
  pub given : (n : Node) (d : ℕ) → address_in n < 2 ^ longest → d < 2 ^ longest → GivenExactly (hop_order n d) (rule n d).refusal
  -- "With any refusal .. every other number returned beside its own are 0": no node is named
  pub beside : (n : Node) (d : ℕ) → ((rule n d).refusal ≡ 0 → ⊥) → rule n d ≡ refused_hop (rule n d).refusal
  -- and without one the packet does not stop
  pub without : (n : Node) (d : ℕ) → (rule n d).refusal ≡ 0 → (rule n d).action ≡ stop → ⊥
