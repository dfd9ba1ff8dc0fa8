-- What a child is to the node that gave it: the statement alone.
use Rattle.std.specs.Prelude.{ℕ, ◌+◌, ◌^◌, ◌<◌, ◌≡◌, true, ◌∷◌, ◌++◌}
use Rattle.address.specs.Bits.{longest, bits}
use Rattle.address.specs.Steps.{child, steps, step_bits}
use Rattle.address.specs.Address.{depth, parent}
use Rattle.address.specs.Numbers.{IsAddress}
use Rattle.address.specs.declared.Kind.{Kind}
use Rattle.node.specs.Node.{Node, address_in, count, limit, is_good, child_of}

pub record IsChild (n : Node) (kind : Kind) (d : ℕ) : Type 0 where
  pub address : IsAddress d
  -- "own address, then as many ones as the old count of that kind, then 0 for a router or 1 for a host"
  pub spells : bits d ≡ bits (address_in n) ++ step_bits (child kind (count kind n))
  -- one step more
  pub cut : steps d ≡ child kind (count kind n) ∷ steps (address_in n)
  pub deeper : depth d ≡ depth (address_in n) + 1
  -- the parent of a child is the node
  pub parent_of : parent d ≡ address_in n

-- for every record of a 64-bit address that gives a child
pub record GivesChildren : Type 0 where
  pub is_child : (n : Node) (kind : Kind) → address_in n < 2 ^ longest → (child_of n kind).refusal ≡ 0 → IsChild n kind (child_of n kind).child.number
  -- a request keeps the record good, refused or not, its address and its limits
  pub keeps_good : (n : Node) (kind : Kind) → is_good n ≡ true → is_good (child_of n kind).node ≡ true
  pub keeps_address : (n : Node) (kind : Kind) → address_in (child_of n kind).node ≡ address_in n
  pub keeps_limits : (n : Node) (kind other : Kind) → limit other (child_of n kind).node ≡ limit other n
