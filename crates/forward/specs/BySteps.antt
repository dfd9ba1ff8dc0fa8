-- Rules 1 to 4 once more, by steps, which is what a tree is made of: the statement alone.
use Rattle.std.specs.Prelude.{ℕ, ◌^◌, ◌<◌, ◌≤◌, ◌≡◌, List, ◌∷◌, ◌++◌}
use Rattle.address.specs.Bits.{longest}
use Rattle.address.specs.Steps.{Step, child, steps, address_of}
use Rattle.address.specs.Address.{parent}
use Rattle.address.specs.Numbers.{IsAddress}
use Rattle.address.specs.Ancestors.{AncestorOrSelf}
use Rattle.address.specs.declared.Kind.{Kind}
use Rattle.node.specs.Node.{address_in, count}
use Rattle.node.specs.Refusals.{IsGood}
use Rattle.node.specs.declared.Node.{Node}
use Rattle.forward.specs.Forward.{deliver_at, up_to, down_to, refused_hop, next_hop}

-- "With a good record of address C and a destination D"
pub record RulesBySteps (n : Node) (d : ℕ) : Type 0 where
  -- "D equals C: deliver."; "on delivery C itself"
  pub same : d ≡ address_in n → next_hop n d ≡ deliver_at (address_in n)
  -- a host has nothing below it; the root or a router that is not a prefix of D is not on D's way
  pub elsewhere : (AncestorOrSelf (steps (address_in n)) (steps d) → ⊥) → next_hop n d ≡ up_to (parent (address_in n))
  -- "C is a proper prefix of D": D's steps go on behind C's, and the first of those names the child
  pub below : (more : List Step) (kind : Kind) (i : ℕ) → steps d ≡ more ++ (child kind i ∷ steps (address_in n)) → i < count kind n
      → next_hop n d ≡ down_to (address_of (child kind i ∷ steps (address_in n)))
  pub absent : (more : List Step) (kind : Kind) (i : ℕ) → steps d ≡ more ++ (child kind i ∷ steps (address_in n)) → count kind n ≤ i
      → next_hop n d ≡ refused_hop 7

abbrev pub BySteps : Type 0
BySteps = (n : Node) (d : ℕ) → IsGood n → address_in n < 2 ^ longest → IsAddress d → RulesBySteps n d
