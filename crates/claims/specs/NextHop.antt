-- "The next hop", rules 1 to 4, by steps, which is what a tree is made of; and from a packet.
use Rattle.std.specs.Prelude.{ℕ, ◌^◌, ◌<◌, ◌≤◌, ◌≡◌, List, ◌∷◌, ◌++◌}
use Rattle.address.specs.Steps.{Step, child, steps, address_of}
use Rattle.address.specs.Address.{parent}
use Rattle.address.specs.Numbers.{IsAddress}
use Rattle.address.specs.Ancestors.{AncestorOrSelf}
use Rattle.address.specs.Kinds.{IsHost}
use Rattle.address.specs.declared.Kind.{Kind}
use Rattle.header.specs.Header.{reading}
use Rattle.node.specs.Node.{address_in, count}
use Rattle.node.specs.Refusals.{IsGood}
use Rattle.node.specs.declared.Node.{Node}
use Rattle.forward.specs.Forward.{deliver, to_parent, to_child, stop, deliver_at, up_to, down_to, refused_hop, next_hop}
use Rattle.packet.specs.Packet.{packet_hop}
use Rattle.batch.specs.Batch.{next_hops}
use Rattle.batch.specs.Exactly.{IsBatch}

-- what the answers say, number by number
pub record HopAnswers : Type 0 where
  pub delivered : (c : ℕ) → deliver_at c ≡ record { refusal = 0; action = deliver; named = c }
  pub up : (x : ℕ) → up_to x ≡ record { refusal = 0; action = to_parent; named = x }
  pub down : (x : ℕ) → down_to x ≡ record { refusal = 0; action = to_child; named = x }
  pub refused : (k : ℕ) → refused_hop k ≡ record { refusal = k; action = stop; named = 0 }

-- "With a good record of address C and a destination D"
pub record NextHop : Type 0 where
  -- "1. D equals C: deliver."; "on delivery C itself"
  pub same : (n : Node) (d : ℕ) → IsGood n → address_in n < 2 ^ 64 → IsAddress d → d ≡ address_in n → next_hop n d ≡ deliver_at (address_in n)
  -- "2. C is a host: pass to the parent."
  pub host : (n : Node) (d : ℕ) → IsGood n → address_in n < 2 ^ 64 → IsAddress d → IsHost (address_in n) → (d ≡ address_in n → ⊥)
      → next_hop n d ≡ up_to (parent (address_in n))
  -- "3. C is the root or a router and is not a prefix of D: pass to the parent."
  pub elsewhere : (n : Node) (d : ℕ) → IsGood n → address_in n < 2 ^ 64 → IsAddress d → (AncestorOrSelf (steps (address_in n)) (steps d) → ⊥)
      → next_hop n d ≡ up_to (parent (address_in n))
  -- "4. C is a proper prefix of D": D's steps go on behind C's, and the first of those is the child. "If its index is below the node's count of
  -- that kind, pass to it."
  pub given : (n : Node) (d : ℕ) → IsGood n → address_in n < 2 ^ 64 → IsAddress d
      → (more : List Step) (kind : Kind) (i : ℕ) → steps d ≡ more ++ (child kind i ∷ steps (address_in n)) → i < count kind n
      → next_hop n d ≡ down_to (address_of (child kind i ∷ steps (address_in n)))
  -- "Otherwise refusal 7."
  pub not_given : (n : Node) (d : ℕ) → IsGood n → address_in n < 2 ^ 64 → IsAddress d
      → (more : List Step) (kind : Kind) (i : ℕ) → steps d ≡ more ++ (child kind i ∷ steps (address_in n)) → count kind n ≤ i
      → next_hop n d ≡ refused_hop 7
  -- without a refusal the packet goes on or is delivered
  pub goes_on : (n : Node) (d : ℕ) → (next_hop n d).refusal ≡ 0 → (next_hop n d).action ≡ stop → ⊥
  -- "From a packet it is the answer for the address read."
  pub from_packet : (n : Node) (p : List ℕ) → (packet_hop n p).refusal ≡ 0 → ((reading p).refusal ≡ 0) × (packet_hop n p ≡ next_hop n (reading p).address)
  -- for many destinations, each as a single call answers it
  pub for_many : (n : Node) (ds nodes actions refusals : List ℕ)
      → IsBatch n ds nodes actions refusals (next_hops n ds nodes actions refusals).count
