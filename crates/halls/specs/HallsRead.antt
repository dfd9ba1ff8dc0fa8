-- What is claimed of the reading of a plan: what it lists is the tree of the plan's requests, which has demand 3, and 3 is given exactly if one
-- of them is refused with 3.
use Rattle.std.specs.Prelude.{ℕ, ◌≤◌, ◌≡◌, ◌↔◌, List, ◌++◌, length, drop}
use Rattle.node.specs.Node.{child_of, set_limit}
use Rattle.packet.specs.Packet.{packet_hop}
use Rattle.tree.specs.Tree.{grown, addresses}
use Rattle.tree.specs.Demand3.{Demand3}
use Rattle.plan.specs.Limits.{most_bytes, most_nodes}
use Rattle.plan.specs.Grammar.{Items}
use Rattle.plan.specs.Hall.{nodes}
use Rattle.plan.specs.Plan.{PlanEffect}
use Rattle.plan.specs.Refusals.{PlanOf}
use Rattle.halls.specs.Requests.{events}
use Rattle.halls.specs.Halls.{SomeRepliedThree}

-- the nodes of a plan's tree, in the order in which their addresses were given, the root first
abbrev pub addresses_of : Items → List ℕ
addresses_of plan = addresses (grown child_of set_limit (events plan))

-- "The addresses in that order, the root first, go into a lent list of 64-bit words, and the answer gives their number.": they are a tree of
-- demand 3
pub record HallListed (plan : Items) (effect : PlanEffect) (words : List ℕ) : Type 0 where
  pub number : effect.answer.nodes ≡ length (addresses_of plan)
  pub listed : effect.words ≡ addresses_of plan ++ drop (length (addresses_of plan)) words
  pub demand3 : Demand3 child_of set_limit packet_hop (events plan)

-- a statement of any rule for reading a plan, so that a wrong one can be refuted by it
pub record HallsRead (rule : List ℕ → List ℕ → PlanEffect) : Type 0 where
  pub without : (text words : List ℕ) → (rule text words).answer.refusal ≡ 0 → PlanOf text (λ plan. HallListed plan (rule text words) words)
  -- "Then an address too long: 3.", where the text is not too long, is one of the grammar, and has not too many nodes
  pub too_long : (text words : List ℕ)
      → ((rule text words).answer.refusal ≡ 3) ↔ ((length text ≤ most_bytes) × PlanOf text (λ plan. (nodes plan ≤ most_nodes) × SomeRepliedThree plan))
