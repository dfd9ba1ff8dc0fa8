-- What the call for many destinations comes to, told apart from its definition: statements alone. It refuses nothing itself; the refusal of one
-- destination is written at its index, and a slice that is too short only shortens the batch.
use Rattle.std.specs.Prelude.{ℕ, ◌≤◌, ◌≡◌, ◌⊎◌, List, ◌++◌, map, length, take, drop}
use Rattle.node.specs.declared.Node.{Node}
use Rattle.forward.specs.Forward.{next_hop}
use Rattle.batch.specs.Exported.{action_number}
use Rattle.batch.specs.Batch.{next_hops}

pub record IsBatch (n : Node) (ds nodes actions refusals : List ℕ) (k : ℕ) : Type 0 where
  -- as many as the shortest slice allows
  pub within : (k ≤ length ds) × (k ≤ length nodes) × (k ≤ length actions) × (k ≤ length refusals)
  pub reached : (k ≡ length ds) ⊎ (k ≡ length nodes) ⊎ (k ≡ length actions) ⊎ (k ≡ length refusals)
  -- in front, for each destination, what a single call answers; behind, what stood there
  pub named : (next_hops n ds nodes actions refusals).nodes ≡ take k (map (λ d. (next_hop n d).named) ds) ++ drop k nodes
  pub acted : (next_hops n ds nodes actions refusals).actions ≡ take k (map (λ d. action_number (next_hop n d).action) ds) ++ drop k actions
  pub refused : (next_hops n ds nodes actions refusals).refusals ≡ take k (map (λ d. (next_hop n d).refusal) ds) ++ drop k refusals

abbrev pub Batches : Type 0
Batches = (n : Node) (ds nodes actions refusals : List ℕ) → IsBatch n ds nodes actions refusals (next_hops n ds nodes actions refusals).count
