-- The next hops for many destinations at one node: for each the answer of a single call, as many as the shortest slice allows.
use Rattle.std.specs.Prelude.{ℕ, List, ◌++◌, map, length, take, drop, leb, if◌then◌else◌}
use Rattle.node.specs.declared.Node.{Node}
use Rattle.forward.specs.Forward.{next_hop}
use Rattle.batch.specs.Exported.{PasaHop, pasa_hop}

-- the answer for one of the destinations
unfoldable pub hop_for : Node → ℕ → PasaHop
hop_for n d = pasa_hop (next_hop n d)

-- one number of the answer
abbrev pub node_for : Node → ℕ → ℕ
node_for n d = (hop_for n d).node

abbrev pub action_for : Node → ℕ → ℕ
action_for n d = (hop_for n d).action

abbrev pub refusal_for : Node → ℕ → ℕ
refusal_for n d = (hop_for n d).refusal

-- the first k of some numbers in front, and behind them the words lent as they were
unfoldable pub front : ℕ → List ℕ → List ℕ → List ℕ
front k numbers words = take k numbers ++ drop k words

-- What the call for many destinations comes to: its answer, and what the slices lent hold at the end.
pub record BatchEffect : Type 0 where
  pub count : ℕ
  pub nodes : List ℕ
  pub actions : List ℕ
  pub refusals : List ℕ

-- the first k destinations are answered
unfoldable pub first_hops : ℕ → Node → List ℕ → List ℕ → List ℕ → List ℕ → BatchEffect
first_hops k n ds nodes actions refusals =
    record {
      count = k;
      nodes = front k (map (node_for n) ds) nodes;
      actions = front k (map (action_for n) ds) actions;
      refusals = front k (map (refusal_for n) ds) refusals;
    }

unfoldable pub least : ℕ → ℕ → ℕ
least a b = if leb a b then a else b

-- as many as the shortest of the four slices allows
unfoldable pub shortest : List ℕ → List ℕ → List ℕ → List ℕ → ℕ
shortest ds nodes actions refusals = least (least (length ds) (length nodes)) (least (length actions) (length refusals))

unfoldable pub next_hops : Node → List ℕ → List ℕ → List ℕ → List ℕ → BatchEffect
next_hops n ds nodes actions refusals = first_hops (shortest ds nodes actions refusals) n ds nodes actions refusals
