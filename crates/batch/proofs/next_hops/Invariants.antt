-- So far the first i answers stand in front in each slice, and what stands behind them is as it was.
use Rattle.std.proofs.Common.{◌≡◌, map}
use Rattle.batch.specs.Batch.{node_for, action_for, refusal_for, front}
use Rattle.batch.proofs.next_hops.Given as goal

abbrev pub invariant-loop-i : goal.invariant-loop-i
invariant-loop-i l = record {
  nodes : l.nodes ≡ front l.i (map (node_for l.node) l.destinations) l.fn.nodes;
  actions : l.actions ≡ front l.i (map (action_for l.node) l.destinations) l.fn.actions;
  refusals : l.refusals ≡ front l.i (map (refusal_for l.node) l.destinations) l.fn.refusals;
}
