-- What the functions inside recovery leave: the nodes known at the front of the words, or a fault.
use Rattle.std.specs.Prelude.{ℕ, zero, suc, ◌≤◌, ◌≡◌, List, length, take, drop}
use Rattle.journal.specs.Limits.{most_nodes}
use Rattle.journal.specs.Replay.{Replay, known, fault}
use Rattle.journal.specs.Recovery.{Recovered}

unfoldable pub shown : ℕ → List ℕ → Replay
shown zero xs = known xs
shown (suc n) xs = fault (suc n)

-- what is replayed from so many nodes on: as many or more, and the words behind them as they came
pub record Follows (r : Replay) (nodes : ℕ) (words after : List ℕ) (answer : Recovered) : Type 0 where
  pub same : length after ≡ length words
  pub forth : answer.refusal ≡ 0 → nodes ≤ answer.nodes
  pub within : answer.nodes ≤ most_nodes
  pub kept : answer.refusal ≡ 0 → drop answer.nodes after ≡ drop answer.nodes words
  pub shows : r ≡ shown answer.refusal (take answer.nodes after)
