-- A plan of as many nodes as are allowed, and texts of as many bytes: "A plan .. may now have 4,096 nodes, the root counted, and a plan 32,768
-- bytes."
use Rattle.std.specs.Prelude.{ℕ, zero, suc, ◌*◌, ◌≤◌, ◌<◌, ◌≡◌, ◌⊎◌, List, ◌++◌, length, drop, replicate}
use Rattle.plan.specs.Limits.{most_bytes, most_nodes}
use Rattle.plan.specs.Grammar.{letter_h, Items, none, host, router, plan_text, Spells}
use Rattle.plan.specs.Hall.{hall, nodes, SomeTooLong}
use Rattle.plan.specs.Plan.{refuse_plan, planning}

-- so many hosts; and so many routers with the same items in each one's group, before others
unfoldable pub hosts : ℕ → Items
hosts zero = none
hosts (suc k) = host (hosts k)

unfoldable pub routers : ℕ → Items → Items → Items
routers zero group behind = behind
routers (suc k) group behind = router group (routers k group behind)

-- 15 routers of the root, 16 routers of each, 16 hosts of each of these: 1 + 15 * (1 + 16 * (1 + 16)) nodes; and behind them other items
unfoldable pub largest_with : Items → Items
largest_with behind = routers 15 (routers 16 (hosts 16) none) behind

abbrev pub largest : Items
largest = largest_with none

-- and with a host of the root behind them
abbrev pub too_large : Items
too_large = largest_with (host none)

pub record LargestPlan : Type 0 where
  pub spelled : Spells (plan_text largest) largest
  pub counted : nodes largest ≡ most_nodes
  pub none_too_long : SomeTooLong largest → ⊥
  -- it is read where there is a word for each node, and 10 where there are fewer
  pub read : (words : List ℕ) → most_nodes ≤ length words
      → planning (plan_text largest) words
      ≡ record { answer = record { refusal = 0; nodes = most_nodes; place = 0 }; words = hall largest ++ drop most_nodes words }
  pub no_room : (words : List ℕ) → length words < most_nodes → planning (plan_text largest) words ≡ refuse_plan 10 0 words
  -- with a host more it has too many nodes, and where there is room nothing else speaks against it
  pub one_more : (words : List ℕ) → planning (plan_text too_large) words ≡ refuse_plan 14 0 words
  pub more_spelled : Spells (plan_text too_large) too_large
  pub more_counted : nodes too_large ≡ suc most_nodes
  pub more_none_too_long : SomeTooLong too_large → ⊥

-- the limit on bytes, which is far above what a plan of so many nodes can have
pub record LongTexts : Type 0 where
  -- no text of the grammar has more than three bytes for each of its nodes
  pub bytes : (plan : Items) → length (plan_text plan) ≤ 3 * nodes plan
  -- so one that has more than three for each node that is allowed is none of the grammar or has too many nodes
  pub never_read : (text words : List ℕ) → 3 * most_nodes < length text
      → ((planning text words).answer.refusal ≡ 13) ⊎ ((planning text words).answer.refusal ≡ 14)
  -- nonsense of as many bytes as are allowed is judged by the grammar, and of one more by its length
  pub nonsense : (words : List ℕ) → planning (replicate most_bytes letter_h) words ≡ refuse_plan 13 0 words
  pub nonsense_over : (words : List ℕ) → planning (replicate (suc most_bytes) letter_h) words ≡ refuse_plan 14 0 words
