-- Request Six: larger halls. Where a number moved it stands in the refusals themselves (Demand1, Plans, Journals). "slots, nesting and path length
-- stay": 128 slots (Journals, `TheSlots.is_length`), 64 groups (Plans, `TheText.spells`), 126 addresses (Paths, `ThePath.at_most126`). Here stands that
-- there are such halls and texts, that one node or byte more is refused, and that no other numbers are allowed in the place of those that moved.
use Rattle.std.specs.Prelude.{ℕ, suc, ◌*◌, ◌<◌, ◌≤◌, ◌≡◌, ◌⊎◌, List, [], ◌∷◌, ◌++◌, map, length, drop, replicate}
use Rattle.address.specs.Order.{done, ◌when◌otherwise◌, GivenExactly}
use Rattle.octets.specs.Octets.{AreOctets}
use Rattle.node.specs.Node.{child_of, set_limit}
use Rattle.tree.specs.Tree.{Event, asking, addresses, given_in}
use Rattle.plan.specs.Grammar.{Items, none, host, router, plan_text}
use Rattle.plan.specs.Hall.{nodes}
use Rattle.plan.specs.Plan.{planning}
use Rattle.plan.specs.Refusals.{PlanRefusals}
use Rattle.plan.specs.WrongRules.{planning_within}
use Rattle.plan.specs.Largest.{hosts, routers, largest_with}
use Rattle.halls.specs.Requests.{requests}
use Rattle.journal.specs.Slots.{slots_of}
use Rattle.journal.specs.Recovery.{unfit, recovering}
use Rattle.journal.specs.Writing.{writing}
use Rattle.journals.specs.Replays.{IsNextChild}
use Rattle.journals.specs.Slots.{IsLength, Holds}
use Rattle.journals.specs.Refusals.{RecoverRefusals}
use Rattle.journals.specs.WrongRecoveries.{wanting, holding}
use Rattle.claims.specs.Demand3.{tree_of}
use Rattle.claims.specs.Journals.{RecoversTo}

-- the addresses of a list's tree, the root first, and those of a plan's requests
abbrev pub nodes_in : List Event → List ℕ
nodes_in es = addresses (tree_of es)

abbrev pub nodes_of_plan : Items → List ℕ
nodes_of_plan plan = nodes_in (map asking (requests plan))

-- "A plan .. may now have 4,096 nodes, the root counted, and a plan 32,768 bytes."
pub record LargePlans : Type 0 where
  -- so many hosts; so many routers with the same items in each one's group, before others
  pub no_host : hosts 0 ≡ none
  pub one_host : (k : ℕ) → hosts (suc k) ≡ host (hosts k)
  pub no_router : (group behind : Items) → routers 0 group behind ≡ behind
  pub one_router : (k : ℕ) (group behind : Items) → routers (suc k) group behind ≡ router group (routers k group behind)
  -- 15 routers of the root, 16 routers of each, 16 hosts of each of these
  pub largest : (behind : Items) → largest_with behind ≡ routers 15 (routers 16 (hosts 16) none) behind
  -- it is read, where each of its nodes has a word, and else 10; with a host of the root behind it has a node more, and is 14, whatever is lent
  pub read : (words : List ℕ) → 4096 ≤ length words
      → planning (plan_text (largest_with none)) words
      ≡ record { answer = record { refusal = 0; nodes = 4096; place = 0 }; words = nodes_of_plan (largest_with none) ++ drop 4096 words }
  pub no_room : (words : List ℕ) → length words < 4096
      → planning (plan_text (largest_with none)) words ≡ record { answer = record { refusal = 10; nodes = 0; place = 0 }; words = words }
  pub one_more : (words : List ℕ)
      → planning (plan_text (largest_with (host none))) words ≡ record { answer = record { refusal = 14; nodes = 0; place = 0 }; words = words }
  pub its_tree : length (nodes_of_plan (largest_with none)) ≡ 4096
  pub tree_of_one_more : length (nodes_of_plan (largest_with (host none))) ≡ 4097
  -- no text of the grammar has more than three bytes for each of its nodes, so that one of more than 12,288 bytes is never read
  pub bytes : (plan : Items) → length (plan_text plan) ≤ 3 * nodes plan
  pub never_read : (text words : List ℕ) → 12288 < length text
      → ((planning text words).answer.refusal ≡ 13) ⊎ ((planning text words).answer.refusal ≡ 14)
  -- "and a plan 32,768 bytes": what is no text, as so many times "H", is 13, and with one more 14
  pub nonsense : (words : List ℕ)
      → planning (replicate 32768 72) words ≡ record { answer = record { refusal = 13; nodes = 0; place = 0 }; words = words }
  pub nonsense_over : (words : List ℕ)
      → planning (replicate 32769 72) words ≡ record { answer = record { refusal = 14; nodes = 0; place = 0 }; words = words }

-- "and a recovered journal"
pub record LargeJournals : Type 0 where
  -- "Recovery wants 4,096 words lent.": what recovery asks first, by itself or by the reader (JournalCode, `TheReader.unfit_first`)
  pub asks_first : (journal words : List ℕ) → (unfit (length journal) (length words) ≡ 0 → ⊥)
      → recovering journal words ≡ record { answer = record { refusal = unfit (length journal) (length words); nodes = 0 }; words = words }
  pub unfit_exactly : (bytes words : ℕ)
      → GivenExactly (12 when (IsLength bytes → ⊥) otherwise 10 when words < 4096 otherwise done) (unfit bytes words)
  -- whatever was given since a bare root, of at most 4,096 nodes, the root counted, is recovered from some journal; so is the largest plan's hall
  pub every_hall : (es : List Event) → length (nodes_in es) ≤ 4096 → (journal : List ℕ) × AreOctets journal × RecoversTo journal (nodes_in es)
  pub largest_recovered : (journal : List ℕ) × AreOctets journal × RecoversTo journal (nodes_of_plan (largest_with none))
  -- "a [4,097th] node .. is 14": where there are as many nodes, the writer refuses a block that begins with a next child, whatever follows in it
  pub writer_refuses : (journal : List ℕ) (es : List Event) (a : ℕ) (rest : List ℕ) → RecoversTo journal (nodes_in es) → length (nodes_in es) ≡ 4096
      → IsNextChild (tree_of es) a → length rest ≤ 62
      → writing journal (a ∷ rest) ≡ record { answer = record { refusal = 14; slot = 0 }; journal = journal }
  -- and recovery a journal whose slots hold such a child behind them, whatever follows in these slots or behind them
  pub recovery_refuses : (journal : List ℕ) (kept behind : List (List ℕ)) (es : List Event) (a : ℕ) (rest : List ℕ) → AreOctets journal
      → IsLength (length journal) → slots_of journal ≡ kept ++ behind → Holds kept (given_in child_of set_limit es ++ (a ∷ rest))
      → length (nodes_in es) ≡ 4096 → IsNextChild (tree_of es) a → (words : List ℕ) → 4096 ≤ length words
      → recovering journal words ≡ record { answer = record { refusal = 14; nodes = 0 }; words = replicate (length words) 0 }
  -- there is such a journal, and the largest plan's hall has such a child
  pub one_too_many : (es : List Event) (a : ℕ) → length (nodes_in es) ≡ 4096 → IsNextChild (tree_of es) a
      → (journal : List ℕ) × AreOctets journal × IsLength (length journal) × Holds (slots_of journal) (given_in child_of set_limit es ++ (a ∷ []))
  pub next_one : (a : ℕ) × IsNextChild (tree_of (map asking (requests (largest_with none)))) a

-- our rules with any numbers in the place of a plan's bytes and nodes (plan, WrongRules), of recovery's nodes, and of its words (journals,
-- WrongRecoveries): ours are allowed, and no others. Whatever differs in more than that is excluded too (Excluded, `OnePlanRule`; Journals,
-- `OneJournalRule`).
pub record NoOtherLimits : Type 0 where
  pub of_these : (text words : List ℕ) → planning_within 32768 4096 text words ≡ planning text words
  pub of_others : (bytes most : ℕ) → PlanRefusals (planning_within bytes most) → (bytes ≡ 32768) × (most ≡ 4096)
  -- "and a recovered journal"
  pub holding_these : (journal words : List ℕ) → holding 4096 journal words ≡ recovering journal words
  pub holding_others : (most : ℕ) → RecoverRefusals (holding most) → most ≡ 4096
  -- "Recovery wants 4,096 words lent."
  pub wanting_these : (journal words : List ℕ) → wanting 4096 journal words ≡ recovering journal words
  pub wanting_others : (most : ℕ) → RecoverRefusals (wanting most) → most ≡ 4096
