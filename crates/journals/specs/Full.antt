-- Journals of as many nodes as are allowed: "a recovered journal may now have 4,096 nodes, the root counted"; "a [4,097th] node .. is 14".
use Rattle.std.specs.Prelude.{ℕ, ◌≤◌, ◌<◌, ◌≡◌, List, [], ◌∷◌, ◌++◌, length, replicate}
use Rattle.address.specs.Order.{Order, done, ◌when◌otherwise◌, GivenExactly}
use Rattle.node.specs.Node.{child_of, set_limit}
use Rattle.octets.specs.Octets.{AreOctets}
use Rattle.tree.specs.Tree.{Event, grown, given_in}
use Rattle.journal.specs.Limits.{most_nodes}
use Rattle.journal.specs.Slots.{slots_of}
use Rattle.journal.specs.Recovery.{unfit, refuse_recovery, recovering}
use Rattle.journal.specs.Writing.{refuse_placing, writing}
use Rattle.journals.specs.Replays.{IsNextChild, nodes_of}
use Rattle.journals.specs.Slots.{IsLength, Holds}
use Rattle.journals.specs.PowerCuts.{RecoversTo}
use Rattle.journals.specs.Refusals.{RecoverRefusals}
use Rattle.journals.specs.WrongRecoveries.{holding}

-- "Recovery first checks the length (12), then that at least [4,096] words are lent (10)", before it looks into the journal
abbrev pub unfit_order : ℕ → ℕ → Order
unfit_order bytes words =
    12 when (IsLength bytes → ⊥)
    otherwise 10 when words < most_nodes
    otherwise done

pub record FullJournals : Type 0 where
  pub unfit_exactly : (bytes words : ℕ) → GivenExactly (unfit_order bytes words) (unfit bytes words)
  -- every tree of demand 3 that has not more nodes than that is recovered from some journal: the slots suffice
  pub every_hall : (es : List Event) → length (nodes_of es) ≤ most_nodes
      → (journal : List ℕ) × AreOctets journal × RecoversTo recovering journal (nodes_of es)
  -- where there are as many, the writer refuses a block that begins with a next child, whatever follows in it
  pub writer_refuses : (journal : List ℕ) (es : List Event) (a : ℕ) (rest : List ℕ) → RecoversTo recovering journal (nodes_of es)
      → length (nodes_of es) ≡ most_nodes → IsNextChild (grown child_of set_limit es) a → length rest ≤ 62
      → writing journal (a ∷ rest) ≡ record { answer = refuse_placing 14; journal = journal }
  -- and recovery every journal whose slots hold such a child behind them, whatever follows in these slots or behind them
  pub recovery_refuses : (journal : List ℕ) (kept behind : List (List ℕ)) (es : List Event) (a : ℕ) (rest : List ℕ) → AreOctets journal
      → IsLength (length journal) → slots_of journal ≡ kept ++ behind → Holds kept (given_in child_of set_limit es ++ (a ∷ rest))
      → length (nodes_of es) ≡ most_nodes → IsNextChild (grown child_of set_limit es) a
      → (words : List ℕ) → most_nodes ≤ length words → recovering journal words ≡ refuse_recovery 14 (replicate (length words) 0)
  -- such a journal there is
  pub one_too_many : (es : List Event) (a : ℕ) → length (nodes_of es) ≡ most_nodes → IsNextChild (grown child_of set_limit es) a
      → (journal : List ℕ) × AreOctets journal × IsLength (length journal) × Holds (slots_of journal) (given_in child_of set_limit es ++ (a ∷ []))
  -- and such a child, where one more event gives an address
  pub next_one : (es : List Event) (e : Event) → length (nodes_of es) < length (nodes_of (es ++ (e ∷ []))) → (a : ℕ) × IsNextChild (grown child_of set_limit es) a

-- recovery with any number in the place of the most nodes: where there is a tree of as many as are allowed, and a next child in it, no other number is
pub record OtherNodesExcluded : Type 0 where
  pub own_nodes : (journal words : List ℕ) → holding most_nodes journal words ≡ recovering journal words
  pub other_nodes : (es : List Event) (a : ℕ) → length (nodes_of es) ≡ most_nodes → IsNextChild (grown child_of set_limit es) a
      → (most : ℕ) → RecoverRefusals (holding most) → most ≡ most_nodes
