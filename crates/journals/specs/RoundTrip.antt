-- Whatever was given since a bare root is written and recovered exactly, however it is cut into blocks.
use Rattle.std.specs.Prelude.{ℕ, ◌+◌, ◌*◌, ◌≤◌, ◌≡◌, List, [], ◌∷◌, ◌++◌, length, replicate}
use Rattle.node.specs.Node.{child_of, set_limit}
use Rattle.octets.specs.Octets.{AreOctets}
use Rattle.tree.specs.Tree.{Event, given_in}
use Rattle.block.specs.Block.{slot_bytes}
use Rattle.block.specs.Blocks.{IsCount}
use Rattle.journal.specs.Limits.{most_slots, most_nodes}
use Rattle.journal.specs.Slots.{slots_of}
use Rattle.journals.specs.Replays.{nodes_of}
use Rattle.journals.specs.Refusals.{RecoverRule, WriteRule, Written}
use Rattle.journals.specs.PowerCuts.{RecoversTo}

unfoldable pub joined : List (List ℕ) → List ℕ
joined [] = []
joined (block ∷ blocks) = block ++ joined blocks

-- "a count n of 1 to 63", of each block
abbrev pub AreBlocks : List (List ℕ) → Type 0
AreBlocks [] = Unit {0}
AreBlocks (block ∷ blocks) = IsCount (length block) × AreBlocks blocks

-- the blocks, written one after the other: none is refused, and the journal at the end has a property
abbrev pub AllWritten : WriteRule → List ℕ → List (List ℕ) → (List ℕ → Type 0) → Type 0
AllWritten write journal [] P = P journal
AllWritten write journal (block ∷ blocks) P = ((write journal block).answer.refusal ≡ 0) × AllWritten write (write journal block).journal blocks P

pub record RoundTrip (write : WriteRule) (recover : RecoverRule) : Type 0 where
  -- slots lost to torn blocks counted: a journal that recovers to the nodes of some requests and settings, and the addresses that more of them
  -- give, cut into blocks in any way, where the slots that are not written suffice, and the nodes
  pub onward : (journal : List ℕ) (written : List (List ℕ)) (es more : List Event) (blocks : List (List ℕ))
      → AreOctets journal → Written (slots_of journal) written → RecoversTo recover journal (nodes_of es)
      → nodes_of (es ++ more) ≡ nodes_of es ++ joined blocks → AreBlocks blocks
      → length written + length blocks ≤ length (slots_of journal) → length (nodes_of (es ++ more)) ≤ most_nodes
      → AllWritten write journal blocks (λ after. RecoversTo recover after (nodes_of (es ++ more)))
  -- every list of addresses given since a bare root, into an erased journal
  pub whole : (slots : ℕ) (es : List Event) (blocks : List (List ℕ)) → 1 ≤ slots → slots ≤ most_slots
      → given_in child_of set_limit es ≡ joined blocks → AreBlocks blocks → length blocks ≤ slots → length (nodes_of es) ≤ most_nodes
      → AllWritten write (replicate (slot_bytes * slots) 0xFF) blocks (λ after. RecoversTo recover after (nodes_of es))
