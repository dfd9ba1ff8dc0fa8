-- What a journal recovers to after a write, and after a power cut in the midst of one. The writer, recovery, and the order in which the bytes of a
-- block are written are parameters, so that wrong ones can be refuted.
use Rattle.std.specs.Prelude.{ℕ, zero, suc, ◌+◌, ◌*◌, ◌-◌, ◌<◌, ◌≤◌, ◌≡◌, List, [], ◌∷◌, ◌++◌, length, take, get_or, set, replicate}
use Rattle.octets.specs.Octets.{AreOctets}
use Rattle.block.specs.Block.{slot_bytes}
use Rattle.block.specs.Blocks.{AreWords}
use Rattle.journal.specs.Limits.{most_nodes}
use Rattle.journal.specs.Recovery.{RecoverEffect}
use Rattle.journals.specs.Refusals.{RecoverRule, WriteRule}

-- recovery with words enough leaves these nodes, then zeros
abbrev pub recovered_to : List ℕ → List ℕ → RecoverEffect
recovered_to nodes words = record { answer = record { refusal = 0; nodes = length nodes }; words = nodes ++ replicate (length words - length nodes) 0 }

abbrev pub RecoversTo : RecoverRule → List ℕ → List ℕ → Type 0
RecoversTo recover journal nodes = (words : List ℕ) → most_nodes ≤ length words → recover journal words ≡ recovered_to nodes words

-- a journal that the writer accepts, with this block
pub record Accepts (write : WriteRule) (journal addresses : List ℕ) : Type 0 where
  pub octets : AreOctets journal
  pub words : AreWords addresses
  pub accepted : (write journal addresses).answer.refusal ≡ 0

-- for every journal that the writer accepts, torn slots in it included, what is recovered is what was recovered before and then the block's
-- addresses, in order
abbrev pub AfterWrite : WriteRule → RecoverRule → Type 0
AfterWrite write recover = (journal addresses : List ℕ) → Accepts write journal addresses
    → (nodes : List ℕ) × RecoversTo recover journal nodes × RecoversTo recover (write journal addresses).journal (nodes ++ addresses)

-- the old journal with the bytes of the new one at some places of a slot
unfoldable pub stored_at : ℕ → List ℕ → List ℕ → List ℕ → List ℕ
stored_at slot [] new old = old
stored_at slot (place ∷ places) new old =
    stored_at slot places new (set old (slot_bytes * slot + place) (get_or new (slot_bytes * slot + place) 0))

-- "If power fails after any number of bytes of one block, all other slots kept": the first k places of an order are written
abbrev pub cut_after : ℕ → List ℕ → WriteRule → List ℕ → List ℕ → List ℕ
cut_after k order write journal addresses =
    stored_at (write journal addresses).answer.slot (take k order) (write journal addresses).journal journal

-- "recovery gives the state before that block if fewer than 512 bytes were written and the state after it if all were"
pub record PowerCut (order : List ℕ) (write : WriteRule) (recover : RecoverRule) : Type 0 where
  -- there is a state before the block
  pub stands : (journal addresses : List ℕ) → Accepts write journal addresses → (nodes : List ℕ) × RecoversTo recover journal nodes
  pub before : (journal addresses nodes : List ℕ) (k : ℕ) → Accepts write journal addresses → RecoversTo recover journal nodes → k < slot_bytes
      → RecoversTo recover (cut_after k order write journal addresses) nodes
  pub after : (journal addresses nodes : List ℕ) → Accepts write journal addresses → RecoversTo recover journal nodes
      → RecoversTo recover (cut_after slot_bytes order write journal addresses) (nodes ++ addresses)

-- "Bytes are written in order": 0, 1, .. 511
unfoldable pub up_to : ℕ → List ℕ
up_to zero = []
up_to (suc k) = up_to k ++ (k ∷ [])

abbrev pub in_order : List ℕ
in_order = up_to slot_bytes

-- an order that has the last byte first, whatever follows
abbrev pub last_first : List ℕ → List ℕ
last_first rest = 511 ∷ rest
