-- Demand 1 for recovery and for the writer: each refusal is given exactly when the request says, in its order; what stands beside a refusal, and
-- what is left without one. Statements of any rule, so that a wrong one can be refuted.
use Rattle.std.specs.Prelude.{ℕ, ◌-◌, ◌<◌, ◌≡◌, ◌⊎◌, List, [], ◌∷◌, ◌++◌, length, replicate}
use Rattle.address.specs.Order.{Order, done, ◌when◌otherwise◌, GivenExactly}
use Rattle.octets.specs.Octets.{AreOctets}
use Rattle.block.specs.Block.{block}
use Rattle.block.specs.Blocks.{AreWords, IsCount}
use Rattle.journal.specs.Limits.{most_nodes}
use Rattle.journal.specs.Slots.{slots_of}
use Rattle.journal.specs.Recovery.{RecoverEffect}
use Rattle.journal.specs.Writing.{BlockEffect, with_slot}
use Rattle.journals.specs.Slots.{IsLength, IsErased, Right, Fault}

abbrev pub RecoverRule : Type 0
RecoverRule = List ℕ → List ℕ → RecoverEffect

abbrev pub WriteRule : Type 0
WriteRule = List ℕ → List ℕ → BlockEffect

-- ---- recovery

abbrev pub recover_order : List ℕ → List ℕ → Order
recover_order journal words =
    -- "Recovery first checks the length (12)"
    12 when (IsLength (length journal) → ⊥)
    -- "then that at least [4,096] words are lent (10)"
    otherwise 10 when length words < most_nodes
    -- "then takes slots in order, the first fault deciding"
    otherwise 14 when Fault (slots_of journal) 14
    otherwise 17 when Fault (slots_of journal) 17
    otherwise done

pub record RecoverRefusals (rule : RecoverRule) : Type 0 where
  pub given : (journal words : List ℕ) → AreOctets journal → GivenExactly (recover_order journal words) (rule journal words).answer.refusal
  -- "With any refusal .. every other number returned beside its own are 0"
  pub beside : (journal words : List ℕ) → ((rule journal words).answer.refusal ≡ 0 → ⊥) → (rule journal words).answer.nodes ≡ 0
  -- "and no byte or word lent is changed", but for "Recovery's 14 and 17 leave the list all zeros: the one exception"
  pub spared : (journal words : List ℕ) → ((rule journal words).answer.refusal ≡ 12) ⊎ ((rule journal words).answer.refusal ≡ 10)
      → (rule journal words).words ≡ words
  pub zeroed : (journal words : List ℕ) → ((rule journal words).answer.refusal ≡ 14) ⊎ ((rule journal words).answer.refusal ≡ 17)
      → (rule journal words).words ≡ replicate (length words) 0
  -- "Success returns the number of nodes and leaves root and addresses in order, then zeros to the list's end."
  pub without : (journal words : List ℕ) → AreOctets journal → (rule journal words).answer.refusal ≡ 0
      → (nodes : List ℕ) × Right (slots_of journal) nodes × ((rule journal words).answer.nodes ≡ length nodes)
      × ((rule journal words).words ≡ nodes ++ replicate (length words - length nodes) 0)

-- ---- the writer

-- the slots that are not erased, in order
pub data Written : List (List ℕ) → List (List ℕ) → Type 0 where
  none : Written [] []
  skipped : {slot : List ℕ} {slots written : List (List ℕ)} → IsErased slot → Written slots written → Written (slot ∷ slots) written
  kept : {slot : List ℕ} {slots written : List (List ℕ)} → (IsErased slot → ⊥) → Written slots written → Written (slot ∷ slots) (slot ∷ written)

-- "for its written slots and this block after them, even a 129th"
abbrev pub FaultWith : List ℕ → List ℕ → ℕ → Type 0
FaultWith journal addresses n = (written : List (List ℕ)) × Written (slots_of journal) written × Fault (written ++ (block addresses ∷ [])) n

-- "no slot is erased"
abbrev pub NoneErased : List (List ℕ) → Type 0
NoneErased [] = Unit {0}
NoneErased (slot ∷ slots) = (IsErased slot → ⊥) × NoneErased slots

abbrev pub write_order : List ℕ → List ℕ → Order
write_order journal addresses =
    -- "12 if the journal's length is wrong or n is outside 1 to 63"
    12 when ((IsLength (length journal) → ⊥) ⊎ (IsCount (length addresses) → ⊥))
    -- "14 or 17 exactly if recovery gives it for the journal"
    otherwise 14 when Fault (slots_of journal) 14
    otherwise 17 when Fault (slots_of journal) 17
    -- "or else for its written slots and this block after them, even a 129th"
    otherwise 14 when FaultWith journal addresses 14
    otherwise 17 when FaultWith journal addresses 17
    -- "10 if no slot is erased"
    otherwise 10 when NoneErased (slots_of journal)
    otherwise done

-- "A block goes to the first wholly erased slot.": it is erased, and none before it is
pub record IsFirstErased (slots : List (List ℕ)) (slot : ℕ) : Type 0 where
  pub before : List (List ℕ)
  pub erased : List ℕ
  pub rest : List (List ℕ)
  pub parts : slots ≡ before ++ erased ∷ rest
  pub place : slot ≡ length before
  pub none_before : NoneErased before
  pub free : IsErased erased

pub record WriteRefusals (rule : WriteRule) : Type 0 where
  pub given : (journal addresses : List ℕ) → AreOctets journal → AreWords addresses
      → GivenExactly (write_order journal addresses) (rule journal addresses).answer.refusal
  -- "With any refusal .. every other number returned beside its own are 0 .. and no byte or word lent is changed."
  pub beside : (journal addresses : List ℕ) → ((rule journal addresses).answer.refusal ≡ 0 → ⊥)
      → ((rule journal addresses).answer.slot ≡ 0) × ((rule journal addresses).journal ≡ journal)
  -- "A block goes to the first wholly erased slot.": that slot alone is written
  pub without : (journal addresses : List ℕ) → AreOctets journal → (rule journal addresses).answer.refusal ≡ 0
      → IsFirstErased (slots_of journal) (rule journal addresses).answer.slot
      × ((rule journal addresses).journal ≡ with_slot (rule journal addresses).answer.slot (block addresses) journal)
