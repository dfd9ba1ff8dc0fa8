-- A journal's slots in the request's words, apart from the tests that recovery runs: what stands without a fault, and what the first fault is.
use Rattle.std.specs.Prelude.{ℕ, ◌*◌, ◌≤◌, ◌≡◌, List, [], ◌∷◌, ◌++◌, get_or, replicate}
use Rattle.address.specs.Bits.{root}
use Rattle.block.specs.Block.{slot_bytes}
use Rattle.block.specs.Blocks.{IsBlockOf}
use Rattle.journal.specs.Limits.{most_slots}
use Rattle.journals.specs.Replays.{IsReplayed, IsFirstFault}

-- "1 to 128 slots of 512 bytes"
pub record IsLength (bytes : ℕ) : Type 0 where
  pub slots : ℕ
  pub some : 1 ≤ slots
  pub few : slots ≤ most_slots
  pub whole : bytes ≡ slot_bytes * slots

-- "erased to 0xFF"
abbrev pub IsErased : List ℕ → Type 0
IsErased slot = slot ≡ replicate slot_bytes 0xFF

-- "ends in 0xFF"
abbrev pub EndsErased : List ℕ → Type 0
EndsErased slot = get_or slot 511 0 ≡ 0xFF

-- "A slot that isn't erased but ends in 0xFF is torn and skipped."
abbrev pub IsTorn : List ℕ → Type 0
IsTorn slot = (IsErased slot → ⊥) × EndsErased slot

-- slots that all are torn or right blocks, and the addresses of the blocks, in order
pub data Holds : List (List ℕ) → List ℕ → Type 0 where
  none : Holds [] []
  torn : {slot : List ℕ} {slots : List (List ℕ)} {addresses : List ℕ} → IsTorn slot → Holds slots addresses → Holds (slot ∷ slots) addresses
  block : {slot : List ℕ} {slots : List (List ℕ)} {more addresses : List ℕ} → IsBlockOf more slot → Holds slots addresses
      → Holds (slot ∷ slots) (more ++ addresses)

abbrev pub AllErased : List (List ℕ) → Type 0
AllErased [] = Unit {0}
AllErased (slot ∷ slots) = IsErased slot × AllErased slots

-- slots without a fault: torn slots and right blocks, "whose addresses each are the next child of a node already known, starting from a bare
-- root", then erased ones; with the nodes that they come to
pub record Right (slots : List (List ℕ)) (nodes : List ℕ) : Type 0 where
  pub written : List (List ℕ)
  pub erased : List (List ℕ)
  pub addresses : List ℕ
  pub parts : slots ≡ written ++ erased
  pub holds : Holds written addresses
  pub free : AllErased erased
  pub replayed : IsReplayed addresses nodes
  -- "root and addresses in order"
  pub in_order : nodes ≡ root ∷ addresses

-- the first fault of some slots, with its number: "takes slots in order, the first fault deciding, in a slot its place and form before its
-- addresses". What stands before the slot is right.
pub data Fault (slots : List (List ℕ)) (n : ℕ) : Type 0 where
  -- "Any slot that isn't erased, torn or not, standing after an erased one is 17."
  misplaced : (before : List (List ℕ)) (erased slot : List ℕ) (between rest : List (List ℕ)) (nodes : List ℕ)
      → slots ≡ before ++ (erased ∷ between) ++ slot ∷ rest → Right (before ++ (erased ∷ between)) nodes → IsErased erased → (IsErased slot → ⊥)
      → n ≡ 17 → Fault slots n
  -- "A slot ending in anything else must be a right block .. otherwise 17."
  no_block : (before : List (List ℕ)) (slot : List ℕ) (rest : List (List ℕ)) (addresses nodes : List ℕ)
      → slots ≡ before ++ slot ∷ rest → Holds before addresses → IsReplayed addresses nodes → (EndsErased slot → ⊥)
      → ((more : List ℕ) → IsBlockOf more slot → ⊥) → n ≡ 17 → Fault slots n
  -- "whose addresses each are the next child of a node already known .. otherwise 17"; "a [4,097th] node .. is 14, but 17 if it is no next child"
  wrong_address : (before : List (List ℕ)) (slot : List ℕ) (rest : List (List ℕ)) (addresses more nodes : List ℕ)
      → slots ≡ before ++ slot ∷ rest → Holds before addresses → IsReplayed addresses nodes → IsBlockOf more slot
      → IsFirstFault (addresses ++ more) n → Fault slots n
