-- Which order of its bytes a block may be written in: exactly those that end in byte 511. The statements alone.
use Rattle.std.specs.Prelude.{ℕ, ◌<◌, ◌≡◌, ◌↔◌, List, length, get_or}
use Rattle.block.specs.Block.{slot_bytes}
use Rattle.journal.specs.Recovery.{recovering}
use Rattle.journal.specs.Writing.{writing}
use Rattle.journals.specs.PowerCuts.{PowerCut}

-- an order of the 512 places: 512 steps, at which every place stands, and none twice
pub record IsOrder (order : List ℕ) : Type 0 where
  pub steps : length order ≡ slot_bytes
  pub every : (place : ℕ) → place < slot_bytes → (step : ℕ) × (step < slot_bytes) × (get_or order step 0 ≡ place)
  pub once : (i j : ℕ) → i < slot_bytes → j < slot_bytes → get_or order i 0 ≡ get_or order j 0 → i ≡ j

pub record Orders : Type 0 where
  -- for every order: a power cut leaves the state before or after exactly if the last byte is written last
  pub exactly : (order : List ℕ) → IsOrder order → PowerCut order writing recovering ↔ (get_or order 511 0 ≡ 511)
