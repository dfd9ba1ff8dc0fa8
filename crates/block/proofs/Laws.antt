-- What the crates above cite of blocks: a right block's count, that its addresses are words, and what the zeros' test says. Assumes nothing.
use mathlib.Core.Path.{◌≡◌, ap, ◌∙◌}
use mathlib.Core.Bool.{true}
use mathlib.Core.Logic.{◌↔◌}
use mathlib.Core.List.{List}
use Prim.Native.Nat.{ℕ, ◌≤◌}
use lib.ListN.{length, drop, replicate}
use Rattle.octets.specs.Octets.{AreOctets}
use Rattle.octets.proofs.OctetLaws.{drop-octets}
use Rattle.block.specs.Block.{most_addresses, addresses_at, all_are, count_in, addresses_in, is_block}
use Rattle.block.specs.Blocks.{AreWords}
use Rattle.block.proofs.Zeros.{all_are_of_replicate, all_are_true}
use Rattle.block.proofs.Cases.{is_block_true}
use Rattle.block.proofs.Spread.{length-gathered, gathered-words}

pub all_are-replicate : (o : ℕ) (bs : List ℕ) → (all_are o bs ≡ true) ↔ (bs ≡ replicate (length bs) o)
all_are-replicate o bs = (all_are_true o bs, λ e. ap (all_are o) e ∙ all_are_of_replicate o (length bs))

pub is_block-count : (slot : List ℕ) → is_block slot ≡ true → count_in slot ≤ most_addresses
is_block-count slot e = (is_block_true slot e).count.1

pub length-addresses_in : (slot : List ℕ) → length (addresses_in slot) ≡ count_in slot
unfolding addresses_in
length-addresses_in slot = length-gathered (count_in slot) (drop addresses_at slot)

-- octets of any slot, be it a right block or not
pub addresses_in-fits : (slot : List ℕ) → AreOctets slot → AreWords (addresses_in slot)
unfolding addresses_in
addresses_in-fits slot all = gathered-words (count_in slot) (drop addresses_at slot) (drop-octets addresses_at slot all)
