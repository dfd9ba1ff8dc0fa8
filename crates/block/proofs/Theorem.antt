-- "What we write reads back as itself; what we accept is what we would have written." A block passes the tests part by part, and a slot that
-- passes them is its block. Assumes nothing.
use mathlib.Core.Path.{◌≡◌, refl, sym, ap, ◌∙◌, subst}
use mathlib.Core.Bool.{true}
use mathlib.Core.List.{List, [], ◌∷◌, ◌++◌, append_assoc}
use Prim.Native.Nat.{ℕ, zero, suc, ◌-◌, ◌≤◌}
use native.Mathlib.Omega.{arith}
use lib.Dec.{lit<}
use lib.ListN.{length, get_or, replicate}
use Rattle.octets.specs.Octets.{octets, value, AreOctets}
use Rattle.octets.proofs.OctetLaws.{octets-octets, append-octets}
use Rattle.octets.proofs.Correspondence.{octets-one_to_one}
use Rattle.crc.specs.Crc.{crc}
use Rattle.crc.proofs.ShiftLaws.{crc-fits}
use Rattle.block.specs.Block.{most_addresses, first_byte, last_byte, checked, addresses_end}
use Rattle.block.specs.Block.{spread, content, block, all_are, gathered, addresses_in, zeros_in, told_in, crc_in, is_block}
use Rattle.block.specs.Blocks.{AreWords, IsCount, IsBlockOf, Blocks}
use Rattle.block.proofs.Zeros.{all_are_of_replicate}
use Rattle.block.proofs.Cases.{is_block_true, true_is_block}
use Rattle.block.proofs.Spread.{spread-octets, gathered-spread}
use Rattle.block.proofs.Parts.{zeros_of, tail, part-zeros, length-block, take-block, told-block, get_d_last}
use Rattle.block.proofs.Accepted.{right-block}
use Rattle.block.proofs.Laws.{length-addresses_in, addresses_in-fits}

zeros-octets : (k : ℕ) → AreOctets (replicate k 0)
zeros-octets zero = tt
zeros-octets (suc k) = (lit< tt, zeros-octets k)

module _ (xs : List ℕ) (few : length xs ≤ most_addresses) where
  block-octets : AreOctets (block xs)
  unfolding block content
  block-octets =
      let zeros = zeros-octets (checked - addresses_end (length xs)) in
      append-octets (content xs) (tail (content xs))
      (lit< tt, (omega arith, append-octets (spread xs) (zeros_of (length xs)) (spread-octets xs) zeros))
      (append-octets (octets 2 (crc (content xs))) (last_byte ∷ []) (octets-octets 2 (crc (content xs))) (lit< tt, tt))

  first_block : get_or (block xs) 0 0 ≡ first_byte
  unfolding block content
  first_block = refl

  count-block : get_or (block xs) 1 0 ≡ length xs
  unfolding block content
  count-block = refl

  zeros-block : all_are 0 (zeros_in (block xs)) ≡ true
  unfolding block content
  zeros-block = ap (all_are 0) (part-zeros xs (tail (content xs))) ∙ all_are_of_replicate 0 (checked - addresses_end (length xs))

  agreed-block : told_in (block xs) ≡ crc_in (block xs)
  agreed-block =
      let c = crc (content xs) in
      ap value (told-block xs few)
      ∙ (octets-one_to_one.held 2 c (crc-fits (content xs))).2
      ∙ ap crc (sym (take-block xs few))

  is_block-block : 1 ≤ length xs → is_block (block xs) ≡ true
  is_block-block some = true_is_block (block xs) (record {
    size = length-block xs few;
    first = first_block;
    count = subst (λ (n : ℕ). IsCount n) (sym count-block) (some, few);
    zeros = zeros-block;
    check = agreed-block;
    last = get_d_last xs few;
  })

addresses_in-block : (xs : List ℕ) → AreWords xs → addresses_in (block xs) ≡ xs
unfolding addresses_in block content
addresses_in-block xs words =
    let rest = zeros_of (length xs) ++ tail (content xs) in
    ap (gathered (length xs)) (append_assoc (spread xs) (zeros_of (length xs)) (tail (content xs))) ∙ gathered-spread xs rest words

accepted : (slot : List ℕ) → AreOctets slot → is_block slot ≡ true → IsBlockOf (addresses_in slot) slot
accepted slot all e =
    let right = is_block_true slot e in
    record {
      words = addresses_in-fits slot all;
      count = subst (λ (n : ℕ). IsCount n) (sym (length-addresses_in slot)) right.count;
      bytes = right-block slot all right;
    }

pub blocks : Blocks
blocks = record {
  whole = λ xs n. (length-block xs n.1, first_block xs n.1, get_d_last xs n.1, block-octets xs n.1);
  reads_back = λ xs words n. (is_block-block xs n.1 n.0, addresses_in-block xs words);
  exactly = λ slot all. (
    accepted slot all,
    λ b. ap is_block b.bytes ∙ is_block-block (addresses_in slot) b.count.1 b.count.0,
  );
  only = λ xs slot b. sym (ap addresses_in b.bytes ∙ addresses_in-block xs b.words);
}
