-- `block::put` meets its contract: a test that fails leaves the slot, and what is written where all hold is the block. Assumes nothing.
use Rattle.std.proofs.Common.{◌≡◌, ℕ, ◌≤◌, List, length, sym, ap, ◌∙◌, arith, rules}
use borrow.Rule.Slice.PartMut.{put_mid}
use Rattle.octets.specs.Octets.{octets}
use Rattle.crc.specs.Crc.{crc}
use Rattle.block.specs.Block.{slot_bytes, checked, content}
use Rattle.block.proofs.Cases.{block_put-done}
use Rattle.block.proofs.Filling.{length_filled_part}
use Rattle.block.proofs.HighFirst.{octets_of_bytes}
use Rattle.block.proofs.Parts.{length-content}
use Rattle.block.proofs.Writing.{content-block, tail-block}
use Rattle.block.proofs.put.Goals as goal

pub returns : goal.returns
returns c =
    let xs = c.args.addresses.now in
    let slot = c.args.slot.now in
    let size = c.if-slot-ne-SLOT.false in
    let few : length xs ≤ 63 = omega arith in
    let part = c.put_content.new.out in
    -- the slot with the content in it
    let filled : List ℕ = put_mid 0 checked slot part in
    let many : length part ≡ checked = ap length c.put_content.ensures ∙ length-content xs few in
    let whole : length filled ≡ slot_bytes = length_filled_part slot part 0 checked (omega arith) (omega arith) many ∙ size in
    let begun = content-block xs few slot part size c.put_content.ensures in
    let told : c.copy_from_slice.new.self ≡ octets 2 (crc (content xs)) =
    octets_of_bytes 2 c.crc-check.result c.copy_from_slice.ensures.after (search rules)
    ∙ ap (octets 2) (c.crc-check.ensures ∙ ap crc begun) in
    tail-block xs few filled c.copy_from_slice.new.self whole begun told ∙ sym (block_put-done xs slot size (omega arith, few))
