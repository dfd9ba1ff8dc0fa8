-- `block::put_content` meets its contract: the bytes are those of `content` from the first on, further with each store and each call. Assumes
-- nothing.
use Rattle.std.proofs.Common.{◌≡◌, ℕ, ◌-◌, List, length, replicate, ap, ◌∙◌, arith, rules}
use Rattle.std.proofs.Math.ListN.{set, length-set}
use borrow.Rule.Slice.PartMut.{put_mid, mid_len}
use Rattle.block.specs.Block.{checked, addresses_at, addresses_end, first_byte}
use Rattle.block.proofs.Spread.{length-spread}
use Rattle.block.proofs.Filling.{length_filled_part}
use Rattle.block.proofs.Writing.{begun-content, addresses-content, zeros-content}
use Rattle.block.proofs.put_content.Goals as goal

pub returns : goal.returns
returns c =
    let xs = c.args.addresses.now in
    let (room, few) = c.requires in
    let end = addresses_end (length xs) in
    -- the bytes with the first two stored, and then with the addresses put
    let begun : List ℕ = set (set c.args.out.now 0 first_byte) 1 (length xs) in
    let put = c.put_addresses.new.out in
    let addressed : List ℕ = put_mid addresses_at (end - addresses_at) begun put in
    let long : length begun ≡ checked =
    length-set (set c.args.out.now 0 first_byte) 1 (length xs) ∙ length-set c.args.out.now 0 first_byte ∙ room in
    let many : length put ≡ end - addresses_at = omega (arith, ap length c.put_addresses.ensures, length-spread xs) in
    let whole : length addressed ≡ checked = length_filled_part begun put addresses_at end (omega arith) (omega arith) many ∙ long in
    zeros-content xs few addressed c.fill.new.self whole
    (addresses-content xs few begun put long (begun-content xs few c.args.out.now room) c.put_addresses.ensures)
    (c.fill.ensures.after (search rules) ∙ ap (λ (k : ℕ). replicate k 0) (mid_len end checked addressed (omega arith)))
