-- `block::put_addresses` meets its contract: before the place of address i stand the octets of those before it. Assumes nothing.
use Rattle.std.proofs.Common.{◌≡◌, ◌+◌, ◌-◌, ◌*◌, length, take, drop, get_or, sym, ap, ◌∙◌, arith, rules}
use Rattle.std.proofs.Math.Nat.{add-sub_cancel_left}
use Rattle.octets.specs.Octets.{octets}
use Rattle.block.specs.Block.{address_bytes, spread}
use Rattle.block.proofs.Spread.{length-address, length-spread, part-spread}
use Rattle.block.proofs.HighFirst.{octets_of_bytes}
use Rattle.block.proofs.Filling.{filled_part, length_filled_part, filled_all}
use Rattle.block.proofs.put_addresses.Goals as goal

pub loop-i-preserved : goal.loop-i-preserved
loop-i-preserved c =
    let loop = c.loop-i in
    let xs = c.args.addresses.now in
    let part = c.copy_from_slice.new.self in
    let below = c.loop-i-test.true in
    let at = address_bytes * loop.i in
    let end = at + address_bytes in
    let next : address_bytes * (loop.i + 1) ≡ end = omega arith in
    let eight : part ≡ octets address_bytes (get_or xs loop.i 0) =
    octets_of_bytes address_bytes (get_or xs loop.i 0) c.copy_from_slice.ensures.after (search rules) in
    let long : length part ≡ address_bytes = ap length eight ∙ length-address (get_or xs loop.i 0) in
    let same : part ≡ take (end - at) (drop at (spread xs)) =
    rw (add-sub_cancel_left at address_bytes) (eight ∙ sym (part-spread xs loop.i below)) in (
      length_filled_part loop.out part at end (omega arith) (omega arith) (omega arith) ∙ loop.invariant.0,
      rw next (filled_part loop.out (spread xs) part at end (omega arith) (omega arith) (omega arith) loop.invariant.1 same),
    )

pub returns : goal.returns
returns c =
    let loop = c.loop-i in
    let xs = c.args.addresses.now in
    filled_all loop.out (spread xs) (address_bytes * loop.i) (loop.invariant.0 ∙ sym (length-spread xs)) (omega arith) loop.invariant.1
