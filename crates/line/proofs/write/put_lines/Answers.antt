-- The next line is the address at the index and the newline.
use Rattle.std.proofs.Common.{◌≡◌, ◌+◌, ◌-◌, ◌<◌, ◌≤◌, length, get_or, refl, ap, ◌∙◌, arith, length-append, length-take, length-drop}
use Rattle.line.specs.Line.{address_text, lines}
use Rattle.line.proofs.Fills.{put_mid, digits-address, line-next, line-room, line-stored}
use Rattle.line.proofs.write.put_lines.Goals as goal
use Rattle.line.proofs.write.put_lines.Goals.{After-address_size, After-put_digits}

pub loop-address-init : goal.loop-address-init
unfolding lines
loop-address-init c = record { place = refl; stored = refl }

room : (c : After-address_size) → c.loop-address.at + c.address_size.result + 1 ≤ length c.loop-address.out
room c = omega (arith, line-room c.args.addresses.now c.loop-address.address-index c.loop-address-test.true)

text : (c : After-put_digits) → c.put_digits.new.out ≡ address_text (get_or c.args.addresses.now c.loop-address.address-index 0)
text c =
    c.put_digits.ensures
    ∙ digits-address _ (get_or c.args.addresses.now c.loop-address.address-index 0) (c.type_inv.addresses c.loop-address.address-index).fits
    (simp (length-take, length-drop) (omega (arith, room (goal.at.After-put_digits c).After-address_size)))

within : (c : After-put_digits)
    → c.loop-address.at + c.address_size.result
    < length (put_mid c.loop-address.at (c.loop-address.at + c.address_size.result - c.loop-address.at) c.loop-address.out c.put_digits.new.out)
within c =
    simp (length-append, length-take, length-drop) (omega (arith, ap length (text c), room (goal.at.After-put_digits c).After-address_size))

pub slice_bounds-put_digits-end : goal.slice_bounds-put_digits-end
slice_bounds-put_digits-end c = omega (arith, room (goal.at.slice_bounds-put_digits-end c).After-address_size)

pub bounds-out-end : goal.bounds-out-end
bounds-out-end c = within (goal.at.bounds-out-end c).After-put_digits

pub loop-address-preserved : goal.loop-address-preserved
loop-address-preserved c =
    let at = (goal.at.loop-address-preserved c).After-put_digits in
    record {
      place = omega (arith, line-next c.args.addresses.now c.loop-address.address-index c.loop-address-test.true);
      stored = line-stored c.args.addresses.now c.loop-address.address-index c.loop-address-test.true c.loop-address.out c.put_digits.new.out
          c.loop-address.invariant.stored (text at) (omega (arith, ap length (text at))) (omega (arith, room (goal.at.loop-address-preserved c).After-address_size)) (within at);
    }
