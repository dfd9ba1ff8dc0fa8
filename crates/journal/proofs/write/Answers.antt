-- `journal::write` meets its contract: what is judged is answered, and a block is stored where the answer names a slot.
use Prim.Native.Nat.{◌+◌, ◌*◌, ◌-◌}
use mathlib.Core.Path.{◌≡◌, sym, ap, ◌∙◌}
use native.Mathlib.Omega.{arith}
use Rattle.block.specs.Block.{slot_bytes}
use Rattle.std.proofs.Common.{rules, tests, Ok, Err}
use Rattle.refusal.proofs.Numbers.{numbered}
use Rattle.journal.specs.Writing.{Placed, placed_answer, judging}
use Rattle.journal.proofs.WriteLaws.{judging-slot, writing-refused, writing-stored, writing_says, block_put-whole, with_slot-part, length_part}
use Rattle.journal.proofs.write.Goals as goal

pub returns-in_err-slot : goal.returns-in_err-slot
returns-in_err-slot c =
    let at = c.args in
    let r = c.in_err-slot.field-0.0 in
    let same : c.from_residual.result ≡ Err r = search (rules, tests) in
    let judged : placed_answer (Err r) ≡ judging at.journal.now at.addresses.now = c.in_err-slot.ensures in
    let says =
    writing_says _ (writing-refused at.journal.now at.addresses.now (λ z. numbered.some r (ap (λ (p : Placed). p.refusal) judged ∙ z))) in
    (ap placed_answer same ∙ judged ∙ says.0, says.1)

pub overflow_mul-begin : goal.overflow_mul-begin
overflow_mul-begin c =
    let at = c.args in
    let slot = (judging-slot at.journal.now at.addresses.now (ap (λ (p : Placed). p.refusal) (sym c.in_ok-slot.ensures))).0 in
    let same = ap (λ (p : Placed). p.slot) c.in_ok-slot.ensures in
    omega (arith, slot, same)

pub overflow_add-begin : goal.overflow_add-begin
overflow_add-begin c =
    let at = c.args in
    let slot = (judging-slot at.journal.now at.addresses.now (ap (λ (p : Placed). p.refusal) (sym c.in_ok-slot.ensures))).0 in
    let same = ap (λ (p : Placed). p.slot) c.in_ok-slot.ensures in
    omega (arith, slot, same)

pub slice_bounds-put-end : goal.slice_bounds-put-end
slice_bounds-put-end c =
    let at = c.args in
    let slot = (judging-slot at.journal.now at.addresses.now (ap (λ (p : Placed). p.refusal) (sym c.in_ok-slot.ensures))).0 in
    let same = ap (λ (p : Placed). p.slot) c.in_ok-slot.ensures in
    omega (arith, slot, same)

pub returns : goal.returns
returns c =
    let at = c.args in
    let judged : placed_answer (Ok c.in_ok-slot.slot) ≡ judging at.journal.now at.addresses.now = c.in_ok-slot.ensures in
    let z = ap (λ (p : Placed). p.refusal) (sym judged) in
    let says = writing_says _ (writing-stored at.journal.now at.addresses.now z) in
    let named = judging-slot at.journal.now at.addresses.now z in
    let same = ap (λ (p : Placed). p.slot) judged in
    let slot = c.in_ok-slot.slot in
    let width = slot_bytes * slot + slot_bytes - slot_bytes * slot in
    let whole : width ≡ slot_bytes = omega arith in
    let part = length_part slot width at.journal.now (omega (arith, named.0, same)) whole in
    let put = c.put.ensures ∙ block_put-whole at.addresses.now _ part named.1 in
    (judged ∙ says.0, with_slot-part slot _ width _ at.journal.now at.addresses.now same whole put ∙ says.1)
