-- `block::is_block` meets its contract: each return is one case of `is_block` by the tests on its way. Assumes nothing.
use Rattle.std.proofs.Common.{◌≡◌, ℕ, ◌≤◌, ◌%◌, ◌^◌, true, List, take, drop, sym, ◌∙◌, arith}
use Rattle.std.proofs.Math.ListN.{length-take}
use Rattle.octets.specs.Octets.{value, AreOctets}
use Rattle.octets.proofs.OctetLaws.{all_octets, take-octets, drop-octets, value-mod}
use Rattle.block.specs.Block.{most_addresses, checked, count_in, is_count, told_in}
use Rattle.block.proofs.Cases.{is_count_true}
use Rattle.block.proofs.Cases.{is_block-last}
use Rattle.block.proofs.is_block.Goals as goal

-- the two bytes give the CRC that is told
told : (slot : List ℕ) (n : ℕ) → AreOctets slot → n ≡ value (take 2 (drop checked slot)) % 2 ^ 64 → n ≡ told_in slot
told slot n all e =
    let part = take 2 (drop checked slot) in
    e ∙ value-mod part (take-octets 2 (drop checked slot) (drop-octets checked slot all)) (simp length-take (omega arith))

counted : (slot : List ℕ) → 1 ≤ count_in slot → count_in slot ≤ most_addresses → is_count (count_in slot) ≡ true
counted slot some few = is_count_true (count_in slot) (some, few)

pub returns : goal.returns
returns c =
    let slot = c.args.slot.now in
    let count = counted slot (omega arith) (omega arith) in
    let zeros = sym c.all_are.ensures ∙ c.if-not-all_are.false in
    let all = all_octets slot (λ i. omega (arith, c.type_inv.slot i)) in
    sym (is_block-last slot c.if-slot-ne-SLOT.false c.if-slot-ne-FIRST_BYTE.false count zeros
    (sym (told slot c.get-told.result all c.get-told.ensures) ∙ c.if-told-crc.false ∙ c.crc.ensures))
