-- `nsa::read_number` meets its contract: at most eight octets give a number of 64 bits. Assumes nothing.
use Rattle.std.proofs.Common.{◌≡◌, sym, ap, ◌∙◌, subst, ℕ, ◌+◌, ◌-◌, ◌%◌, ◌^◌, ◌≤◌, ◌<◌, List, length, take, drop, arith, length-take, length-drop}
use native.Mathlib.Nat.{add-sub_cancel_left}
use Rattle.octets.specs.Octets.{value, AreOctets}
use Rattle.octets.proofs.OctetLaws.{all_octets, take-octets, drop-octets, value-mod, value-lt}
use Rattle.nsa.specs.Fields.{field}
use Rattle.nsa.proofs.Cases.{number_reading-low, number_reading-found}
use Rattle.nsa.proofs.read_number.Goals as goal

-- the octets that are read: as many as the count, so that the number that they give has 64 bits
module _ (p : List ℕ) (before count : ℕ) (all : AreOctets p) (whole : before + count ≤ length p) where
  told-octets : AreOctets (take count (drop before p))
  told-octets = take-octets count (drop before p) (drop-octets before p all)

  length-told : length (take count (drop before p)) ≡ count
  length-told = simp (length-take, length-drop) (omega arith)

  number-told : count ≤ 8 → value (take (before + count - before) (drop before p)) % 2 ^ 64 ≡ value (take count (drop before p))
  number-told few =
      ap (λ (k : ℕ). value (take k (drop before p)) % 2 ^ 64) (add-sub_cancel_left before count)
      ∙ value-mod (take count (drop before p)) told-octets (omega (arith, length-told))

  told-less : value (take count (drop before p)) < 256 ^ count
  told-less = subst (λ (k : ℕ). value (take count (drop before p)) < 256 ^ k) length-told (value-lt (take count (drop before p)) told-octets)

pub returns-then-number-least : goal.returns-then-number-least
returns-then-number-least c =
    let at = c.args in
    let all = all_octets at.field.now (λ i. (c.type_inv.field i).fits) in
    let told = c.get-number.ensures ∙ number-told at.field.now at.before at.count all c.if-field-end.false c.requires.few in
    let low : value (take at.count (drop at.before at.field.now)) < at.least = omega (arith, told, c.if-number-least.true) in
    sym (number_reading-low at.before at.count at.least at.added at.field.now c.if-field-end.false low)

pub overflow_add-result : goal.overflow_add-result
overflow_add-result c =
    let at = c.args in
    let all = all_octets at.field.now (λ i. (c.type_inv.field i).fits) in
    let told = c.get-number.ensures ∙ number-told at.field.now at.before at.count all c.if-field-end.false c.requires.few in
    omega (arith, told, told-less at.field.now at.before at.count all c.if-field-end.false, c.requires.fits)

pub returns : goal.returns
returns c =
    let at = c.args in
    let all = all_octets at.field.now (λ i. (c.type_inv.field i).fits) in
    let told = c.get-number.ensures ∙ number-told at.field.now at.before at.count all c.if-field-end.false c.requires.few in
    let high : at.least ≤ value (take at.count (drop at.before at.field.now)) = omega (arith, told, c.if-number-least.false) in
    ap (λ (n : ℕ). field (n + at.added) (at.before + at.count)) told
    ∙ sym (number_reading-found at.before at.count at.least at.added at.field.now c.if-field-end.false high)
