-- `header::read` meets its contract: where no check finds a fault, the octets behind the first three give the address. Assumes nothing.
use Rattle.std.proofs.Common.{◌≡◌, sym, ap, ◌∙◌, List, ℕ, ◌+◌, ◌%◌, ◌^◌, ◌<◌, length, arith}
use Rattle.octets.specs.Octets.{value}
use Rattle.octets.proofs.OctetLaws.{all_octets, value-mod}
use Rattle.header.specs.Header.{found, size_told, address_octets}
use Rattle.header.proofs.Parts.{length-address_octets, part-address_octets, octets-address_octets, address_fault-zero}
use Rattle.header.proofs.Cases.{octets_reading-found}
use Rattle.header.proofs.Payload.{reading-found}
use Rattle.header.proofs.read.Goals as goal

pub returns : goal.returns
unfolding size_told
returns c =
    let p = c.args.packet.now in
    let start = sym c.in_ok-check_start.ensures in
    let address = sym c.in_ok-check_address.ensures in
    let whole = address_fault-zero (size_told p) p address in
    let number : c.of.result.number ≡ value (address_octets (size_told p) p) =
    c.of.ensures
    ∙ c.get-number.ensures
    ∙ ap (λ (os : List ℕ). value os % 2 ^ 64) (part-address_octets (size_told p) p)
    ∙ value-mod (address_octets (size_told p) p)
    (octets-address_octets (size_told p) p (all_octets p (λ i. omega (arith, c.type_inv.packet i))))
    (omega (arith, length-address_octets (size_told p) p whole.1, whole.0)) in
    let some : 3 + size_told p < length p = omega (arith, c.if-packet-end.false) in
    ap (λ (a : ℕ). found a (3 + size_told p)) number
    ∙ sym (reading-found p (octets_reading-found p start address) some)
