-- A digit for each bit.
use Rattle.std.proofs.Common.{◌≡◌, length, sym, ap, ◌∙◌, arith}
use Rattle.address.specs.Address.{bit_length}
use Rattle.line.specs.Line.{address_text}
use Rattle.line.proofs.Texts.{length-address_text, length-address_text-le}
use Rattle.line.proofs.write.address_size.Goals as goal

pub returns : goal.returns
returns c =
    let size : c.bit_length.result ≡ length (address_text c.args.address) =
    c.bit_length.ensures ∙ ap bit_length c.of.ensures ∙ sym (length-address_text c.args.address) in
    record { size = size; most = omega (arith, length-address_text-le c.args.address) }
