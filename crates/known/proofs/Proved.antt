-- Every row holds by computation. Assumes nothing.
use mathlib.Core.Path.{refl}
use Rattle.known.specs.Known.{KnownValues, table, after_all}
use Rattle.address.specs.Bits.{last_bit, bits_in, bits, digit, number_from, number}
use Rattle.address.specs.Steps.{last_step, cut, steps_of, steps, last_of, step_bits, spelled, address_of}
use Rattle.address.specs.Address.{bit_length, ends_in_one, is_host, above, parent}
use Rattle.octets.specs.Octets.{octets, refuse_writing, write}
use Rattle.search.specs.Search.{looked_at, same_bit, is_prefix, kind_looked, index_looked}
use Rattle.node.proofs.Opened.{records-opened}
use Rattle.forward.specs.Forward.{toward, rules, next_hop}
use Rattle.header.specs.Header.{size, place, header, writing}
use Rattle.header.proofs.Opened.{reading-opened}

pub known_values : KnownValues
unfolding table after_all last_bit bits_in bits digit number_from number last_step cut steps_of steps last_of step_bits spelled address_of bit_length
    ends_in_one is_host above parent octets refuse_writing write looked_at same_bit is_prefix kind_looked index_looked
    records-opened toward rules next_hop size place header writing reading-opened
known_values = (refl, (refl, (refl, (refl, (refl, (refl, (refl, (refl, (refl, (refl, (refl, (refl, (refl, (refl, (refl, tt)))))))))))))))
