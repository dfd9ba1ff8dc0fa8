-- What is opened to compute a small tree, and an answer to a packet in it: whoever unfolds one of these unfolds all that it names.
use Rattle.address.specs.Bits.{bits, bits_in, last_bit, digit, number, number_from}
use Rattle.address.specs.Steps.{step_bits, last_of}
use Rattle.address.specs.Address.{bit_length, is_host, ends_in_one}
use Rattle.search.specs.Search.{looked_at, is_prefix, same_bit, kind_looked, index_looked}
use Rattle.node.proofs.Opened.{records-opened}
use Rattle.forward.specs.Forward.{next_hop, rules, toward}
use Rattle.tree.specs.Tree.{given_in, given_by, bare_root, record_of, replaced, with_child, answered, asked_of, settled, setting_of, ask, happen, grow, grown, addresses}
use Rattle.tree.specs.Way.{fate}

unfoldable pub bits-opened : Unit {0}
unfolding bits bits_in last_bit bit_length number number_from digit step_bits last_of is_host ends_in_one
bits-opened = tt

unfoldable pub trees_opened : Unit {0}
unfolding bits-opened records-opened given_in given_by grown grow happen ask asked_of settled setting_of answered with_child replaced record_of bare_root addresses
trees_opened = tt

unfoldable pub hops-opened : Unit {0}
unfolding bits-opened records-opened next_hop rules toward looked_at is_prefix same_bit kind_looked index_looked fate
hops-opened = tt
