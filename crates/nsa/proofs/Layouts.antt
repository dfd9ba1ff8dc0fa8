-- The cases of a field's layout, for the functions that choose one and measure it. Assumes nothing.
use Rattle.octets.proofs.OctetLaws.{length-octets}
use Rattle.nsa.proofs.Writing.{length_field_alone, length_field-one, length_field_two, address_field_alone, address_field_two, address_field_four, address_field-counted, long_octets_five, long_octets_six, long_octets_seven, long_octets_eight}

pub ruleset size_cases = (length-octets)

pub ruleset length_cases = (length_field_alone, length_field-one, length_field_two)

pub ruleset address_cases = (address_field_alone, address_field_two, address_field_four, address_field-counted)

pub ruleset long_cases = (long_octets_five, long_octets_six, long_octets_seven, long_octets_eight)
