-- Whoever unfolds `reading-opened` unfolds all that reading a header is computed by.
use Rattle.octets.specs.Octets.{value, joined}
use Rattle.header.specs.Header.{in_order, start_fault, size_told, address_octets, zero_fault, address_fault, octets_reading, with_payload, reading}

unfoldable pub reading-opened : Unit {0}
unfolding value joined in_order start_fault size_told address_octets zero_fault address_fault octets_reading with_payload reading
reading-opened = tt
