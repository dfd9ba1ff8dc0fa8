-- Wrong readers, which the statement of demand 2 or of demand 1 must exclude.
use Rattle.std.specs.Prelude.{◌&&◌, ◌+◌, ◌%◌, eqb, ltb, leb, length, if◌then◌else◌}
use Rattle.octets.specs.Octets.{value}
use Rattle.header.specs.Header.{most_octets, fixed_octets, octets_reading, reading, found, refused_header, start_fault, size_told, address_octets}
use Rattle.header.specs.RoundTrip.{HeaderReader}

-- it takes two octets also where the first is zero and one would do; right otherwise
unfoldable pub surplus_reader : HeaderReader
surplus_reader p =
    if eqb (start_fault p) 0 && eqb (size_told p) 2 && ltb (fixed_octets + 2) (length p) && ltb 0 (value (address_octets 2 p))
    then found (value (address_octets 2 p)) (fixed_octets + 2)
    else reading p

-- it refuses an odd number of octets, as it was right before document 02 (Three); right otherwise
unfoldable pub even_reader : HeaderReader
even_reader p = if eqb (start_fault p) 0 && eqb (size_told p % 2) 1 then refused_header 6 else reading p

-- 4 before 6: it looks for the address's octets before it judges their number; right otherwise
unfoldable pub missing_first_reader : HeaderReader
missing_first_reader p = if eqb (start_fault p) 0 && ltb (length p) (fixed_octets + size_told p) then refused_header 4 else reading p

-- 16 before 9, and before 6 of a first zero: it looks for a payload before it looks at zeros; right otherwise
unfoldable pub empty_first_reader : HeaderReader
empty_first_reader p =
    if eqb (start_fault p) 0 && leb (size_told p) most_octets && eqb (length p) (fixed_octets + size_told p) then refused_header 16
    else reading p

-- it wants a payload of two octets, and takes one of one octet for empty; right otherwise
unfoldable pub two_octets_reader : HeaderReader
two_octets_reader p = if eqb (reading p).refusal 0 && eqb (length p) ((reading p).place + 1) then refused_header 16 else reading p

-- 16 before 4: it takes a packet that ends within the address for an empty one; right otherwise
unfoldable pub short_empty_reader : HeaderReader
short_empty_reader p =
    if eqb (start_fault p) 0 && leb (size_told p) most_octets && ltb (length p) (fixed_octets + size_told p) then refused_header 16
    else reading p

-- it gives the address and the place beside 16; right otherwise
unfoldable pub beside_empty_reader : HeaderReader
beside_empty_reader p =
    if eqb (reading p).refusal 16 then record { refusal = 16; address = (octets_reading p).address; place = (octets_reading p).place }
    else reading p
