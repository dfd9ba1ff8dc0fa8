-- Wrong readers, which the statement of demand 2 or of demand 1 must exclude.
use Rattle.std.specs.Prelude.{◌&&◌, ◌+◌, ◌-◌, eqb, ltb, leb, length, take, drop, get_or, if◌then◌else◌}
use Rattle.octets.specs.Octets.{value}
use Rattle.nsa.specs.Fields.{found, refused_fields, length_reading, reading}
use Rattle.nsa.specs.RoundTrip.{FieldsReader}
use Rattle.nsa.specs.Refusals.{address_end}

-- behind a payload length in one octet it takes a source in the two octets after 253 also where it would stand alone, before a destination in one
-- octet; right otherwise
unfoldable pub longer_fields_reader : FieldsReader
longer_fields_reader p =
    if ltb (get_or p 0 0) 253 && eqb (get_or p 1 0) 253 && ltb 0 (value (take 2 (drop 2 p))) && ltb 0 (get_or p 4 0) && ltb (get_or p 4 0) 253
    then found (get_or p 0 0) (value (take 2 (drop 2 p))) (get_or p 4 0) 5
    else reading p

-- the plus of 252 forgotten; right otherwise
unfoldable pub unadded_fields_reader : FieldsReader
unadded_fields_reader p =
    if eqb (reading p).refusal 0 && ltb 252 (reading p).length
    then found ((reading p).length - 252) (reading p).source (reading p).destination (reading p).place
    else reading p

-- behind a payload length in one octet it looks for a source's octets before it judges their number; right otherwise
unfoldable pub late_length_fields_reader : FieldsReader
late_length_fields_reader p =
    if ltb (get_or p 0 0) 253 && eqb (get_or p 1 0) 255 && ltb (length p) (3 + get_or p 2 0) then refused_fields 4
    else reading p

-- behind a payload length in one octet it has 9 also for a source of zero in the two octets after 253; right otherwise
unfoldable pub long_zeros_nine_fields_reader : FieldsReader
long_zeros_nine_fields_reader p =
    if ltb (get_or p 0 0) 253 && eqb (get_or p 1 0) 253 && leb 4 (length p) && eqb (value (take 2 (drop 2 p))) 0 then refused_fields 9
    else reading p

-- it waits for an octet after a payload length's 255; right otherwise
unfoldable pub late_reserved_fields_reader : FieldsReader
late_reserved_fields_reader p = if eqb (length p) 1 && eqb (get_or p 0 0) 255 then refused_fields 4 else reading p

-- it looks for a destination before it judges the source: with nothing behind the source it answers 4, whatever the source is; right otherwise
unfoldable pub destination_first_fields_reader : FieldsReader
destination_first_fields_reader p =
    if eqb (length_reading p).refusal 0 && leb (length p) ((length_reading p).size + address_end (drop (length_reading p).size p)) then refused_fields 4
    else reading p

-- source and destination exchanged; right otherwise
unfoldable pub exchanging_fields_reader : FieldsReader
exchanging_fields_reader p =
    if eqb (reading p).refusal 0 then found (reading p).length (reading p).destination (reading p).source (reading p).place
    else reading p
