-- A wrong reader, which demand 2 must exclude.
use Rattle.std.specs.Prelude.{eqb, length, take, if◌then◌else◌}
use Rattle.ipv6.specs.Form.{whole, form_reading}
use Rattle.ipv6.specs.RoundTrip.{FormReader}

-- it takes 17 octets by their first 16; right otherwise
unfoldable pub surplus_form_reader : FormReader
surplus_form_reader prefix ipv6 = if eqb (length ipv6) 17 then form_reading prefix (take whole ipv6) else form_reading prefix ipv6
