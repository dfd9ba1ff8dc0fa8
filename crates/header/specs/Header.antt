-- The packet header. "Packet: octet 0xF1 (page 1, RFC 8025); octet 100sssss, where sssss is the number of address octets less one (house
-- choice); octet 15 as the type (house choice until a number is assigned); the address, most significant octet first; the payload", of which
-- document 02 (Eight) says: "A packet whose payload is empty is refused with 16".
use Rattle.std.specs.Prelude.{ℕ, ◌+◌, ◌*◌, ◌-◌, ◌/◌, ◌%◌, ◌≤◌, Bool, not, List, [], ◌∷◌, length, take, drop, get_or, eqb, ltb, if◌then◌else◌}
use Rattle.address.specs.Address.{bit_length}
use Rattle.octets.specs.Octets.{octets, value, WriteEffect, refuse_writing, write}
use Rattle.std.specs.Prelude.{Result, Ok, Err}
use Rattle.refusal.specs.declared.Refusal.{Refusal}
use Rattle.refusal.specs.Refusal.{number_of}
pub use Rattle.header.specs.declared.Header.{Header}

-- ---- how many octets an address takes

-- "Now the address takes the fewest octets, 1 to 8." (document 02, Three): the bit length, rounded up to whole octets. specs/Fewest.antt says
-- that these are the fewest.
unfoldable pub size : ℕ → ℕ
size a = (bit_length a + 7) / 8

-- "Document 01's size rule becomes '1 to 8'"
abbrev pub IsSize : ℕ → Type 0
IsSize s = (1 ≤ s) × (s ≤ 8)

-- the most octets that an address takes
abbrev pub most_octets : ℕ
most_octets = 8

-- ---- writing

-- "octet 0xF1 (page 1, RFC 8025)"
abbrev pub page_octet : ℕ
page_octet = 0xF1

-- the top three bits of the second octet, "100sssss": RFC 8138's pattern of a critical routing header
abbrev pub critical_pattern : ℕ
critical_pattern = 4

-- "octet 15 as the type (house choice until a number is assigned)"
abbrev pub routing_type : ℕ
routing_type = 15

-- the octets before the address
abbrev pub fixed_octets : ℕ
fixed_octets = 3

-- where the address's octets end and the payload begins
unfoldable pub place : ℕ → ℕ
place a = fixed_octets + size a

unfoldable pub header : ℕ → List ℕ
header a = page_octet ∷ (critical_pattern * 32 + (size a - 1)) ∷ routing_type ∷ octets (size a) a

-- "For writing a header 9, 10.": the address is zero; the lent output is too short
unfoldable pub writing : ℕ → List ℕ → WriteEffect
writing a buffer =
    if eqb a 0 then refuse_writing 9 buffer
    else if ltb (length buffer) (place a) then refuse_writing 10 buffer
    else write (header a) buffer

-- ---- reading

-- what a reading says: its number, the address and the place where the payload begins
pub record HeaderAnswer : Type 0 where
  pub refusal : ℕ
  pub address : ℕ
  pub place : ℕ

abbrev pub found : ℕ → ℕ → HeaderAnswer
found a k = record { refusal = 0; address = a; place = k }

-- "With any refusal the address, place, hop count and every other number returned beside its own are 0"
abbrev pub refused_header : ℕ → HeaderAnswer
refused_header n = record { refusal = n; address = 0; place = 0 }

-- the document's number and values for each case of the answer
abbrev pub header_answer : Result Header Refusal → HeaderAnswer
header_answer (Ok h) = found h.address.number h.place
header_answer (Err r) = refused_header (number_of r)

-- "the first three octets are checked in order; one that is absent is 4, one that is wrong is 5": 0 where none is
unfoldable pub in_order : List (ℕ → Bool) → List ℕ → ℕ
in_order [] p = 0
in_order (right ∷ rest) [] = 4
in_order (right ∷ rest) (o ∷ p) = if right o then in_order rest p else 5

abbrev pub is_page_octet : ℕ → Bool
is_page_octet o = eqb o page_octet

-- "(of the second only its top three bits)"
abbrev pub has_critical_pattern : ℕ → Bool
has_critical_pattern o = eqb (o / 32) critical_pattern

abbrev pub is_routing_type : ℕ → Bool
is_routing_type o = eqb o routing_type

unfoldable pub start_fault : List ℕ → ℕ
start_fault p = in_order (is_page_octet ∷ has_critical_pattern ∷ is_routing_type ∷ []) p

-- the number of address octets that the second octet tells
unfoldable pub size_told : List ℕ → ℕ
size_told p = get_or p 1 0 % 32 + 1

-- the address octets of a packet that has s of them
unfoldable pub address_octets : ℕ → List ℕ → List ℕ
address_octets s p = take s (drop fixed_octets p)

-- "refusal 6 means .. a first octet of zero where there are several, and 9 means a single zero octet": of an address in s octets, by the first
-- of them; 0 where neither is
unfoldable pub zero_fault : ℕ → ℕ → ℕ
zero_fault s first =
    if not (eqb first 0) then 0
    else if eqb s 1 then 9
    else 6

-- "refusal 6 means a size above 8 .."; no size below 1 is told. "Then a missing address octet is 4.", and then `zero_fault`
unfoldable pub address_fault : ℕ → List ℕ → ℕ
address_fault s p =
    if ltb most_octets s then 6
    else if ltb (length p) (fixed_octets + s) then 4
    else zero_fault s (get_or p fixed_octets 0)

-- what the header's own octets say, whatever is behind them: "The answer is the address and the place where the payload begins."
unfoldable pub octets_reading : List ℕ → HeaderAnswer
octets_reading p =
    if not (eqb (start_fault p) 0) then refused_header (start_fault p)
    else if not (eqb (address_fault (size_told p) p) 0) then refused_header (address_fault (size_told p) p)
    else found (value (address_octets (size_told p) p)) (fixed_octets + size_told p)

-- the fewest octets of a payload: it isn't empty
abbrev pub least_payload : ℕ
least_payload = 1

-- "A packet whose payload is empty is refused with 16, after every other header check" (document 02, Eight): an answer for a packet of so many octets
unfoldable pub with_payload : ℕ → HeaderAnswer → HeaderAnswer
with_payload many r =
    if not (eqb r.refusal 0) then r
    else if ltb many (r.place + least_payload) then refused_header 16
    else r

unfoldable pub reading : List ℕ → HeaderAnswer
reading p = with_payload (length p) (octets_reading p)
