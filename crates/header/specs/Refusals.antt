-- Demand 1 for the header: each refusal is "given exactly when that document says", as document 02 (Three, Eight) amends it, in the document's order. The
-- conditions are the documents' words about addresses, buffers and octets, apart from the tests that `writing` and `reading` run. The statements
-- are of any writer and any reader, so that a wrong one can be refuted by them.
use Rattle.std.specs.Prelude.{◌≡◌, ◌⊎◌, List, ◌∷◌, ◌++◌, ℕ, ◌+◌, ◌-◌, ◌≤◌, ◌<◌, length, get_or}
use Rattle.address.specs.Order.{Order, done, ◌when◌otherwise◌, ◌then◌, GivenExactly}
use Rattle.octets.specs.Octets.{value}
use Rattle.octets.specs.Lent.{RefusalLeaves, SuccessWrites}
use Rattle.header.specs.Header.{IsSize, header}
use Rattle.header.specs.RoundTrip.{HeaderWriter, HeaderReader}

-- ---- writing

-- "For writing a header 9, 10."
abbrev pub writing_order : ℕ → List ℕ → Order
writing_order a buffer =
    -- "an address is zero"
    9 when a ≡ 0
    -- "lent output too short"
    otherwise 10 when length buffer < length (header a)
    otherwise done

pub record HeaderWriteRefusals (writer : HeaderWriter) : Type 0 where
  pub given : (a : ℕ) (buffer : List ℕ) → GivenExactly (writing_order a buffer) (writer a buffer).answer.refusal
  pub beside : (a : ℕ) (buffer : List ℕ) → RefusalLeaves buffer (writer a buffer)
  pub without : (a : ℕ) (buffer : List ℕ) → SuccessWrites (header a) buffer (writer a buffer)

-- ---- reading

-- an octet of the packet, counted from 0; where it is absent, 0
abbrev pub octet_at : ℕ → List ℕ → ℕ
octet_at i p = get_or p i 0

abbrev pub Absent : ℕ → List ℕ → Type 0
Absent i p = length p ≤ i

-- "its top three bits" are not those of "100sssss"
abbrev pub OtherTopBits : ℕ → Type 0
OtherTopBits o = (o < 0b10000000) ⊎ (0b10100000 ≤ o)

-- "sssss is the number of address octets less one", of a second octet 100sssss
abbrev pub size_said : List ℕ → ℕ
size_said p = octet_at 1 p - 0b10000000 + 1

-- behind the first three octets, where s address octets are said: document 01's order, and from document 02 (Three) "Document 01's size rule becomes
-- '1 to 8', refusal 6 means a size above 8 or a first octet of zero where there are several, and 9 means a single zero octet."
abbrev pub sized_order : ℕ → List ℕ → Order
sized_order s p =
    -- "a size above 8"
    6 when 8 < s
    -- "Then a missing address octet is 4."
    otherwise 4 when length p < 3 + s
    -- "a single zero octet"
    otherwise 9 when ((s ≡ 1) × (octet_at 3 p ≡ 0))
    -- "a first octet of zero where there are several"
    otherwise 6 when ((1 < s) × (octet_at 3 p ≡ 0))
    otherwise done

-- the checks of a header's own octets
abbrev pub octets_order : List ℕ → Order
octets_order p =
    -- "the first three octets are checked in order; one that is absent is 4, one that is wrong is 5 (of the second only its top three bits)."
    4 when Absent 0 p
    otherwise 5 when (octet_at 0 p ≡ 0xF1 → ⊥)
    otherwise 4 when Absent 1 p
    otherwise 5 when OtherTopBits (octet_at 1 p)
    otherwise 4 when Absent 2 p
    otherwise 5 when (octet_at 2 p ≡ 15 → ⊥)
    otherwise sized_order (size_said p) p

-- "A packet whose payload is empty is refused with 16, after every other header check" (document 02, Eight): no octet stands behind the address's
abbrev pub reading_order : List ℕ → Order
reading_order p = octets_order p then (16 when Absent (3 + size_said p) p otherwise done)

-- "Packet: octet 0xF1 ..; octet 100sssss, where sssss is the number of address octets less one ..; octet 15 as the type ..; the address,
-- most significant octet first; the payload". "The answer is the address and the place where the payload begins."
pub record AcceptedHeader (p : List ℕ) (address place : ℕ) : Type 0 where
  pub os : List ℕ
  pub payload : List ℕ
  pub laid : p ≡ 0xF1 ∷ (0b10000000 + (length os - 1)) ∷ 15 ∷ (os ++ payload)
  pub sized : IsSize (length os)
  pub number : address ≡ value os
  pub behind : place ≡ 3 + length os

pub record HeaderReadRefusals (reader : HeaderReader) : Type 0 where
  pub given : (p : List ℕ) → GivenExactly (reading_order p) (reader p).refusal
  -- "With any refusal the address, place, .. and every other number returned beside its own are 0"
  pub beside : (p : List ℕ) → ((reader p).refusal ≡ 0 → ⊥) → ((reader p).address ≡ 0) × ((reader p).place ≡ 0)
  -- the payload isn't empty: its place is one of the packet's
  pub without : (p : List ℕ) → (reader p).refusal ≡ 0 → AcceptedHeader p (reader p).address (reader p).place × ((reader p).place < length p)
