-- Demand 2 for the header: "Every address we write as a header .. reads back as itself, and every header .. we accept is the one we would
-- have written."; and of document 02 (Eight) "demand 2's reading back, get one payload octet more". It is a statement of any writer and any reader,
-- at what they do to buffers, so that a wrong one can be refuted by it.
use Rattle.std.specs.Prelude.{◌≡◌, ◌↔◌, List, ◌++◌, ℕ, ◌^◌, ◌≤◌, ◌<◌, length, take, drop}
use Rattle.address.specs.Bits.{longest}
use Rattle.address.specs.Numbers.{IsAddress}
use Rattle.octets.specs.Octets.{WriteEffect, AreOctets, wrote}
use Rattle.header.specs.Header.{HeaderAnswer, found, place}

-- the address, and the lent buffer as it comes
abbrev pub HeaderWriter : Type 0
HeaderWriter = ℕ → List ℕ → WriteEffect

abbrev pub HeaderReader : Type 0
HeaderReader = List ℕ → HeaderAnswer

pub record HeaderRoundTrip (writer : HeaderWriter) (reader : HeaderReader) : Type 0 where
  -- in every buffer that has room the address is written in the fewest octets, and where the buffer has an octet more it reads as the address
  pub reads_back : (a : ℕ) (buffer : List ℕ) → IsAddress a → place a ≤ length buffer
      → ((writer a buffer).answer ≡ wrote (place a)) × (place a < length buffer → reader (writer a buffer).buffer ≡ found a (place a))
  -- in EVERY buffer, with every payload of at least one octet behind it: where the writer answers n without a refusal, the buffer as it then stands
  -- reads as the address at place n, behind n it is as it was, and it is as long: "On success only the words or octets named are written."
  pub where_done : (a : ℕ) (buffer payload : List ℕ) (n : ℕ) → a < 2 ^ longest → 0 < length payload → (writer a buffer).answer ≡ wrote n
      → (reader ((writer a buffer).buffer ++ payload) ≡ found a n)
      × (drop n (writer a buffer).buffer ≡ drop n buffer)
      × (length (writer a buffer).buffer ≡ length buffer)
  -- whatever is read is an address, its place below the packet's length; and up to the place the octets are what we write into any buffer that has
  -- room for them
  pub written_so : (p : List ℕ) (a k : ℕ) → AreOctets p → reader p ≡ found a k
      → IsAddress a × (k < length p)
      × ((buffer : List ℕ) → k ≤ length buffer → ((writer a buffer).answer ≡ wrote k) × (take k (writer a buffer).buffer ≡ take k p))
  -- "A packet whose payload is empty is refused with 16": exactly what we write of some address into a buffer of its length, and no more
  pub empty_exactly : (p : List ℕ) → AreOctets p
      → ((reader p).refusal ≡ 16)
      ↔ ((a : ℕ) × IsAddress a
      × ((buffer : List ℕ) → length buffer ≡ length p → ((writer a buffer).answer ≡ wrote (length p)) × ((writer a buffer).buffer ≡ p)))
