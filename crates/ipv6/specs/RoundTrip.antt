-- Demand 2 for the IPv6 form: "Every address we write .. as IPv6 reads back as itself, and every .. IPv6 form we accept is the one we would
-- have written." It is a statement of any writer and any reader, at what they do to buffers, so that a wrong one can be refuted by it.
use Rattle.std.specs.Prelude.{◌≡◌, List, ℕ, ◌^◌, ◌≤◌, ◌<◌, length, take, drop}
use Rattle.address.specs.Bits.{longest}
use Rattle.address.specs.Numbers.{IsAddress}
use Rattle.address.specs.Address.{AddressAnswer, valid_address}
use Rattle.octets.specs.Octets.{WriteEffect, AreOctets, wrote}
use Rattle.ipv6.specs.Form.{half, whole}

-- the prefix, the address, and the lent buffer as it comes
abbrev pub FormWriter : Type 0
FormWriter = List ℕ → ℕ → List ℕ → WriteEffect

-- the prefix, and the IPv6 address
abbrev pub FormReader : Type 0
FormReader = List ℕ → List ℕ → AddressAnswer

pub record FormRoundTrip (writer : FormWriter) (reader : FormReader) : Type 0 where
  -- with every prefix of 8 octets, in every buffer that has room the address is written, and the first 16 octets read as the address
  pub reads_back : (prefix : List ℕ) (a : ℕ) (buffer : List ℕ) → length prefix ≡ half → IsAddress a → whole ≤ length buffer
      → ((writer prefix a buffer).answer ≡ wrote whole) × (reader prefix (take whole (writer prefix a buffer).buffer) ≡ valid_address a)
  -- with EVERY prefix, in EVERY buffer: where the writer answers n without a refusal, n is 16, the first 16 octets of the buffer as it then
  -- stands read as the address, and behind them it is as it was: "On success only the words or octets named are written."
  pub where_done : (prefix : List ℕ) (a : ℕ) (buffer : List ℕ) (n : ℕ) → a < 2 ^ longest → (writer prefix a buffer).answer ≡ wrote n
      → (n ≡ whole)
      × (reader prefix (take whole (writer prefix a buffer).buffer) ≡ valid_address a)
      × (drop whole (writer prefix a buffer).buffer ≡ drop whole buffer)
      × (length (writer prefix a buffer).buffer ≡ length buffer)
  -- whatever reads as an address is 16 octets, and those that we write into any buffer that holds them
  pub written_so : (prefix ipv6 : List ℕ) (a : ℕ) → AreOctets ipv6 → reader prefix ipv6 ≡ valid_address a
      → IsAddress a × (length prefix ≡ half) × (length ipv6 ≡ whole)
      × ((buffer : List ℕ) → whole ≤ length buffer
      → ((writer prefix a buffer).answer ≡ wrote whole) × (take whole (writer prefix a buffer).buffer ≡ ipv6))
