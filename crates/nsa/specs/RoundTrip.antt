-- Demand 2 for the older fields: "Whatever is accepted is what we would write, and the reverse." It is a statement of any writer and any reader, at
-- what they do to buffers, so that a wrong one can be refuted by it.
use Rattle.std.specs.Prelude.{◌≡◌, List, ◌++◌, ℕ, ◌^◌, ◌≤◌, ◌<◌, length, take, drop}
use Rattle.address.specs.Bits.{longest}
use Rattle.address.specs.Numbers.{IsAddress}
use Rattle.octets.specs.Octets.{WriteEffect, AreOctets, wrote}
use Rattle.nsa.specs.Fields.{fields, longest_payload, FieldsAnswer, found}

-- payload length, source and destination, and the lent buffer as it comes
abbrev pub FieldsWriter : Type 0
FieldsWriter = ℕ → ℕ → ℕ → List ℕ → WriteEffect

abbrev pub FieldsReader : Type 0
FieldsReader = List ℕ → FieldsAnswer

pub record FieldsRoundTrip (writer : FieldsWriter) (reader : FieldsReader) : Type 0 where
  -- in every buffer that has room the fields are written, those of the document and nothing else, and the buffer reads as the three numbers
  pub reads_back : (l s d : ℕ) (buffer : List ℕ) → l ≤ longest_payload → IsAddress s → IsAddress d → length (fields l s d) ≤ length buffer
      → ((writer l s d buffer).answer ≡ wrote (length (fields l s d)))
      × ((writer l s d buffer).buffer ≡ fields l s d ++ drop (length (fields l s d)) buffer)
      × (reader (writer l s d buffer).buffer ≡ found l s d (length (fields l s d)))
  -- in EVERY buffer, with anything behind it: where the writer answers k without a refusal, the buffer as it then stands reads as the three
  -- numbers with the place k, behind k it is as it was, and it is as long: "On success only the words or octets named are written."
  pub where_done : (l s d : ℕ) (buffer behind : List ℕ) (k : ℕ) → s < 2 ^ longest → d < 2 ^ longest → (writer l s d buffer).answer ≡ wrote k
      → (reader ((writer l s d buffer).buffer ++ behind) ≡ found l s d k)
      × (drop k (writer l s d buffer).buffer ≡ drop k buffer)
      × (length (writer l s d buffer).buffer ≡ length buffer)
  -- whatever is read is a length and two addresses, their place within the octets; and up to the place these are what we write into any buffer
  -- that has room for them
  pub written_so : (p : List ℕ) (l s d k : ℕ) → AreOctets p → reader p ≡ found l s d k
      → (l ≤ longest_payload) × IsAddress s × IsAddress d × (k ≤ length p)
      × ((buffer : List ℕ) → k ≤ length buffer → ((writer l s d buffer).answer ≡ wrote k) × (take k (writer l s d buffer).buffer ≡ take k p))
