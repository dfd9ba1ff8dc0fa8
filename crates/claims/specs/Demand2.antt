-- Demand 2: "Every address we write as a header or as IPv6 reads back as itself, and every header or IPv6 form we accept is the one we would have
-- written."; of a header, since document 02 (Eight), with at least one payload octet behind it.
use Rattle.std.specs.Prelude.{ℕ, suc, ◌+◌, ◌*◌, ◌-◌, ◌/◌, ◌%◌, ◌^◌, ◌≤◌, ◌<◌, ◌≡◌, ◌↔◌, true, List, [], ◌∷◌, ◌++◌, length, take, drop}
use Rattle.address.specs.Numbers.{IsAddress}
use Rattle.address.specs.Address.{valid_address}
use Rattle.octets.specs.Octets.{AreOctets, octets, value, same, wrote}
use Rattle.header.specs.Header.{size, place, header, writing, reading, found, refused_header}
use Rattle.ipv6.specs.Form.{form_writing, form_reading}
use Rattle.ipv6.specs.Refusals.{AcceptedForm}

pub record Headers : Type 0 where
  -- "octet 0xF1 ..; octet 100sssss, where sssss is the number of address octets less one ..; octet 15 as the type ..; the address, most
  -- significant octet first": a header's octets
  pub laid : (a : ℕ) → header a ≡ 0xF1 ∷ (128 + (size a - 1)) ∷ 15 ∷ octets (size a) a
  -- "Now the address takes the fewest octets, 1 to 8." (document 02, Three)
  pub takes : (a : ℕ) → (place a ≡ 3 + size a) × (length (header a) ≡ 3 + size a)
  pub one_to_eight : (a : ℕ) → IsAddress a → (1 ≤ size a) × (size a ≤ 8)
  pub holds : (a : ℕ) → IsAddress a → a < 256 ^ size a
  pub fewest : (a s : ℕ) → IsAddress a → a < 256 ^ s → size a ≤ s
  -- what the answers are
  pub answers_written : (n : ℕ) → wrote n ≡ record { refusal = 0; count = n }
  pub answers_found : (a k : ℕ) → found a k ≡ record { refusal = 0; address = a; place = k }
  pub answers_refused : (n : ℕ) → refused_header n ≡ record { refusal = n; address = 0; place = 0 }
  -- in every buffer that has room the header is written, and nothing else
  pub written : (a : ℕ) (buffer : List ℕ) → IsAddress a → place a ≤ length buffer
      → ((writing a buffer).answer ≡ wrote (place a)) × ((writing a buffer).buffer ≡ header a ++ drop (place a) buffer)
  -- in every buffer, with any payload of at least one octet behind it: wherever the writer is done, with n octets, what stands there reads as the
  -- address at place n
  pub reads_back : (a : ℕ) (buffer payload : List ℕ) (n : ℕ) → a < 2 ^ 64 → 0 < length payload → (writing a buffer).answer ≡ wrote n
      → reading ((writing a buffer).buffer ++ payload) ≡ found a n
  -- so does a buffer that has an octet more than the header, as it then stands
  pub reads_back_in_place : (a : ℕ) (buffer : List ℕ) → IsAddress a → place a < length buffer
      → reading (writing a buffer).buffer ≡ found a (place a)
  -- and behind n the buffer is as it was
  pub spares_the_rest : (a : ℕ) (buffer : List ℕ) (n : ℕ) → (writing a buffer).answer ≡ wrote n → drop n (writing a buffer).buffer ≡ drop n buffer
  -- whatever is read is an address, its place below the packet's length; and up to the place the octets are what we write into any buffer that has
  -- room for them
  pub accepts_addresses : (p : List ℕ) (a k : ℕ) → AreOctets p → reading p ≡ found a k → IsAddress a × (k < length p)
  pub accepts_the_written : (p : List ℕ) (a k : ℕ) → AreOctets p → reading p ≡ found a k → (buffer : List ℕ) → k ≤ length buffer
      → ((writing a buffer).answer ≡ wrote k) × (take k (writing a buffer).buffer ≡ take k p)
  -- whatever is accepted is laid out as a header, with a payload of at least one octet behind it: the address is the number of its octets, 1 to 8 of
  -- them, and the place is behind them
  pub accepts_so : (p : List ℕ) → (reading p).refusal ≡ 0
      → (os : List ℕ) × (payload : List ℕ) × (p ≡ 0xF1 ∷ (128 + (length os - 1)) ∷ 15 ∷ (os ++ payload))
      × ((0 < length payload) × (1 ≤ length os) × (length os ≤ 8) × ((reading p).address ≡ value os) × ((reading p).place ≡ 3 + length os))
  -- "most significant octet first"
  pub most_significant_first : (o : ℕ) (os : List ℕ) → value (o ∷ os) ≡ o * 256 ^ length os + value os
  pub value_of_none : value [] ≡ 0
  -- octets are numbers below 256
  pub no_octet : AreOctets []
  pub an_octet_more : (o : ℕ) (os : List ℕ) → AreOctets (o ∷ os) ↔ ((o < 256) × AreOctets os)
  -- k octets give their number back, and numbers their octets
  pub octets_hold : (k n : ℕ) → n < 256 ^ k → AreOctets (octets k n) × (length (octets k n) ≡ k) × (value (octets k n) ≡ n)
  -- the last k octets, also of a number that they do not hold
  pub octets_of_none : (n : ℕ) → octets 0 n ≡ []
  pub octets_of_more : (k n : ℕ) → octets (suc k) n ≡ octets k (n / 256) ++ (n % 256 ∷ [])
  pub octets_shown : (os : List ℕ) → AreOctets os → octets (length os) (value os) ≡ os
  -- the test for the same octets
  pub same_octets : (xs ys : List ℕ) → (same xs ys ≡ true) ↔ (xs ≡ ys)

pub record Forms : Type 0 where
  -- with every prefix of 8 octets, in every buffer that has room the form is written
  pub written : (prefix : List ℕ) (a : ℕ) (buffer : List ℕ) → length prefix ≡ 8 → IsAddress a → 16 ≤ length buffer
      → (form_writing prefix a buffer).answer ≡ wrote 16
  -- with every prefix, in every buffer: wherever the writer is done, it wrote 16 octets, which read as the address
  pub reads_back : (prefix : List ℕ) (a : ℕ) (buffer : List ℕ) (n : ℕ) → a < 2 ^ 64 → (form_writing prefix a buffer).answer ≡ wrote n
      → (n ≡ 16) × (form_reading prefix (take 16 (form_writing prefix a buffer).buffer) ≡ valid_address a)
  pub spares_the_rest : (prefix : List ℕ) (a : ℕ) (buffer : List ℕ) (n : ℕ) → a < 2 ^ 64 → (form_writing prefix a buffer).answer ≡ wrote n
      → drop 16 (form_writing prefix a buffer).buffer ≡ drop 16 buffer
  -- "prefix of 8 octets, then the address in 8 octets": whatever is accepted is laid out so
  pub accepts_so : (prefix ipv6 : List ℕ) → (form_reading prefix ipv6).refusal ≡ 0 → AcceptedForm prefix ipv6 (form_reading prefix ipv6).address
  -- whatever reads as an address is 16 octets behind a prefix of 8, and those that we write into any buffer that holds them
  pub accepts_addresses : (prefix ipv6 : List ℕ) (a : ℕ) → AreOctets ipv6 → form_reading prefix ipv6 ≡ valid_address a
      → IsAddress a × (length prefix ≡ 8) × (length ipv6 ≡ 16)
  pub accepts_the_written : (prefix ipv6 : List ℕ) (a : ℕ) → AreOctets ipv6 → form_reading prefix ipv6 ≡ valid_address a
      → (buffer : List ℕ) → 16 ≤ length buffer
      → ((form_writing prefix a buffer).answer ≡ wrote 16) × (take 16 (form_writing prefix a buffer).buffer ≡ ipv6)
