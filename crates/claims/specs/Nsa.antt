-- Request Seven: the older fields of NSA, "three in a row: payload length, source, destination". What a field is and that it is the shortest form;
-- demand 1 and demand 2 for the three together; values on the boundaries; what the code promises; and the wrong writers and readers. What is said with
-- other entries is not said again: which numbers are addresses (Addresses), what an order says (Demand1), which lists are octets, `wrote` (Demand2). The `length` of an
-- answer is the payload's, as C has it; that of a list is how many octets it has.
use Rattle.std.specs.Prelude.{ℕ, ◌+◌, ◌-◌, ◌*◌, ◌^◌, ◌≤◌, ◌<◌, ◌≡◌, ◌⊎◌, ◌↔◌, List, [], ◌∷◌, ◌++◌, length, take, drop, get_or, Result, Ok, Err}
use Rattle.refusal.specs.declared.Refusal.{Refusal}
use Rattle.refusal.specs.Refusal.{number_of}
use contract.Lifetimes.{Lfts}
use Rattle.address.specs.Order.{Order, done, ◌when◌otherwise◌, ◌then◌, GivenExactly}
use Rattle.address.specs.Numbers.{IsAddress}
use Rattle.address.specs.declared.Address.{Address}
use Rattle.octets.specs.Octets.{Written, written_answer, AreOctets, octets, value, WriteEffect, wrote}
use Rattle.nsa.specs.declared.Fields.{Fields}
use Rattle.nsa.specs.declared.Row.{Row}
use Rattle.nsa.specs.Fields.{length_field, address_field, fields, writing, FieldsAnswer, found, refused_fields, fields_answer, reading}
use Rattle.nsa.specs.Forms.{LengthForm, AddressForm}
use Rattle.nsa.specs.RoundTrip.{FieldsWriter, FieldsReader, FieldsRoundTrip}
use Rattle.nsa.specs.Refusals.{length_end, address_end, behind_length, behind_source, FieldsWriteRefusals, FieldsReadRefusals}
use Rattle.nsa.specs.WrongWriters.{silent_fields_writer, refusing_fields_writer, roomless_fields_writer, spoiling_fields_writer, longer_fields_writer, unadded_fields_writer, zero_first_fields_writer, room_first_fields_writer, exchanging_fields_writer}
use Rattle.nsa.specs.WrongReaders.{longer_fields_reader, unadded_fields_reader, late_length_fields_reader, long_zeros_nine_fields_reader, late_reserved_fields_reader, destination_first_fields_reader, exchanging_fields_reader}
use Rattle.pasa.specs.declared.bytes.PasaWritten.{PasaWritten}
use Rattle.pasa.specs.declared.fields.PasaNsa.{PasaNsa}
use Rattle.pasa.specs.Bytes.{pasa_written}
use Rattle.pasa.specs.Fields.{pasa_nsa}
use Rattle.nsa.proofs.write.Reads as write-reads
use Rattle.nsa.proofs.read.Reads as read-reads
use Rattle.pasa.proofs.bytes.PasaWrittenFromResultUsizeRefusal.from.Reads as written-reads
use Rattle.pasa.proofs.bytes.pasa_written.Reads as written-numbers-reads
use Rattle.pasa.proofs.fields.pasa_nsa_write.Reads as nsa-write-reads
use Rattle.pasa.proofs.fields.pasa_nsa_read.Reads as nsa-read-reads
use Rattle.claims.specs.Code.{Slice, SliceMut}

-- what is written of each number; zero, which stands alone too, is never written as an address
pub record OlderFields : Type 0 where
  -- "A payload length to 252 is one octet; 253 is followed by one octet and 254 by two, each plus 252"
  pub length_in_one : (n : ℕ) → n ≤ 252 → length_field n ≡ n ∷ []
  pub length_in_two : (n : ℕ) → 253 ≤ n → n ≤ 507 → length_field n ≡ 253 ∷ octets 1 (n - 252)
  pub length_in_three : (n : ℕ) → 508 ≤ n → n ≤ 65787 → length_field n ≡ 254 ∷ octets 2 (n - 252)
  -- "An address to 252 is one octet; 253 is followed by two octets, 254 by four, 255 by a length and that many octets." "Only the shortest form ..,
  -- so after 255 the length is 5 to 8 and its first octet isn't zero."
  pub address_in_one : (a : ℕ) → a ≤ 252 → address_field a ≡ a ∷ []
  pub address_in_three : (a : ℕ) → 253 ≤ a → a ≤ 65535 → address_field a ≡ 253 ∷ octets 2 a
  pub address_in_five : (a : ℕ) → 65536 ≤ a → a < 2 ^ 32 → address_field a ≡ 254 ∷ octets 4 a
  pub address_in_seven : (a : ℕ) → 2 ^ 32 ≤ a → a < 2 ^ 40 → address_field a ≡ 255 ∷ 5 ∷ octets 5 a
  pub address_in_eight : (a : ℕ) → 2 ^ 40 ≤ a → a < 2 ^ 48 → address_field a ≡ 255 ∷ 6 ∷ octets 6 a
  pub address_in_nine : (a : ℕ) → 2 ^ 48 ≤ a → a < 2 ^ 56 → address_field a ≡ 255 ∷ 7 ∷ octets 7 a
  pub address_in_ten : (a : ℕ) → 2 ^ 56 ≤ a → a < 2 ^ 64 → address_field a ≡ 255 ∷ 8 ∷ octets 8 a
  -- "Numbers stand high octet first."
  pub high_first : (o : ℕ) (os : List ℕ) → value (o ∷ os) ≡ o * 256 ^ length os + value os
  pub octets_hold : (k n : ℕ) → n < 256 ^ k → AreOctets (octets k n) × (length (octets k n) ≡ k) × (value (octets k n) ≡ n)
  -- "three in a row"
  pub in_arow : (l s d : ℕ) → fields l s d ≡ length_field l ++ (address_field s ++ address_field d)
  pub at_most23 : (l s d : ℕ) → length (fields l s d) ≤ 23

-- "Only the shortest form", of the forms that source document 004, section 7, gives
pub record ShortestForms : Type 0 where
  -- "0~252: Indicates how many octets the payload consist of"; "253: .. an extra octet .. plus 252"; "254: .. an extra two octets .. plus 252"
  pub length_forms : (os : List ℕ) (n : ℕ)
      → LengthForm os n
      ↔ (((n ≤ 252) × (os ≡ n ∷ []))
      ⊎ (((rest : List ℕ) × AreOctets rest × ((length rest ≡ 1) × (os ≡ 253 ∷ rest) × (n ≡ value rest + 252)))
      ⊎ ((rest : List ℕ) × AreOctets rest × ((length rest ≡ 2) × (os ≡ 254 ∷ rest) × (n ≡ value rest + 252)))))
  -- "0~252: if the address value locates in this interval, one octet is used"; "253: .. the following 2 octets encode the address"; "254: .. the
  -- following 4 octets"; "255: .. the following octet defines the length of address in octets, followed by the address octets"
  pub address_forms : (os : List ℕ) (a : ℕ)
      → AddressForm os a
      ↔ (((a ≤ 252) × (os ≡ a ∷ []))
      ⊎ (((rest : List ℕ) × AreOctets rest × ((length rest ≡ 2) × (os ≡ 253 ∷ rest) × (a ≡ value rest)))
      ⊎ (((rest : List ℕ) × AreOctets rest × ((length rest ≡ 4) × (os ≡ 254 ∷ rest) × (a ≡ value rest)))
      ⊎ ((rest : List ℕ) × AreOctets rest × ((length rest < 256) × (os ≡ 255 ∷ length rest ∷ rest) × (a ≡ value rest))))))
  -- ours is one, and every other is longer
  pub length_is_one : (n : ℕ) → n ≤ 65787 → LengthForm (length_field n) n
  pub length_is_shortest : (n : ℕ) (os : List ℕ) → LengthForm os n → (os ≡ length_field n) ⊎ (length (length_field n) < length os)
  pub length_none_above : (n : ℕ) (os : List ℕ) → LengthForm os n → n ≤ 65787
  -- of an address none is shorter, and one that is as long has a length octet below 5, as FF 01 FD beside FD 00 FD: "so after 255 the length is 5 to 8"
  pub address_is_one : (a : ℕ) → a < 2 ^ 64 → AddressForm (address_field a) a
  pub address_is_shortest : (a : ℕ) (os : List ℕ) → AddressForm os a → length (address_field a) ≤ length os
  pub address_only_one : (a : ℕ) (os : List ℕ) → AddressForm os a
      → (os ≡ address_field a) ⊎ ((length (address_field a) < length os) ⊎ ((rest : List ℕ) × (os ≡ 255 ∷ length rest ∷ rest) × (length rest < 5)))
  -- "Only the shortest form is accepted: otherwise 6", in each of the three fields, whatever stands behind it
  pub other_length : (os behind : List ℕ) (n : ℕ) → LengthForm os n → (os ≡ length_field n → ⊥) → reading (os ++ behind) ≡ refused_fields 6
  pub other_source : (l : ℕ) (os behind : List ℕ) (a : ℕ) → l ≤ 65787 → AddressForm os a → (os ≡ address_field a → ⊥)
      → reading (length_field l ++ (os ++ behind)) ≡ refused_fields 6
  pub other_destination : (l s : ℕ) (os behind : List ℕ) (a : ℕ) → l ≤ 65787 → IsAddress s → AddressForm os a → (os ≡ address_field a → ⊥)
      → reading (length_field l ++ (address_field s ++ (os ++ behind))) ≡ refused_fields 6

-- ---- demand 1: `get_or p i 0` is the i-th octet, counted from 0; where it is absent a 4 comes before

-- "Within a field a missing octet is 4 and comes before any judgement of the value"; "255 is refused with 6"; "Only the shortest form is accepted:
-- otherwise 6": after 253 a length to 252, after 254 one to 507
abbrev pub older_length_order : List ℕ → Order
older_length_order p =
    4 when length p ≤ 0
    otherwise 6 when get_or p 0 0 ≡ 255
    otherwise 4 when ((get_or p 0 0 ≡ 253) × (length p ≤ 1))
    otherwise 6 when ((get_or p 0 0 ≡ 253) × (value (take 1 (drop 1 p)) + 252 ≤ 252))
    otherwise 4 when ((get_or p 0 0 ≡ 254) × (length p ≤ 2))
    otherwise 6 when ((get_or p 0 0 ≡ 254) × (value (take 2 (drop 1 p)) + 252 ≤ 507))
    otherwise done

-- "Address zero in one octet is 9, longer zeros are 6."; after 253 an address to 252, after 254 one to 65,535; "so after 255 the length is 5 to 8 and
-- its first octet isn't zero", "but the length octet after 255 is judged before its address octets are looked for"
abbrev pub older_address_order : List ℕ → Order
older_address_order p =
    4 when length p ≤ 0
    otherwise 9 when get_or p 0 0 ≡ 0
    otherwise 4 when ((get_or p 0 0 ≡ 253) × (length p ≤ 2))
    otherwise 6 when ((get_or p 0 0 ≡ 253) × (value (take 2 (drop 1 p)) ≤ 252))
    otherwise 4 when ((get_or p 0 0 ≡ 254) × (length p ≤ 4))
    otherwise 6 when ((get_or p 0 0 ≡ 254) × (value (take 4 (drop 1 p)) ≤ 65535))
    otherwise 4 when ((get_or p 0 0 ≡ 255) × (length p ≤ 1))
    otherwise 6 when ((get_or p 0 0 ≡ 255) × ((get_or p 1 0 < 5) ⊎ (8 < get_or p 1 0)))
    otherwise 4 when ((get_or p 0 0 ≡ 255) × (length p < 2 + get_or p 1 0))
    otherwise 6 when ((get_or p 0 0 ≡ 255) × (get_or p 2 0 ≡ 0))
    otherwise done

-- "The first faulty field decides."
abbrev pub older_order : List ℕ → Order
older_order p =
    older_length_order p
    then (older_address_order (behind_length p)
    then older_address_order (behind_source p))

pub record OlderRefusals : Type 0 where
  -- "A length to write above 65,787 is 14, checked first; then 9; then 10."
  pub to_write : (l s d : ℕ) (buffer : List ℕ)
      → GivenExactly (
      14 when 65787 < l
      otherwise 9 when (s ≡ 0) ⊎ (d ≡ 0)
      otherwise 10 when length buffer < length (fields l s d)
      otherwise done
      ) (writing l s d buffer).answer.refusal
  -- of octets, which is what a reader is lent (OlderCode)
  pub to_read : (p : List ℕ) → AreOctets p → GivenExactly (older_order p) (reading p).refusal
  -- where the next field begins
  pub behind_alength : (p : List ℕ) → behind_length p ≡ drop (length_end p) p
  pub behind_asource : (p : List ℕ) → behind_source p ≡ drop (address_end (behind_length p)) (behind_length p)
  pub length_ends : (p : List ℕ) → (get_or p 0 0 ≤ 252 → length_end p ≡ 1) × (get_or p 0 0 ≡ 253 → length_end p ≡ 2) × (get_or p 0 0 ≡ 254 → length_end p ≡ 3)
  pub address_ends : (p : List ℕ)
      → (get_or p 0 0 ≤ 252 → address_end p ≡ 1) × (get_or p 0 0 ≡ 253 → address_end p ≡ 3) × (get_or p 0 0 ≡ 254 → address_end p ≡ 5)
      × (get_or p 0 0 ≡ 255 → address_end p ≡ 2 + get_or p 1 0)
  -- "With any refusal .. every other number returned beside its own are 0, .. and no byte or word lent is changed."
  pub nothing_written : (l s d : ℕ) (buffer : List ℕ) → ((writing l s d buffer).answer.refusal ≡ 0 → ⊥)
      → ((writing l s d buffer).answer.count ≡ 0) × ((writing l s d buffer).buffer ≡ buffer)
  pub nothing_read : (p : List ℕ) → ((reading p).refusal ≡ 0 → ⊥)
      → ((reading p).length ≡ 0) × ((reading p).source ≡ 0) × ((reading p).destination ≡ 0) × ((reading p).place ≡ 0)

-- ---- demand 2: "Whatever is accepted is what we would write, and the reverse."

-- three forms of document 004 in a row, with anything behind them, and the place there
abbrev pub ThreeForms : List ℕ → ℕ → ℕ → ℕ → ℕ → Type 0
ThreeForms p l s d place =
    (in_length in_source in_destination behind : List ℕ) × (p ≡ in_length ++ (in_source ++ (in_destination ++ behind)))
    × (LengthForm in_length l × AddressForm in_source s × AddressForm in_destination d × (place ≡ length in_length + length in_source + length in_destination))

pub record OlderReadsBack : Type 0 where
  -- what the answers are
  pub answers_found : (l s d k : ℕ) → found l s d k ≡ record { refusal = 0; length = l; source = s; destination = d; place = k }
  pub answers_refused : (n : ℕ) → refused_fields n ≡ record { refusal = n; length = 0; source = 0; destination = 0; place = 0 }
  -- in every buffer that has room the fields are written, and nothing else: "the writer the number of octets written"
  pub written : (l s d : ℕ) (buffer : List ℕ) → l ≤ 65787 → IsAddress s → IsAddress d → length (fields l s d) ≤ length buffer
      → ((writing l s d buffer).answer ≡ wrote (length (fields l s d))) × ((writing l s d buffer).buffer ≡ fields l s d ++ drop (length (fields l s d)) buffer)
  -- in every buffer, with anything behind it, of 64-bit numbers (OlderCode): wherever the writer is done, with k octets, what stands there reads as the
  -- three numbers with the place k
  pub reads_back : (l s d : ℕ) (buffer behind : List ℕ) (k : ℕ) → s < 2 ^ 64 → d < 2 ^ 64 → (writing l s d buffer).answer ≡ wrote k
      → reading ((writing l s d buffer).buffer ++ behind) ≡ found l s d k
  -- and behind k the buffer is as it was
  pub spares_the_rest : (l s d : ℕ) (buffer : List ℕ) (k : ℕ) → (writing l s d buffer).answer ≡ wrote k
      → (drop k (writing l s d buffer).buffer ≡ drop k buffer) × (length (writing l s d buffer).buffer ≡ length buffer)
  -- whatever is read is a length and two addresses, and their place is within the octets
  pub accepts_numbers : (p : List ℕ) (l s d k : ℕ) → AreOctets p → reading p ≡ found l s d k → (l ≤ 65787) × IsAddress s × IsAddress d × (k ≤ length p)
  -- and up to the place the octets are what we write of them into any buffer that has room
  pub accepts_the_written : (p : List ℕ) (l s d k : ℕ) → AreOctets p → reading p ≡ found l s d k → (buffer : List ℕ) → k ≤ length buffer
      → ((writing l s d buffer).answer ≡ wrote k) × (take k (writing l s d buffer).buffer ≡ take k p)
  -- whatever is accepted is "three in a row", and the answer "these and the place after them"
  pub accepts_so : (p : List ℕ) → AreOctets p → (reading p).refusal ≡ 0
      → ThreeForms p (reading p).length (reading p).source (reading p).destination (reading p).place

-- ---- values on the boundaries

pub record ValuesOfSeven : Type 0 where
  pub length0 : length_field 0 ≡ 0x00 ∷ []
  pub length252 : length_field 252 ≡ 0xFC ∷ []
  pub length253 : length_field 253 ≡ 0xFD ∷ 0x01 ∷ []
  pub length507 : length_field 507 ≡ 0xFD ∷ 0xFF ∷ []
  pub length508 : length_field 508 ≡ 0xFE ∷ 0x01 ∷ 0x00 ∷ []
  pub length65787 : length_field 65787 ≡ 0xFE ∷ 0xFF ∷ 0xFF ∷ []
  pub length65788 : (s d : ℕ) (buffer : List ℕ) → writing 65788 s d buffer ≡ record { answer = record { refusal = 14; count = 0 }; buffer = buffer }
  pub address1 : address_field 1 ≡ 0x01 ∷ []
  pub address252 : address_field 252 ≡ 0xFC ∷ []
  pub address253 : address_field 253 ≡ 0xFD ∷ 0x00 ∷ 0xFD ∷ []
  pub address65535 : address_field 65535 ≡ 0xFD ∷ 0xFF ∷ 0xFF ∷ []
  pub address65536 : address_field 65536 ≡ 0xFE ∷ 0x00 ∷ 0x01 ∷ 0x00 ∷ 0x00 ∷ []
  pub address_below32 : address_field (2 ^ 32 - 1) ≡ 0xFE ∷ 0xFF ∷ 0xFF ∷ 0xFF ∷ 0xFF ∷ []
  pub address_of33 : address_field (2 ^ 32) ≡ 0xFF ∷ 0x05 ∷ 0x01 ∷ 0x00 ∷ 0x00 ∷ 0x00 ∷ 0x00 ∷ []
  pub address_below40 : address_field (2 ^ 40 - 1) ≡ 0xFF ∷ 0x05 ∷ 0xFF ∷ 0xFF ∷ 0xFF ∷ 0xFF ∷ 0xFF ∷ []
  pub address_of41 : address_field (2 ^ 40) ≡ 0xFF ∷ 0x06 ∷ 0x01 ∷ 0x00 ∷ 0x00 ∷ 0x00 ∷ 0x00 ∷ 0x00 ∷ []
  pub address_below48 : address_field (2 ^ 48 - 1) ≡ 0xFF ∷ 0x06 ∷ 0xFF ∷ 0xFF ∷ 0xFF ∷ 0xFF ∷ 0xFF ∷ 0xFF ∷ []
  pub address_of49 : address_field (2 ^ 48) ≡ 0xFF ∷ 0x07 ∷ 0x01 ∷ 0x00 ∷ 0x00 ∷ 0x00 ∷ 0x00 ∷ 0x00 ∷ 0x00 ∷ []
  pub address_below56 : address_field (2 ^ 56 - 1) ≡ 0xFF ∷ 0x07 ∷ 0xFF ∷ 0xFF ∷ 0xFF ∷ 0xFF ∷ 0xFF ∷ 0xFF ∷ 0xFF ∷ []
  pub address_of57 : address_field (2 ^ 56) ≡ 0xFF ∷ 0x08 ∷ 0x01 ∷ 0x00 ∷ 0x00 ∷ 0x00 ∷ 0x00 ∷ 0x00 ∷ 0x00 ∷ 0x00 ∷ []
  pub address_below64 : address_field (2 ^ 64 - 1) ≡ 0xFF ∷ 0x08 ∷ 0xFF ∷ 0xFF ∷ 0xFF ∷ 0xFF ∷ 0xFF ∷ 0xFF ∷ 0xFF ∷ 0xFF ∷ []
  -- with address octets that all differ
  pub four_differ : address_field 0x01020304 ≡ 0xFE ∷ 0x01 ∷ 0x02 ∷ 0x03 ∷ 0x04 ∷ []
  pub five_differ : address_field 0x0102030405 ≡ 0xFF ∷ 0x05 ∷ 0x01 ∷ 0x02 ∷ 0x03 ∷ 0x04 ∷ 0x05 ∷ []
  pub eight_differ : address_field 0x0102030405060708 ≡ 0xFF ∷ 0x08 ∷ 0x01 ∷ 0x02 ∷ 0x03 ∷ 0x04 ∷ 0x05 ∷ 0x06 ∷ 0x07 ∷ 0x08 ∷ []
  pub the23 : length (fields 65787 (2 ^ 64 - 1) (2 ^ 64 - 1)) ≡ 23
  -- payload lengths that are refused, with two addresses behind them or cut
  pub fd00 : reading (0xFD ∷ 0x00 ∷ 0x01 ∷ 0x01 ∷ []) ≡ refused_fields 6
  pub fd_cut : reading (0xFD ∷ []) ≡ refused_fields 4
  pub fe_cut : reading (0xFE ∷ 0x00 ∷ []) ≡ refused_fields 4
  pub fe00ff : reading (0xFE ∷ 0x00 ∷ 0xFF ∷ 0x01 ∷ 0x01 ∷ []) ≡ refused_fields 6
  pub ff_alone : reading (0xFF ∷ []) ≡ refused_fields 6
  pub ff_before : reading (0xFF ∷ 0x01 ∷ 0x01 ∷ []) ≡ refused_fields 6
  pub nothing : reading [] ≡ refused_fields 4
  -- sources that are refused
  pub zero_in_one : reading (0x00 ∷ 0x00 ∷ 0x01 ∷ []) ≡ refused_fields 9
  pub fd0000 : reading (0x00 ∷ 0xFD ∷ 0x00 ∷ 0x00 ∷ 0x01 ∷ []) ≡ refused_fields 6
  pub fd00fc : reading (0x00 ∷ 0xFD ∷ 0x00 ∷ 0xFC ∷ 0x01 ∷ []) ≡ refused_fields 6
  pub fe0000ffff : reading (0x00 ∷ 0xFE ∷ 0x00 ∷ 0x00 ∷ 0xFF ∷ 0xFF ∷ 0x01 ∷ []) ≡ refused_fields 6
  pub ff04 : reading (0x00 ∷ 0xFF ∷ 0x04 ∷ []) ≡ refused_fields 6
  pub ff09 : reading (0x00 ∷ 0xFF ∷ 0x09 ∷ []) ≡ refused_fields 6
  pub ff_no_more : reading (0x00 ∷ 0xFF ∷ []) ≡ refused_fields 4
  pub fd00_cut : reading (0x00 ∷ 0xFD ∷ 0x00 ∷ []) ≡ refused_fields 4
  pub fe000100_cut : reading (0x00 ∷ 0xFE ∷ 0x00 ∷ 0x01 ∷ 0x00 ∷ []) ≡ refused_fields 4
  pub ff0500_missing : reading (0x00 ∷ 0xFF ∷ 0x05 ∷ 0x00 ∷ 0x01 ∷ 0x01 ∷ 0x01 ∷ []) ≡ refused_fields 4
  pub ff0500_whole : reading (0x00 ∷ 0xFF ∷ 0x05 ∷ 0x00 ∷ 0x01 ∷ 0x01 ∷ 0x01 ∷ 0x01 ∷ []) ≡ refused_fields 6
  pub fe_zeros : reading (0x00 ∷ 0xFE ∷ 0x00 ∷ 0x00 ∷ 0x00 ∷ 0x00 ∷ 0x01 ∷ []) ≡ refused_fields 6
  pub ff00 : reading (0x00 ∷ 0xFF ∷ 0x00 ∷ 0x01 ∷ []) ≡ refused_fields 6
  -- forms as long as the shortest, with a length octet
  pub ff01fd : reading (0x00 ∷ 0xFF ∷ 0x01 ∷ 0xFD ∷ 0x01 ∷ []) ≡ refused_fields 6
  pub ff03 : reading (0x00 ∷ 0xFF ∷ 0x03 ∷ 0x01 ∷ 0x00 ∷ 0x00 ∷ 0x01 ∷ []) ≡ refused_fields 6
  -- destinations that are refused
  pub destination_zero : reading (0x00 ∷ 0x01 ∷ 0x00 ∷ []) ≡ refused_fields 9
  pub destination_fd00fc : reading (0x00 ∷ 0x01 ∷ 0xFD ∷ 0x00 ∷ 0xFC ∷ []) ≡ refused_fields 6
  pub destination_ff09 : reading (0x00 ∷ 0x01 ∷ 0xFF ∷ 0x09 ∷ []) ≡ refused_fields 6
  pub no_destination : reading (0x00 ∷ 0x01 ∷ []) ≡ refused_fields 4
  -- the first faulty field decides: a longer form of a length, and a source of zero; a source of zero, and no destination
  pub length_first : reading (0xFD ∷ 0x00 ∷ 0x00 ∷ []) ≡ refused_fields 6
  pub source_first : reading (0x00 ∷ 0x00 ∷ []) ≡ refused_fields 9
  -- and what is read, whatever stands behind it, and with an octet behind it
  pub a_reading : (behind : List ℕ) → reading (0xFD ∷ 0x01 ∷ 0xFC ∷ 0xFD ∷ 0x01 ∷ 0x00 ∷ behind) ≡ found 253 252 256 6
  pub long_reading : reading (0xFE ∷ 0x01 ∷ 0x00 ∷ 0xFE ∷ 0x01 ∷ 0x02 ∷ 0x03 ∷ 0x04 ∷ 0xFF ∷ 0x05 ∷ 0x01 ∷ 0x02 ∷ 0x03 ∷ 0x04 ∷ 0x05 ∷ 0x99 ∷ [])
      ≡ found 508 0x01020304 0x0102030405 15
  -- exact room, and one octet less
  pub exact_room : writing 253 252 253 (0 ∷ 0 ∷ 0 ∷ 0 ∷ 0 ∷ 0 ∷ [])
      ≡ record { answer = wrote 6; buffer = 0xFD ∷ 0x01 ∷ 0xFC ∷ 0xFD ∷ 0x00 ∷ 0xFD ∷ [] }
  pub one_less : writing 253 252 253 (0 ∷ 0 ∷ 0 ∷ 0 ∷ 0 ∷ [])
      ≡ record { answer = record { refusal = 10; count = 0 }; buffer = 0 ∷ 0 ∷ 0 ∷ 0 ∷ 0 ∷ [] }
  -- 9 before 10, of the source and of the destination
  pub source_zero : (writing 0 0 1 []).answer.refusal ≡ 9
  pub zero_destination : (writing 0 1 0 []).answer.refusal ≡ 9

-- ---- what the code promises; the exports' structs beside it. `Asked` is what a caller must show, `Learnt` what it learns when the call ends; what is lent
-- to be read alone has no other content then

pub record OlderCode : Type 0 where
  -- the document's number and values for each case of the answer, which leave one answer
  pub three_found : (f : Fields) (k : ℕ)
      → fields_answer (Ok (record { fields = f; place = k })) ≡ record { refusal = 0; length = f.length; source = f.source.number; destination = f.destination.number; place = k }
  pub not_found : (x : Refusal) → fields_answer (Err x) ≡ record { refusal = number_of x; length = 0; source = 0; destination = 0; place = 0 }
  pub one_answer : (p : List ℕ) (r s : Result Row Refusal) → fields_answer r ≡ reading p → fields_answer s ≡ reading p → r ≡ s
  pub nsa_write_asks : (κs : Lfts 1) (l : ℕ) (s d : Address) (out : SliceMut) → write-reads.Asked κs (l, (s, (d, (out, tt))))
  pub nsa_write : (κs : Lfts 1) (l : ℕ) (s d : Address) (out out' : SliceMut) (r : Result ℕ Refusal)
      → write-reads.Learnt κs (l, (s, (d, (out, tt)))) r (l, (s, (d, (out', tt))))
      → (◌≡◌ {A = WriteEffect} record { answer = written_answer r; buffer = out'.now } (writing l s.number d.number out.now))
      × (s.number < 2 ^ 64) × (d.number < 2 ^ 64)
  pub nsa_read_asks : (κs : Lfts 1) (p : Slice) → read-reads.Asked κs (p, tt)
  pub nsa_read : (κs : Lfts 1) (p : Slice) (r : Result Row Refusal) → read-reads.Learnt κs (p, tt) r (p, tt)
      → (fields_answer r ≡ reading p.now) × AreOctets p.now
  pub pasa_nsa_write_asks : (κs : Lfts 1) (l s d : ℕ) (out : SliceMut) → nsa-write-reads.Asked κs (l, (s, (d, (out, tt))))
  pub pasa_nsa_write : (κs : Lfts 1) (l s d : ℕ) (out out' : SliceMut) (r : PasaWritten)
      → nsa-write-reads.Learnt κs (l, (s, (d, (out, tt)))) r (l, (s, (d, (out', tt))))
      → (r ≡ pasa_written (writing l s d out.now).answer) × (out'.now ≡ (writing l s d out.now).buffer) × (s < 2 ^ 64) × (d < 2 ^ 64)
  pub pasa_nsa_read_asks : (κs : Lfts 1) (p : Slice) → nsa-read-reads.Asked κs (p, tt)
  pub pasa_nsa_read : (κs : Lfts 1) (p : Slice) (r : PasaNsa) → nsa-read-reads.Learnt κs (p, tt) r (p, tt)
      → (r ≡ pasa_nsa (reading p.now)) × AreOctets p.now
  pub pasa_written_asks : (w : Result ℕ Refusal) → written-reads.Asked tt (w, tt)
  pub pasa_written_to : (w : Result ℕ Refusal) (r : PasaWritten) → written-reads.Learnt tt (w, tt) r (w, tt) → r ≡ pasa_written (written_answer w)
  -- whatever the number and the count
  pub pasa_written_numbers_asks : (number count : ℕ) → written-numbers-reads.Asked tt (number, (count, tt))
  pub pasa_written_numbers : (number count : ℕ) (r : PasaWritten) → written-numbers-reads.Learnt tt (number, (count, tt)) r (number, (count, tt))
      → r ≡ pasa_written (record { refusal = number; count = count })
  pub written_struct : (w : Written) → pasa_written w ≡ record { count = w.count; refusal = w.refusal }
  pub nsa_struct : (r : FieldsAnswer)
      → pasa_nsa r ≡ record { length = r.length; source = r.source; destination = r.destination; place = r.place; refusal = r.refusal }

-- the sentence at the exports: "Whatever is accepted is what we would write, and the reverse."
pub record OlderInCode : Type 0 where
  -- whatever `pasa_nsa_write` leaves in a buffer, done, `pasa_nsa_read` reads as what was handed in, with anything behind it
  pub reads_back : (κs κs' : Lfts 1) (l s d : ℕ) (out out' : SliceMut) (p : Slice) (behind : List ℕ) (w : PasaWritten) (r : PasaNsa)
      → nsa-write-reads.Learnt κs (l, (s, (d, (out, tt)))) w (l, (s, (d, (out', tt)))) → w.refusal ≡ 0 → p.now ≡ out'.now ++ behind
      → nsa-read-reads.Learnt κs' (p, tt) r (p, tt)
      → r ≡ record { length = l; source = s; destination = d; place = w.count; refusal = 0 }
  -- and whatever `pasa_nsa_read` accepts, `pasa_nsa_write` writes into a buffer that has room, octet for octet
  pub writes_back : (κs κs' : Lfts 1) (p : Slice) (out out' : SliceMut) (r : PasaNsa) (w : PasaWritten)
      → nsa-read-reads.Learnt κs (p, tt) r (p, tt) → r.refusal ≡ 0 → r.place ≤ length out.now
      → nsa-write-reads.Learnt κs' (r.length, (r.source, (r.destination, (out, tt)))) w (r.length, (r.source, (r.destination, (out', tt))))
      → (w ≡ record { count = r.place; refusal = 0 }) × (take r.place out'.now ≡ take r.place p.now)

-- ---- wrong writers and readers

-- demand 1 and demand 2 as they are said of any writer and any reader: what the statements mean, that they hold of ours, and that demand 1 leaves one
-- writer, and one reader of octets
pub record OlderOfAny : Type 0 where
  pub means_to_write : (writer : FieldsWriter)
      → FieldsWriteRefusals writer
      ↔ (((l s d : ℕ) (buffer : List ℕ)
      → GivenExactly (
      14 when 65787 < l
      otherwise 9 when (s ≡ 0) ⊎ (d ≡ 0)
      otherwise 10 when length buffer < length (fields l s d)
      otherwise done
      ) (writer l s d buffer).answer.refusal)
      × ((l s d : ℕ) (buffer : List ℕ) → ((writer l s d buffer).answer.refusal ≡ 0 → ⊥)
      → ((writer l s d buffer).answer.count ≡ 0) × ((writer l s d buffer).buffer ≡ buffer))
      × ((l s d : ℕ) (buffer : List ℕ) → (writer l s d buffer).answer.refusal ≡ 0
      → ((writer l s d buffer).answer.count ≡ length (fields l s d)) × ((writer l s d buffer).buffer ≡ fields l s d ++ drop (length (fields l s d)) buffer)))
  pub means_to_read : (reader : FieldsReader)
      → FieldsReadRefusals reader
      ↔ (((p : List ℕ) → AreOctets p → GivenExactly (older_order p) (reader p).refusal)
      × ((p : List ℕ) → ((reader p).refusal ≡ 0 → ⊥)
      → ((reader p).length ≡ 0) × ((reader p).source ≡ 0) × ((reader p).destination ≡ 0) × ((reader p).place ≡ 0))
      × ((p : List ℕ) → AreOctets p → (reader p).refusal ≡ 0
      → ThreeForms p (reader p).length (reader p).source (reader p).destination (reader p).place))
  pub means_both_ways : (writer : FieldsWriter) (reader : FieldsReader)
      → FieldsRoundTrip writer reader
      ↔ (((l s d : ℕ) (buffer : List ℕ) → l ≤ 65787 → IsAddress s → IsAddress d → length (fields l s d) ≤ length buffer
      → ((writer l s d buffer).answer ≡ wrote (length (fields l s d)))
      × ((writer l s d buffer).buffer ≡ fields l s d ++ drop (length (fields l s d)) buffer)
      × (reader (writer l s d buffer).buffer ≡ found l s d (length (fields l s d))))
      × ((l s d : ℕ) (buffer behind : List ℕ) (k : ℕ) → s < 2 ^ 64 → d < 2 ^ 64 → (writer l s d buffer).answer ≡ wrote k
      → (reader ((writer l s d buffer).buffer ++ behind) ≡ found l s d k)
      × (drop k (writer l s d buffer).buffer ≡ drop k buffer)
      × (length (writer l s d buffer).buffer ≡ length buffer))
      × ((p : List ℕ) (l s d k : ℕ) → AreOctets p → reader p ≡ found l s d k
      → (l ≤ 65787) × IsAddress s × IsAddress d × (k ≤ length p)
      × ((buffer : List ℕ) → k ≤ length buffer → ((writer l s d buffer).answer ≡ wrote k) × (take k (writer l s d buffer).buffer ≡ take k p))))
  pub ours_to_write : FieldsWriteRefusals writing
  pub ours_to_read : FieldsReadRefusals reading
  pub ours_both_ways : FieldsRoundTrip writing reading
  pub one_writer : (writer : FieldsWriter) → FieldsWriteRefusals writer → (l s d : ℕ) (buffer : List ℕ) → writer l s d buffer ≡ writing l s d buffer
  pub one_reader : (reader : FieldsReader) → FieldsReadRefusals reader → (p : List ℕ) → AreOctets p → reader p ≡ reading p

-- each is defined in crates/nsa/specs/WrongWriters.antt and WrongReaders.antt
pub record WrongOlder : Type 0 where
  -- a silent writer, a refusing one, one that says done without room, one that spoils what stands behind
  pub silent : FieldsRoundTrip silent_fields_writer reading → ⊥
  pub refusing : FieldsRoundTrip refusing_fields_writer reading → ⊥
  pub without_room : FieldsRoundTrip roomless_fields_writer reading → ⊥
  pub spoiling : FieldsRoundTrip spoiling_fields_writer reading → ⊥
  -- one that writes a longer form, whatever reads it; a reader that takes one
  pub writes_longer : (reader : FieldsReader) → FieldsRoundTrip longer_fields_writer reader → ⊥
  pub takes_longer : FieldsRoundTrip writing longer_fields_reader → ⊥
  -- the plus of 252 forgotten
  pub writes_unadded : FieldsWriteRefusals unadded_fields_writer → ⊥
  pub reads_unadded : FieldsReadRefusals unadded_fields_reader → ⊥
  -- 9 before 14; 10 before 9
  pub with_zero_first : FieldsWriteRefusals zero_first_fields_writer → ⊥
  pub with_room_first : FieldsWriteRefusals room_first_fields_writer → ⊥
  -- source and destination exchanged, whatever reads it; and by a reader
  pub writes_exchanged : (reader : FieldsReader) → FieldsRoundTrip exchanging_fields_writer reader → ⊥
  pub reads_exchanged : FieldsReadRefusals exchanging_fields_reader → ⊥
  -- the length octet judged after its octets; 9 for longer zeros; an octet looked for behind a payload length's 255; a destination looked for before
  -- the source is judged
  pub with_length_late : FieldsReadRefusals late_length_fields_reader → ⊥
  pub with_nine_for_long : FieldsReadRefusals long_zeros_nine_fields_reader → ⊥
  pub with_reserved_late : FieldsReadRefusals late_reserved_fields_reader → ⊥
  pub with_destination_first : FieldsReadRefusals destination_first_fields_reader → ⊥
