-- Request Eight: no empty packets. Where a line of before moved, it stands on its own page: the order of reading (Demand1, `header_order`), reading back
-- (Demand2, `Headers`), what a packet is and where an empty one stops (Demand3, `EveryList`; Limits, `OfAnyRules.demand3`), and the values of Three
-- (Excluded, `ValuesOfThree`). Here stands which octets are refused with 16, what is answered compared with before, values, and the wrong readers and
-- rules. "writing a header is unchanged": its lines are as they were (Demand1, `a_header_out`; Demand2, `laid`, `written`).
use Rattle.std.specs.Prelude.{ℕ, ◌+◌, ◌-◌, ◌^◌, ◌≤◌, ◌<◌, ◌≡◌, ◌↔◌, List, [], ◌∷◌, ◌++◌, length, take, drop}
use Rattle.address.specs.Order.{done, ◌when◌otherwise◌, ◌then◌, GivenExactly}
use Rattle.address.specs.Numbers.{IsAddress}
use Rattle.octets.specs.Octets.{AreOctets, value, wrote}
use Rattle.header.specs.Header.{place, header, writing, octets_reading, reading, found, refused_header}
use Rattle.header.specs.RoundTrip.{HeaderWriter, HeaderReader, HeaderRoundTrip}
use Rattle.header.specs.Refusals.{HeaderReadRefusals}
use Rattle.header.specs.WrongReaders.{empty_first_reader, two_octets_reader, short_empty_reader, beside_empty_reader}
use Rattle.header.specs.WrongWriters.{payload_room_writer}
use Rattle.node.specs.Node.{address_in, fresh, with_counts, child_of, set_limit}
use Rattle.node.specs.Refusals.{IsGood, IsBad}
use Rattle.node.specs.declared.Node.{Node}
use Rattle.forward.specs.Forward.{HopAnswer, deliver_at, up_to, down_to, refused_hop, next_hop}
use Rattle.forward.specs.Refusals.{ChildNotGiven}
use Rattle.packet.specs.Packet.{packet_hop}
use Rattle.packet.specs.Refusals.{PacketRefusals}
use Rattle.packet.specs.WrongRules.{empty_goes, empty_delivered, not_given_first, empty_late}
use Rattle.claims.specs.Demand1.{octets_order, header_order}
use Rattle.claims.specs.Excluded.{FailsDemand3}

-- octets laid out as a header with this payload behind it: the address is the number of its octets, 1 to 8 of them, and the place is behind them
pub record LaidOut (p : List ℕ) (address place : ℕ) (os payload : List ℕ) : Type 0 where
  pub laid : p ≡ 0xF1 ∷ (128 + (length os - 1)) ∷ 15 ∷ (os ++ payload)
  pub sized : (1 ≤ length os) × (length os ≤ 8)
  pub number : address ≡ value os
  pub behind : place ≡ 3 + length os

pub record NoEmptyPackets : Type 0 where
  -- "A packet whose payload is empty is refused with 16": a header and no more, of whatever address, and nothing else
  pub sixteen_exactly : (p : List ℕ) → AreOctets p → ((reading p).refusal ≡ 16) ↔ ((a : ℕ) × IsAddress a × (p ≡ header a))
  -- what is accepted is a header and a payload of at least one octet, and nothing else
  pub accepted_exactly : (p : List ℕ) (a k : ℕ) → AreOctets p
      → (reading p ≡ found a k) ↔ (IsAddress a × (k ≡ place a) × ((payload : List ℕ) × (0 < length payload) × (p ≡ header a ++ payload)))
  -- so what is written into a buffer of its length, and stands alone there, is refused with 16
  pub written_alone : (a : ℕ) (buffer : List ℕ) → IsAddress a → length buffer ≡ place a → reading (writing a buffer).buffer ≡ refused_header 16
  -- "and before any next-hop answer": whatever the address is to this node; only a bad record comes before
  pub at_anode : (n : Node) (a : ℕ) → IsGood n → IsAddress a → packet_hop n (header a) ≡ refused_hop 16
  pub at_abad_record : (n : Node) (p : List ℕ) → IsBad n → packet_hop n p ≡ refused_hop 1
  pub nothing_else : (n : Node) (p : List ℕ) → AreOctets p → (packet_hop n p).refusal ≡ 16
      → IsGood n × ((a : ℕ) × IsAddress a × (p ≡ header a))
  -- and with a payload it is the answer for the address
  pub with_apayload : (n : Node) (a : ℕ) (payload : List ℕ) → IsAddress a → 0 < length payload → packet_hop n (header a ++ payload) ≡ next_hop n a

-- `octets_reading` was the reading before this request, and `empty_goes` the next hop from a packet
pub record SinceBefore : Type 0 where
  -- what it answered: it took whatever was behind the address's octets, also nothing
  pub given_before : (p : List ℕ) → GivenExactly (octets_order p) (octets_reading p).refusal
  pub beside_before : (p : List ℕ) → ((octets_reading p).refusal ≡ 0 → ⊥) → ((octets_reading p).address ≡ 0) × ((octets_reading p).place ≡ 0)
  pub taken_before : (p : List ℕ) → (octets_reading p).refusal ≡ 0
      → (os : List ℕ) × (payload : List ℕ) × LaidOut p (octets_reading p).address (octets_reading p).place os payload
  -- "refused ones stand"
  pub refused_stand : (p : List ℕ) → ((octets_reading p).refusal ≡ 0 → ⊥) → reading p ≡ octets_reading p
  -- "Accepted header cases .. get one payload octet more", whichever octet
  pub one_octet_more : (p : List ℕ) (o : ℕ) → (octets_reading p).refusal ≡ 0 → reading (p ++ (o ∷ [])) ≡ octets_reading p
  -- those that had one stand, and those that had none are refused with 16
  pub accepted_stand : (p : List ℕ) → (octets_reading p).refusal ≡ 0 → (octets_reading p).place < length p → reading p ≡ octets_reading p
  pub accepted_empty : (p : List ℕ) → (octets_reading p).refusal ≡ 0 → length p ≤ (octets_reading p).place → reading p ≡ refused_header 16
  -- what the next hop from a packet was, and the same four lines of it
  pub hop_before : (n : Node) (p : List ℕ) → (IsBad n → empty_goes n p ≡ refused_hop 1)
      × (IsGood n → ((octets_reading p).refusal ≡ 0 → ⊥) → empty_goes n p ≡ refused_hop (octets_reading p).refusal)
      × (IsGood n → (octets_reading p).refusal ≡ 0 → empty_goes n p ≡ next_hop n (octets_reading p).address)
  pub hop_stands : (n : Node) (p : List ℕ) → ((octets_reading p).refusal ≡ 0 → ⊥) → packet_hop n p ≡ empty_goes n p
  pub hop_of_one_more : (n : Node) (p : List ℕ) (o : ℕ) → (octets_reading p).refusal ≡ 0 → packet_hop n (p ++ (o ∷ [])) ≡ empty_goes n p
  pub hop_accepted : (n : Node) (p : List ℕ) → (octets_reading p).refusal ≡ 0 → (octets_reading p).place < length p → packet_hop n p ≡ empty_goes n p
  pub hop_empty : (n : Node) (p : List ℕ) → IsGood n → (octets_reading p).refusal ≡ 0 → length p ≤ (octets_reading p).place
      → packet_hop n p ≡ refused_hop 16

-- what the statements say of any writer and reader, and of any rule for the next hop from a packet; demand 1 leaves one reader (Excluded,
-- `OneHeaderRule.to_read`), and one rule for octets and records of 64 bits
pub record EmptyOfAny : Type 0 where
  pub round_trip : (writer : HeaderWriter) (reader : HeaderReader)
      → HeaderRoundTrip writer reader
      ↔ (((a : ℕ) (buffer : List ℕ) → IsAddress a → place a ≤ length buffer
      → ((writer a buffer).answer ≡ wrote (place a)) × (place a < length buffer → reader (writer a buffer).buffer ≡ found a (place a)))
      × ((a : ℕ) (buffer payload : List ℕ) (n : ℕ) → a < 2 ^ 64 → 0 < length payload → (writer a buffer).answer ≡ wrote n
      → (reader ((writer a buffer).buffer ++ payload) ≡ found a n)
      × (drop n (writer a buffer).buffer ≡ drop n buffer)
      × (length (writer a buffer).buffer ≡ length buffer))
      × ((p : List ℕ) (a k : ℕ) → AreOctets p → reader p ≡ found a k
      → IsAddress a × (k < length p)
      × ((buffer : List ℕ) → k ≤ length buffer → ((writer a buffer).answer ≡ wrote k) × (take k (writer a buffer).buffer ≡ take k p)))
      × ((p : List ℕ) → AreOctets p
      → ((reader p).refusal ≡ 16)
      ↔ ((a : ℕ) × IsAddress a
      × ((buffer : List ℕ) → length buffer ≡ length p → ((writer a buffer).answer ≡ wrote (length p)) × ((writer a buffer).buffer ≡ p)))))
  pub read_refusals : (reader : HeaderReader)
      → HeaderReadRefusals reader
      ↔ (((p : List ℕ) → GivenExactly (header_order p) (reader p).refusal)
      × ((p : List ℕ) → ((reader p).refusal ≡ 0 → ⊥) → ((reader p).address ≡ 0) × ((reader p).place ≡ 0))
      × ((p : List ℕ) → (reader p).refusal ≡ 0
      → ((os : List ℕ) × (payload : List ℕ) × LaidOut p (reader p).address (reader p).place os payload) × ((reader p).place < length p)))
  pub packet_refusals : (rule : Node → List ℕ → HopAnswer)
      → PacketRefusals rule
      ↔ (((n : Node) (p : List ℕ) → address_in n < 2 ^ 64 → AreOctets p
      → GivenExactly (
      (1 when IsBad n otherwise done)
      then header_order p
      then (7 when ChildNotGiven n (reading p).address otherwise done)
      ) (rule n p).refusal)
      × ((n : Node) (p : List ℕ) → ((rule n p).refusal ≡ 0 → ⊥) → rule n p ≡ refused_hop (rule n p).refusal)
      × ((n : Node) (p : List ℕ) → (rule n p).refusal ≡ 0 → ((reading p).refusal ≡ 0) × (rule n p ≡ next_hop n (reading p).address)))
  pub one_rule : (rule : Node → List ℕ → HopAnswer) → PacketRefusals rule → (n : Node) (p : List ℕ) → address_in n < 2 ^ 64 → AreOctets p
      → rule n p ≡ packet_hop n p

-- numbers in binary digits are addresses; `o` is any octet
pub record ValuesOfEight : Type 0 where
  -- 16 at the boundary: one address octet, three, and eight; and an octet more (of one and of three: Excluded, `ValuesOfThree`)
  pub in_one : reading (0xF1 ∷ 0x80 ∷ 0x0F ∷ 0x3E ∷ []) ≡ refused_header 16
  pub in_three : reading (0xF1 ∷ 0x82 ∷ 0x0F ∷ 0x01 ∷ 0x00 ∷ 0x00 ∷ []) ≡ refused_header 16
  pub in_eight : reading (0xF1 ∷ 0x87 ∷ 0x0F ∷ 0x80 ∷ 0 ∷ 0 ∷ 0 ∷ 0 ∷ 0 ∷ 0 ∷ 0 ∷ []) ≡ refused_header 16
  pub in_eight_and_more : (o : ℕ) → reading (0xF1 ∷ 0x87 ∷ 0x0F ∷ 0x80 ∷ 0 ∷ 0 ∷ 0 ∷ 0 ∷ 0 ∷ 0 ∷ 0 ∷ o ∷ []) ≡ found (2 ^ 63) 11
  -- "after every other header check": no octets are 4, so is an address octet that is missing; 5, 6 and 9 come before 16
  pub no_octets : reading [] ≡ refused_header 4
  pub no_address : reading (0xF1 ∷ 0x80 ∷ 0x0F ∷ []) ≡ refused_header 4
  pub ends_early : reading (0xF1 ∷ 0x81 ∷ 0x0F ∷ 0x3E ∷ []) ≡ refused_header 4
  pub wrong_start : reading (0xF1 ∷ 0x80 ∷ 0x0E ∷ 0x3E ∷ []) ≡ refused_header 5
  pub size_of_nine : reading (0xF1 ∷ 0x88 ∷ 0x0F ∷ 0x3E ∷ 0 ∷ 0 ∷ 0 ∷ 0 ∷ 0 ∷ 0 ∷ 0 ∷ 0 ∷ []) ≡ refused_header 6
  pub single_zero : reading (0xF1 ∷ 0x80 ∷ 0x0F ∷ 0x00 ∷ []) ≡ refused_header 9
  -- of a first zero and nothing behind see Excluded, `ValuesOfThree.a_zero_in_front`; both with an octet more
  pub single_zero_and_more : (o : ℕ) → reading (0xF1 ∷ 0x80 ∷ 0x0F ∷ 0x00 ∷ o ∷ []) ≡ refused_header 9
  pub first_zero_and_more : (o : ℕ) → reading (0xF1 ∷ 0x81 ∷ 0x0F ∷ 0x00 ∷ 0x3E ∷ o ∷ []) ≡ refused_header 6
  -- 1 before 16, at a record of address zero; and no octets at the root are 4
  pub bad_record : packet_hop (fresh 0) (0xF1 ∷ 0x80 ∷ 0x0F ∷ 0b1 ∷ []) ≡ refused_hop 1
  pub no_octets_at_anode : packet_hop (fresh 1) [] ≡ refused_hop 4
  -- at the root with one router given: 16 before delivery, a child, and 7; and at 0b10 before the parent
  pub for_itself : packet_hop (with_counts 1 0 (fresh 1)) (0xF1 ∷ 0x80 ∷ 0x0F ∷ 0b1 ∷ []) ≡ refused_hop 16
  pub for_achild : packet_hop (with_counts 1 0 (fresh 1)) (0xF1 ∷ 0x80 ∷ 0x0F ∷ 0b10 ∷ []) ≡ refused_hop 16
  pub for_nobody : packet_hop (with_counts 1 0 (fresh 1)) (0xF1 ∷ 0x80 ∷ 0x0F ∷ 0b11 ∷ []) ≡ refused_hop 16
  pub for_the_parent : packet_hop (fresh 0b10) (0xF1 ∷ 0x80 ∷ 0x0F ∷ 0b1 ∷ []) ≡ refused_hop 16
  -- the same with an octet more
  pub itself : (o : ℕ) → packet_hop (with_counts 1 0 (fresh 1)) (0xF1 ∷ 0x80 ∷ 0x0F ∷ 0b1 ∷ o ∷ []) ≡ deliver_at 0b1
  pub a_child : (o : ℕ) → packet_hop (with_counts 1 0 (fresh 1)) (0xF1 ∷ 0x80 ∷ 0x0F ∷ 0b10 ∷ o ∷ []) ≡ down_to 0b10
  pub nobody : (o : ℕ) → packet_hop (with_counts 1 0 (fresh 1)) (0xF1 ∷ 0x80 ∷ 0x0F ∷ 0b11 ∷ o ∷ []) ≡ refused_hop 7
  pub the_parent : (o : ℕ) → packet_hop (fresh 0b10) (0xF1 ∷ 0x80 ∷ 0x0F ∷ 0b1 ∷ o ∷ []) ≡ up_to 0b1

pub record WrongOfEight : Type 0 where
  -- a reader that takes an empty payload, as it was right before; one that wants two octets
  pub taking_empty_ones : HeaderRoundTrip writing octets_reading → ⊥
  pub wanting_two_octets : HeaderRoundTrip writing two_octets_reader → ⊥
  -- 16 before 9, and before 6 of a first zero; 16 before 4; an address and a place beside 16
  pub with_empty_first : HeaderReadRefusals empty_first_reader → ⊥
  pub with_short_ones_empty : HeaderReadRefusals short_empty_reader → ⊥
  pub with_an_address_beside : HeaderReadRefusals beside_empty_reader → ⊥
  -- "writing a header is unchanged": a writer that wants room for a payload
  pub wanting_payload_room : HeaderRoundTrip payload_room_writer reading → ⊥
  -- a rule by which an empty packet goes as its address says, as it was right before; one that delivers it at its own node; 7 before 16; one that
  -- refuses it with 16 at its own node and nowhere else
  pub that_passes_on : PacketRefusals empty_goes → ⊥
  pub that_delivers : PacketRefusals empty_delivered → ⊥
  pub with_not_given_first : PacketRefusals not_given_first → ⊥
  pub that_refuses_late : PacketRefusals empty_late → ⊥
  -- the same through demand 3
  pub that_passes_on_in_atree : FailsDemand3 child_of set_limit empty_goes
  pub that_delivers_in_atree : FailsDemand3 child_of set_limit empty_delivered
  pub with_not_given_first_in_atree : FailsDemand3 child_of set_limit not_given_first
  pub that_refuses_late_in_atree : FailsDemand3 child_of set_limit empty_late
