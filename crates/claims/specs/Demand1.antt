-- Demand 1: "A refusal carries its number from document 01, is given exactly when that document says, leaves the node's record as it came and
-- writes nothing into a lent buffer." An order has the document's conditions in the document's order, each with its number; `GivenExactly` says
-- of every number that the refusal is this number exactly if its condition holds and none before it does.
use Rattle.std.specs.Prelude.{ℕ, ◌+◌, ◌-◌, ◌^◌, ◌<◌, ◌≤◌, ◌≡◌, ◌⊎◌, ◌↔◌, length, take, drop, get_or, replicate}
use mathlib.Core.List.{List, ◌++◌, map, Memᴰ}
use Rattle.address.specs.Order.{Order, done, ◌when◌otherwise◌, ◌then◌, First, GivenExactly}
use Rattle.address.specs.Address.{made, bit_length}
use Rattle.address.specs.Kinds.{IsHost}
use Rattle.address.specs.declared.Kind.{Kind}
use Rattle.octets.specs.Octets.{AreOctets}
use Rattle.header.specs.Header.{header, writing, reading}
use Rattle.ipv6.specs.Form.{form, form_writing, form_reading}
use Rattle.node.specs.Node.{address_in, fresh, count, limit, child_of}
use Rattle.node.specs.Refusals.{IsGood, IsBad}
use Rattle.node.specs.declared.Node.{Node}
use Rattle.node.specs.Node.{Given}
use Rattle.forward.specs.Forward.{stop, next_hop}
use Rattle.forward.specs.Refusals.{ChildNotGiven}
use Rattle.packet.specs.Packet.{packet_hop}
use Rattle.route.specs.Path.{path, listing}
use Rattle.line.specs.Line.{output_text, answering}
use Rattle.plan.specs.Grammar.{Items, Spells, IsText, Stops}
use Rattle.plan.specs.Hall.{answers, hall, nodes}
use Rattle.plan.specs.Plan.{planning}

-- what an order says: the first condition that holds gives its number, and 0 is given where none does
pub record Orders : Type 1 where
  pub exactly : (order : Order) (refusal : ℕ) → GivenExactly order refusal ↔ ((k : ℕ) → (refusal ≡ k) ↔ First order k)
  pub first_of_none : (r : ℕ) → First done r ↔ (r ≡ 0)
  pub first_of_more : (n r : ℕ) (condition : Type 0) (rest : Order)
      → First (n when condition otherwise rest) r ↔ ((condition × (r ≡ n)) ⊎ ((condition → ⊥) × First rest r))
  pub none_before : (order : Order) → (done then order) ≡ order
  pub more_before : (n : ℕ) (condition : Type 0) (rest order : Order)
      → ((n when condition otherwise rest) then order) ≡ (n when condition otherwise (rest then order))

-- "Reading: the first three octets are checked in order; one that is absent is 4, one that is wrong is 5 (of the second only its top three
-- bits)." "Then a missing address octet is 4." And, of document 02 (Three), "Document 01's size rule becomes '1 to 8', refusal 6 means a size
-- above 8 or a first octet of zero where there are several, and 9 means a single zero octet." The second octet is 128, the bits 10000000, more
-- than the size less one.
abbrev pub octets_order : List ℕ → Order
octets_order p =
    4 when length p ≤ 0
    otherwise 5 when (get_or p 0 0 ≡ 0xF1 → ⊥)
    otherwise 4 when length p ≤ 1
    otherwise 5 when ((get_or p 1 0 < 128) ⊎ (160 ≤ get_or p 1 0))
    otherwise 4 when length p ≤ 2
    otherwise 5 when (get_or p 2 0 ≡ 15 → ⊥)
    otherwise 6 when 8 < (get_or p 1 0 - 128) + 1
    otherwise 4 when length p < 3 + ((get_or p 1 0 - 128) + 1)
    otherwise 9 when (((get_or p 1 0 - 128) + 1 ≡ 1) × (get_or p 3 0 ≡ 0))
    otherwise 6 when ((1 < (get_or p 1 0 - 128) + 1) × (get_or p 3 0 ≡ 0))
    otherwise done

-- and, of Eight, "A packet whose payload is empty is refused with 16, after every other header check": no octet stands behind the address's
abbrev pub header_order : List ℕ → Order
header_order p = octets_order p then (16 when length p ≤ 3 + ((get_or p 1 0 - 128) + 1) otherwise done)

-- request One, "Here and below, new refusals, conditions and orders join those of document 01": "Text over [32,768] bytes: 14. Then a text outside
-- the grammar (a 65th open group counts): 13 .. Then over [4,096] nodes, the root counted: 14. Then an address too long: 3. Then no room: 10."
abbrev pub plan_order : List ℕ → List ℕ → Order
plan_order text words =
    14 when 32768 < length text
    otherwise 13 when (IsText text → ⊥)
    otherwise 14 when ((plan : Items) × Spells text plan × (4096 < nodes plan))
    otherwise 3 when ((plan : Items) × Spells text plan × Memᴰ 3 (map (λ (g : Given). g.refusal) (answers (fresh 1) plan)))
    otherwise 10 when ((plan : Items) × Spells text plan × (length words < nodes plan))
    otherwise done

-- "is given exactly when that document says"
pub record ExactlyWhen : Type 0 where
  -- "an address is zero"
  pub an_address : (number : ℕ) → GivenExactly (9 when number ≡ 0 otherwise done) (made number).refusal
  -- "for a child 1, 2, 3": "the node record is bad"; "a host is asked for a child"; "the child would be longer than 64 bits". Request Five: "Asked for
  -- a child at its limit, a node answers 15, after 2 and before 3."
  pub a_child : (n : Node) (kind : Kind)
      → GivenExactly (
      1 when IsBad n
      otherwise 2 when IsHost (address_in n)
      otherwise 15 when count kind n ≡ limit kind n
      otherwise 3 when 64 < bit_length (address_in n) + count kind n + 1
      otherwise done
      ) (child_of n kind).refusal
  -- "For a next hop from an address 1, 9, 7", of 64-bit numbers: "destination below this node, child not given"
  pub a_next_hop : (n : Node) (d : ℕ) → address_in n < 2 ^ 64 → d < 2 ^ 64
      → GivenExactly (
      1 when IsBad n
      otherwise 9 when d ≡ 0
      otherwise 7 when ChildNotGiven n d
      otherwise done
      ) (next_hop n d).refusal
  -- "from a packet 1, then the reading order, then 7", so that 16 is given "before any next-hop answer" (document 02, Eight)
  pub a_packet : (n : Node) (p : List ℕ) → address_in n < 2 ^ 64 → AreOctets p
      → GivenExactly (
      (1 when IsBad n otherwise done)
      then header_order p
      then (7 when ChildNotGiven n (reading p).address otherwise done)
      ) (packet_hop n p).refusal
  -- the reading's refusals are the packet's, with a good record
  pub a_packet_unread : (n : Node) (p : List ℕ) → IsGood n → ((reading p).refusal ≡ 0 → ⊥) → (packet_hop n p).refusal ≡ (reading p).refusal
  -- "For writing a header 9, 10.": "lent output too short"
  pub a_header_out : (a : ℕ) (buffer : List ℕ)
      → GivenExactly (
      9 when a ≡ 0
      otherwise 10 when length buffer < length (header a)
      otherwise done
      ) (writing a buffer).answer.refusal
  pub a_header_back : (p : List ℕ) → GivenExactly (header_order p) (reading p).refusal
  -- "For IPv6 out 12, 9, 10.": "a prefix isn't 8" octets
  pub a_form_out : (prefix : List ℕ) (a : ℕ) (buffer : List ℕ)
      → GivenExactly (
      12 when (length prefix ≡ 8 → ⊥)
      otherwise 9 when a ≡ 0
      otherwise 10 when length buffer < 16
      otherwise done
      ) (form_writing prefix a buffer).answer.refusal
  -- "For IPv6 back 12, 8, 9.": "an IPv6 address isn't 16 octets, or a prefix isn't 8"; "IPv6 prefix differs"; "an address is zero"
  pub a_form_back : (prefix ipv6 : List ℕ)
      → GivenExactly (
      12 when ((length ipv6 ≡ 16 → ⊥) ⊎ (length prefix ≡ 8 → ⊥))
      otherwise 8 when (take 8 ipv6 ≡ prefix → ⊥)
      otherwise 9 when drop 8 ipv6 ≡ replicate 8 0
      otherwise done
      ) (form_reading prefix ipv6).refusal
  -- "For a path 9, 10."
  pub a_path : (a d : ℕ) (words : List ℕ)
      → GivenExactly (
      9 when (a ≡ 0) ⊎ (d ≡ 0)
      otherwise 10 when length words < length (path a d)
      otherwise done
      ) (listing a d words).answer.refusal
  -- the path program's work: 10 where the lent output is too short; 11 is no number here but its text (Paths)
  pub a_line : (input out : List ℕ) → GivenExactly (10 when length out < length (output_text input) otherwise done) (answering input out).answer.refusal
  -- request One, in its order
  pub a_plan : (text words : List ℕ) → GivenExactly (plan_order text words) (planning text words).answer.refusal

-- "With any refusal the address, place, hop count and every other number returned beside its own are 0, a returned record is the one handed in,
-- and no byte or word lent is changed."
pub record NothingBeside : Type 0 where
  pub an_address : (number : ℕ) → ((made number).refusal ≡ 0 → ⊥) → (made number).address ≡ 0
  pub a_child : (n : Node) (kind : Kind) → ((child_of n kind).refusal ≡ 0 → ⊥) → ((child_of n kind).child.number ≡ 0) × ((child_of n kind).node ≡ n)
  pub a_next_hop : (n : Node) (d : ℕ) → ((next_hop n d).refusal ≡ 0 → ⊥) → ((next_hop n d).named ≡ 0) × ((next_hop n d).action ≡ stop)
  pub a_packet : (n : Node) (p : List ℕ) → ((packet_hop n p).refusal ≡ 0 → ⊥) → ((packet_hop n p).named ≡ 0) × ((packet_hop n p).action ≡ stop)
  pub a_header_out : (a : ℕ) (buffer : List ℕ) → ((writing a buffer).answer.refusal ≡ 0 → ⊥)
      → ((writing a buffer).answer.count ≡ 0) × ((writing a buffer).buffer ≡ buffer)
  pub a_header_back : (p : List ℕ) → ((reading p).refusal ≡ 0 → ⊥) → ((reading p).address ≡ 0) × ((reading p).place ≡ 0)
  pub a_form_out : (prefix : List ℕ) (a : ℕ) (buffer : List ℕ) → ((form_writing prefix a buffer).answer.refusal ≡ 0 → ⊥)
      → ((form_writing prefix a buffer).answer.count ≡ 0) × ((form_writing prefix a buffer).buffer ≡ buffer)
  pub a_form_back : (prefix ipv6 : List ℕ) → ((form_reading prefix ipv6).refusal ≡ 0 → ⊥) → (form_reading prefix ipv6).address ≡ 0
  pub a_path : (a d : ℕ) (words : List ℕ) → ((listing a d words).answer.refusal ≡ 0 → ⊥)
      → ((listing a d words).answer.hops ≡ 0) × ((listing a d words).words ≡ words)
  pub a_line : (input out : List ℕ) → ((answering input out).answer.refusal ≡ 0 → ⊥)
      → ((answering input out).answer.count ≡ 0) × ((answering input out).buffer ≡ out)
  pub a_plan : (text words : List ℕ) → ((planning text words).answer.refusal ≡ 0 → ⊥)
      → ((planning text words).answer.nodes ≡ 0) × ((planning text words).words ≡ words)

-- "13, with the place of the first byte with which the text stops being the start of any text of the grammar, or the text's length if it ends
-- early .. This place amends document 01's rule on refusals." `Stops` is written out on the page Plans.
pub record PlaceOfThirteen : Type 0 where
  pub its_place : (text words : List ℕ) → (planning text words).answer.refusal ≡ 13 → Stops text (planning text words).answer.place
  pub no_other : (text words : List ℕ) → ((planning text words).answer.refusal ≡ 13 → ⊥) → (planning text words).answer.place ≡ 0

-- "On success only the words or octets named are written.": they stand in front, what is lent goes on behind them as it was
pub record OnlyTheNamed : Type 0 where
  -- making an address answers the number itself
  pub an_address : (number : ℕ) → (made number).refusal ≡ 0 → (made number).address ≡ number
  pub a_header : (a : ℕ) (buffer : List ℕ) → (writing a buffer).answer.refusal ≡ 0
      → ((writing a buffer).answer.count ≡ length (header a)) × ((writing a buffer).buffer ≡ header a ++ drop (length (header a)) buffer)
  pub a_form : (prefix : List ℕ) (a : ℕ) (buffer : List ℕ) → (form_writing prefix a buffer).answer.refusal ≡ 0
      → ((form_writing prefix a buffer).answer.count ≡ length (form prefix a))
      × ((form_writing prefix a buffer).buffer ≡ form prefix a ++ drop (length (form prefix a)) buffer)
  pub a_path : (a d : ℕ) (words : List ℕ) → (listing a d words).answer.refusal ≡ 0
      → (listing a d words).words ≡ path a d ++ drop (length (path a d)) words
  pub a_line : (input out : List ℕ) → (answering input out).answer.refusal ≡ 0
      → ((answering input out).answer.count ≡ length (output_text input))
      × ((answering input out).buffer ≡ output_text input ++ drop (length (output_text input)) out)
  -- the plan's addresses: "in that order, the root first, go into a lent list of 64-bit words, and the answer gives their number"
  pub a_plan : (text words : List ℕ) → (planning text words).answer.refusal ≡ 0
      → (plan : Items) × Spells text plan
      × (((planning text words).answer.nodes ≡ nodes plan) × ((planning text words).words ≡ hall plan ++ drop (nodes plan) words))
