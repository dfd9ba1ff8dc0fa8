-- Request Four, with the numbers of Six: a journal that outlives a power cut. First the check, the block and the slots, number by number; then what a
-- right journal is and what its first fault; then recovery, the writer, the power cut and a node's record.
use Rattle.std.specs.Prelude.{ℕ, suc, min, ◌+◌, ◌*◌, ◌-◌, ◌/◌, ◌%◌, ◌^◌, ◌<◌, ◌≤◌, ◌≡◌, true, false, ◌⊎◌, ◌↔◌, length, take, drop, get_or, set, replicate}
use mathlib.Core.List.{List, [], ◌∷◌, ◌++◌, map, Memᴰ}
use Rattle.std.specs.Int.Bits.{bit_xor}
use Rattle.address.specs.Order.{Order, done, ◌when◌otherwise◌, GivenExactly}
use Rattle.address.specs.Address.{parent, is_host}
use Rattle.address.specs.declared.Kind.{Kind}
use Rattle.address.specs.declared.Kind.TheVariants.{Router, Host}
use Rattle.octets.specs.Octets.{octets, AreOctets}
use Rattle.node.specs.Node.{address_in, fresh, count, limit, child_of, set_limit}
use Rattle.node.specs.declared.Node.{Node}
use Rattle.packet.specs.Packet.{packet_hop}
use Rattle.tree.specs.Tree.{Request, Event, asking, Tree, standing, record_of, grown, given_in, addresses, InTree}
use Rattle.tree.specs.Demand3.{Demand3}
use Rattle.crc.specs.Crc.{bit, moved_up, shift_in, shift_bits, shift_octet, crc_from, crc}
use Rattle.crc.specs.Checks.{remainders, remainder}
use Rattle.crc.specs.Known.{nine}
use Rattle.crc.specs.WrongChecks.{starting_at_zero, of_polynomial8005, low_bit_first, low_half_first, inverted_at_end, without_last_half}
use Rattle.block.specs.Block.{spread, block, block_put, all_are, is_block}
use Rattle.block.specs.Blocks.{AreWords, IsBlockOf}
use Rattle.journal.specs.Slots.{slots_of}
use Rattle.journal.specs.Recovery.{recovering}
use Rattle.journal.specs.Writing.{with_slot, writing}
use Rattle.journal.specs.Record.{children, record_in}
use Rattle.journals.specs.Replays.{recovered, IsNextChild, IsReplayed, IsFirstFault, Records}
use Rattle.journals.specs.Slots.{IsLength, Holds, AllErased, Right, Fault}
use Rattle.journals.specs.Refusals.{RecoverRule, RecoverRefusals, WriteRule, WriteRefusals, Written, NoneErased, IsFirstErased}
use Rattle.journals.specs.PowerCuts.{Accepts, AfterWrite, stored_at, in_order, PowerCut}
use Rattle.journals.specs.Orders.{IsOrder}
use Rattle.journals.specs.WrongRecoveries.{not_cleared, not_zeroed, torn_refused, gaps_allowed, room_first, closed_records}
use Rattle.journals.specs.WrongWriters.{unchecked, over_torn, other_block, idle, refuses_all, last_slot}
use Rattle.journals.specs.RoundTrip.{joined, AreBlocks, AllWritten}

-- "a CRC-16 of bytes 0 to 508 (polynomial 0x1021, start 0xFFFF, high bit first, nothing reversed or added at the end)"
pub record TheCheck : Type 0 where
  -- the bit that leaves at the top and the message's bit: where they differ, the polynomial is added
  pub bit_of : (k n : ℕ) → bit k n ≡ n / 2 ^ k % 2
  pub up : (register : ℕ) → moved_up register ≡ register * 2 % 65536
  pub alike : (register b : ℕ) → bit 15 register ≡ b → shift_in register b ≡ moved_up register
  pub unlike : (register b : ℕ) → (bit 15 register ≡ b → ⊥) → shift_in register b ≡ bit_xor (moved_up register) 0x1021
  -- high bit first
  pub no_bit : (register n : ℕ) → shift_bits 0 register n ≡ register
  pub one_bit : (k register n : ℕ) → shift_bits (suc k) register n ≡ shift_bits k (shift_in register (bit k n)) n
  pub an_octet : (register o : ℕ) → shift_octet register o ≡ shift_bits 8 register o
  pub no_octet : (register : ℕ) → crc_from register [] ≡ register
  pub one_octet : (register o : ℕ) (os : List ℕ) → crc_from register (o ∷ os) ≡ crc_from (shift_octet register o) os
  pub start : (os : List ℕ) → crc os ≡ crc_from 0xFFFF os
  pub fits : (os : List ℕ) → crc os < 65536
  -- "a table of sixteen entries, one for each half octet"
  pub sixteen : length remainders ≡ 16
  pub table : (half : ℕ) → half < 16 → get_or remainders half 0 ≡ remainder half
  pub entry : (half : ℕ) → remainder half ≡ shift_bits 4 (half * 4096) 0
  -- four bits at once by the table, and an octet by its two halves, the high one first
  pub by_table : (register half : ℕ) → half < 16
      → shift_bits 4 register half ≡ bit_xor (register * 16 % 65536) (remainder (bit_xor (register / 4096) half))
  pub by_halves : (register o : ℕ) → shift_octet register o ≡ shift_bits 4 (shift_bits 4 register (o / 16)) (o % 16)
  -- the check value of this CRC, of "123456789"
  pub nine : crc (49 ∷ 50 ∷ 51 ∷ 52 ∷ 53 ∷ 54 ∷ 55 ∷ 56 ∷ 57 ∷ []) ≡ 0x29B1

-- "A block: 0x50; a count n of 1 to 63; n addresses of 8 octets, high octet first, in the order given; zeros up to byte 508; in bytes 509 and 510,
-- high first, a CRC-16 of bytes 0 to 508 ..; 0xA5 in byte 511."
pub record TheBlock : Type 0 where
  pub no_address : spread [] ≡ []
  pub one_address : (a : ℕ) (xs : List ℕ) → spread (a ∷ xs) ≡ octets 8 a ++ spread xs
  pub bytes : (xs : List ℕ) (content : List ℕ) → content ≡ 0x50 ∷ length xs ∷ (spread xs ++ replicate (509 - (2 + 8 * length xs)) 0)
      → block xs ≡ content ++ (octets 2 (crc content) ++ (0xA5 ∷ []))
  pub whole : (xs : List ℕ) → 1 ≤ length xs → length xs ≤ 63
      → (length (block xs) ≡ 512) × (get_or (block xs) 0 0 ≡ 0x50) × (get_or (block xs) 511 0 ≡ 0xA5) × AreOctets (block xs)
  -- "a right block": the block of one list of 64-bit numbers, 1 to 63 of them
  pub is_block_of : (xs slot : List ℕ) → IsBlockOf xs slot ↔ (AreWords xs × (1 ≤ length xs) × (length xs ≤ 63) × (slot ≡ block xs))
  pub no_other : (xs ys slot : List ℕ) → IsBlockOf xs slot → IsBlockOf ys slot → xs ≡ ys
  -- the test is right about all octets, and so is the one that all bytes are one; a block is put into a whole slot, or nothing is
  pub tested : (slot : List ℕ) → AreOctets slot → (is_block slot ≡ true) ↔ ((xs : List ℕ) × IsBlockOf xs slot)
  pub alike : (o : ℕ) (bytes : List ℕ) → (all_are o bytes ≡ true) ↔ (bytes ≡ replicate (length bytes) o)
  pub put : (xs slot : List ℕ) → length slot ≡ 512 → 1 ≤ length xs → length xs ≤ 63 → block_put xs slot ≡ block xs
  pub not_put : (xs slot : List ℕ) → (length slot ≡ 512 → ⊥) ⊎ (((1 ≤ length xs) × (length xs ≤ 63)) → ⊥) → block_put xs slot ≡ slot
  pub no_word : AreWords [] ↔ Unit {0}
  pub one_word : (a : ℕ) (xs : List ℕ) → AreWords (a ∷ xs) ↔ ((a < 2 ^ 64) × AreWords xs)

-- "The journal is 1 to 128 slots of 512 bytes, erased to 0xFF."
pub record TheSlots : Type 0 where
  pub is_length : (bytes : ℕ) → IsLength bytes ↔ ((slots : ℕ) × (1 ≤ slots) × (slots ≤ 128) × (bytes ≡ 512 * slots))
  -- the slots of a journal, one behind the other
  pub no_slot : slots_of [] ≡ []
  pub one_slot : (slot rest : List ℕ) → length slot ≡ 512 → slots_of (slot ++ rest) ≡ slot ∷ slots_of rest
  -- "A slot that isn't erased but ends in 0xFF is torn and skipped.": torn slots and right blocks, with the addresses of the blocks
  pub holds_none : (xs : List ℕ) → Holds [] xs ↔ (xs ≡ [])
  pub holds_one : (slot : List ℕ) (slots : List (List ℕ)) (xs : List ℕ)
      → Holds (slot ∷ slots) xs
      ↔ (((slot ≡ replicate 512 0xFF → ⊥) × (get_or slot 511 0 ≡ 0xFF) × Holds slots xs)
      ⊎ ((more : List ℕ) × (others : List ℕ) × (xs ≡ more ++ others) × IsBlockOf more slot × Holds slots others))
  pub none_erased : AllErased [] ↔ Unit {0}
  pub all_erased : (slot : List ℕ) (slots : List (List ℕ)) → AllErased (slot ∷ slots) ↔ ((slot ≡ replicate 512 0xFF) × AllErased slots)
  -- "whose addresses each are the next child of a node already known, starting from a bare root": some node of the tree, by its address and its
  -- counts, asked for a child of a kind, answers with exactly this address
  pub next_child : (t : Tree) (a : ℕ)
      → IsNextChild t a
      ↔ ((n : Node) × (kind : Kind) × (record_of (address_in n) t ≡ standing n)
      × ((child_of (recovered n) kind).refusal ≡ 0) × ((child_of (recovered n) kind).child.number ≡ a))
  -- request Five: "The journal holds no limits, so recovered nodes have 64 and 64."
  pub without_limits : (n : Node)
      → recovered n ≡ record { address = n.address; routers = n.routers; hosts = n.hosts; limits = record { routers = 64; hosts = 64 } }
  -- addresses replayed without a fault: those given in a list of requests alone, whose tree has not more than 4,096 nodes
  pub is_replayed : (xs nodes : List ℕ)
      → IsReplayed xs nodes
      ↔ ((rs : List Request) × (xs ≡ given_in child_of set_limit (map asking rs)) × (nodes ≡ addresses (grown child_of set_limit (map asking rs)))
      × (length nodes ≤ 4096))
  -- and those of every list with settings in it are
  pub with_settings : (es : List Event) → length (addresses (grown child_of set_limit es)) ≤ 4096
      → IsReplayed (given_in child_of set_limit es) (addresses (grown child_of set_limit es))
  -- the first address with a fault: "a [4,097th] node, the root counted, is 14, but 17 if it is no next child"
  pub is_first_fault : (xs : List ℕ) (n : ℕ)
      → IsFirstFault xs n
      ↔ ((rs : List Request) × (a : ℕ) × (rest : List ℕ) × (xs ≡ given_in child_of set_limit (map asking rs) ++ (a ∷ rest))
      × (length (addresses (grown child_of set_limit (map asking rs))) ≤ 4096)
      × (((n ≡ 17) × (IsNextChild (grown child_of set_limit (map asking rs)) a → ⊥))
      ⊎ ((n ≡ 14) × IsNextChild (grown child_of set_limit (map asking rs)) a × (4096 ≤ length (addresses (grown child_of set_limit (map asking rs)))))))
  -- a right journal: torn slots and right blocks, then erased slots
  pub right : (slots : List (List ℕ)) (nodes : List ℕ)
      → Right slots nodes
      ↔ ((written : List (List ℕ)) × (erased : List (List ℕ)) × (xs : List ℕ) × (slots ≡ written ++ erased) × Holds written xs × AllErased erased
      × IsReplayed xs nodes × (nodes ≡ 1 ∷ xs))
  -- "takes slots in order, the first fault deciding, in a slot its place and form before its addresses": a slot that isn't erased after an erased
  -- one; a slot that ends in anything but 0xFF and is no right block; a right block with a wrong address
  pub faults : (slots : List (List ℕ)) (n : ℕ)
      → Fault slots n
      ↔ (((before : List (List ℕ)) × (erased : List ℕ) × (between : List (List ℕ)) × (slot : List ℕ) × (rest : List (List ℕ)) × (nodes : List ℕ)
      × (slots ≡ before ++ (erased ∷ between) ++ slot ∷ rest) × Right (before ++ (erased ∷ between)) nodes × (erased ≡ replicate 512 0xFF)
      × (slot ≡ replicate 512 0xFF → ⊥) × (n ≡ 17))
      ⊎ ((before : List (List ℕ)) × (slot : List ℕ) × (rest : List (List ℕ)) × (xs : List ℕ) × (nodes : List ℕ) × (slots ≡ before ++ slot ∷ rest)
      × Holds before xs × IsReplayed xs nodes × (get_or slot 511 0 ≡ 0xFF → ⊥) × ((more : List ℕ) → IsBlockOf more slot → ⊥) × (n ≡ 17))
      ⊎ ((before : List (List ℕ)) × (slot : List ℕ) × (rest : List (List ℕ)) × (xs : List ℕ) × (more : List ℕ) × (nodes : List ℕ)
      × (slots ≡ before ++ slot ∷ rest) × Holds before xs × IsReplayed xs nodes × IsBlockOf more slot × IsFirstFault (xs ++ more) n))
  -- every journal is right or has a fault, never both, and one of each: of 14 and 17 one comes first
  pub one_or_other : (journal : List ℕ) → AreOctets journal
      → ((nodes : List ℕ) × Right (slots_of journal) nodes) ⊎ ((n : ℕ) × ((n ≡ 14) ⊎ (n ≡ 17)) × Fault (slots_of journal) n)
  pub not_both : (journal nodes : List ℕ) (n : ℕ) → AreOctets journal → Right (slots_of journal) nodes → Fault (slots_of journal) n → ⊥
  pub one_fault : (journal : List ℕ) (n m : ℕ) → AreOctets journal → Fault (slots_of journal) n → Fault (slots_of journal) m → n ≡ m
  pub one_tree : (journal xs ys : List ℕ) → AreOctets journal → Right (slots_of journal) xs → Right (slots_of journal) ys → xs ≡ ys
  -- the slots that are not erased, in order
  pub written_none : (kept : List (List ℕ)) → Written [] kept ↔ (kept ≡ [])
  pub written_one : (slot : List ℕ) (slots kept : List (List ℕ))
      → Written (slot ∷ slots) kept
      ↔ (((slot ≡ replicate 512 0xFF) × Written slots kept)
      ⊎ ((others : List (List ℕ)) × (kept ≡ slot ∷ others) × (slot ≡ replicate 512 0xFF → ⊥) × Written slots others))
  pub free_none : NoneErased [] ↔ Unit {0}
  pub free_one : (slot : List ℕ) (slots : List (List ℕ)) → NoneErased (slot ∷ slots) ↔ ((slot ≡ replicate 512 0xFF → ⊥) × NoneErased slots)

-- "Recovery first checks the length (12), then that at least [4,096] words are lent (10), then takes slots in order, the first fault deciding"
abbrev pub recover_order : List ℕ → List ℕ → Order
recover_order journal words =
    12 when (IsLength (length journal) → ⊥)
    otherwise 10 when length words < 4096
    otherwise 14 when Fault (slots_of journal) 14
    otherwise 17 when Fault (slots_of journal) 17
    otherwise done

-- "The writer refuses in this order: 12 if the journal's length is wrong or n is outside 1 to 63; 14 or 17 exactly if recovery gives it for the
-- journal, or else for its written slots and this block after them, even a 129th; 10 if no slot is erased."
abbrev pub write_order : List ℕ → List ℕ → Order
write_order journal xs =
    12 when ((IsLength (length journal) → ⊥) ⊎ (((1 ≤ length xs) × (length xs ≤ 63)) → ⊥))
    otherwise 14 when Fault (slots_of journal) 14
    otherwise 17 when Fault (slots_of journal) 17
    otherwise 14 when ((kept : List (List ℕ)) × Written (slots_of journal) kept × Fault (kept ++ (block xs ∷ [])) 14)
    otherwise 17 when ((kept : List (List ℕ)) × Written (slots_of journal) kept × Fault (kept ++ (block xs ∷ [])) 17)
    otherwise 10 when NoneErased (slots_of journal)
    otherwise done

-- demand 1 for recovery and the writer, for every journal of octets and every list of 64-bit words
pub record JournalRefusals : Type 0 where
  pub a_recovery : (journal words : List ℕ) → AreOctets journal → GivenExactly (recover_order journal words) (recovering journal words).answer.refusal
  pub a_block : (journal xs : List ℕ) → AreOctets journal → AreWords xs → GivenExactly (write_order journal xs) (writing journal xs).answer.refusal
  -- "With any refusal .. every other number returned beside its own are 0 .. and no byte or word lent is changed."
  pub beside_ablock : (journal xs : List ℕ) → ((writing journal xs).answer.refusal ≡ 0 → ⊥)
      → ((writing journal xs).answer.slot ≡ 0) × ((writing journal xs).journal ≡ journal)
  pub beside_arecovery : (journal words : List ℕ) → ((recovering journal words).answer.refusal ≡ 0 → ⊥) → (recovering journal words).answer.nodes ≡ 0
  pub spared : (journal words : List ℕ) → ((recovering journal words).answer.refusal ≡ 12) ⊎ ((recovering journal words).answer.refusal ≡ 10)
      → (recovering journal words).words ≡ words
  -- "Recovery's 14 and 17 leave the list all zeros: the one exception to demand 1's and document 01's rule on refusals."
  pub zeroed : (journal words : List ℕ) → ((recovering journal words).answer.refusal ≡ 14) ⊎ ((recovering journal words).answer.refusal ≡ 17)
      → (recovering journal words).words ≡ replicate (length words) 0

-- recovery with these nodes: "Success returns the number of nodes and leaves root and addresses in order, then zeros to the list's end."
abbrev pub RecoversTo : List ℕ → List ℕ → Type 0
RecoversTo journal nodes = (words : List ℕ) → 4096 ≤ length words
    → recovering journal words
    ≡ record { answer = record { refusal = 0; nodes = length nodes }; words = nodes ++ replicate (length words - length nodes) 0 }

-- the same by any recovery
abbrev pub RecoversBy : RecoverRule → List ℕ → List ℕ → Type 0
RecoversBy recover journal nodes = (words : List ℕ) → 4096 ≤ length words
    → recover journal words
    ≡ record { answer = record { refusal = 0; nodes = length nodes }; words = nodes ++ replicate (length words - length nodes) 0 }

pub record TheJournal : Type 0 where
  -- whatever is recovered is a tree of demand 3
  pub a_hall : (journal words : List ℕ) → AreOctets journal → (recovering journal words).answer.refusal ≡ 0
      → (nodes : List ℕ) × Right (slots_of journal) nodes × RecoversTo journal nodes
      × ((rs : List Request) × (nodes ≡ addresses (grown child_of set_limit (map asking rs))) × Demand3 child_of set_limit packet_hop (map asking rs))
  -- "A block goes to the first wholly erased slot.", and no other byte of the journal is changed
  pub the_slot : (journal xs : List ℕ) → AreOctets journal → (writing journal xs).answer.refusal ≡ 0
      → (before : List (List ℕ)) × (erased : List ℕ) × (rest : List (List ℕ)) × (slots_of journal ≡ before ++ erased ∷ rest)
      × ((writing journal xs).answer.slot ≡ length before) × NoneErased before × (erased ≡ replicate 512 0xFF)
      × ((writing journal xs).journal ≡ with_slot (length before) (block xs) journal)
  pub its_place : (slot : ℕ) (bytes journal : List ℕ)
      → with_slot slot bytes journal ≡ take (512 * slot) journal ++ (bytes ++ drop (512 * slot + 512) journal)
  -- after a write: for every journal that the writer accepts, what was recovered before and then the block's addresses, in order
  pub after_awrite : (journal xs : List ℕ) → AreOctets journal → AreWords xs → (writing journal xs).answer.refusal ≡ 0
      → (nodes : List ℕ) × RecoversTo journal nodes × RecoversTo (writing journal xs).journal (nodes ++ xs)
  -- every list of addresses given since a bare root, whatever limits were set meanwhile, cut into blocks of 1 to 63 in any way, is written without a refusal and recovered exactly,
  -- where the slots suffice, and the nodes
  pub every_list : (slots : ℕ) (es : List Event) (blocks : List (List ℕ)) → 1 ≤ slots → slots ≤ 128
      → given_in child_of set_limit es ≡ joined blocks → AreBlocks blocks → length blocks ≤ slots → length (addresses (grown child_of set_limit es)) ≤ 4096
      → AllWritten writing (replicate (512 * slots) 0xFF) blocks (λ after. RecoversTo after (addresses (grown child_of set_limit es)))
  -- and on from any journal, slots lost to torn blocks counted
  pub onward : (journal : List ℕ) (kept : List (List ℕ)) (es more : List Event) (blocks : List (List ℕ)) → AreOctets journal
      → Written (slots_of journal) kept → RecoversTo journal (addresses (grown child_of set_limit es))
      → addresses (grown child_of set_limit (es ++ more)) ≡ addresses (grown child_of set_limit es) ++ joined blocks → AreBlocks blocks
      → length kept + length blocks ≤ length (slots_of journal) → length (addresses (grown child_of set_limit (es ++ more))) ≤ 4096
      → AllWritten writing journal blocks (λ after. RecoversTo after (addresses (grown child_of set_limit (es ++ more))))
  pub no_blocks : (joined [] ≡ []) × (AreBlocks [] ↔ Unit {0})
  pub blocks_one : (xs : List ℕ) (blocks : List (List ℕ))
      → (joined (xs ∷ blocks) ≡ xs ++ joined blocks) × (AreBlocks (xs ∷ blocks) ↔ (((1 ≤ length xs) × (length xs ≤ 63)) × AreBlocks blocks))
  pub written_none : (journal nodes : List ℕ) → AllWritten writing journal [] (λ after. RecoversTo after nodes) ↔ RecoversTo journal nodes
  pub written_one : (journal nodes xs : List ℕ) (blocks : List (List ℕ))
      → AllWritten writing journal (xs ∷ blocks) (λ after. RecoversTo after nodes)
      ↔ (((writing journal xs).answer.refusal ≡ 0) × AllWritten writing (writing journal xs).journal blocks (λ after. RecoversTo after nodes))

-- "If power fails after any number of bytes of one block, all other slots kept, recovery gives the state before that block if fewer than 512 bytes
-- were written and the state after it if all were."
pub record ThePowerCut : Type 0 where
  -- the bytes of the new journal at some places of one slot, all others from the old one
  pub no_place : (slot : ℕ) (new old : List ℕ) → stored_at slot [] new old ≡ old
  pub one_place : (slot place : ℕ) (places new old : List ℕ)
      → stored_at slot (place ∷ places) new old ≡ stored_at slot places new (set old (512 * slot + place) (get_or new (512 * slot + place) 0))
  -- "Bytes are written in order": 0, 1, .. 511
  pub places : length in_order ≡ 512
  pub placed : (k : ℕ) → k < 512 → get_or in_order k 0 ≡ k
  pub state_before : (journal xs : List ℕ) → AreOctets journal → AreWords xs → (writing journal xs).answer.refusal ≡ 0
      → (nodes : List ℕ) × RecoversTo journal nodes
      × ((k : ℕ) → k < 512 → RecoversTo (stored_at (writing journal xs).answer.slot (take k in_order) (writing journal xs).journal journal) nodes)
      × RecoversTo (stored_at (writing journal xs).answer.slot in_order (writing journal xs).journal journal) (nodes ++ xs)
  -- all places of the order written: the new journal; and after any cut there are octets again, so that every line holds of them too
  pub all_stored : (journal xs : List ℕ) → AreOctets journal → (writing journal xs).answer.refusal ≡ 0
      → stored_at (writing journal xs).answer.slot in_order (writing journal xs).journal journal ≡ (writing journal xs).journal
  pub octets_again : (k : ℕ) (order journal xs : List ℕ) → AreOctets journal → (writing journal xs).answer.refusal ≡ 0
      → AreOctets (stored_at (writing journal xs).answer.slot (take k order) (writing journal xs).journal journal)
  -- any other order of the 512 places: it outlives every cut exactly if byte 511 is the last
  pub any_order : (order : List ℕ) → IsOrder order → PowerCut order writing recovering ↔ (get_or order 511 0 ≡ 511)
  pub is_order : (order : List ℕ)
      → IsOrder order
      ↔ ((length order ≡ 512) × ((place : ℕ) → place < 512 → (step : ℕ) × (step < 512) × (get_or order step 0 ≡ place))
      × ((i j : ℕ) → i < 512 → j < 512 → get_or order i 0 ≡ get_or order j 0 → i ≡ j))
  pub power_cut : (order : List ℕ) (write : WriteRule) (recover : RecoverRule)
      → PowerCut order write recover
      ↔ (((journal xs : List ℕ) → Accepts write journal xs → (nodes : List ℕ) × RecoversBy recover journal nodes)
      × ((journal xs nodes : List ℕ) (k : ℕ) → Accepts write journal xs → RecoversBy recover journal nodes → k < 512
      → RecoversBy recover (stored_at (write journal xs).answer.slot (take k order) (write journal xs).journal journal) nodes)
      × ((journal xs nodes : List ℕ) → Accepts write journal xs → RecoversBy recover journal nodes
      → RecoversBy recover (stored_at (write journal xs).answer.slot (take 512 order) (write journal xs).journal journal) (nodes ++ xs)))
  pub accepts : (write : WriteRule) (journal xs : List ℕ)
      → Accepts write journal xs ↔ (AreOctets journal × AreWords xs × ((write journal xs).answer.refusal ≡ 0))

-- a node's record from the words that recovery leaves
pub record TheRecord : Type 0 where
  -- of every list of words: found exactly if the address is no zero and stands among them, with the children of each kind among them, up to 255
  pub found : (words : List ℕ) (a : ℕ) → ((record_in words a).found ≡ true) ↔ ((a ≡ 0 → ⊥) × Memᴰ a words)
  pub its_counts : (words : List ℕ) (a : ℕ) → (record_in words a).found ≡ true
      → (address_in (record_in words a).node ≡ a) × ((kind : Kind) → count kind (record_in words a).node ≡ min (children kind a words) 255)
  pub not_found : (words : List ℕ) (a : ℕ) → (record_in words a).found ≡ false → (record_in words a).node ≡ fresh 0
  pub no_word : (kind : Kind) (a : ℕ) → children kind a [] ≡ 0
  pub a_router : (a w : ℕ) (words : List ℕ) → parent w ≡ a → is_host w ≡ false → children Router a (w ∷ words) ≡ suc (children Router a words)
  pub a_host : (a w : ℕ) (words : List ℕ) → parent w ≡ a → is_host w ≡ true → children Host a (w ∷ words) ≡ suc (children Host a words)
  pub no_router : (a w : ℕ) (words : List ℕ) → (parent w ≡ a → ⊥) ⊎ (is_host w ≡ true) → children Router a (w ∷ words) ≡ children Router a words
  pub no_host : (a w : ℕ) (words : List ℕ) → (parent w ≡ a → ⊥) ⊎ (is_host w ≡ false) → children Host a (w ∷ words) ≡ children Host a words
  -- "recovered nodes have 64 and 64"
  pub its_limits : (words : List ℕ) (a : ℕ) (kind : Kind) → (record_in words a).found ≡ true → limit kind (record_in words a).node ≡ 64
  -- of the words that recovery leaves: the tree's own record, by its address and its counts; where no limit was set, that record itself
  pub of_atree : (es : List Event) (zeros a : ℕ) (n : Node) → record_of a (grown child_of set_limit es) ≡ standing n
      → ((record_in (addresses (grown child_of set_limit es) ++ replicate zeros 0) a).found ≡ true)
      × ((record_in (addresses (grown child_of set_limit es) ++ replicate zeros 0) a).node ≡ recovered n)
  pub of_requests : (rs : List Request) (zeros a : ℕ) (n : Node) → record_of a (grown child_of set_limit (map asking rs)) ≡ standing n
      → (record_in (addresses (grown child_of set_limit (map asking rs)) ++ replicate zeros 0) a).node ≡ n
  pub no_node : (es : List Event) (zeros a : ℕ)
      → ((record_in (addresses (grown child_of set_limit es) ++ replicate zeros 0) a).found ≡ false) ↔ (InTree a (grown child_of set_limit es) → ⊥)

-- the refusals, with what is left beside them and without them, leave one recovery and one writer: whatever answers or leaves otherwise anywhere is
-- excluded
pub record OneJournalRule : Type 0 where
  -- what the statements say of a rule, field by field
  pub recover_refusals : (rule : RecoverRule)
      → RecoverRefusals rule
      ↔ (((journal words : List ℕ) → AreOctets journal → GivenExactly (recover_order journal words) (rule journal words).answer.refusal)
      × ((journal words : List ℕ) → ((rule journal words).answer.refusal ≡ 0 → ⊥) → (rule journal words).answer.nodes ≡ 0)
      × ((journal words : List ℕ) → ((rule journal words).answer.refusal ≡ 12) ⊎ ((rule journal words).answer.refusal ≡ 10)
      → (rule journal words).words ≡ words)
      × ((journal words : List ℕ) → ((rule journal words).answer.refusal ≡ 14) ⊎ ((rule journal words).answer.refusal ≡ 17)
      → (rule journal words).words ≡ replicate (length words) 0)
      × ((journal words : List ℕ) → AreOctets journal → (rule journal words).answer.refusal ≡ 0
      → (nodes : List ℕ) × Right (slots_of journal) nodes × ((rule journal words).answer.nodes ≡ length nodes)
      × ((rule journal words).words ≡ nodes ++ replicate (length words - length nodes) 0)))
  pub write_refusals : (rule : WriteRule)
      → WriteRefusals rule
      ↔ (((journal xs : List ℕ) → AreOctets journal → AreWords xs → GivenExactly (write_order journal xs) (rule journal xs).answer.refusal)
      × ((journal xs : List ℕ) → ((rule journal xs).answer.refusal ≡ 0 → ⊥)
      → ((rule journal xs).answer.slot ≡ 0) × ((rule journal xs).journal ≡ journal))
      × ((journal xs : List ℕ) → AreOctets journal → (rule journal xs).answer.refusal ≡ 0
      → IsFirstErased (slots_of journal) (rule journal xs).answer.slot
      × ((rule journal xs).journal ≡ with_slot (rule journal xs).answer.slot (block xs) journal)))
  pub is_first_erased : (slots : List (List ℕ)) (slot : ℕ)
      → IsFirstErased slots slot
      ↔ ((before : List (List ℕ)) × (erased : List ℕ) × (rest : List (List ℕ)) × (slots ≡ before ++ erased ∷ rest) × (slot ≡ length before)
      × NoneErased before × (erased ≡ replicate 512 0xFF))
  pub after_write : (write : WriteRule) (recover : RecoverRule)
      → AfterWrite write recover
      ↔ ((journal xs : List ℕ) → Accepts write journal xs
      → (nodes : List ℕ) × RecoversBy recover journal nodes × RecoversBy recover (write journal xs).journal (nodes ++ xs))
  pub after_ours : AfterWrite writing recovering
  pub to_recover : (rule : RecoverRule) → RecoverRefusals rule → (journal words : List ℕ) → AreOctets journal
      → rule journal words ≡ recovering journal words
  pub ours : RecoverRefusals recovering
  pub to_write : (rule : WriteRule) → WriteRefusals rule → (journal xs : List ℕ) → AreOctets journal → AreWords xs
      → rule journal xs ≡ writing journal xs
  pub ours_too : WriteRefusals writing

-- some that are
pub record WrongJournalRules : Type 0 where
  -- an order of bytes that has the last one first, whatever follows
  pub last_byte_first : (rest : List ℕ) → PowerCut (511 ∷ rest) writing recovering → ⊥
  -- a writer that skips the check of the block's addresses, that puts another right block there, that writes nothing
  pub no_check : AfterWrite unchecked recovering → ⊥
  pub another_block : AfterWrite other_block recovering → ⊥
  pub nothing_written : AfterWrite idle recovering → ⊥
  -- one that takes a torn slot for erased, that refuses everything, that takes the last erased slot
  pub torn_taken : WriteRefusals over_torn → ⊥
  pub all_refused : WriteRefusals refuses_all → ⊥
  pub last_erased : WriteRefusals last_slot → ⊥
  -- a recovery that leaves the words behind the nodes, or those beside 14 and 17, as they came; to which a torn slot is 17, or a gap none; 10 before 12
  pub left_behind : RecoverRefusals not_cleared → ⊥
  pub left_at_fault : RecoverRefusals not_zeroed → ⊥
  pub torn_not_skipped : RecoverRefusals torn_refused → ⊥
  pub gap_not_seen : RecoverRefusals gaps_allowed → ⊥
  pub room_before_length : RecoverRefusals room_first → ⊥
  -- a record from the words with 0 and 0 for limits
  pub with_limits : Records closed_records → ⊥
  -- a check that starts at 0, by another polynomial, low bit first, low half octet first, inverted at the end, without the last half octet
  pub zero_start : starting_at_zero nine ≡ 0x29B1 → ⊥
  pub other_polynomial : of_polynomial8005 nine ≡ 0x29B1 → ⊥
  pub low_bit : low_bit_first nine ≡ 0x29B1 → ⊥
  pub low_half : low_half_first nine ≡ 0x29B1 → ⊥
  pub inverted : inverted_at_end nine ≡ 0x29B1 → ⊥
  pub last_half : without_last_half nine ≡ 0x29B1 → ⊥
