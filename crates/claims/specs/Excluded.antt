-- The known values of document 01 that are marked P, two of them as document 02 (Three) has them, and those of Three; and the wrong rules that
-- document 01 names, and some more, each refuted through the claim that excludes it.
use Rattle.std.specs.Prelude.{◌≡◌, ℕ, ◌↔◌, List, [], ◌∷◌, ◌++◌, length, drop}
use Rattle.address.specs.Order.{GivenExactly}
use Rattle.header.specs.Header.{size, header, writing, reading, found, refused_header}
use Rattle.header.specs.RoundTrip.{HeaderWriter, HeaderReader, HeaderRoundTrip}
use Rattle.header.specs.Refusals.{HeaderWriteRefusals, HeaderReadRefusals}
use Rattle.header.specs.WrongWriters.{silent_writer, refusing_writer, roomless_writer, spoiling_writer, padding_writer, room_first_writer}
use Rattle.header.specs.WrongReaders.{surplus_reader, even_reader, missing_first_reader}
use Rattle.ipv6.specs.Form.{form_writing, form_reading}
use Rattle.ipv6.specs.RoundTrip.{FormRoundTrip}
use Rattle.ipv6.specs.WrongWriters.{silent_form_writer, refusing_form_writer, short_prefix_writer, roomless_form_writer, spoiling_form_writer}
use Rattle.ipv6.specs.WrongReaders.{surplus_form_reader}
use Rattle.node.specs.Node.{child_of, set_limit}
use Rattle.node.specs.Refusals.{ChildRefusals}
use Rattle.node.specs.WrongRules.{refuses_all, root_is_host, host_first, one_too_many, short_of_limit, address_beside}
use Rattle.forward.specs.Forward.{next_hop}
use Rattle.forward.specs.Refusals.{HopRefusals}
use Rattle.forward.specs.WrongRules.{zero_first}
use Rattle.packet.specs.Packet.{packet_hop}
use Rattle.packet.specs.Refusals.{PacketRefusals}
use Rattle.packet.specs.WrongRules.{reading_first}
use Rattle.plan.specs.Grammar.{Items, Spells, Stops}
use Rattle.plan.specs.Hall.{hall, nodes}
use Rattle.plan.specs.Plan.{planning}
use Rattle.plan.specs.Refusals.{PlanRefusals}
use Rattle.plan.specs.WrongRules.{PlanRule, refuses_all as refuses_all_plans, grammar_first, nodes_first, room_first, place_from_one, place_beside, writes_without_room, writes_root, root_uncounted, unlimited, routers_late}
use Rattle.known.specs.Known.{AllHold, table}
use Rattle.tree.specs.Tree.{Event, ChildRule, SettingRule}
use Rattle.tree.specs.Way.{HopRule}
use Rattle.tree.specs.Demand3.{Demand3}
use Rattle.tree.specs.WrongChildren.{same_child, shared_count, limit_on_parent}
use Rattle.tree.specs.WrongHops.{refuses_everything, parent_to_all, leaps, names_nobody, host_keeps, host_delivers, root_as_host, low_bits, before_last_bit, one_count}
use Rattle.claims.specs.Demand1.{plan_order}

-- "Cases marked P are proved, gathered in a single table under one claim."
pub record KnownRows : Type 0 where
  pub every_row_holds : AllHold table
  -- fourteen sentences carry a P, and one of them has two answers
  pub fifteen : length table ≡ 15

-- the values that document 02 names in Three; and of Eight "Accepted header cases .. get one payload octet more; refused ones stand"
pub record ValuesOfThree : Type 0 where
  -- "Address 111110 is F1 80 0F 3E."
  pub header_of111110 : header 0b111110 ≡ 0xF1 ∷ 0x80 ∷ 0x0F ∷ 0x3E ∷ []
  pub read111110 : (o : ℕ) → reading (0xF1 ∷ 0x80 ∷ 0x0F ∷ 0x3E ∷ o ∷ []) ≡ found 0b111110 4
  -- "F1 81 0F 00 3E and F1 81 0F 00 00 are now 6"
  pub a_zero_in_front : reading (0xF1 ∷ 0x81 ∷ 0x0F ∷ 0x00 ∷ 0x3E ∷ []) ≡ refused_header 6
  pub two_zeros : reading (0xF1 ∷ 0x81 ∷ 0x0F ∷ 0x00 ∷ 0x00 ∷ []) ≡ refused_header 6
  -- "F1 82 0F with nothing behind it is now 4"
  pub nothing_behind : reading (0xF1 ∷ 0x82 ∷ 0x0F ∷ []) ≡ refused_header 4
  -- "F1 82 0F 01 00 00 is now address 65,536, which takes 3 octets"
  pub read65536 : (o : ℕ) → reading (0xF1 ∷ 0x82 ∷ 0x0F ∷ 0x01 ∷ 0x00 ∷ 0x00 ∷ o ∷ []) ≡ found 65536 6
  pub size_of65536 : size 65536 ≡ 3

-- the claims that exclude wrong rules hold of ours, whole; that of a setting stands with it (Limits)
pub record HoldOfOurs : Type 0 where
  pub demand1_child : ChildRefusals child_of
  pub demand1_hop : HopRefusals next_hop
  pub demand1_packet : PacketRefusals packet_hop
  pub demand1_writer : HeaderWriteRefusals writing
  pub demand1_reader : HeaderReadRefusals reading
  pub demand1_plan : PlanRefusals planning
  pub demand2_header : HeaderRoundTrip writing reading
  pub demand2_form : FormRoundTrip form_writing form_reading
  pub demand3 : (es : List Event) → Demand3 child_of set_limit packet_hop es

-- demand 3 is false of these rules
abbrev pub FailsDemand3 : ChildRule → SettingRule → HopRule → Type 0
FailsDemand3 child set hop = ((es : List Event) → Demand3 child set hop es) → ⊥

pub record WrongNextHops : Type 0 where
  -- "One that refuses everything, and one that says 'parent' to all"
  pub that_refuses_everything : FailsDemand3 child_of set_limit refuses_everything
  pub that_says_parent_to_all : FailsDemand3 child_of set_limit parent_to_all
  -- "One that leaps to the destination in its first hop"
  pub that_leaps : FailsDemand3 child_of set_limit leaps
  -- "on delivery C itself"
  pub that_names_nobody : FailsDemand3 child_of set_limit names_nobody
  -- "Treating a host as the ancestor of every address it prefixes": it refuses, or it delivers
  pub where_ahost_keeps : FailsDemand3 child_of set_limit host_keeps
  pub where_ahost_delivers : FailsDemand3 child_of set_limit host_delivers
  -- "Calling the root a host because it ends in 1."
  pub where_the_root_is_ahost : FailsDemand3 child_of set_limit root_as_host
  -- "Comparing C with D's low bits instead of its high bits."
  pub by_low_bits : FailsDemand3 child_of set_limit low_bits
  -- "Skipping ones and stopping before the last bit"
  pub before_the_last_bit : FailsDemand3 child_of set_limit before_last_bit
  -- "using one count for both kinds"
  pub with_one_count : FailsDemand3 child_of set_limit one_count
  -- 9 before 1; the reading before 1
  pub with_zero_first : HopRefusals zero_first → ⊥
  pub with_reading_first : PacketRefusals reading_first → ⊥

pub record WrongChildren : Type 0 where
  -- "One that hands every child the same address"
  pub of_one_address : FailsDemand3 same_child set_limit packet_hop
  -- "using one count for both kinds"
  pub with_one_count : FailsDemand3 shared_count set_limit packet_hop
  -- "Testing the length limit on the parent instead of the child"
  pub with_limit_on_parent : FailsDemand3 limit_on_parent set_limit packet_hop
  -- "One that refuses everything"; "Calling the root a host": demand 3 stays true of the bare root, and demand 1 excludes them
  pub that_refuses_all : ChildRefusals refuses_all → ⊥
  pub where_the_root_is_ahost : ChildRefusals root_is_host → ⊥
  -- 2 before 1; a count one too high; a child of 64 bits refused; an address beside a refusal
  pub with_host_first : ChildRefusals host_first → ⊥
  pub with_one_too_many : ChildRefusals one_too_many → ⊥
  pub short_of_the_limit : ChildRefusals short_of_limit → ⊥
  pub with_an_address_beside : ChildRefusals address_beside → ⊥

-- demand 1 of a header leaves one writer and one reader, so that whatever answers or writes otherwise anywhere is excluded
pub record OneHeaderRule : Type 0 where
  pub to_write : (writer : HeaderWriter) → HeaderWriteRefusals writer → (a : ℕ) (buffer : List ℕ) → writer a buffer ≡ writing a buffer
  pub to_read : (reader : HeaderReader) → HeaderReadRefusals reader → (p : List ℕ) → reader p ≡ reading p

-- demand 1 of a plan leaves one rule, so that whatever answers otherwise anywhere is excluded
pub record OnePlanRule : Type 0 where
  -- what it says of a rule, field by field
  pub plan_refusals : (rule : PlanRule)
      → PlanRefusals rule
      ↔ (((text words : List ℕ) → GivenExactly (plan_order text words) (rule text words).answer.refusal)
      × ((text words : List ℕ) → (rule text words).answer.refusal ≡ 13 → Stops text (rule text words).answer.place)
      × ((text words : List ℕ) → ((rule text words).answer.refusal ≡ 13 → ⊥) → (rule text words).answer.place ≡ 0)
      × ((text words : List ℕ) → ((rule text words).answer.refusal ≡ 0 → ⊥)
      → ((rule text words).answer.nodes ≡ 0) × ((rule text words).words ≡ words))
      × ((text words : List ℕ) → (rule text words).answer.refusal ≡ 0
      → (plan : Items) × Spells text plan
      × (((rule text words).answer.nodes ≡ nodes plan) × ((rule text words).words ≡ hall plan ++ drop (nodes plan) words))))
  pub ours : (rule : PlanRule) → PlanRefusals rule → (text words : List ℕ) → rule text words ≡ planning text words

-- some that are
pub record WrongPlanRules : Type 0 where
  -- "One that refuses everything"
  pub that_refuses_all : PlanRefusals refuses_all_plans → ⊥
  -- 13 before the first 14; the second 14 before 13; 10 before 3
  pub with_grammar_first : PlanRefusals grammar_first → ⊥
  pub with_nodes_first : PlanRefusals nodes_first → ⊥
  pub with_room_first : PlanRefusals room_first → ⊥
  -- a place counted from 1; a place beside another refusal
  pub with_place_from_one : PlanRefusals place_from_one → ⊥
  pub with_place_beside : PlanRefusals place_beside → ⊥
  -- words written in a refusal: without room, and of a text with a fault
  pub that_writes_without_room : PlanRefusals writes_without_room → ⊥
  pub that_writes_the_root : PlanRefusals writes_root → ⊥
  -- "the answer gives their number": without the root
  pub with_root_uncounted : PlanRefusals root_uncounted → ⊥
  -- "a 65th open group counts": it does not
  pub with_groups_unlimited : PlanRefusals unlimited → ⊥
  -- "a router before what its group holds": behind it
  pub with_routers_late : PlanRefusals routers_late → ⊥

pub record WrongWritersAndReaders : Type 0 where
  -- "One that writes no header yet says done"
  pub silent : HeaderRoundTrip silent_writer reading → ⊥
  pub refusing : HeaderRoundTrip refusing_writer reading → ⊥
  -- one that says done without room; one that spoils what stands behind
  pub without_room : HeaderRoundTrip roomless_writer reading → ⊥
  pub spoiling : HeaderRoundTrip spoiling_writer reading → ⊥
  -- "One octet is enough." (document 02, Three): one that writes two where it is, whatever reads them; a reader that takes two
  pub padding : (reader : HeaderReader) → HeaderRoundTrip padding_writer reader → ⊥
  pub surplus : HeaderRoundTrip writing surplus_reader → ⊥
  -- and a reader that takes an even number alone
  pub of_even_sizes : HeaderReadRefusals even_reader → ⊥
  -- 4 before 6; 10 before 9
  pub with_missing_first : HeaderReadRefusals missing_first_reader → ⊥
  pub with_room_first : HeaderWriteRefusals room_first_writer → ⊥
  pub silent_form : FormRoundTrip silent_form_writer form_reading → ⊥
  pub refusing_form : FormRoundTrip refusing_form_writer form_reading → ⊥
  -- one that says done with a prefix of 7 octets
  pub short_prefix : FormRoundTrip short_prefix_writer form_reading → ⊥
  pub form_without_room : FormRoundTrip roomless_form_writer form_reading → ⊥
  pub spoiling_form : FormRoundTrip spoiling_form_writer form_reading → ⊥
  pub surplus_form : FormRoundTrip form_writing surplus_form_reader → ⊥
