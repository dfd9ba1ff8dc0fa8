-- Request Five: limits per node. What a limit makes of a record, and a fresh one, stand with the record (Addresses), 15 with the refusals of a child
-- (Demand1), settings in a list with demand 3 (Demand3), recovered nodes with the journal (Journals), and C's fields with the structs (Structs). Here
-- are the settings themselves, what the code of Five promises, and the wrong rules.
use Rattle.std.specs.Prelude.{ℕ, ◌+◌, ◌-◌, ◌^◌, ◌<◌, ◌≤◌, ◌≡◌, true, ◌⊎◌, ◌↔◌, List, [], ◌∷◌, ◌++◌, length, Ok, Err}
use Rattle.refusal.specs.declared.Refusal.{Refusal}
use Rattle.refusal.specs.Refusal.{number_of}
use Rattle.address.specs.Order.{done, ◌when◌otherwise◌, GivenExactly}
use Rattle.address.specs.Bits.{root}
use Rattle.address.specs.Address.{bit_length}
use Rattle.address.specs.Kinds.{IsRouter, IsHost}
use Rattle.address.specs.Numbers.{IsAddress}
use Rattle.octets.specs.Octets.{AreOctets}
use Rattle.header.specs.Header.{header}
use Rattle.address.specs.declared.Kind.{Kind}
use Rattle.address.specs.declared.Kind.TheVariants.{Router, Host}
use Rattle.node.specs.declared.Node.{Node}
use Rattle.node.specs.declared.Handed.{Handed}
use Rattle.node.specs.Node.{Given, Limited, limited_answer, address_in, fresh, with_counts, count, raised, limit, with_limits, with_limit, is_good, refuse_child, child_of, refuse_setting, set_limit}
use Rattle.node.specs.Refusals.{IsGood, IsBad, ChildRefusals, SettingRefusals}
use Rattle.node.specs.WrongRules.{past_limit, limitless, lifts_limits, one_limit, one_early, limit_last, limit_first}
use Rattle.node.specs.WrongRules.{sets_nothing, sets_below, sets_above, sets_cut, sets_both, sets_other, mends_record}
use Rattle.forward.specs.Forward.{refused_hop, next_hop}
use Rattle.packet.specs.Packet.{packet_hop}
use Rattle.tree.specs.Tree.{ChildRule, SettingRule, request, Event, asking, setting, replied, limited, grow, grown, given_in, addresses, InTree, AllDiffer}
use Rattle.tree.specs.Way.{HopRule, IsPacket, TheWay, stopped_at}
use Rattle.tree.specs.Demand3.{Arrives, StopsAt, Demand3}
use Rattle.tree.specs.WrongSettings.{zeroes_counts, raises_count, another_node, below_count}
use Rattle.pasa.specs.declared.children.PasaNode.{PasaNode}
use Rattle.pasa.specs.declared.children.PasaLimited.{PasaLimited}
use Rattle.pasa.specs.Children.{node_of, pasa_node, pasa_limited}
use Rattle.node.proofs.Node.limit.Reads as limit-reads
use Rattle.node.proofs.Node.set_limit.Reads as set-limit-reads
use Rattle.pasa.proofs.children.pasa_limit_routers.Reads as limit-routers-reads
use Rattle.pasa.proofs.children.pasa_limit_hosts.Reads as limit-hosts-reads
use Rattle.claims.specs.Excluded.{FailsDemand3}

-- the setting of a limit, for every record, a host's and a bad one among them, and every number asked
pub record TheSetting : Type 0 where
  -- "Setting a limit outside 0 to 64 or below its count, or on a bad record, is refused with 1": what is asked is a number from 0 on
  pub exactly_when : (n : Node) (kind : Kind) (k : ℕ)
      → GivenExactly (1 when (64 < k) ⊎ (k < count kind n) ⊎ IsBad n otherwise done) (set_limit n kind k).refusal
  -- "a returned record is the one handed in"
  pub as_it_came : (n : Node) (kind : Kind) (k : ℕ) → ((set_limit n kind k).refusal ≡ 0 → ⊥) → (set_limit n kind k).node ≡ n
  -- "otherwise the record comes back with that limit as asked and nothing else changed"
  pub routers_as_asked : (n : Node) (k : ℕ) → (set_limit n Router k).refusal ≡ 0
      → (set_limit n Router k).node
      ≡ record { address = n.address; routers = n.routers; hosts = n.hosts; limits = record { routers = k; hosts = n.limits.hosts } }
  pub hosts_as_asked : (n : Node) (k : ℕ) → (set_limit n Host k).refusal ≡ 0
      → (set_limit n Host k).node
      ≡ record { address = n.address; routers = n.routers; hosts = n.hosts; limits = record { routers = n.limits.routers; hosts = k } }
  -- so a record stays good, and keeps its address and its counts
  pub keeps_good : (n : Node) (kind : Kind) (k : ℕ) → is_good n ≡ true → is_good (set_limit n kind k).node ≡ true
  pub keeps_address : (n : Node) (kind : Kind) (k : ℕ) → address_in (set_limit n kind k).node ≡ address_in n
  pub keeps_counts : (n : Node) (kind : Kind) (k : ℕ) (other : Kind) → count other (set_limit n kind k).node ≡ count other n
  -- said of any rule, the refusals, what is beside them and what without: they hold of ours, and leave one rule
  pub of_any_rule : (rule : Node → Kind → ℕ → Limited)
      → SettingRefusals rule
      ↔ (((n : Node) (kind : Kind) (k : ℕ) → GivenExactly (1 when (64 < k) ⊎ (k < count kind n) ⊎ IsBad n otherwise done) (rule n kind k).refusal)
      × ((n : Node) (kind : Kind) (k : ℕ) → ((rule n kind k).refusal ≡ 0 → ⊥) → (rule n kind k).node ≡ n)
      × ((n : Node) (kind : Kind) (k : ℕ) → (rule n kind k).refusal ≡ 0 → (rule n kind k).node ≡ with_limit kind k n))
  pub ours : SettingRefusals set_limit
  pub one_rule : (rule : Node → Kind → ℕ → Limited) → SettingRefusals rule → (n : Node) (kind : Kind) (k : ℕ) → rule n kind k ≡ set_limit n kind k

-- the statements that exclude wrong rules for a child, and wrong rules together, as they stand with limits and settings; they hold of ours (Excluded)
pub record OfAnyRules : Type 0 where
  pub a_child : (rule : Node → Kind → Given)
      → ChildRefusals rule
      ↔ (((n : Node) (kind : Kind)
      → GivenExactly (
      1 when IsBad n
      otherwise 2 when IsHost (address_in n)
      otherwise 15 when count kind n ≡ limit kind n
      otherwise 3 when 64 < bit_length (address_in n) + count kind n + 1
      otherwise done
      ) (rule n kind).refusal)
      × ((n : Node) (kind : Kind) → ((rule n kind).refusal ≡ 0 → ⊥) → ((rule n kind).child.number ≡ 0) × ((rule n kind).node ≡ n))
      × ((n : Node) (kind : Kind) → (rule n kind).refusal ≡ 0 → (rule n kind).node ≡ raised kind n))
  -- `Arrives` and `StopsAt` have the clauses of `EveryList` (Demand3) at any rules
  pub demand3 : (child : ChildRule) (set : SettingRule) (hop : HopRule) (es : List Event)
      → Demand3 child set hop es
      ↔ (((d : ℕ) (payload : List ℕ) → IsAddress d → AreOctets payload → 0 < length payload → IsPacket (header d ++ payload) d)
      × (addresses (grown child set es) ≡ root ∷ given_in child set es)
      × AllDiffer (root ∷ given_in child set es)
      × ((a d : ℕ) (p : List ℕ) → InTree a (grown child set es) → InTree d (grown child set es) → IsPacket p d
      → Arrives hop (grown child set es) p a d)
      × ((a d : ℕ) (p : List ℕ) → InTree a (grown child set es) → (InTree d (grown child set es) → ⊥) → IsPacket p d
      → (x : ℕ) × StopsAt hop (grown child set es) p a d x)
      × ((a d : ℕ) → InTree a (grown child set es) → IsAddress d → TheWay hop (grown child set es) (header d) a (a ∷ []) (stopped_at 16 a)))

-- what document 01 says of a record without limits
abbrev pub FitsDocument01 : Node → Type 0
FitsDocument01 n =
    (((n.address.number ≡ 1) ⊎ IsRouter n.address.number)
    × (n.routers ≤ 64 - bit_length n.address.number) × (n.hosts ≤ 64 - bit_length n.address.number))
    ⊎ (IsHost n.address.number × (n.routers ≡ 0) × (n.hosts ≡ 0))

-- "64 meaning no cap"; "A fresh record gets 64 and 64, so document 01's cases stand."
pub record NoCap : Type 0 where
  -- where both limits are 64 a record is good exactly if document 01 says so, and a child is refused exactly when it says so
  pub good : (n : Node) → limit Router n ≡ 64 → limit Host n ≡ 64 → IsGood n ↔ FitsDocument01 n
  pub a_child : (n : Node) (kind : Kind) → address_in n < 2 ^ 64 → limit Router n ≡ 64 → limit Host n ≡ 64
      → GivenExactly (
      1 when (FitsDocument01 n → ⊥)
      otherwise 2 when IsHost (address_in n)
      otherwise 3 when 64 < bit_length (address_in n) + count kind n + 1
      otherwise done
      ) (child_of n kind).refusal
  -- a limit of 64 never gives 15
  pub never15 : (n : Node) (kind : Kind) → address_in n < 2 ^ 64 → limit kind n ≡ 64 → (child_of n kind).refusal ≡ 15 → ⊥
  -- and whatever the limits are, the next hop looks at them for 1 alone
  pub a_next_hop : (n : Node) (r h d : ℕ) → IsGood n → IsGood (with_limits r h n) → next_hop (with_limits r h n) d ≡ next_hop n d
  pub a_packet : (n : Node) (r h : ℕ) (p : List ℕ) → IsGood n → IsGood (with_limits r h n) → packet_hop (with_limits r h n) p ≡ packet_hop n p

abbrev pub list_of_five : List Event
list_of_five =
    asking (request root Router) ∷ setting root Router 1 ∷ asking (request root Router) ∷ setting root Router 0 ∷ setting root Router 2
    ∷ asking (request root Router) ∷ []

-- values
pub record ValuesOfFive : Type 0 where
  -- a record with other limits; an answer with a refusal
  pub other_limits : (r h : ℕ) (n : Node)
      → with_limits r h n ≡ record { address = n.address; routers = n.routers; hosts = n.hosts; limits = record { routers = r; hosts = h } }
  pub no_child : (k : ℕ) (n : Node) → refuse_child k n ≡ record { node = n; child = record { number = 0 }; refusal = k }
  pub not_set : (k : ℕ) (n : Node) → refuse_setting k n ≡ record { node = n; refusal = k }
  -- a count equal to its limit is a good record: the child of that kind is 15, one of the other kind is given
  pub at_its_limit : child_of (with_limits 1 64 (with_counts 1 0 (fresh root))) Router ≡ refuse_child 15 (with_limits 1 64 (with_counts 1 0 (fresh root)))
  pub of_the_other_kind : (child_of (with_limits 1 64 (with_counts 1 0 (fresh root))) Host).child.number ≡ 0b11
  -- 15 before 3: the root with 63 hosts of 63, and of 64; a router of 64 bits that may give none
  pub sixty_three : (child_of (with_limits 64 63 (with_counts 0 63 (fresh root))) Host).refusal ≡ 15
  pub sixty_four : (child_of (with_limits 64 64 (with_counts 0 63 (fresh root))) Host).refusal ≡ 3
  pub longest : (child_of (with_limits 0 0 (fresh 0x8000_0000_0000_0000)) Router).refusal ≡ 15
  -- and after 2: a host that may give none
  pub a_host : (child_of (with_limits 0 0 (fresh 0b11)) Host).refusal ≡ 2
  -- a limit of 65 makes the record bad for everything: a child of the other kind, the next hop, a setting; and so does a count above its limit
  pub bad_for_achild : (child_of (with_limits 65 64 (fresh root)) Host).refusal ≡ 1
  pub bad_for_ahop : next_hop (with_limits 64 65 (fresh root)) root ≡ refused_hop 1
  pub bad_for_asetting : set_limit (with_limits 65 64 (fresh root)) Router 64 ≡ refuse_setting 1 (with_limits 65 64 (fresh root))
  pub count_above : (child_of (with_limits 1 64 (with_counts 2 0 (fresh root))) Host).refusal ≡ 1
  -- the limit on the routers of a root with three: their count, one below, 64 again; none on its hosts; 65, 255 and 256; and on a host
  pub the_count : set_limit (with_counts 3 0 (fresh root)) Router 3 ≡ record { node = with_limits 3 64 (with_counts 3 0 (fresh root)); refusal = 0 }
  pub below : set_limit (with_counts 3 0 (fresh root)) Router 2 ≡ refuse_setting 1 (with_counts 3 0 (fresh root))
  pub no_hosts : set_limit (with_counts 3 0 (fresh root)) Host 0 ≡ record { node = with_limits 64 0 (with_counts 3 0 (fresh root)); refusal = 0 }
  pub again : set_limit (with_counts 3 0 (fresh root)) Router 64 ≡ record { node = with_counts 3 0 (fresh root); refusal = 0 }
  pub above : ((set_limit (fresh root) Router 65).refusal ≡ 1) × ((set_limit (fresh root) Router 255).refusal ≡ 1) × ((set_limit (fresh root) Router 256).refusal ≡ 1)
  -- a list: the root gives 10, may give one router, is asked for another (15), may give none (1, since it gave one), may give two, and gives 110
  pub a_list : (grow child_of set_limit (fresh root ∷ []) list_of_five).replies
      ≡ replied 0 0b10 ∷ limited 0 ∷ replied 15 0 ∷ limited 1 ∷ limited 0 ∷ replied 0 0b110 ∷ []
  pub its_tree : grown child_of set_limit list_of_five ≡ with_limits 2 64 (with_counts 2 0 (fresh root)) ∷ fresh 0b10 ∷ fresh 0b110 ∷ []
  pub on_ahost : set_limit (fresh 0b11) Router 0 ≡ record { node = with_limits 0 64 (fresh 0b11); refusal = 0 }

-- what the code promises; the exports' structs beside it
pub record LimitCode : Type 0 where
  pub node_limit_asks : (n : Node) (kind : Kind) → limit-reads.Asked tt (n, (kind, tt))
  pub node_limit : (n : Node) (kind : Kind) (r : ℕ) → limit-reads.Learnt tt (n, (kind, tt)) r (n, (kind, tt)) → r ≡ limit kind n
  pub node_set_limit_asks : (n : Node) (kind : Kind) (k : ℕ) → set-limit-reads.Asked tt (n, (kind, (k, tt)))
  pub node_set_limit : (n : Node) (kind : Kind) (k : ℕ) (r : Handed (Unit {0})) → set-limit-reads.Learnt tt (n, (kind, (k, tt))) r (n, (kind, (k, tt)))
      → limited_answer r ≡ set_limit n kind k
  pub pasa_limit_routers_asks : (n : PasaNode) (k : ℕ) → limit-routers-reads.Asked tt (n, (k, tt))
  pub pasa_limit_routers : (n : PasaNode) (k : ℕ) (r : PasaLimited) → limit-routers-reads.Learnt tt (n, (k, tt)) r (n, (k, tt))
      → r ≡ pasa_limited (set_limit (node_of n) Router k)
  pub pasa_limit_hosts_asks : (n : PasaNode) (k : ℕ) → limit-hosts-reads.Asked tt (n, (k, tt))
  pub pasa_limit_hosts : (n : PasaNode) (k : ℕ) (r : PasaLimited) → limit-hosts-reads.Learnt tt (n, (k, tt)) r (n, (k, tt))
      → r ≡ pasa_limited (set_limit (node_of n) Host k)
  pub limit_set : (n : Node) → limited_answer (record { node = n; outcome = Ok tt }) ≡ record { node = n; refusal = 0 }
  pub limit_not_set : (n : Node) (x : Refusal) → limited_answer (record { node = n; outcome = Err x }) ≡ record { node = n; refusal = number_of x }
  pub one_setting_answer : (r s : Handed (Unit {0})) → limited_answer r ≡ limited_answer s → r ≡ s
  pub limited : (l : Limited) → pasa_limited l ≡ record { node = pasa_node l.node; refusal = l.refusal }

-- rules for a child that are wrong about limits; each is defined in crates/node/specs/WrongRules.antt
pub record WrongLimits : Type 0 where
  -- one that does not look at them where it gives a child: demand 1 excludes it, and demand 3 too, since the count above its limit makes the record bad
  pub past_the_limit : ChildRefusals past_limit → ⊥
  pub past_the_limit_in_atree : FailsDemand3 past_limit set_limit packet_hop
  -- one that takes them away: its records stay good, so demand 3 is true of it, and demand 1 alone excludes it
  pub that_lifts_them : ChildRefusals lifts_limits → ⊥
  pub unseen_by_demand3 : (es : List Event) → Demand3 lifts_limits set_limit packet_hop es
  -- one that looks at no limit at all; one limit for both kinds; one child too early; 15 after 3; 15 before 2
  pub without_any : ChildRefusals limitless → ⊥
  pub with_one_for_both : ChildRefusals one_limit → ⊥
  pub with_one_early : ChildRefusals one_early → ⊥
  pub with_limit_last : ChildRefusals limit_last → ⊥
  pub with_limit_first : ChildRefusals limit_first → ⊥

-- and wrong rules for a setting, defined there and in crates/tree/specs/WrongSettings.antt
pub record WrongSettings : Type 0 where
  pub that_sets_nothing : SettingRefusals sets_nothing → ⊥
  pub that_sets_below : SettingRefusals sets_below → ⊥
  pub that_sets_above : SettingRefusals sets_above → ⊥
  pub that_cuts : SettingRefusals sets_cut → ⊥
  pub that_sets_both : SettingRefusals sets_both → ⊥
  pub that_sets_the_other : SettingRefusals sets_other → ⊥
  pub that_mends : SettingRefusals mends_record → ⊥
  -- through the clauses of demand 3: counts zeroed, addresses don't differ; a count raised, a packet for an absent address is lost; another node's
  -- record, the root is no more in the tree; a limit below the count, the record is bad and nothing arrives
  pub that_zeroes_counts : FailsDemand3 child_of zeroes_counts packet_hop
  pub that_raises_acount : FailsDemand3 child_of raises_count packet_hop
  pub of_another_node : FailsDemand3 child_of another_node packet_hop
  pub below_the_count : FailsDemand3 child_of below_count packet_hop
