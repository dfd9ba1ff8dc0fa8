-- The numbers that an answer shows, case by case, and the structs that the exports hand over, field by field.
use Rattle.std.specs.Prelude.{ℕ, ◌≡◌, List, true, false, Result, Ok, Err}
use Rattle.refusal.specs.declared.Refusal.{Refusal}
use Rattle.refusal.specs.declared.Refusal.TheVariants.{BadRecord, HostAsked, TooLong, EndsEarly, WrongStart, WrongSize, ChildNotGiven, OtherPrefix, ZeroAddress, NoRoom, WrongLength, BadPlan, TooMany, AtLimit, EmptyPayload, BadJournal}
use Rattle.refusal.specs.Refusal.{number_of}
use Rattle.refusal.proofs.Refusal.number.Reads as refusal-number-reads
use Rattle.address.specs.declared.Address.{Address}
use Rattle.address.specs.Address.{AddressAnswer, made_answer, made, is_host}
use Rattle.octets.specs.Octets.{Written, written_answer}
use Rattle.header.specs.declared.Header.{Header}
use Rattle.header.specs.Header.{HeaderAnswer, header_answer, reading}
use Rattle.ipv6.specs.Form.{form_reading}
use Rattle.node.specs.declared.Node.{Node}
use Rattle.node.specs.declared.Handed.{Handed}
use Rattle.node.specs.Node.{Given, given_answer}
use Rattle.forward.specs.declared.Hop.{Hop}
use Rattle.forward.specs.declared.Hop.TheVariants.{Deliver, Parent, Child}
use Rattle.forward.specs.Forward.{deliver, to_parent, to_child, stop, HopAnswer, hop_answer}
use Rattle.route.specs.Path.{Listed, listed_answer}
use Rattle.plan.specs.declared.PlanRefusal.{PlanRefusal}
use Rattle.plan.specs.declared.PlanRefusal.TheVariants.{Grammar, TooMany as PlanTooMany, TooLong as PlanTooLong, NoRoom as PlanNoRoom}
use Rattle.plan.specs.Plan.{Planned, planned_answer}
use Rattle.batch.specs.Exported.{action_number, pasa_hop, numbered_answer}
use Rattle.pasa.specs.declared.children.PasaNode.{PasaNode}
use Rattle.pasa.specs.Children.{node_of, pasa_node, pasa_child}
use Rattle.pasa.specs.Bytes.{pasa_written, pasa_read, pasa_address}
use Rattle.pasa.specs.Paths.{pasa_listed}
use Rattle.pasa.specs.Plans.{pasa_plan}
use Rattle.pasa.specs.Addresses.{host_answer, interface}

-- "A refusal carries its number": document 01's table, and from 13 on document 02. Refusal 11 is a text of the path program's alone.
pub record RefusalNumbers : Type 0 where
  pub one_to_six : (number_of BadRecord ≡ 1) × (number_of HostAsked ≡ 2) × (number_of TooLong ≡ 3) × (number_of EndsEarly ≡ 4)
      × (number_of WrongStart ≡ 5) × (number_of WrongSize ≡ 6)
  pub seven_to_twelve : (number_of ChildNotGiven ≡ 7) × (number_of OtherPrefix ≡ 8) × (number_of ZeroAddress ≡ 9) × (number_of NoRoom ≡ 10)
      × (number_of WrongLength ≡ 12)
  pub thirteen_on : (number_of BadPlan ≡ 13) × (number_of TooMany ≡ 14) × (number_of AtLimit ≡ 15) × (number_of EmptyPayload ≡ 16)
      × (number_of BadJournal ≡ 17)
  -- "0 is done"
  pub none_zero : (x : Refusal) → number_of x ≡ 0 → ⊥
  pub no_two_alike : (x y : Refusal) → number_of x ≡ number_of y → x ≡ y
  pub number_asks : (x : Refusal) → refusal-number-reads.Asked tt (x, tt)
  pub number : (x : Refusal) (r : ℕ) → refusal-number-reads.Learnt tt (x, tt) r (x, tt) → r ≡ number_of x

-- "For an answer that is an enum, a definition gives this paper's number and values for each of its cases."
pub record Cases : Type 0 where
  pub valid : (a : Address) → made_answer (Ok a) ≡ record { refusal = 0; address = a.number }
  pub not_made : (x : Refusal) → made_answer (Err x) ≡ record { refusal = number_of x; address = 0 }
  pub found : (h : Header) → header_answer (Ok h) ≡ record { refusal = 0; address = h.address.number; place = h.place }
  pub not_read : (x : Refusal) → header_answer (Err x) ≡ record { refusal = number_of x; address = 0; place = 0 }
  pub written : (k : ℕ) → written_answer (Ok k) ≡ record { refusal = 0; count = k }
  pub not_written : (x : Refusal) → written_answer (Err x) ≡ record { refusal = number_of x; count = 0 }
  pub given : (n : Node) (a : Address) → given_answer (record { node = n; outcome = Ok a }) ≡ record { node = n; child = a; refusal = 0 }
  pub not_given : (n : Node) (x : Refusal)
      → given_answer (record { node = n; outcome = Err x }) ≡ record { node = n; child = record { number = 0 }; refusal = number_of x }
  pub listed : (k : ℕ) → listed_answer (Ok k) ≡ record { refusal = 0; hops = k }
  pub not_listed : (x : Refusal) → listed_answer (Err x) ≡ record { refusal = number_of x; hops = 0 }
  pub planned : (k : ℕ) → planned_answer (Ok k) ≡ record { refusal = 0; nodes = k; place = 0 }
  pub outside_grammar : (k : ℕ) → planned_answer (Err (Grammar k)) ≡ record { refusal = 13; nodes = 0; place = k }
  pub plan_too_many : planned_answer (Err PlanTooMany) ≡ record { refusal = 14; nodes = 0; place = 0 }
  pub plan_too_long : planned_answer (Err PlanTooLong) ≡ record { refusal = 3; nodes = 0; place = 0 }
  pub plan_no_room : planned_answer (Err PlanNoRoom) ≡ record { refusal = 10; nodes = 0; place = 0 }
  pub delivers : (a : Address) → hop_answer (Ok (Deliver a)) ≡ record { refusal = 0; action = deliver; named = a.number }
  pub passes_up : (a : Address) → hop_answer (Ok (Parent a)) ≡ record { refusal = 0; action = to_parent; named = a.number }
  pub passes_down : (a : Address) → hop_answer (Ok (Child a)) ≡ record { refusal = 0; action = to_child; named = a.number }
  pub stops : (x : Refusal) → hop_answer (Err x) ≡ record { refusal = number_of x; action = stop; named = 0 }
  -- whatever number the refusal has
  pub stops_by_number : (k : ℕ) → numbered_answer (Err k) ≡ record { refusal = k; action = stop; named = 0 }
  pub goes_by_number : (h : Hop) → numbered_answer (Ok h) ≡ hop_answer (Ok h)

-- the numbers that are promised leave one answer
pub record OneAnswer : Type 0 where
  pub an_address : (k : ℕ) (r s : Result Address Refusal) → made_answer r ≡ made k → made_answer s ≡ made k → r ≡ s
  pub a_header : (p : List ℕ) (r s : Result Header Refusal) → header_answer r ≡ reading p → header_answer s ≡ reading p → r ≡ s
  pub a_form : (prefix ipv6 : List ℕ) (r s : Result Address Refusal) → made_answer r ≡ form_reading prefix ipv6 → made_answer s ≡ form_reading prefix ipv6 → r ≡ s
  pub a_writing : (r s : Result ℕ Refusal) → written_answer r ≡ written_answer s → r ≡ s
  pub a_child : (r s : Handed Address) → given_answer r ≡ given_answer s → r ≡ s
  pub a_path : (r s : Result ℕ Refusal) → listed_answer r ≡ listed_answer s → r ≡ s
  pub a_plan : (r s : Result ℕ PlanRefusal) → planned_answer r ≡ planned_answer s → r ≡ s
  pub a_hop : (r s : Result Hop Refusal) → hop_answer r ≡ hop_answer s → r ≡ s

-- the same numbers in fields of the same names, and no field more; but `node` of a hop is the node named, and a record has its two limits flat. The
-- structs of Four, Five and Seven stand on their pages.
pub record Fields : Type 0 where
  pub taken : (r : PasaNode) → node_of r ≡ record {
    address = record { number = r.address };
    routers = r.routers;
    hosts = r.hosts;
    limits = record { routers = r.router_limit; hosts = r.host_limit };
  }
  pub node : (n : Node) → pasa_node n ≡ record {
    address = n.address.number;
    routers = n.routers;
    hosts = n.hosts;
    router_limit = n.limits.routers;
    host_limit = n.limits.hosts;
  }
  pub child : (g : Given) → pasa_child g ≡ record { node = pasa_node g.node; child = g.child.number; refusal = g.refusal }
  pub hop : (r : HopAnswer) → pasa_hop r ≡ record { node = r.named; refusal = r.refusal; action = action_number r.action }
  pub action : (action_number stop ≡ 0) × (action_number deliver ≡ 1) × (action_number to_parent ≡ 2) × (action_number to_child ≡ 3)
  pub written : (w : Written) → pasa_written w ≡ record { count = w.count; refusal = w.refusal }
  pub read : (r : HeaderAnswer) → pasa_read r ≡ record { address = r.address; place = r.place; refusal = r.refusal }
  pub address : (r : AddressAnswer) → pasa_address r ≡ record { address = r.address; refusal = r.refusal }
  pub listed : (l : Listed) → pasa_listed l ≡ record { hops = l.hops; refusal = l.refusal }
  pub plan : (p : Planned) → pasa_plan p ≡ record { nodes = p.nodes; place = p.place; refusal = p.refusal }
  pub is_ahost : (a : ℕ) → is_host a ≡ true → host_answer a ≡ 1
  pub is_no_host : (a : ℕ) → is_host a ≡ false → host_answer a ≡ 0
  pub interface_number : interface ≡ 2
