-- What is claimed of every plan: its requests are the letters of its text, they are answered as the plan's items are, and the tree that grows by
-- them is the plan's hall, one of demand 3.
use Rattle.std.specs.Prelude.{ℕ, ◌≡◌, ◌↔◌, length, eqb, if◌then◌else◌}
use mathlib.Core.List.{List, [], ◌∷◌, map, Memᴰ}
use Rattle.address.specs.Bits.{root}
use Rattle.address.specs.declared.Kind.{Kind}
use Rattle.address.specs.declared.Kind.TheVariants.{Router, Host}
use Rattle.node.specs.Node.{fresh, child_of, set_limit}
use Rattle.node.specs.Node.{Given}
use Rattle.packet.specs.Packet.{packet_hop}
use Rattle.tree.specs.Tree.{Request, request, bare_root, Reply, replied, nobody, grow, grown, addresses}
use Rattle.tree.specs.Demand3.{Demand3}
use Rattle.plan.specs.Grammar.{Items, letter_r, letter_h, plan_text}
use Rattle.plan.specs.Hall.{child_in, answers, hall, nodes, SomeTooLong}
use Rattle.halls.specs.Requests.{requests, events}

unfoldable pub kind_of : Request → Kind
kind_of (request a kind) = kind

-- "`H` for a host or another `R(` items `)`": the letters of a text, from left to right, each for a node of its kind
unfoldable pub letters : List ℕ → List Kind
letters [] = []
letters (o ∷ text) =
    if eqb o letter_r then Router ∷ letters text
    else if eqb o letter_h then Host ∷ letters text
    else letters text

-- an item's answer as a reply in the tree: what its group's node answered; or nothing, where that node is a router that was refused, so that its
-- record is the bad one of address 0
unfoldable pub reply_of : Given → Reply
reply_of g = if eqb g.refusal 1 then nobody else replied g.refusal (child_in g)

-- what the requests of a plan are answered, one after the other from the root alone
unfoldable pub replies_to : Items → List Reply
replies_to plan = (grow child_of set_limit bare_root (events plan)).replies

-- "an address too long": some request of the plan is refused with 3, and "a refused one gives no address"
abbrev pub SomeRepliedThree : Items → Type 0
SomeRepliedThree plan = Memᴰ (replied 3 0) (replies_to plan)

pub record PlannedHalls : Type 0 where
  -- "The outermost R is the root", and every letter behind it asks for a child of its kind
  pub text : (plan : Items) → letters (plan_text plan) ≡ Router ∷ map kind_of (requests plan)
  -- "Items get addresses left to right as they are met in the text": each item is answered as its request is
  pub answered : (plan : Items) → replies_to plan ≡ map reply_of (answers (fresh root) plan)
  -- "an address too long": one of these requests is refused with 3
  pub too_long : (plan : Items) → SomeTooLong plan ↔ SomeRepliedThree plan
  -- "The addresses in that order, the root first": those of the tree that grows by the requests, if none is too long
  pub tree : (plan : Items) → (SomeTooLong plan → ⊥) → hall plan ≡ addresses (grown child_of set_limit (events plan))
  -- "their number", "the root counted": a plan has as many nodes as its text has letters, and as many addresses
  pub counted : (plan : Items) → (nodes plan ≡ length (letters (plan_text plan))) × (length (hall plan) ≡ nodes plan)
  -- the tree of every plan has demand 3
  pub demand3 : (plan : Items) → Demand3 child_of set_limit packet_hop (events plan)
