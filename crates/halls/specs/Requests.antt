-- A plan's own requests. "The outermost R is the root. A group holds items and an item may hold a group"; "Items get addresses left to right as
-- they are met in the text, a router before what its group holds."
use Rattle.std.specs.Prelude.{List, [], ◌∷◌, ◌++◌, map}
use Rattle.address.specs.Bits.{root}
use Rattle.address.specs.declared.Kind.TheVariants.{Router, Host}
use Rattle.node.specs.Node.{address_in, fresh, child_of}
use Rattle.node.specs.declared.Node.{Node}
use Rattle.tree.specs.Tree.{Request, request, Event, asking}
use Rattle.plan.specs.Grammar.{Items, none, host, router}
use Rattle.plan.specs.Hall.{child_in}

-- the requests of a group's items: each asks the group's node for a child, a host or a router; behind a router stand the requests of its own
-- group, which ask the router by the address that it was given
unfoldable pub requests_in : Node → Items → List Request
requests_in n none = []
requests_in n (host behind) = request (address_in n) Host ∷ requests_in (child_of n Host).node behind
requests_in n (router group behind) =
    request (address_in n) Router ∷ (requests_in (fresh (child_in (child_of n Router))) group ++ requests_in (child_of n Router).node behind)

-- the requests of a plan: the items of its root's group
unfoldable pub requests : Items → List Request
requests plan = requests_in (fresh root) plan

-- a plan sets no limit: its list of demand 3 holds these requests alone
abbrev pub events : Items → List Event
events plan = map asking (requests plan)
