-- The hall that a plan describes. "Items get addresses left to right as they are met in the text, a router before what its group holds."
use Rattle.std.specs.Prelude.{ℕ, suc, ◌+◌}
use mathlib.Core.List.{List, [], ◌∷◌, ◌++◌, map, Memᴰ}
use Rattle.address.specs.Bits.{root}
use Rattle.address.specs.declared.Kind.TheVariants.{Router, Host}
use Rattle.node.specs.Node.{fresh, child_of}
use Rattle.node.specs.declared.Node.{Node}
use Rattle.node.specs.Node.{Given}
use Rattle.plan.specs.Grammar.{Items, none, host, router}

abbrev pub child_in : Given → ℕ
child_in g = g.child.number

-- what the requests for the items of a group are answered, in the order of the text: each item asks the group's node, with the record that
-- the request before it handed back, and a router's own record starts fresh
unfoldable pub answers : Node → Items → List Given
answers n none = []
answers n (host behind) = child_of n Host ∷ answers (child_of n Host).node behind
answers n (router group behind) =
    child_of n Router ∷ (answers (fresh (child_in (child_of n Router))) group ++ answers (child_of n Router).node behind)

-- "The addresses in that order, the root first"; 0 in the place of one that is refused
unfoldable pub hall : Items → List ℕ
hall plan = root ∷ map child_in (answers (fresh root) plan)

-- the nodes among some items, and those of a plan, "the root counted"
unfoldable pub items : Items → ℕ
items none = 0
items (host behind) = suc (items behind)
items (router group behind) = suc (items group + items behind)

unfoldable pub nodes : Items → ℕ
nodes plan = suc (items plan)

abbrev pub refusal_of : Given → ℕ
refusal_of g = g.refusal

-- "an address too long": one of the plan's requests is refused with 3
abbrev pub SomeTooLong : Items → Type 0
SomeTooLong plan = Memᴰ 3 (map refusal_of (answers (fresh root) plan))
