-- A text, read byte by byte with the records of the groups that are open. It gives the addresses of the hall, or the place where the text
-- stops being the start of any text.
use Rattle.std.specs.Prelude.{ℕ, suc, ◌&&◌, List, [], ◌∷◌, ◌++◌, length, eqb, ltb, if◌then◌else◌}
use Rattle.address.specs.Bits.{root}
use Rattle.address.specs.declared.Kind.TheVariants.{Router, Host}
use Rattle.node.specs.Node.{fresh, child_of}
use Rattle.node.specs.declared.Node.{Node}
use Rattle.plan.specs.Limits.{most_groups}
use Rattle.plan.specs.Grammar.{letter_r, letter_h, opening, closing}
use Rattle.plan.specs.Hall.{child_in}

-- what a text may go on with, the records of the open groups' nodes beside it, the innermost first: the outermost R; the "(" of the
-- innermost group; an item or the ")" of the innermost group, and nothing where no group is open
pub data Expected : Type 0 where
  start : Expected
  group : List Node → Expected
  inside : List Node → Expected

-- what a byte comes to: the addresses given with it, none or one, and what may follow; or a fault
pub data Move : Type 0 where
  to : List ℕ → Expected → Move
  fault : Move

-- a byte among the items of a group
unfoldable pub move_item : Node → List Node → ℕ → Move
move_item n up o =
    if eqb o closing then to [] (inside up)
    else if eqb o letter_h then to (child_in (child_of n Host) ∷ []) (inside ((child_of n Host).node ∷ up))
    else if eqb o letter_r && ltb (length (n ∷ up)) most_groups
    then to (child_in (child_of n Router) ∷ []) (group (fresh (child_in (child_of n Router)) ∷ (child_of n Router).node ∷ up))
    else fault

unfoldable pub move : Expected → ℕ → Move
move start o = if eqb o letter_r then to (root ∷ []) (group (fresh root ∷ [])) else fault
move (group up) o = if eqb o opening then to [] (inside up) else fault
move (inside []) o = fault
move (inside (n ∷ up)) o = move_item n up o

-- what a text comes to: it is whole, with the addresses of its hall; or it has a fault at a place
pub data Reading : Type 0 where
  whole : List ℕ → Reading
  fault_at : ℕ → Reading

-- with these addresses in front
unfoldable pub behind : List ℕ → Reading → Reading
behind given (whole others) = whole (given ++ others)
behind given (fault_at place) = fault_at place

-- where the text ends
unfoldable pub ended : ℕ → Expected → Reading
ended place start = fault_at place
ended place (group up) = fault_at place
ended place (inside []) = whole []
ended place (inside (n ∷ up)) = fault_at place

-- the text from a place on
unfoldable pub read_from : ℕ → Expected → List ℕ → Reading
read_from place e [] = ended place e
read_from place e (o ∷ text) =
    elim (move e o) [
      | to given next ↦ behind given (read_from (suc place) next text)
      | fault ↦ fault_at place
    ]

unfoldable pub reading : List ℕ → Reading
reading text = read_from 0 start text
