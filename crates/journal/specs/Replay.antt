-- The addresses of a journal, taken one after the other. "whose addresses each are the next child of a node already known, starting from a bare
-- root; otherwise 17"; "a [4,097th] node, the root counted, is 14, but 17 if it is no next child".
use Rattle.std.specs.Prelude.{ℕ, ◌-◌, ◌/◌, ◌%◌, Bool, false, not, ◌&&◌, ◌||◌, List, [], ◌∷◌, ◌++◌, length, eqb, leb, if◌then◌else◌}
use Rattle.address.specs.Bits.{root}
use Rattle.journal.specs.Limits.{most_nodes}

-- a number stands in a list
unfoldable pub among : ℕ → List ℕ → Bool
among a [] = false
among a (b ∷ bs) = eqb b a || among a bs

-- the address that was given last where this one is given next: the child before it, of the same node and kind; or that node, where it is the
-- first child of its kind. A host loses its last bit. A router loses its last bit where it is the first, and else the last of its ones.
unfoldable pub before : ℕ → ℕ
before a = if eqb (a % 2) 1 || eqb (a / 2) root || eqb (a / 2 % 2) 0 then a / 2 else a / 2 - 1

-- "the next child of a node already known": not known itself, but the one before it is. That this is the rule for a child is a theorem of the
-- crate journals.
unfoldable pub is_next : List ℕ → ℕ → Bool
is_next xs a = among (before a) xs && not (among a xs)

-- what has been replayed: the addresses known, in order, the root first; or the first fault, 14 or 17
pub data Replay : Type 0 where
  known : List ℕ → Replay
  fault : ℕ → Replay

-- one address more
unfoldable pub taken : List ℕ → ℕ → Replay
taken xs a =
    if not (is_next xs a) then fault 17
    else if leb most_nodes (length xs) then fault 14
    else known (xs ++ (a ∷ []))

-- "the first fault deciding"
unfoldable pub next : Replay → ℕ → Replay
next (known xs) a = taken xs a
next (fault n) a = fault n

-- the addresses of a block, in order
unfoldable pub follow : Replay → List ℕ → Replay
follow r [] = r
follow r (a ∷ xs) = follow (next r a) xs

-- "starting from a bare root"
abbrev pub bare : Replay
bare = known (root ∷ [])
