-- A node's record from the words that recovery leaves: its address, and for each kind the children among the words.
use Rattle.std.specs.Prelude.{ℕ, suc, min, Bool, true, false, not, ◌&&◌, List, [], ◌∷◌, eqb, if◌then◌else◌}
use Rattle.address.specs.Address.{is_host, parent}
use Rattle.address.specs.declared.Kind.{Kind}
use Rattle.address.specs.declared.Kind.TheVariants.{Router, Host}
use Rattle.node.specs.Node.{fresh, with_counts}
use Rattle.journal.specs.Replay.{among}
use Rattle.std.specs.Prelude.{Option, Some, None}
use Rattle.node.specs.declared.Node.{Node}

-- A node's record, and whether it was found.
pub record Record : Type 0 where
  pub node : Node
  pub found : Bool

-- no record is that of address zero, which is bad
abbrev pub record_answer : Option Node → Record
record_answer None = record { node = fresh 0; found = false }
record_answer (Some n) = record { node = n; found = true }

-- "A host ends in 1 and is longer than one bit."; every other address that has a parent is a router
unfoldable pub is_kind : Kind → ℕ → Bool
is_kind Router a = not (is_host a)
is_kind Host a = is_host a

-- how many of the words are children of a kind of a node
unfoldable pub children : Kind → ℕ → List ℕ → ℕ
children kind a [] = 0
children kind a (w ∷ ws) = if eqb (parent w) a && is_kind kind w then suc (children kind a ws) else children kind a ws

-- a count has one octet
abbrev pub most_counted : ℕ
most_counted = 255

-- found where the address is no zero and stands among the words, with no cap, since "The journal holds no limits, so recovered nodes have 64 and
-- 64"; otherwise the record is one of address zero, which is bad
unfoldable pub record_in : List ℕ → ℕ → Record
record_in words a =
    if not (eqb a 0) && among a words
    then record {
      node = with_counts (min (children Router a words) most_counted) (min (children Host a words) most_counted) (fresh a);
      found = true;
    }
    else record { node = fresh 0; found = false }
