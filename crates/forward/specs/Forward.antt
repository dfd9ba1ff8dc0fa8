-- The next hop from an address: "With a good record of address C and a destination D", rules 1 to 4.
use Rattle.std.specs.Prelude.{ℕ, not, List, ◌++◌, drop, eqb, ltb, if◌then◌else◌, Result, Ok, Err}
use Rattle.refusal.specs.declared.Refusal.{Refusal}
use Rattle.refusal.specs.Refusal.{number_of}
use Rattle.address.specs.Bits.{Bit, bits, number}
use Rattle.address.specs.Address.{bit_length, is_host, parent}
use Rattle.search.specs.Search.{looked_at, is_prefix, kind_looked, index_looked}
use Rattle.node.specs.Node.{address_in, count, is_good}
use Rattle.node.specs.declared.Node.{Node}
use Rattle.forward.specs.declared.Hop.{Hop}
use Rattle.forward.specs.declared.Hop.TheVariants.{Deliver, Parent, Child}

-- what becomes of a packet at a node
pub data Action : Type 0 where
  deliver to_parent to_child stop : Action

-- what a next-hop answer says: its number, the action and the node passed to. "The answer names the node passed to, on delivery C itself."
pub record HopAnswer : Type 0 where
  pub refusal : ℕ
  pub action : Action
  pub named : ℕ

abbrev pub deliver_at : ℕ → HopAnswer
deliver_at c = record { refusal = 0; action = deliver; named = c }

abbrev pub up_to : ℕ → HopAnswer
up_to x = record { refusal = 0; action = to_parent; named = x }

abbrev pub down_to : ℕ → HopAnswer
down_to x = record { refusal = 0; action = to_child; named = x }

-- "With any refusal .. every other number returned beside its own are 0"
abbrev pub refused_hop : ℕ → HopAnswer
refused_hop n = record { refusal = n; action = stop; named = 0 }

-- the document's number and values for each case of the answer
unfoldable pub hop_answer : Result Hop Refusal → HopAnswer
hop_answer (Ok (Deliver a)) = deliver_at a.number
hop_answer (Ok (Parent a)) = up_to a.number
hop_answer (Ok (Child a)) = down_to a.number
hop_answer (Err r) = refused_hop (number_of r)

-- rule 4, the bits looked at being given: "C with these bits is the child (000, 5.1 step 6). If its index is below the node's count of that
-- kind, pass to it. Otherwise refusal 7."
unfoldable pub toward : Node → List Bit → HopAnswer
toward n looked =
    if ltb (index_looked looked) (count (kind_looked looked) n) then down_to (number (bits (address_in n) ++ looked))
    else refused_hop 7

-- "1. D equals C: deliver. 2. C is a host: pass to the parent. 3. C is the root or a router and is not a prefix of D: pass to the parent. ..
-- 4. C is a proper prefix of D: look at D's bits after C one at a time and stop at the first 0 or at D's last bit."
unfoldable pub rules : Node → ℕ → HopAnswer
rules n d =
    if eqb d (address_in n) then deliver_at (address_in n)
    else if is_host (address_in n) then up_to (parent (address_in n))
    else if not (is_prefix (bits (address_in n)) (bits d)) then up_to (parent (address_in n))
    else toward n (looked_at (drop (bit_length (address_in n)) (bits d)))

-- "For a next hop from an address 1, 9, 7": the record is bad; the destination is zero; and 7 by rule 4
unfoldable pub next_hop : Node → ℕ → HopAnswer
next_hop n d =
    if not (is_good n) then refused_hop 1
    else if eqb d 0 then refused_hop 9
    else rules n d
