-- Wrong rules for the next hop from octets, which demand 3 must exclude: the impostors and the slips of document 01. Each reads the packet
-- as the right rule does; the slips go by the right rules with one part exchanged.
use Rattle.std.specs.Prelude.{ℕ, Bool, false, not, ◌&&◌, List, [], ◌∷◌, ◌++◌, reverse, drop, eqb, ltb, if◌then◌else◌}
use Rattle.address.specs.Bits.{Bit, O, I, bits, number}
use Rattle.address.specs.Address.{bit_length, ends_in_one, is_host, parent}
use Rattle.search.specs.Search.{looked_at, is_prefix, kind_looked, index_looked}
use Rattle.address.specs.declared.Kind.{Kind}
use Rattle.address.specs.declared.Kind.TheVariants.{Router as router}
use Rattle.header.specs.Header.{reading}
use Rattle.node.specs.Node.{address_in, count, is_good}
use Rattle.node.specs.declared.Node.{Node}
use Rattle.forward.specs.Forward.{HopAnswer, deliver_at, up_to, down_to, refused_hop, rules}
use Rattle.tree.specs.Way.{HopRule}

-- a rule for the next hop from an address
abbrev pub AddressRule : Type 0
AddressRule = Node → ℕ → HopAnswer

-- from octets, as `packet_hop` is from `next_hop`
unfoldable pub hop_by : AddressRule → HopRule
hop_by rule n p =
    if not (is_good n) then refused_hop 1
    else if not (eqb (reading p).refusal 0) then refused_hop (reading p).refusal
    else rule n (reading p).address

-- ---- impostors

-- "One that refuses everything"
unfoldable pub refuses_everything : HopRule
refuses_everything = hop_by (λ n d. refused_hop 7)

-- "one that says 'parent' to all"
unfoldable pub parent_to_all : HopRule
parent_to_all = hop_by (λ n d. up_to (parent (address_in n)))

-- "One that leaps to the destination in its first hop"
unfoldable pub leaps : HopRule
leaps = hop_by (λ n d. if eqb d (address_in n) then deliver_at (address_in n) else down_to d)

-- "The answer names the node passed to, on delivery C itself.": one that names nobody on delivery
unfoldable pub names_nobody : HopRule
names_nobody = hop_by (λ n d. if eqb d (address_in n) then deliver_at 0 else rules n d)

-- ---- slips

-- the parts of the rules: which address is a host, which string begins another, the bits looked at, and the count of a kind
pub record Parts : Type 0 where
  pub host : ℕ → Bool
  pub begins : List Bit → List Bit → Bool
  pub look : List Bit → List Bit
  pub counted : Kind → Node → ℕ

-- `rules`, by these parts
unfoldable pub rules_by : Parts → AddressRule
rules_by parts n d =
    if eqb d (address_in n) then deliver_at (address_in n)
    else if parts.host (address_in n) then up_to (parent (address_in n))
    else if not (parts.begins (bits (address_in n)) (bits d)) then up_to (parent (address_in n))
    else (
    let looked = parts.look (drop (bit_length (address_in n)) (bits d)) in
    if ltb (index_looked looked) (parts.counted (kind_looked looked) n) then down_to (number (bits (address_in n) ++ looked))
    else refused_hop 7
    )

-- with these they are the right ones
abbrev pub right_parts : Parts
right_parts = record { host = is_host; begins = is_prefix; look = looked_at; counted = count }

-- "Treating a host as the ancestor of every address it prefixes: 11 would keep packets for 110 and 111.": rule 2 is left out, so that 11
-- finds itself on the way, has no child to pass to, and refuses
unfoldable pub host_keeps : HopRule
host_keeps = hop_by (rules_by (record { host = λ c. false; begins = is_prefix; look = looked_at; counted = count }))

-- the same slip where 11 takes such a packet for its own
unfoldable pub host_delivers : HopRule
host_delivers =
    hop_by (λ n d. if is_host (address_in n) && is_prefix (bits (address_in n)) (bits d) then deliver_at (address_in n) else rules n d)

-- "Calling the root a host because it ends in 1."
unfoldable pub root_as_host : HopRule
root_as_host = hop_by (rules_by (record { host = λ c. ends_in_one (bits c); begins = is_prefix; look = looked_at; counted = count }))

-- "Comparing C with D's low bits instead of its high bits."
unfoldable pub low_bits : HopRule
low_bits = hop_by (rules_by (record { host = is_host; begins = λ c d. is_prefix (reverse c) (reverse d); look = looked_at; counted = count }))

-- "Skipping ones and stopping before the last bit, so that a host's address loses its end."
unfoldable pub looked_short : List Bit → List Bit
looked_short [] = []
looked_short (O ∷ bs) = O ∷ []
looked_short (I ∷ []) = []
looked_short (I ∷ b ∷ bs) = I ∷ looked_short (b ∷ bs)

unfoldable pub before_last_bit : HopRule
before_last_bit = hop_by (rules_by (record { host = is_host; begins = is_prefix; look = looked_short; counted = count }))

-- "using one count for both kinds": that of the routers
unfoldable pub one_count : HopRule
one_count = hop_by (rules_by (record { host = is_host; begins = is_prefix; look = looked_at; counted = λ kind n. count router n }))
