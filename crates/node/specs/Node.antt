-- A node's record, the request for a child and the setting of a limit. "A node record is its address with two counts: router children and host
-- children given so far."; "A node record gains two limits, routers and hosts" (document 02, Five).
use Rattle.std.specs.Prelude.{ℕ, ◌+◌, ◌-◌, Bool, false, not, ◌&&◌, List, ◌++◌, length, eqb, leb, ltb, if◌then◌else◌}
use Rattle.std.specs.Prelude.{Result, Ok, Err}
use Rattle.refusal.specs.Outcome.{outcome_number}
use Rattle.refusal.specs.declared.Refusal.{Refusal}
use Rattle.address.specs.Bits.{Bit, bits, number, longest}
use Rattle.address.specs.Address.{bit_length, is_host}
use Rattle.address.specs.Steps.{child, step_bits}
use Rattle.address.specs.declared.Address.{Address}
use Rattle.address.specs.declared.Kind.{Kind}
use Rattle.address.specs.declared.Kind.TheVariants.{Router, Host}
pub use Rattle.node.specs.declared.Node.{Node}
pub use Rattle.node.specs.declared.Limits.{Limits}
use Rattle.node.specs.declared.Handed.{Handed}

-- the number of a record's address
abbrev pub address_in : Node → ℕ
address_in n = n.address.number

abbrev pub address_at : ℕ → Address
address_at a = record { number = a }

-- the highest limit: "64 meaning no cap"
abbrev pub no_cap : ℕ
no_cap = 64

-- "The child's own record starts with both counts 0."; "A fresh record gets 64 and 64"
unfoldable pub fresh : ℕ → Node
fresh a = record { address = address_at a; routers = 0; hosts = 0; limits = record { routers = no_cap; hosts = no_cap } }

-- a record with other counts
unfoldable pub with_counts : ℕ → ℕ → Node → Node
with_counts routers hosts n = record { address = n.address; routers = routers; hosts = hosts; limits = n.limits }

-- the children of a kind given so far
unfoldable pub count : Kind → Node → ℕ
count Router n = n.routers
count Host n = n.hosts

-- the record with the count of a kind raised by one
unfoldable pub raised : Kind → Node → Node
raised Router n = with_counts (n.routers + 1) n.hosts n
raised Host n = with_counts n.routers (n.hosts + 1) n

-- the limit on the children of a kind
unfoldable pub limit : Kind → Node → ℕ
limit Router n = n.limits.routers
limit Host n = n.limits.hosts

-- the record with other limits
unfoldable pub with_limits : ℕ → ℕ → Node → Node
with_limits routers hosts n = record {
  address = n.address;
  routers = n.routers;
  hosts = n.hosts;
  limits = record { routers = routers; hosts = hosts };
}

-- the record with another limit on the children of a kind
unfoldable pub with_limit : Kind → ℕ → Node → Node
with_limit Router k n = with_limits k n.limits.hosts n
with_limit Host k n = with_limits n.limits.routers k n

-- "For the root or a router of n bits each count is 0 to 64-n. For a host both are 0. Any other record is bad.": a record of address zero is
-- of neither
unfoldable pub fits_address : Node → Bool
fits_address n =
    if eqb (address_in n) 0 then false
    else if is_host (address_in n) then eqb n.routers 0 && eqb n.hosts 0
    else leb n.routers (longest - bit_length (address_in n)) && leb n.hosts (longest - bit_length (address_in n))

-- "two limits, routers and hosts, 0 to 64 each": "a limit above 64, or a count above its limit, makes the record bad"
unfoldable pub fits_limit : Kind → Node → Bool
fits_limit kind n = leb (limit kind n) no_cap && leb (count kind n) (limit kind n)

unfoldable pub is_good : Node → Bool
is_good n = fits_limit Router n && fits_limit Host n && fits_address n

-- "own address, then as many ones as the old count of that kind, then 0 for a router or 1 for a host"
unfoldable pub child_bits : Node → Kind → List Bit
child_bits n kind = bits (address_in n) ++ step_bits (child kind (count kind n))

-- what a request for a child answers: the record to go on with, the child's address and the refusal's number, 0 where the child is given
pub record Given : Type 0 where
  pub node : Node
  pub child : Address
  pub refusal : ℕ

-- what a setting of a limit answers: the record to go on with and the refusal's number, 0 where the limit is set
pub record Limited : Type 0 where
  pub node : Node
  pub refusal : ℕ

-- "With any refusal the address .. and every other number returned beside its own are 0, a returned record is the one handed in"
unfoldable pub refuse_child : ℕ → Node → Given
refuse_child number n = record { node = n; child = address_at 0; refusal = number }

-- the address of each case of an outcome
abbrev pub child_handed : Result Address Refusal → Address
child_handed (Ok address) = address
child_handed (Err refusal) = address_at 0

-- the papers' numbers for each
abbrev pub given_answer : Handed Address → Given
given_answer h = record { node = h.node; child = child_handed h.outcome; refusal = outcome_number h.outcome }

-- "Asked for a child, the node hands itself back with one count raised and the child's address". The order is 1, 2, 15, 3: the record is bad; a
-- host is asked; "a child at its limit"; the child would be longer than 64 bits.
unfoldable pub child_of : Node → Kind → Given
child_of n kind =
    if not (is_good n) then refuse_child 1 n
    else if is_host (address_in n) then refuse_child 2 n
    else if eqb (count kind n) (limit kind n) then refuse_child 15 n
    else if ltb longest (length (child_bits n kind)) then refuse_child 3 n
    else record { node = raised kind n; child = address_at (number (child_bits n kind)); refusal = 0 }

-- a setting refused: "a returned record is the one handed in"
unfoldable pub refuse_setting : ℕ → Node → Limited
refuse_setting number n = record { node = n; refusal = number }

abbrev pub limited_answer : Handed (Unit {0}) → Limited
limited_answer h = record { node = h.node; refusal = outcome_number h.outcome }

-- "Setting a limit outside 0 to 64 or below its count, or on a bad record, is refused with 1; otherwise the record comes back with that limit as
-- asked and nothing else changed."
unfoldable pub set_limit : Node → Kind → ℕ → Limited
set_limit n kind k =
    if not (is_good n) then refuse_setting 1 n
    else if ltb no_cap k then refuse_setting 1 n
    else if ltb k (count kind n) then refuse_setting 1 n
    else record { node = with_limit kind k n; refusal = 0 }
