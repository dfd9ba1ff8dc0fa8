-- Wrong rules for a child and for a setting that give a wrong refusal, or a right one with something beside it: what demand 1 must exclude. Each
-- goes by the right rule with a part exchanged.
use Rattle.std.specs.Prelude.{ℕ, ◌+◌, ◌-◌, ◌%◌, Bool, false, not, ◌&&◌, length, eqb, leb, ltb, if◌then◌else◌}
use Rattle.address.specs.Bits.{bits, number, longest}
use Rattle.address.specs.Address.{bit_length, ends_in_one, is_host}
use Rattle.address.specs.declared.Kind.{Kind}
use Rattle.address.specs.declared.Kind.TheVariants.{Router, Host}
use Rattle.node.specs.Node.{Node, Given, Limited, address_in, address_at, no_cap, count, raised, limit, with_limits, with_limit, fits_address, fits_limit, is_good}
use Rattle.node.specs.Node.{child_bits, refuse_child, child_of, refuse_setting, set_limit}

-- the child, where nothing speaks against it
unfoldable pub gives_child : Node → Kind → Given
gives_child n kind = record { node = raised kind n; child = address_at (number (child_bits n kind)); refusal = 0 }

-- "One that refuses everything"
unfoldable pub refuses_all : Node → Kind → Given
refuses_all n kind = refuse_child 3 n

-- "Calling the root a host because it ends in 1."
unfoldable pub root_is_host : Node → Kind → Given
root_is_host n kind =
    if not (is_good n) then refuse_child 1 n
    else if ends_in_one (bits (address_in n)) then refuse_child 2 n
    else if eqb (count kind n) (limit kind n) then refuse_child 15 n
    else if ltb longest (length (child_bits n kind)) then refuse_child 3 n
    else gives_child n kind

-- 2 before 1
unfoldable pub host_first : Node → Kind → Given
host_first n kind = if is_host (address_in n) then refuse_child 2 n else child_of n kind

-- "each count is 0 to 64-n", and one more
unfoldable pub one_too_many : Node → Kind → Given
one_too_many n kind =
    if eqb (address_in n) 0 then refuse_child 1 n
    else if not (fits_limit Router n && fits_limit Host n) then refuse_child 1 n
    else if is_host (address_in n) then child_of n kind
    else if not (leb n.routers (longest - bit_length (address_in n)) && leb n.hosts (longest + 1 - bit_length (address_in n))) then refuse_child 1 n
    else if eqb (count kind n) (limit kind n) then refuse_child 15 n
    else if ltb longest (length (child_bits n kind)) then refuse_child 3 n
    else gives_child n kind

-- a child of 64 bits is refused
unfoldable pub short_of_limit : Node → Kind → Given
short_of_limit n kind = if ltb 63 (length (child_bits n kind)) && is_good n && not (is_host (address_in n)) then refuse_child 3 n else child_of n kind

-- an address beside a refusal: the node's own
unfoldable pub address_beside : Node → Kind → Given
address_beside n kind =
    if eqb (child_of n kind).refusal 0 then child_of n kind
    else record { node = n; child = address_at (address_in n); refusal = (child_of n kind).refusal }

-- the rule for a child, by the tests of a record and of a limit
unfoldable pub child_by : (Node → Bool) → (Kind → Node → Bool) → Node → Kind → Given
child_by good full n kind =
    if not (good n) then refuse_child 1 n
    else if is_host (address_in n) then refuse_child 2 n
    else if full kind n then refuse_child 15 n
    else if ltb longest (length (child_bits n kind)) then refuse_child 3 n
    else gives_child n kind

-- a limit is not looked at, where a child is given
unfoldable pub past_limit : Node → Kind → Given
past_limit = child_by is_good (λ kind n. false)

-- nor in a record: "a limit above 64, or a count above its limit, makes the record bad"
unfoldable pub limitless : Node → Kind → Given
limitless = child_by fits_address (λ kind n. false)

-- a limit is taken away, whatever was set
unfoldable pub lifts_limits : Node → Kind → Given
lifts_limits n kind = child_of (with_limits no_cap no_cap n) kind

-- one limit for both kinds: that on routers
unfoldable pub one_limit : Node → Kind → Given
one_limit = child_by is_good (λ kind n. eqb (count kind n) (limit Router n))

-- one child too early
unfoldable pub one_early : Node → Kind → Given
one_early = child_by is_good (λ kind n. eqb (count kind n + 1) (limit kind n))

-- 15 after 3
unfoldable pub limit_last : Node → Kind → Given
limit_last n kind =
    if is_good n && not (is_host (address_in n)) && ltb longest (length (child_bits n kind)) then refuse_child 3 n
    else child_of n kind

-- 15 before 2
unfoldable pub limit_first : Node → Kind → Given
limit_first n kind = if is_good n && eqb (count kind n) (limit kind n) then refuse_child 15 n else child_of n kind

-- ---- the setting of a limit

-- the rule for a setting, by the test of a record, the test of a limit and what is made
unfoldable pub setting_by : (Node → Bool) → (ℕ → ℕ → Bool) → (Kind → ℕ → Node → Node) → Node → Kind → ℕ → Limited
setting_by good allowed made n kind k =
    if good n && allowed k (count kind n) then record { node = made kind k n; refusal = 0 } else refuse_setting 1 n

-- a limit is "0 to 64" and not "below its count"
unfoldable pub allowed_limit : ℕ → ℕ → Bool
allowed_limit k given = leb k no_cap && leb given k

-- "One that refuses everything"
unfoldable pub sets_nothing : Node → Kind → ℕ → Limited
sets_nothing n kind k = refuse_setting 1 n

-- a limit below the count
unfoldable pub sets_below : Node → Kind → ℕ → Limited
sets_below = setting_by is_good (λ k given. leb k no_cap) with_limit

-- 65
unfoldable pub sets_above : Node → Kind → ℕ → Limited
sets_above = setting_by is_good (λ k given. leb k (no_cap + 1) && leb given k) with_limit

-- a limit cut to an octet, so that 256 is 0
unfoldable pub sets_cut : Node → Kind → ℕ → Limited
sets_cut n kind k = set_limit n kind (k % 256)

-- both limits
unfoldable pub sets_both : Node → Kind → ℕ → Limited
sets_both = setting_by is_good allowed_limit (λ kind k n. with_limits k k n)

-- a bad record is mended: one whose limit is above 64, or below its count
unfoldable pub mends_record : Node → Kind → ℕ → Limited
mends_record n kind k = setting_by (λ m. is_good (with_limit kind k m)) allowed_limit with_limit n kind k

-- the limit of the other kind
unfoldable pub other : Kind → Kind
other Router = Host
other Host = Router

unfoldable pub sets_other : Node → Kind → ℕ → Limited
sets_other = setting_by is_good allowed_limit (λ kind k n. with_limit (other kind) k n)
