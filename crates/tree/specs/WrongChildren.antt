-- Wrong rules for a child, which demand 3 must exclude. crates/node/specs/WrongRules.antt has those that demand 1 excludes; most of them leave demand 3
-- true, since a child refused wrongly makes the tree smaller and no more, but one that gives past a limit (`past_limit`) does not.
use Rattle.std.specs.Prelude.{not, ◌++◌, length, eqb, ltb, if◌then◌else◌}
use Rattle.address.specs.Bits.{bits, number, longest}
use Rattle.address.specs.Steps.{child, step_bits}
use Rattle.address.specs.Address.{bit_length, is_host}
use Rattle.address.specs.declared.Kind.TheVariants.{Router}
use Rattle.node.specs.Node.{address_in, address_at, count, raised, limit, is_good, child_bits, refuse_child, child_of}
use Rattle.tree.specs.Tree.{ChildRule}

-- "One that hands every child the same address": 10, whichever node is asked; it refuses and counts as the right rule does
unfoldable pub same_child : ChildRule
same_child n kind =
    if eqb (child_of n kind).refusal 0 then record { node = raised kind n; child = address_at 0b10; refusal = 0 }
    else child_of n kind

-- "using one count for both kinds": the count of routers counts every child, and a child of either kind takes its ones
unfoldable pub shared_count : ChildRule
shared_count n kind =
    if not (is_good n) then refuse_child 1 n
    else if is_host (address_in n) then refuse_child 2 n
    else if eqb (count Router n) (limit Router n) then refuse_child 15 n
    else if ltb longest (length (bits (address_in n) ++ step_bits (child kind (count Router n)))) then refuse_child 3 n
    else record {
      node = raised Router n;
      child = address_at (number (bits (address_in n) ++ step_bits (child kind (count Router n))));
      refusal = 0;
    }

-- "Testing the length limit on the parent instead of the child"
unfoldable pub limit_on_parent : ChildRule
limit_on_parent n kind =
    if not (is_good n) then refuse_child 1 n
    else if is_host (address_in n) then refuse_child 2 n
    else if eqb (count kind n) (limit kind n) then refuse_child 15 n
    else if ltb longest (bit_length (address_in n)) then refuse_child 3 n
    else record { node = raised kind n; child = address_at (number (child_bits n kind)); refusal = 0 }
