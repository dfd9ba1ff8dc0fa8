-- Wrong rules for a setting of a limit, which demand 3 must exclude: they hand back a record with other counts, of another node, or a bad one. Demand 3
-- does not see what a limit is set to as long as records stay good: crates/node/specs/WrongRules.antt has rules that demand 1 excludes.
use Rattle.std.specs.Prelude.{eqb, if◌then◌else◌}
use Rattle.address.specs.declared.Kind.{Kind}
use Rattle.node.specs.Node.{fresh, with_counts, raised, with_limit, set_limit}
use Rattle.node.specs.declared.Node.{Node}
use Rattle.tree.specs.Tree.{SettingRule}

-- where the right rule sets a limit, another record is handed back than its own
unfoldable pub handing_back : (Kind → Node → Node) → SettingRule
handing_back other n kind k =
    if eqb (set_limit n kind k).refusal 0 then record { node = other kind (set_limit n kind k).node; refusal = 0 }
    else set_limit n kind k

-- the counts are zeroed, so that a node gives its children's addresses again
unfoldable pub zeroes_counts : SettingRule
zeroes_counts = handing_back (λ kind n. with_counts 0 0 n)

-- a count is raised, and no child is given
unfoldable pub raises_count : SettingRule
raises_count = handing_back (λ kind n. raised kind n)

-- the record of another node: of 10, whichever node is asked
unfoldable pub another_node : SettingRule
another_node = handing_back (λ kind n. fresh 0b10)

-- "below its count": a limit is set to any number, so that a record turns bad
unfoldable pub below_count : SettingRule
below_count n kind k = record { node = with_limit kind k n; refusal = 0 }
