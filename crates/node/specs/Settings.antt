-- What a setting of a limit leaves of a record: the statement alone.
use Rattle.std.specs.Prelude.{ℕ, ◌≡◌, true}
use Rattle.address.specs.declared.Kind.{Kind}
use Rattle.node.specs.Node.{Node, address_in, count, is_good, set_limit}

-- for every record and every number asked, refused or not
pub record SetsLimits : Type 0 where
  pub keeps_good : (n : Node) (kind : Kind) (k : ℕ) → is_good n ≡ true → is_good (set_limit n kind k).node ≡ true
  pub keeps_address : (n : Node) (kind : Kind) (k : ℕ) → address_in (set_limit n kind k).node ≡ address_in n
  pub keeps_counts : (n : Node) (kind : Kind) (k : ℕ) (other : Kind) → count other (set_limit n kind k).node ≡ count other n
