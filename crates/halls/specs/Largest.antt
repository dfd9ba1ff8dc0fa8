-- The trees of a plan of as many nodes as are allowed, and of one that has a host of the root more.
use Rattle.std.specs.Prelude.{suc, ◌≡◌, [], ◌∷◌, ◌++◌, length}
use Rattle.address.specs.Bits.{root}
use Rattle.address.specs.declared.Kind.TheVariants.{Host}
use Rattle.tree.specs.Tree.{request}
use Rattle.plan.specs.Limits.{most_nodes}
use Rattle.plan.specs.Largest.{largest, too_large}
use Rattle.halls.specs.Requests.{requests}
use Rattle.halls.specs.HallsRead.{addresses_of}

pub record LargestHall : Type 0 where
  pub counted : length (addresses_of largest) ≡ most_nodes
  pub one_more : length (addresses_of too_large) ≡ suc most_nodes
  pub last_asked : requests too_large ≡ requests largest ++ (request root Host ∷ [])
