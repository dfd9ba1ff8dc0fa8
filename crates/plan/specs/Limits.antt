-- How large a plan may be.
use Rattle.std.specs.Prelude.{ℕ}

-- "a plan 32,768 bytes"
abbrev pub most_bytes : ℕ
most_bytes = 32768

-- "A plan .. may now have 4,096 nodes, the root counted"
abbrev pub most_nodes : ℕ
most_nodes = 4096

-- "with at most 64 groups open at once"
abbrev pub most_groups : ℕ
most_groups = 64
