-- How large a journal may be, and what recovery wants lent.
use Rattle.std.specs.Prelude.{ℕ}

-- "1 to 128 slots"
abbrev pub most_slots : ℕ
most_slots = 128

-- "a recovered journal may now have 4,096 nodes, the root counted .. Recovery wants 4,096 words lent."
abbrev pub most_nodes : ℕ
most_nodes = 4096
