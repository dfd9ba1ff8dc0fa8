-- A wrong rule for the next hop that gives a wrong refusal, which demand 1 must exclude. Those that pass a packet wrongly are excluded by demand 3:
-- crates/tree/specs/WrongHops.antt has them.
use Rattle.std.specs.Prelude.{ℕ, eqb, if◌then◌else◌}
use Rattle.node.specs.declared.Node.{Node}
use Rattle.forward.specs.Forward.{HopAnswer, refused_hop, next_hop}

-- 9 before 1
unfoldable pub zero_first : Node → ℕ → HopAnswer
zero_first n d = if eqb d 0 then refused_hop 9 else next_hop n d
