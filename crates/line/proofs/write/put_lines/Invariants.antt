-- The lines of the addresses passed stand in front.
use Rattle.std.proofs.Common.{◌≡◌, length, take}
use Rattle.line.specs.Line.{lines}
use Rattle.line.proofs.write.put_lines.Given as goal

abbrev pub invariant-loop-address : goal.invariant-loop-address
invariant-loop-address l = record {
  place : l.at ≡ length (lines (take l.address-index l.addresses));
  stored : take l.at l.out ≡ lines (take l.address-index l.addresses);
}
