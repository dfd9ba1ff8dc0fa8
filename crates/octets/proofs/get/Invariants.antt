-- After so many octets the number is what those give, less whatever is past 64 bits.
use Rattle.std.proofs.Common.{◌≡◌, ◌%◌, ◌^◌, take}
use Rattle.octets.specs.Octets.{value}
use Rattle.octets.proofs.get.Given as goal

abbrev pub invariant-loop-octet : goal.invariant-loop-octet
invariant-loop-octet l = l.number ≡ value (take l.octet-index l.from) % 2 ^ 64
