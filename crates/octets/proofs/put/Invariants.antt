-- The loop goes from the last octet to the first: what is still to be written is the octets of `rest`, as many as there are places before i,
-- and behind them stands what the buffer has from i on.
use Rattle.std.proofs.Common.{◌≡◌, length, drop, ◌++◌}
use Rattle.octets.specs.Octets.{octets}
use Rattle.octets.proofs.put.Given as goal

abbrev pub invariant-loop-i : goal.invariant-loop-i
invariant-loop-i l = octets (length l.fn.out) l.fn.number ≡ octets l.i l.rest ++ drop l.i l.out
