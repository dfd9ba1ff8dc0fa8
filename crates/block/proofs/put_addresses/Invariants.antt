-- Before the place of address i stand the octets of those before it.
use Rattle.std.proofs.Common.{length, take, ◌*◌, ◌≡◌}
use Rattle.block.specs.Block.{address_bytes, spread}
use Rattle.block.proofs.put_addresses.Given as goal

abbrev pub invariant-loop-i : goal.invariant-loop-i
invariant-loop-i l =
    (length l.out ≡ address_bytes * length l.addresses)
    × (take (address_bytes * l.i) l.out ≡ take (address_bytes * l.i) (spread l.addresses))
