-- What the functions of this crate promise, by their contracts as the code states them: `crc` is the check, of any octets, and the table has at
-- each half octet its remainder.
use mathlib.Core.Path.{◌≡◌}
use mathlib.Core.List.{List}
use Prim.Native.Nat.{ℕ, ◌<◌}
use contract.Lifetimes.{Lfts}
use Rattle.std.specs.Borrow.{Bor}
use Rattle.crc.specs.Crc.{crc}
use Rattle.crc.specs.Checks.{remainder}
use Rattle.crc.proofs.crc.Reads as crc-reads
use Rattle.crc.proofs.remainder.Reads as remainder-reads

-- a lent slice of octets
abbrev Slice : Type 0
Slice = Bor (List ℕ)

pub crc-asks-nothing : (κs : Lfts 1) (octets : Slice) → crc-reads.Asked κs (octets, tt)
crc-asks-nothing κs octets = tt

pub crc_promise : (κs : Lfts 1) (octets : Slice) (r : ℕ) → crc-reads.Learnt κs (octets, tt) r (octets, tt) → r ≡ crc octets.now
crc_promise κs octets r h = h

-- every half octet has an entry
pub table-asks : (κs : Lfts 0) (half : ℕ) → half < 16 → remainder-reads.Asked κs (half, tt)
table-asks κs half h = h

pub table_promise : (κs : Lfts 0) (half r : ℕ) → remainder-reads.Learnt κs (half, tt) r (half, tt) → r ≡ remainder half
table_promise κs half r h = h
