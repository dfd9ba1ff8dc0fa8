-- What the functions of this crate promise, by their contracts as the code states them, is `block_put`, `all_are` and `is_block`; and they ask
-- nothing.
use mathlib.Core.Path.{◌≡◌}
use mathlib.Core.Bool.{Bool}
use mathlib.Core.List.{List}
use Prim.Native.Nat.{ℕ}
use contract.Lifetimes.{Lfts}
use Rattle.std.specs.Borrow.{Bor, MutBor}
use Rattle.block.specs.Block.{block_put, all_are, is_block}
use Rattle.block.proofs.put.Reads as put_reads
use Rattle.block.proofs.all_are.Reads as all-are-reads
use Rattle.block.proofs.is_block.Reads as is-block-reads

-- a lent slice of octets, or of words
abbrev Slice : Type 0
Slice = Bor (List ℕ)

-- a slice of octets that is lent to be written
abbrev MutSlice : Type 0
MutSlice = MutBor (List ℕ)

pub put-asks-nothing : (κs : Lfts 2) (addresses : Slice) (slot : MutSlice) → put_reads.Asked κs (addresses, (slot, tt))
put-asks-nothing κs addresses slot = tt

pub put_promise : (κs : Lfts 2) (addresses : Slice) (slot last : MutSlice)
    → put_reads.Learnt κs (addresses, (slot, tt)) tt (addresses, (last, tt))
    → last.now ≡ block_put addresses.now slot.now
put_promise κs addresses slot last h = h

pub all_are-asks-nothing : (κs : Lfts 1) (byte : ℕ) (bytes : Slice) → all-are-reads.Asked κs (byte, (bytes, tt))
all_are-asks-nothing κs byte bytes = tt

pub all_are_promise : (κs : Lfts 1) (byte : ℕ) (bytes : Slice) (r : Bool)
    → all-are-reads.Learnt κs (byte, (bytes, tt)) r (byte, (bytes, tt))
    → r ≡ all_are byte bytes.now
all_are_promise κs byte bytes r h = h

pub is_block-asks-nothing : (κs : Lfts 1) (slot : Slice) → is-block-reads.Asked κs (slot, tt)
is_block-asks-nothing κs slot = tt

pub is_block_promise : (κs : Lfts 1) (slot : Slice) (r : Bool) → is-block-reads.Learnt κs (slot, tt) r (slot, tt) → r ≡ is_block slot.now
is_block_promise κs slot r h = h
