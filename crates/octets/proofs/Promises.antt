-- What the functions of this crate promise, by their contracts as the code states them, is `octets` and `value`; and they ask nothing.
use mathlib.Core.Path.{◌≡◌}
use mathlib.Core.List.{List}
use Prim.Native.Nat.{ℕ, ◌%◌, ◌^◌}
use contract.Lifetimes.{Lfts}
use Rattle.std.specs.Borrow.{Bor, MutBor}
use lib.ListN.{length}
use Rattle.octets.specs.Octets.{octets, value}
use Rattle.octets.proofs.put.Reads as put_reads
use Rattle.octets.proofs.get.Reads as get_reads

-- a lent slice of octets
abbrev Slice : Type 0
Slice = Bor (List ℕ)

-- one that is written to
abbrev SliceMut : Type 0
SliceMut = MutBor (List ℕ)

pub put-asks-nothing : (κs : Lfts 1) (number : ℕ) (out : SliceMut) → put_reads.Asked κs (number, (out, tt))
put-asks-nothing κs number out = tt

pub put_promise : (κs : Lfts 1) (number : ℕ) (out last : SliceMut)
    → put_reads.Learnt κs (number, (out, tt)) tt (number, (last, tt))
    → last.now ≡ octets (length out.now) number
put_promise κs number out last h = h

pub get-asks-nothing : (κs : Lfts 1) (from : Slice) → get_reads.Asked κs (from, tt)
get-asks-nothing κs from = tt

pub get_promise : (κs : Lfts 1) (from : Slice) (r : ℕ)
    → get_reads.Learnt κs (from, tt) r (from, tt)
    → r ≡ value from.now % 2 ^ 64
get_promise κs from r h = h
