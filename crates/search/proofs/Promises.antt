-- What the functions of this crate promise, by their contracts as the code states them, is `child_end` and `first_bits`. None asks anything of
-- its caller, and the two searches, by leading zeros and by a loop over bits, answer the same.
use mathlib.Core.Path.{◌≡◌, sym, ◌∙◌}
use Prim.Native.Nat.{ℕ}
use Rattle.address.specs.Bits.{bits}
use Rattle.address.specs.declared.Address.{Address}
use Rattle.search.specs.Search.{child_end, first_bits}
use Rattle.search.proofs.child_end.Reads as child-end-reads
use Rattle.search.proofs.child_end_by_bits.Reads as child-end-by-bits-reads
use Rattle.search.proofs.first_bits.Reads as first-bits-reads

pub child-end_promise : (address : Address) (from r : ℕ) → child-end-reads.Learnt tt (address, (from, tt)) r (address, (from, tt))
    → r ≡ child_end from (bits address.number)
child-end_promise address from r h = h

pub child-end-asks-nothing : (address : Address) (from : ℕ) → child-end-reads.Asked tt (address, (from, tt))
child-end-asks-nothing address from = tt

pub child-end_by_bits_promise : (address : Address) (from r : ℕ)
    → child-end-by-bits-reads.Learnt tt (address, (from, tt)) r (address, (from, tt)) → r ≡ child_end from (bits address.number)
child-end_by_bits_promise address from r h = h

pub child-end_by_bits-asks-nothing : (address : Address) (from : ℕ) → child-end-by-bits-reads.Asked tt (address, (from, tt))
child-end_by_bits-asks-nothing address from = tt

pub same_child-end : (address : Address) (from r s : ℕ) → child-end-reads.Learnt tt (address, (from, tt)) r (address, (from, tt))
    → child-end-by-bits-reads.Learnt tt (address, (from, tt)) s (address, (from, tt)) → r ≡ s
same_child-end address from r s h l = child-end_promise address from r h ∙ sym (child-end_by_bits_promise address from s l)

pub first-bits_promise : (address : Address) (count : ℕ) (r : Address) → first-bits-reads.Learnt tt (address, (count, tt)) r (address, (count, tt))
    → r.number ≡ first_bits count address.number
first-bits_promise address count r h = h

pub first-bits-asks-nothing : (address : Address) (count : ℕ) → first-bits-reads.Asked tt (address, (count, tt))
first-bits-asks-nothing address count = tt
