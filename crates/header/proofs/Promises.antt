-- What the functions of this crate promise, by their contracts as the code states them, is `writing` and `reading`, the definitions of which
-- demands 1 and 2 are proved; and they ask nothing.
use mathlib.Core.Path.{◌≡◌, sym, ap, ap₂, ◌∙◌}
use mathlib.Core.List.{List}
use Prim.Native.Nat.{ℕ}
use contract.Lifetimes.{Lfts}
use Rattle.std.specs.Borrow.{Bor, MutBor}
use Rattle.address.specs.declared.Address.{Address}
use Rattle.std.specs.Prelude.{Result, Ok, Err}
use Rattle.refusal.specs.declared.Refusal.{Refusal}
use Rattle.refusal.proofs.Numbers.{some, one}
use Rattle.octets.specs.Octets.{Written, written_answer}
use Rattle.header.specs.Header.{Header, writing, HeaderAnswer, header_answer, reading}
use Rattle.header.proofs.write.Reads as write-reads
use Rattle.header.proofs.read.Reads as read-reads

-- a lent slice of octets, to read and to write
abbrev Slice : Type 0
Slice = Bor (List ℕ)

abbrev SliceMut : Type 0
SliceMut = MutBor (List ℕ)

pub write-asks-nothing : (κs : Lfts 1) (address : Address) (out : SliceMut) → write-reads.Asked κs (address, (out, tt))
write-asks-nothing κs address out = tt

pub write_promise : (κs : Lfts 1) (address : Address) (out last : SliceMut) (r : Result ℕ Refusal)
    → write-reads.Learnt κs (address, (out, tt)) r (address, (last, tt))
    → record { answer = written_answer r; buffer = last.now } ≡ writing address.number out.now
write_promise κs address out last r h = ap₂ (λ (w : Written) (b : List ℕ). record { answer = w; buffer = b }) h.0 h.1

pub read-asks-nothing : (κs : Lfts 1) (packet : Slice) → read-reads.Asked κs (packet, tt)
read-asks-nothing κs packet = tt

pub read_promise : (κs : Lfts 1) (packet : Slice) (r : Result Header Refusal)
    → read-reads.Learnt κs (packet, tt) r (packet, tt)
    → header_answer r ≡ reading packet.now
read_promise κs packet r h = h

-- the numbers promised leave one answer
pub one-reading : (p : List ℕ) (r s : Result Header Refusal) → header_answer r ≡ reading p → header_answer s ≡ reading p → r ≡ s
one-reading p (Ok g) (Ok h) e f =
    let same = e ∙ sym f in
    ap₂ (λ (x y : ℕ). Ok (record { address = record { number = x }; place = y })) (ap (λ (x : HeaderAnswer). x.address) same) (ap (λ (x : HeaderAnswer). x.place) same)
one-reading p (Err m) (Err n) e f = ap Err (one m n (ap (λ (x : HeaderAnswer). x.refusal) (e ∙ sym f)))
one-reading p (Ok g) (Err n) e f = absurd (some n (ap (λ (x : HeaderAnswer). x.refusal) (f ∙ sym e)))
one-reading p (Err m) (Ok h) e f = absurd (some m (ap (λ (x : HeaderAnswer). x.refusal) (e ∙ sym f)))
