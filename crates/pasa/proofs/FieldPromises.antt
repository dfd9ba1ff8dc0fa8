-- What the exports of the older fields promise, by their contracts as the code states them, is what the functions below them are defined to answer,
-- shown in the exported structs; and they ask nothing.
use mathlib.Core.Path.{◌≡◌}
use mathlib.Core.List.{List}
use Prim.Native.Nat.{ℕ, ◌^◌, ◌<◌}
use contract.Lifetimes.{Lfts}
use Rattle.std.specs.Borrow.{Bor, MutBor}
use Rattle.octets.specs.Octets.{AreOctets}
use Rattle.std.specs.Prelude.{Result}
use Rattle.refusal.specs.declared.Refusal.{Refusal}
use Rattle.octets.specs.Octets.{Written, written_answer}
use Rattle.nsa.specs.Fields.{writing, reading}
use Rattle.pasa.specs.declared.bytes.PasaWritten.{PasaWritten}
use Rattle.pasa.specs.declared.fields.PasaNsa.{PasaNsa}
use Rattle.pasa.specs.Bytes.{pasa_written}
use Rattle.pasa.specs.Fields.{pasa_nsa}
use Rattle.pasa.proofs.bytes.PasaWrittenFromResultUsizeRefusal.from.Reads as written-reads
use Rattle.pasa.proofs.bytes.pasa_written.Reads as written-numbers-reads
use Rattle.pasa.proofs.fields.pasa_nsa_write.Reads as nsa-write-reads
use Rattle.pasa.proofs.fields.pasa_nsa_read.Reads as nsa-read-reads

-- a lent slice, to read and to write
abbrev Slice : Type 0
Slice = Bor (List ℕ)

abbrev SliceMut : Type 0
SliceMut = MutBor (List ℕ)

pub nsa_write-asks-nothing : (κs : Lfts 1) (l s d : ℕ) (out : SliceMut) → nsa-write-reads.Asked κs (l, (s, (d, (out, tt))))
nsa_write-asks-nothing κs l s d out = tt

pub nsa_write_promise : (κs : Lfts 1) (l s d : ℕ) (out last : SliceMut) (r : PasaWritten)
    → nsa-write-reads.Learnt κs (l, (s, (d, (out, tt)))) r (l, (s, (d, (last, tt))))
    → (r ≡ pasa_written (writing l s d out.now).answer) × (last.now ≡ (writing l s d out.now).buffer) × (s < 2 ^ 64) × (d < 2 ^ 64)
nsa_write_promise κs l s d out last r h = h

pub nsa_read-asks-nothing : (κs : Lfts 1) (fields : Slice) → nsa-read-reads.Asked κs (fields, tt)
nsa_read-asks-nothing κs fields = tt

pub nsa_read_promise : (κs : Lfts 1) (fields : Slice) (r : PasaNsa)
    → nsa-read-reads.Learnt κs (fields, tt) r (fields, tt)
    → (r ≡ pasa_nsa (reading fields.now)) × AreOctets fields.now
nsa_read_promise κs fields r h = h

-- the struct of an answer to a writing, which the header's and the IPv6 form's exports make too
pub written-asks-nothing : (w : Result ℕ Refusal) → written-reads.Asked tt (w, tt)
written-asks-nothing w = tt

pub written_promise : (w : Result ℕ Refusal) (r : PasaWritten) → written-reads.Learnt tt (w, tt) r (w, tt) → r ≡ pasa_written (written_answer w)
written_promise w r h = h

-- the struct of any number and any count
pub written-numbers-asks-nothing : (number count : ℕ) → written-numbers-reads.Asked tt (number, (count, tt))
written-numbers-asks-nothing number count = tt

pub written-numbers_promise : (number count : ℕ) (r : PasaWritten) → written-numbers-reads.Learnt tt (number, (count, tt)) r (number, (count, tt))
    → r ≡ pasa_written (record { refusal = number; count = count })
written-numbers_promise number count r h = h
