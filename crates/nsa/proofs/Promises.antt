-- What the functions of this crate promise, by their contracts as the code states them, is `writing` and `reading`, the definitions of which
-- demands 1 and 2 are proved; and they ask nothing.
use mathlib.Core.Path.{◌≡◌, sym, ap, ap₂, ◌∙◌}
use mathlib.Core.List.{List}
use Prim.Native.Nat.{ℕ, ◌^◌, ◌<◌}
use contract.Lifetimes.{Lfts}
use Rattle.std.specs.Borrow.{Bor, MutBor}
use Rattle.octets.specs.Octets.{AreOctets}
use Rattle.address.specs.declared.Address.{Address}
use Rattle.std.specs.Prelude.{Result, Ok, Err}
use Rattle.refusal.specs.declared.Refusal.{Refusal}
use Rattle.refusal.proofs.Numbers.{some, one}
use Rattle.octets.specs.Octets.{Written, written_answer}
use Rattle.nsa.specs.Fields.{writing, FieldsAnswer, Row, fields_answer, reading}
use Rattle.nsa.proofs.write.Reads as write-reads
use Rattle.nsa.proofs.read.Reads as read-reads

-- a lent slice of octets
abbrev Slice : Type 0
Slice = Bor (List ℕ)

pub write-asks-nothing : (κs : Lfts 1) (payload : ℕ) (source destination : Address) (out : MutBor (List ℕ))
    → write-reads.Asked κs (payload, (source, (destination, (out, tt))))
write-asks-nothing κs payload source destination out = tt

pub write_promise : (κs : Lfts 1) (payload : ℕ) (source destination : Address) (out last : MutBor (List ℕ)) (r : Result ℕ Refusal)
    → write-reads.Learnt κs (payload, (source, (destination, (out, tt)))) r (payload, (source, (destination, (last, tt))))
    → (record { answer = written_answer r; buffer = last.now } ≡ writing payload source.number destination.number out.now)
    × (source.number < 2 ^ 64) × (destination.number < 2 ^ 64)
write_promise κs payload source destination out last r h = (ap₂ (λ (w : Written) (b : List ℕ). record { answer = w; buffer = b }) h.0 h.1.0, h.1.1.0, h.1.1.1)

pub read-asks-nothing : (κs : Lfts 1) (fields : Slice) → read-reads.Asked κs (fields, tt)
read-asks-nothing κs fields = tt

pub read_promise : (κs : Lfts 1) (fields : Slice) (r : Result Row Refusal)
    → read-reads.Learnt κs (fields, tt) r (fields, tt)
    → (fields_answer r ≡ reading fields.now) × AreOctets fields.now
read_promise κs fields r h = h

-- the numbers promised leave one answer
pub one-reading : (p : List ℕ) (r s : Result Row Refusal) → fields_answer r ≡ reading p → fields_answer s ≡ reading p → r ≡ s
one-reading p (Ok f) (Ok g) e h =
    let same = e ∙ sym h in
    λ i. Ok
    (record {
      fields = record {
        length = ap (λ (x : FieldsAnswer). x.length) same i;
        source = record { number = ap (λ (x : FieldsAnswer). x.source) same i };
        destination = record { number = ap (λ (x : FieldsAnswer). x.destination) same i };
      };
      place = ap (λ (x : FieldsAnswer). x.place) same i;
    })
one-reading p (Err m) (Err n) e h = ap Err (one m n (ap (λ (x : FieldsAnswer). x.refusal) (e ∙ sym h)))
one-reading p (Ok f) (Err n) e h = absurd (some n (ap (λ (x : FieldsAnswer). x.refusal) (h ∙ sym e)))
one-reading p (Err m) (Ok g) e h = absurd (some m (ap (λ (x : FieldsAnswer). x.refusal) (e ∙ sym h)))
