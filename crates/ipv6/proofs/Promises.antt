-- What the functions of this crate promise, by their contracts as the code states them, is `form_writing` and `form_reading`, the definitions
-- of which demands 1 and 2 are proved; they ask nothing, and the numbers promised leave one answer.
use mathlib.Core.Path.{◌≡◌, sym, ap, ap₂, ◌∙◌}
use mathlib.Core.List.{List}
use Prim.Native.Nat.{ℕ}
use contract.Lifetimes.{Lfts}
use Rattle.std.specs.Borrow.{Bor, MutBor}
use Rattle.address.specs.Address.{AddressAnswer, made_answer}
use Rattle.address.specs.declared.Address.{Address}
use Rattle.std.specs.Prelude.{Result, Ok, Err}
use Rattle.refusal.specs.declared.Refusal.{Refusal}
use Rattle.refusal.proofs.Numbers.{some, one}
use Rattle.octets.specs.Octets.{Written, written_answer}
use Rattle.ipv6.specs.Form.{form_writing, form_reading}
use Rattle.ipv6.proofs.write.Reads as write-reads
use Rattle.ipv6.proofs.read.Reads as read-reads

-- a lent slice of octets
abbrev Slice : Type 0
Slice = Bor (List ℕ)

pub write-asks-nothing : (κs : Lfts 2) (prefix : Slice) (address : Address) (out : MutBor (List ℕ)) → write-reads.Asked κs (prefix, (address, (out, tt)))
write-asks-nothing κs prefix address out = tt

pub write_promise : (κs : Lfts 2) (prefix : Slice) (address : Address) (out last : MutBor (List ℕ)) (r : Result ℕ Refusal)
    → write-reads.Learnt κs (prefix, (address, (out, tt))) r (prefix, (address, (last, tt)))
    → record { answer = written_answer r; buffer = last.now } ≡ form_writing prefix.now address.number out.now
write_promise κs prefix address out last r h = ap₂ (λ (w : Written) (b : List ℕ). record { answer = w; buffer = b }) h.0 h.1

pub read-asks-nothing : (κs : Lfts 2) (prefix ipv6 : Slice) → read-reads.Asked κs (prefix, (ipv6, tt))
read-asks-nothing κs prefix ipv6 = tt

pub read_promise : (κs : Lfts 2) (prefix ipv6 : Slice) (r : Result Address Refusal)
    → read-reads.Learnt κs (prefix, (ipv6, tt)) r (prefix, (ipv6, tt))
    → made_answer r ≡ form_reading prefix.now ipv6.now
read_promise κs prefix ipv6 r h = h

-- the numbers promised leave one answer
pub one-form_reading : (prefix ipv6 : List ℕ) (r s : Result Address Refusal) → made_answer r ≡ form_reading prefix ipv6 → made_answer s ≡ form_reading prefix ipv6
    → r ≡ s
one-form_reading prefix ipv6 (Ok a) (Ok b) e f = ap (λ (x : AddressAnswer). Ok (record { number = x.address })) (e ∙ sym f)
one-form_reading prefix ipv6 (Err m) (Err n) e f = ap Err (one m n (ap (λ (x : AddressAnswer). x.refusal) (e ∙ sym f)))
one-form_reading prefix ipv6 (Ok a) (Err n) e f = absurd (some n (ap (λ (x : AddressAnswer). x.refusal) (f ∙ sym e)))
one-form_reading prefix ipv6 (Err m) (Ok b) e f = absurd (some m (ap (λ (x : AddressAnswer). x.refusal) (e ∙ sym f)))
