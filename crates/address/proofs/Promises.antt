-- What the functions of this crate promise, by their contracts as the code states them, is what the definitions say, and none of them asks
-- anything of its caller.
use Rattle.std.specs.Prelude.{if◌then◌else◌}
use mathlib.Core.Path.{◌≡◌, refl, sym, ap, ◌∙◌}
use mathlib.Core.Bool.{Bool, true, false}
use Prim.Native.Nat.{ℕ}
use native.Mathlib.Omega.{arith}
use lib.Dec.{eqb}
use borrow.Author.Tests.{eqb-false}
use Rattle.address.specs.Bits.{longest, root}
use Rattle.std.specs.Prelude.{Result}
use Rattle.refusal.specs.declared.Refusal.{Refusal}
use Rattle.refusal.proofs.Outcomes.{one-answer}
use Rattle.address.specs.Address.{Address, AddressAnswer, refused_address, valid_address, made_answer, made, bit_length, is_host, depth, parent}
use Rattle.address.proofs.Address.of.Reads as of-reads
use Rattle.address.proofs.Address.new.Reads as new-reads
use Rattle.address.proofs.Address.bit_length.Reads as bit-length-reads
use Rattle.address.proofs.Address.is_host.Reads as is-host-reads
use Rattle.address.proofs.Address.depth.Reads as depth-reads
use Rattle.address.proofs.Address.parent.Reads as parent-reads
use Rattle.address.proofs.Address.longest.Reads as longest-reads
use Rattle.address.proofs.Address.root.Reads as root-reads

pub of_promise : (n : ℕ) (r : Address) → of-reads.Learnt tt (n, tt) r (n, tt) → r.number ≡ n
of_promise n r h = h

pub of_asks-nothing : (n : ℕ) → of-reads.Asked tt (n, tt)
of_asks-nothing n = tt

pub new_promise : (n : ℕ) (r : Result Address Refusal) → new-reads.Learnt tt (n, tt) r (n, tt) → made_answer r ≡ made n
new_promise n r h = h

pub new-asks-nothing : (n : ℕ) → new-reads.Asked tt (n, tt)
new-asks-nothing n = tt

pub bit-length_promise : (a : Address) (r : ℕ) → bit-length-reads.Learnt tt (a, tt) r (a, tt) → r ≡ bit_length a.number
bit-length_promise a r h = h

pub bit-length-asks-nothing : (a : Address) → bit-length-reads.Asked tt (a, tt)
bit-length-asks-nothing a = tt

pub is_host_promise : (a : Address) (r : Bool) → is-host-reads.Learnt tt (a, tt) r (a, tt) → r ≡ is_host a.number
is_host_promise a r h = h

pub is_host-asks-nothing : (a : Address) → is-host-reads.Asked tt (a, tt)
is_host-asks-nothing a = tt

pub depth_promise : (a : Address) (r : ℕ) → depth-reads.Learnt tt (a, tt) r (a, tt) → r ≡ depth a.number
depth_promise a r h = h

pub depth-asks-nothing : (a : Address) → depth-reads.Asked tt (a, tt)
depth-asks-nothing a = tt

pub parent_promise : (a r : Address) → parent-reads.Learnt tt (a, tt) r (a, tt) → r.number ≡ parent a.number
parent_promise a r h = h

pub parent-asks-nothing : (a : Address) → parent-reads.Asked tt (a, tt)
parent-asks-nothing a = tt

-- the constants that belong to the type are the specification's

pub longest_promise : (r : ℕ) → longest-reads.Learnt tt tt r tt → r ≡ longest
longest_promise r h = h

pub root_promise : (r : Address) → root-reads.Learnt tt tt r tt → r.number ≡ root
root_promise r h = h

-- the numbers that `Address::new` promises leave one answer: a valid address is not zero, and a refusal's number is not

pub made-refused : (k : ℕ) {n : ℕ} → made k ≡ refused_address n → n ≡ 0 → ⊥
unfolding made
made-refused k {n} e z = go (eqb k 0) refl e
  where
    go : (t : Bool) → eqb k 0 ≡ t → (if t then refused_address 9 else valid_address k) ≡ refused_address n → ⊥
    go true q f = omega (arith, ap (λ (x : AddressAnswer). x.refusal) f)
    go false q f = eqb-false k 0 q (ap (λ (x : AddressAnswer). x.address) f)

pub one-made : (k : ℕ) (r s : Result Address Refusal) → made_answer r ≡ made k → made_answer s ≡ made k → r ≡ s
one-made k r s e f =
    one-answer made_answer (λ x. x.refusal) (λ x. record { number = x.address }) (λ a. refl) (λ a. refl) (λ x. refl) r s (e ∙ sym f)
