-- `octets::put` meets its contract. Assumes nothing.
use Rattle.std.proofs.Common.{ℕ, zero, suc, ◌≡◌, ◌≤◌, ◌<◌, ◌-◌, ◌/◌, ◌%◌, List, [], ◌∷◌, ◌++◌, length, drop, set, sym, ap, ap₂, ◌∙◌, append_assoc, arith}
use Rattle.std.proofs.Math.Nat.{lt-suc_self}
use Rattle.std.proofs.Math.Seq.{drop-cons, drop-set-lt, get_or-set_same, lt-length-set}
use Rattle.octets.specs.Octets.{octets}
use Rattle.octets.proofs.put.Goals as goal

-- from a place that was written on
drop-set : (l : List ℕ) (i a : ℕ) → i < length l → drop i (set l i a) ≡ a ∷ drop (suc i) l
drop-set l i a h =
    drop-cons (set l i a) i 0 (lt-length-set l i a h) ∙ ap₂ (λ (x : ℕ) (r : List ℕ). x ∷ r) (get_or-set_same l i a 0 h) (drop-set-lt (suc i) l i a (lt-suc_self i))

-- one turn: the last octet of what is left goes to the place before i
turn : (all out : List ℕ) (i n : ℕ) → 0 < i → i ≤ length out → all ≡ octets i n ++ drop i out → all ≡ octets (i - 1) (n / 256) ++ drop (i - 1) (set out (i - 1) (n % 256))
unfolding octets
turn all out zero n some room e = absurd (omega arith)
turn all out (suc j) n some room e =
    let less : suc j - 1 ≡ j = omega arith in
    rw less
    (e
    ∙ append_assoc (octets j (n / 256)) (n % 256 ∷ []) (drop (suc j) out)
    ∙ ap (λ (l : List ℕ). octets j (n / 256) ++ l) (sym (drop-set out j (n % 256) room)))

pub loop-i-preserved : goal.loop-i-preserved
loop-i-preserved c =
    let loop = c.loop-i in turn _ loop.out loop.i loop.rest (omega arith) (omega arith) loop.invariant

pub returns : goal.returns
unfolding octets
returns c =
    let loop = c.loop-i in
    let done : loop.i ≡ 0 = omega arith in
    sym (loop.invariant ∙ ap (λ (i : ℕ). octets i loop.rest ++ drop i loop.out) done)
