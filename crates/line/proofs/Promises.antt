-- What `answer` promises, by its contract as the code states it, is `answering`: the whole output of specs/Line.antt, where it fits. It asks
-- nothing of what it is handed.
use mathlib.Core.Path.{◌≡◌, ap₂}
use mathlib.Core.List.{List}
use Prim.Native.Nat.{ℕ}
use contract.Lifetimes.{Lfts}
use Rattle.std.specs.Borrow.{Bor, MutBor}
use Rattle.std.specs.Prelude.{Result}
use Rattle.refusal.specs.declared.Refusal.{Refusal}
use Rattle.octets.specs.Octets.{Written, written_answer}
use Rattle.line.specs.Line.{answering}
use Rattle.line.proofs.answer.Reads as answer-reads

pub answer_promise : (κs : Lfts 2) (input input_last : Bor (List ℕ)) (out last : MutBor (List ℕ)) (r : Result ℕ Refusal)
    → answer-reads.Learnt κs (input, (out, tt)) r (input_last, (last, tt))
    → record { answer = written_answer r; buffer = last.now } ≡ answering input.now out.now
answer_promise κs input input_last out last r h = ap₂ (λ (w : Written) (l : List ℕ). record { answer = w; buffer = l }) h.0 h.1

pub answer-asks-nothing : (κs : Lfts 2) (input : Bor (List ℕ)) (out : MutBor (List ℕ)) → answer-reads.Asked κs (input, (out, tt))
answer-asks-nothing κs input out = tt
