-- What `path` promises, by its contract as the code states it, is `listing`: the path of specs/Path.antt, and its hops; what `hops` promises is the
-- hops of that path. Neither asks anything of its caller.
use mathlib.Core.Path.{◌≡◌, refl, ap₂}
use mathlib.Core.List.{List}
use Prim.Native.Nat.{ℕ}
use contract.Lifetimes.{Lfts}
use Rattle.std.specs.Borrow.{MutBor}
use Rattle.address.specs.declared.Address.{Address}
use Rattle.std.specs.Prelude.{Result}
use Rattle.refusal.specs.declared.Refusal.{Refusal}
use Rattle.refusal.proofs.Outcomes.{one-answer}
use Rattle.route.specs.Path.{Listed, listed_answer, path, hops, listing}
use Rattle.route.proofs.path.Reads as path-reads
use Rattle.route.proofs.hops.Reads as hops-reads

pub path_promise : (κs : Lfts 1) (first second : Address) (words last : MutBor (List ℕ)) (r : Result ℕ Refusal)
    → path-reads.Learnt κs (first, (second, (words, tt))) r (first, (second, (last, tt)))
    → record { answer = listed_answer r; words = last.now } ≡ listing first.number second.number words.now
path_promise κs first second words last r h = ap₂ (λ (l : Listed) (w : List ℕ). record { answer = l; words = w }) h.0 h.1

pub path-asks-nothing : (κs : Lfts 1) (first second : Address) (words : MutBor (List ℕ)) → path-reads.Asked κs (first, (second, (words, tt)))
path-asks-nothing κs first second words = tt

pub hops_promise : (first second : Address) (r : ℕ) → hops-reads.Learnt tt (first, (second, tt)) r (first, (second, tt))
    → r ≡ hops (path first.number second.number)
hops_promise first second r h = h

pub hops-asks-nothing : (first second : Address) → hops-reads.Asked tt (first, (second, tt))
hops-asks-nothing first second = tt

-- the numbers of an answer leave one case of it
pub one-listed : (r s : Result ℕ Refusal) → listed_answer r ≡ listed_answer s → r ≡ s
one-listed = one-answer listed_answer (λ l. l.refusal) (λ l. l.hops) (λ k. refl) (λ k. refl) (λ x. refl)
