-- What `read` promises, by its contract as the code states it, is `planning`. It asks nothing of its caller.
use Rattle.std.proofs.Common.{refl, sym, ap, ◌∙◌}
use mathlib.Core.Path.{◌≡◌, ap₂}
use mathlib.Core.List.{List}
use Prim.Native.Nat.{ℕ}
use contract.Lifetimes.{Lfts}
use Rattle.std.specs.Borrow.{Bor, MutBor}
use Rattle.std.specs.Prelude.{Result, Ok, Err, eqb, if◌then◌else◌}
use Rattle.plan.specs.declared.PlanRefusal.TheVariants.{TooMany, Grammar, TooLong, NoRoom}
use Rattle.plan.specs.Plan.{Planned, planned_answer, planning}
use Rattle.plan.specs.declared.PlanRefusal.{PlanRefusal}
use Rattle.plan.proofs.read.Reads as read-reads

pub read_promise : (κs : Lfts 2) (text : Bor (List ℕ)) (words last : MutBor (List ℕ)) (r : Result ℕ PlanRefusal)
    → read-reads.Learnt κs (text, (words, tt)) r (text, (last, tt))
    → record { answer = planned_answer r; words = last.now } ≡ planning text.now words.now
read_promise κs text words last r h = ap₂ (λ (p : Planned) (w : List ℕ). record { answer = p; words = w }) h.0 h.1

pub read-asks-nothing : (κs : Lfts 2) (text : Bor (List ℕ)) (words : MutBor (List ℕ)) → read-reads.Asked κs (text, (words, tt))
read-asks-nothing κs text words = tt

-- the answer that numbers are of
planned_of : Planned → Result ℕ PlanRefusal
planned_of p =
    if eqb p.refusal 0 then Ok p.nodes
    else if eqb p.refusal 14 then Err TooMany
    else if eqb p.refusal 13 then Err (Grammar p.place)
    else if eqb p.refusal 3 then Err TooLong
    else Err NoRoom

planned_back : (r : Result ℕ PlanRefusal) → planned_of (planned_answer r) ≡ r
unfolding planned_of
planned_back (Ok nodes) = refl
planned_back (Err TooMany) = refl
planned_back (Err (Grammar place)) = refl
planned_back (Err TooLong) = refl
planned_back (Err NoRoom) = refl

-- the numbers leave one answer
pub one-planned : (r s : Result ℕ PlanRefusal) → planned_answer r ≡ planned_answer s → r ≡ s
one-planned r s e = sym (planned_back r) ∙ ap planned_of e ∙ planned_back s
