-- The answers of a plan's items are those of requests: as many as the items, and one that refuses gives no address. Assumes nothing.
use Prim.Native.Nat.{suc, ◌+◌}
use mathlib.Core.Path.{◌≡◌, refl, ap, ap₂, ◌∙◌}
use mathlib.Core.Logic.{⊎_elim}
use mathlib.Core.List.Memᴰ
use mathlib.Core.List.{◌++◌, Memᴰ}
use lib.ListN.{length, length-append, length-map}
use Rattle.address.specs.Bits.{root}
use Rattle.address.specs.declared.Kind.{Kind}
use Rattle.address.specs.declared.Kind.TheVariants.{Router, Host}
use Rattle.node.specs.Node.{fresh, child_of}
use Rattle.node.specs.declared.Node.{Node}
use Rattle.node.specs.Node.{Given}
use Rattle.node.proofs.RefusalLaws.{child-refusals}
use Rattle.plan.specs.Grammar.{Items, none, host, router}
use Rattle.plan.specs.Hall.{child_in, answers, hall, items, nodes, refusal_of}

length-answers : (n : Node) (i : Items) → length (answers n i) ≡ items i
unfolding answers items
length-answers n none = refl
length-answers n (host i) = ap suc (length-answers (child_of n Host).node i)
length-answers n (router g i) =
    ap suc (length-append (answers (fresh (child_in (child_of n Router))) g) (answers (child_of n Router).node i)
    ∙ ap₂ ◌+◌ (length-answers (fresh (child_in (child_of n Router))) g) (length-answers (child_of n Router).node i))

pub length-hall : (plan : Items) → length (hall plan) ≡ nodes plan
unfolding hall nodes
length-hall plan = ap suc (length-map (answers (fresh root) plan) child_in ∙ length-answers (fresh root) plan)

-- what some node answers to some request
abbrev pub IsAnswer : Given → Type 0
IsAnswer given = (n : Node) × (kind : Kind) × (given ≡ child_of n kind)

pub answer-asked : (i : Items) (n : Node) (given : Given) → Memᴰ given (answers n i) → IsAnswer given
unfolding answers
answer-asked none n given m = absurd (Memᴰ.not-nil m)
answer-asked (host i) n given m = ⊎_elim (λ e. (n, Host, e)) (answer-asked i (child_of n Host).node given) (Memᴰ.cases_cons m)
answer-asked (router g i) n given m =
    let own = fresh (child_in (child_of n Router)) in
    let next = (child_of n Router).node in
    ⊎_elim (λ e. (n, Router, e))
    (λ (r : Memᴰ given (answers own g ++ answers next i)).
    ⊎_elim (answer-asked g own given) (answer-asked i next given) (Memᴰ.append_cases (answers own g) r))
    (Memᴰ.cases_cons m)

pub refused-zero : (given : Given) → IsAnswer given → (given.refusal ≡ 0 → ⊥) → child_in given ≡ 0
refused-zero given (n, kind, e) refused = ap child_in e ∙ (child-refusals.beside n kind (λ z. refused (ap refusal_of e ∙ z))).0
