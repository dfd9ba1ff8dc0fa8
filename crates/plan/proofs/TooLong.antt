-- An address is missing exactly if a request is refused with 3: while none has been refused each group's node is an inner one, and such a node
-- refuses with 3 alone. Assumes nothing.
use Prim.Native.Nat.{ℕ, ◌<◌}
use mathlib.Core.Path.{◌≡◌, refl, sym}
use mathlib.Core.Logic.{◌↔◌, ⊎_elim}
use mathlib.Core.List.Memᴰ.{head as first}
use mathlib.Core.List.Memᴰ.{tail as later}
use mathlib.Core.List.{List, ◌∷◌, ◌++◌, map, map-append, Memᴰ}
use mathlib.Core.List.Memᴰ
use native.Mathlib.Omega.{arith}
use Rattle.address.specs.Bits.{root}
use Rattle.address.specs.declared.Kind.{Kind}
use Rattle.address.specs.declared.Kind.TheVariants.{Router, Host}
use Rattle.node.specs.Node.{fresh, child_of}
use Rattle.node.specs.declared.Node.{Node}
use Rattle.plan.specs.Grammar.{Items, none, host, router}
use Rattle.plan.specs.Hall.{child_in, answers, hall, refusal_of, SomeTooLong}
use Rattle.plan.specs.Plan.{missing}
use Rattle.plan.proofs.Missing.{missing_mem}
use Rattle.plan.proofs.Inner.{Inner, inner-root, inner-refusal, inner-next, given-address, inner-child}
use Rattle.plan.proofs.Answers.{answer-asked, refused-zero}

-- what is missing behind a request that is not refused
missing-behind : {n : Node} (kind : Kind) (inner : Inner n) (others : List ℕ) → (child_of n kind).refusal ≡ 0
    → Memᴰ 0 (child_in (child_of n kind) ∷ others) → Memᴰ 0 others
missing-behind kind inner others e m =
    ⊎_elim (λ z. absurd (omega (arith, (given-address kind inner e).some))) (λ r. r) (Memᴰ.cases_cons m)

pub missing-refused : (i : Items) (n : Node) → Inner n → Memᴰ 0 (map child_in (answers n i)) → Memᴰ 3 (map refusal_of (answers n i))
unfolding answers
missing-refused none n inner m = absurd (Memᴰ.not-nil m)
missing-refused (host i) n inner m =
    let next = (child_of n Host).node in
    ⊎_elim (λ e. first (sym e))
    (λ e. later (missing-refused i next (inner-next Host inner) (missing-behind Host inner (map child_in (answers next i)) e m)))
    (inner-refusal Host inner)
missing-refused (router g i) n inner m =
    let own = fresh (child_in (child_of n Router)) in
    let next = (child_of n Router).node in
    let in_group = answers own g in
    let others = answers next i in
    ⊎_elim (λ e. first (sym e))
    (λ e.
    later (rw (map-append refusal_of in_group others) (
    ⊎_elim (λ r. Memᴰ.append_left (map refusal_of others) (missing-refused g own (inner-child Router inner e refl) r))
    (λ r. Memᴰ.append_right (map refusal_of in_group) (missing-refused i next (inner-next Router inner) r))
    (Memᴰ.append_cases (map child_in in_group)
    (rw (map-append child_in in_group others) at (missing-behind Router inner (map child_in (in_group ++ others)) e m))))))
    (inner-refusal Router inner)

refused-missing : (i : Items) (n : Node) → Memᴰ 3 (map refusal_of (answers n i)) → Memᴰ 0 (map child_in (answers n i))
refused-missing i n m =
    let (given, is, e) = Memᴰ.of_map refusal_of (answers n i) m in
    Memᴰ.cast (sym (refused-zero given (answer-asked i n given is) (λ z. omega arith))) (Memᴰ.map child_in is)

pub too_long_lem : (plan : Items) → SomeTooLong plan ↔ (0 < missing (hall plan))
unfolding hall
too_long_lem plan = (
  λ m. (missing_mem (hall plan)).1 (later (refused-missing plan (fresh root) m)),
  λ h. ⊎_elim (λ z. absurd (omega arith)) (missing-refused plan (fresh root) inner-root) (Memᴰ.cases_cons ((missing_mem (hall plan)).0 h)),
)
