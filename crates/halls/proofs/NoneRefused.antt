-- Where no item's request of a plan is answered 3, none is refused at all: a refused one has no address, and where none is answered 3 none is
-- missing. So the replies give all the addresses. Assumes nothing.
use Prim.Native.Nat.{ℕ}
use mathlib.Core.Path.{◌≡◌, refl, sym, ap}
use mathlib.Core.List.Memᴰ.{head as first}
use mathlib.Core.List.Memᴰ.{tail as later}
use mathlib.Core.List.{List, [], ◌∷◌, map, Memᴰ}
use native.Mathlib.Decide.{ℕ_discrete}
use Rattle.address.specs.Bits.{root}
use Rattle.node.specs.Node.{fresh}
use Rattle.node.specs.Node.{Given}
use Rattle.tree.specs.Tree.{given_by}
use Rattle.plan.specs.Grammar.{Items}
use Rattle.plan.specs.Hall.{child_in, answers, SomeTooLong}
use Rattle.plan.proofs.Answers.{IsAnswer, answer-asked, refused-zero}
use Rattle.plan.proofs.Inner.{inner-root}
use Rattle.plan.proofs.TooLong.{missing-refused}
use Rattle.halls.specs.Halls.{reply_of}

done : (g : Given) → IsAnswer g → (child_in g ≡ 0 → ⊥) → g.refusal ≡ 0
done g is some = go (ℕ_discrete g.refusal 0)
  where
    go : Dec (g.refusal ≡ 0) → g.refusal ≡ 0
    go (yes z) = z
    go (no refused) = absurd (some (refused-zero g is refused))

given_by-done : (gs : List Given) → ((g : Given) → Memᴰ g gs → IsAnswer g) → (Memᴰ 0 (map child_in gs) → ⊥)
    → given_by (map reply_of gs) ≡ map child_in gs
unfolding given_by reply_of
given_by-done [] are all = refl
given_by-done (g ∷ gs) are all =
    rw (done g (are g (first refl)) (λ z. all (first (sym z))))
    (ap (λ (l : List ℕ). child_in g ∷ l) (given_by-done gs (λ h i. are h (later i)) (λ i. all (later i))))

pub given_by-answers : (plan : Items) → (SomeTooLong plan → ⊥)
    → given_by (map reply_of (answers (fresh root) plan)) ≡ map child_in (answers (fresh root) plan)
given_by-answers plan free =
    given_by-done (answers (fresh root) plan) (answer-asked plan (fresh root)) (λ m. free (missing-refused plan (fresh root) inner-root m))
