-- An item is answered 3 exactly if its reply is 3 with the address 0: each answer is that of a request, so a refused one has the address 0, and
-- 3 is not the 1 of a node that nobody asked. Assumes nothing.
use Prim.Native.Nat.{ℕ}
use mathlib.Core.Path.{◌≡◌, sym}
use mathlib.Core.Logic.{◌↔◌}
use mathlib.Core.List.Memᴰ
use mathlib.Core.List.{map, Memᴰ}
use native.Mathlib.Decide.{ℕ_discrete}
use native.Mathlib.Omega.{arith}
use borrow.Author.Tests.{eq-eqb, ne_eqb}
use Rattle.node.specs.declared.Node.{Node}
use Rattle.node.specs.Node.{Given}
use Rattle.tree.specs.Tree.{replied, nobody}
use Rattle.plan.specs.Grammar.{Items}
use Rattle.plan.specs.Hall.{child_in, answers, refusal_of}
use Rattle.plan.proofs.Answers.{IsAnswer, answer-asked, refused-zero}
use Rattle.halls.specs.Halls.{reply_of}

-- a refused one as a reply
reply_of_three : (g : Given) → IsAnswer g → g.refusal ≡ 3 → reply_of g ≡ replied 3 0
unfolding reply_of
reply_of_three g is three = rw (ne_eqb g.refusal 1 (λ q. omega arith), three, refused-zero g is (λ q. omega arith))

three_reply_of : (g : Given) → reply_of g ≡ replied 3 0 → g.refusal ≡ 3
unfolding reply_of
three_reply_of g e = go (ℕ_discrete g.refusal 1)
  where
    go : Dec (g.refusal ≡ 1) → g.refusal ≡ 3
    go (yes one) = unfold reply_of in
        let f : nobody ≡ replied 3 0 = rw (eq-eqb g.refusal 1 one) at e in
        let z : ◌≡◌ {A = ℕ} 0 1 = cc in
        absurd (omega arith)
    go (no ne) = unfold reply_of in
        let f : replied g.refusal (child_in g) ≡ replied 3 0 = rw (ne_eqb g.refusal 1 ne) at e in
        cc

pub three_refused : (group : Items) (n : Node)
    → Memᴰ 3 (map refusal_of (answers n group)) ↔ Memᴰ (replied 3 0) (map reply_of (answers n group))
three_refused group n = (
  λ i.
      let (g, j, e) = Memᴰ.of_map refusal_of (answers n group) i in
      Memᴰ.cast (sym (reply_of_three g (answer-asked group n g j) e)) (Memᴰ.map reply_of j),
  λ i. let (g, j, e) = Memᴰ.of_map reply_of (answers n group) i in Memᴰ.cast (sym (three_reply_of g e)) (Memᴰ.map refusal_of j),
)
