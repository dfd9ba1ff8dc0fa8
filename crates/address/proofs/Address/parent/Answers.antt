-- `Address::parent` meets its contract: half of the number without the ones at its end is the parent, and in place of 0 the root.
use mathlib.Core.Path.{sym, ◌∙◌}
use Prim.Native.Nat.{◌/◌}
use borrow.Author.Tests.{eq-eqb, ne_eqb}
use native.Mathlib.Omega.{arith}
use Rattle.address.proofs.Answers.{kept, parent-kept, parent-small}
use Rattle.address.proofs.Address.parent.Goals as goal

pub returns-then-self-le1 : goal.returns-then-self-le1
returns-then-self-le1 c = c.of.ensures ∙ sym (parent-small (omega arith))

pub returns-then-kept-eq0 : goal.returns-then-kept-eq0
returns-then-kept-eq0 c =
    sym (parent-kept (omega arith) (omega arith) ∙ rw (eq-eqb (kept (c.args.self.number / 2)) 0 c.if-kept-eq0.true))

pub returns : goal.returns
returns c =
    c.of-2.ensures
    ∙ sym (parent-kept (omega arith) (omega arith)
    ∙ rw (ne_eqb (kept (c.args.self.number / 2)) 0 c.if-kept-eq0.false))
