-- `journal::count_word` meets its contract: a word is no child, a host or a router.
use mathlib.Core.Path.{◌≡◌, sym, ◌∙◌}
use native.Mathlib.Omega.{arith}
use borrow.Author.Tests.{eqb-true, eqb-false, not-true, not-false}
use Rattle.address.specs.Address.{parent}
use Rattle.address.specs.declared.Kind.TheVariants.{Router, Host}
use Rattle.journal.proofs.CountingLaws.{children_other, children-host, children-router}
use Rattle.journal.proofs.count_word.Goals as goal

pub returns-then-ne : goal.returns-then-ne
returns-then-ne c =
    let at = c.args in
    let other : parent at.word.number ≡ at.node.number → ⊥ =
    λ e. eqb-false c.parent.result.number at.node.number (not-true _ (sym c.ne.ensures ∙ c.if-ne.true)) (c.parent.ensures ∙ e) in (
      omega (arith, children_other at.node.number at.word.number Router other),
      omega (arith, children_other at.node.number at.word.number Host other),
    )

pub returns-then-is_host : goal.returns-then-is_host
returns-then-is_host c =
    let at = c.args in
    let same : parent at.word.number ≡ at.node.number =
    sym c.parent.ensures ∙ eqb-true c.parent.result.number at.node.number (not-false _ (sym c.ne.ensures ∙ c.if-ne.false)) in
    let one = children-host at.node.number at.word.number same
    (sym c.is_host.ensures ∙ c.if-is_host.true) in
    (omega (arith, one.0), omega (arith, one.1, c.saturating_add.ensures))

pub returns : goal.returns
returns c =
    let at = c.args in
    let same : parent at.word.number ≡ at.node.number =
    sym c.parent.ensures ∙ eqb-true c.parent.result.number at.node.number (not-false _ (sym c.ne.ensures ∙ c.if-ne.false)) in
    let one = children-router at.node.number at.word.number same
    (sym c.is_host.ensures ∙ c.if-is_host.false) in
    (omega (arith, one.0, c.saturating_add-2.ensures), omega (arith, one.1))
