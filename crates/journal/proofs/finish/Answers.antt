-- `journal::finish` meets its contract: one exit for each way through the definition.
use Rattle.std.proofs.Common.{rules}
use Prim.Native.Nat.{ℕ}
use mathlib.Core.Path.{◌≡◌, sym, ap, ◌∙◌}
use Rattle.journal.specs.Recovery.{refuse_recovery}
use Rattle.journal.specs.Reader.{fault_by, progress_by}
use Rattle.journal.proofs.RecoverLaws.{cleared, recovery_says, finished-fault, finished-known}
use Rattle.journal.proofs.finish.Goals as goal

pub returns-in-Some : goal.returns-in-Some
unfolding refuse_recovery
returns-in-Some g c = λ number some.
    let at = c.args in
    let same : fault_by number at.end.refusal ≡ number c.in-Some.refusal = ap (fault_by number) c.in-Some.is in
    let says = recovery_says _ (finished-fault (progress_by number at.end) at.words.now (λ z. (rw c.in-Some.is at some) (sym same ∙ z))) in
    (ap (λ (n : ℕ). record { refusal = n; nodes = 0 }) (sym same) ∙ says.0, says.1)

pub returns : goal.returns
returns g c = λ number some.
    let at = c.args in
    let says = recovery_says _ (finished-known (progress_by number at.end) at.words.now (ap (fault_by number) c.in_default.is)) in
    (says.0, cleared at.words.now c.fill.new.self at.end.nodes c.min-rest.result c.min-rest.ensures (c.fill.ensures.after (search rules)) ∙ says.1)
