-- `journal::recover` meets its contract: each exit is one law of `recovering`, the second at the end of the run over the slots.
use Prim.Native.Nat.{ℕ}
use Rattle.std.proofs.Common.{rules, tests, Err}
use mathlib.Core.Path.{◌≡◌, sym, ap, ◌∙◌}
use lib.ListN.{length}
use Rattle.refusal.specs.Refusal.{number_of}
use Rattle.refusal.proofs.Numbers.{numbered}
use Rattle.journal.specs.Recovery.{RecoverEffect, recovered_answer, unfit, refuse_recovery}
use Rattle.journal.specs.Reader.{progress_answer}
use Rattle.journal.proofs.RecoverLaws.{is_length-some, unfit-none, recovery_says, recovering-unfit, recovering-run, fault-numbered}
use Rattle.journal.proofs.recover.Goals as goal

pub returns-in_err-unfit : goal.returns-in_err-unfit
unfolding refuse_recovery
returns-in_err-unfit c =
    let at = c.args in
    let r = c.in_err-unfit.field-0.0 in
    let same : c.from_residual.result ≡ Err r = search (rules, tests) in
    let wrong : number_of r ≡ unfit (length at.journal.now) (length at.words.now) = c.in_err-unfit.ensures in
    let says = recovery_says _ (recovering-unfit at.journal.now at.words.now (λ z. numbered.some r (wrong ∙ z))) in
    (ap recovered_answer same ∙ ap (λ (n : ℕ). record { refusal = n; nodes = 0 }) wrong ∙ says.0, says.1)

pub replay-end-requires : goal.replay-end-requires
replay-end-requires c =
    let at = c.args in
    let fit = unfit-none _ _ (sym c.in_ok-unfit.ensures) in
    (is_length-some (length at.journal.now) fit.0, fit.1)

pub returns : goal.returns
returns c =
    let at = c.args in
    let replayed = c.replay-end in
    let finished = c.finish.ensures number_of (fault-numbered replayed.result.refusal) in
    let e =
    recovering-run at.journal.now at.words.now (sym c.in_ok-unfit.ensures) (progress_answer replayed.result) replayed.new.words replayed.ensures in
    (finished.0 ∙ ap (λ (x : RecoverEffect). x.answer) (sym e), finished.1 ∙ ap (λ (x : RecoverEffect). x.words) (sym e))
