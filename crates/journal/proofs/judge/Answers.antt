-- `journal::judge` meets its contract: each exit is one law of `judging`, at the end of the run over the slots.
use Prim.Native.Nat.{ℕ}
use mathlib.Core.Path.{◌≡◌, refl, sym, ap, ◌∙◌}
use Rattle.std.proofs.Common.{rules, tests, Ok, Err}
use Rattle.std.proofs.lemmas.Iterator.{YieldsList-from_slice}
use Rattle.std.proofs.lemmas.Iterator.Consumers.{YieldsList-at, YieldsList-from_copied}
use Rattle.std.proofs.Math.Seq.{take-length}
use native.Mathlib.Omega.{arith}
use lib.ListN.{length, replicate, length-replicate}
use Rattle.journal.specs.Limits.{most_nodes}
use Rattle.block.proofs.Cases.{is_count_true}
use Rattle.refusal.specs.Refusal.{number_of}
use Rattle.refusal.proofs.Numbers.{numbered}
use Rattle.journal.specs.Recovery.{known_answer}
use Rattle.journal.specs.Reader.{fault_answer, progress_answer}
use Rattle.journal.specs.Writing.{placed_answer, refuse_placing}
use Rattle.journal.proofs.FollowLaws.{runs}
use Rattle.journal.proofs.EndLaws.{ends_so}
use Rattle.journal.proofs.RecoverLaws.{is_length-some}
use Rattle.journal.proofs.JudgeLaws.{judging-fault, judging-addresses, judging-full, judging-placed}
use Rattle.journal.proofs.judge.Goals as goal

-- a part that ends where all of it does
ruleset wholes = (take-length)

pub replay-end-requires : goal.replay-end-requires
replay-end-requires c =
    let at = c.args in
    let right = sym c.is_length.ensures ∙ c.if-not-is_length.false in
    (is_length-some (length at.journal.now) right, omega arith)

pub returns-in-Some : goal.returns-in-Some
unfolding refuse_placing
returns-in-Some c =
    let at = c.args in
    let right = sym c.is_length.ensures ∙ c.if-not-is_length.false in
    let some = is_length-some (length at.journal.now) right in
    let replayed = c.replay-end in
    let end = ends_so at.journal.now (replicate most_nodes 0) (omega arith) some (progress_answer replayed.result) replayed.new.words replayed.ensures in
    let count = is_count_true (length at.addresses.now) (omega (arith, c.if-addresses-lt1.false), omega (arith, c.if-addresses-gt-MOST_ADDRESSES.false)) in
    let number : fault_answer replayed.result.refusal ≡ number_of c.in-Some.refusal = ap fault_answer c.in-Some.is in
    ap (λ (n : ℕ). record { refusal = n; slot = 0 }) (sym number)
    ∙ sym (judging-fault at.journal.now at.addresses.now right count (replicate most_nodes 0) _ end (λ z. numbered.some c.in-Some.refusal (sym number ∙ z)))

pub invariant_of-known : goal.invariant_of-known
invariant_of-known c =
    let at = c.args in
    let right = sym c.is_length.ensures ∙ c.if-not-is_length.false in
    let some = is_length-some (length at.journal.now) right in
    let replayed = c.replay-end in
    let end = ends_so at.journal.now (replicate most_nodes 0) (omega arith) some (progress_answer replayed.result) replayed.new.words replayed.ensures in
    record { few = end.few; room = omega (arith, end.same, length-replicate {A = ℕ} most_nodes 0) }

pub returns-in_err-follow : goal.returns-in_err-follow
unfolding refuse_placing
returns-in_err-follow c =
    let at = c.args in
    let right = sym c.is_length.ensures ∙ c.if-not-is_length.false in
    let some = is_length-some (length at.journal.now) right in
    let replayed = c.replay-end in
    let end = ends_so at.journal.now (replicate most_nodes 0) (omega arith) some (progress_answer replayed.result) replayed.new.words replayed.ensures in
    let count = is_count_true (length at.addresses.now) (omega (arith, c.if-addresses-lt1.false), omega (arith, c.if-addresses-gt-MOST_ADDRESSES.false)) in
    let r = c.in_err-follow.field-0.0 in
    let same : c.from_residual.result ≡ Err r = search (rules, tests) in
    let whole : fault_answer replayed.result.refusal ≡ 0 = ap fault_answer c.in_default.is in
    let road = YieldsList-from_copied (YieldsList-at c.copied.ensures.source (YieldsList-from_slice at.addresses.now (search (rules, wholes)))) in
    ap placed_answer same
    ∙ sym (judging-addresses at.journal.now at.addresses.now right count (replicate most_nodes 0) _ end whole _ _ (known_answer (Err r) c.follow.new.self.nodes)
    (c.in_err-follow.ensures.follows at.addresses.now (runs road)) (numbered.some r))

pub returns-then-journal-end : goal.returns-then-journal-end
unfolding refuse_placing
returns-then-journal-end c =
    let at = c.args in
    let right = sym c.is_length.ensures ∙ c.if-not-is_length.false in
    let some = is_length-some (length at.journal.now) right in
    let replayed = c.replay-end in
    let end = ends_so at.journal.now (replicate most_nodes 0) (omega arith) some (progress_answer replayed.result) replayed.new.words replayed.ensures in
    let count = is_count_true (length at.addresses.now) (omega (arith, c.if-addresses-lt1.false), omega (arith, c.if-addresses-gt-MOST_ADDRESSES.false)) in
    let whole : fault_answer replayed.result.refusal ≡ 0 = ap fault_answer c.in_default.is in
    let road = YieldsList-from_copied (YieldsList-at c.copied.ensures.source (YieldsList-from_slice at.addresses.now (search (rules, wholes)))) in
    sym (judging-full at.journal.now at.addresses.now right count (replicate most_nodes 0) _ end whole _ _ (known_answer (Ok c.in_ok-follow.field-0) c.follow.new.self.nodes)
    (c.in_ok-follow.ensures.follows at.addresses.now (runs road)) refl (omega (arith, c.if-journal-end.true)))

pub returns : goal.returns
returns c =
    let at = c.args in
    let right = sym c.is_length.ensures ∙ c.if-not-is_length.false in
    let some = is_length-some (length at.journal.now) right in
    let replayed = c.replay-end in
    let end = ends_so at.journal.now (replicate most_nodes 0) (omega arith) some (progress_answer replayed.result) replayed.new.words replayed.ensures in
    let count = is_count_true (length at.addresses.now) (omega (arith, c.if-addresses-lt1.false), omega (arith, c.if-addresses-gt-MOST_ADDRESSES.false)) in
    let whole : fault_answer replayed.result.refusal ≡ 0 = ap fault_answer c.in_default.is in
    let road = YieldsList-from_copied (YieldsList-at c.copied.ensures.source (YieldsList-from_slice at.addresses.now (search (rules, wholes)))) in
    sym (judging-placed at.journal.now at.addresses.now right count (replicate most_nodes 0) _ end whole _ _ (known_answer (Ok c.in_ok-follow.field-0) c.follow.new.self.nodes)
    (c.in_ok-follow.ensures.follows at.addresses.now (runs road)) refl (omega (arith, c.if-journal-end.false)))
