-- `journal::replay` meets its contract: before each turn the state is one on the way, and as many slots more as are left come to the whole.
use Prim.Native.Nat.{◌≤◌}
use mathlib.Core.Path.{◌≡◌, ap}
use native.Mathlib.Omega.{arith}
use borrow.Author.Tests.{not-true, not-false}
use lib.ListN.{length, set, length-set}
use Rattle.journal.specs.Limits.{most_nodes}
use Rattle.journal.specs.Reader.{Progress, progress_answer, State, begin}
use Rattle.journal.proofs.RunLaws.{stepped, turning-turn, turning-falls, turning-end}
use Rattle.journal.proofs.replay.Goals as goal

pub loop-at-smaller : goal.loop-at-smaller
loop-at-smaller c =
    let start = c.args in
    let loop = c.loop-at in
    let state : State = record { progress = progress_answer loop.at; words = loop.words } in
    let room : most_nodes ≤ length (set start.words.now 0 1) = omega (arith, length-set start.words.now 0 1) in
    let going = not-true _ c.loop-at-test.true in
    let next : c.take_slot-at.result.slot ≡ (stepped start.journal.now state).progress.slot = ap (λ (p : Progress). p.slot) c.take_slot-at.ensures.0 in
    rw next (turning-falls start.journal.now _ room state loop.invariant going)

pub loop-at-preserved : goal.loop-at-preserved
loop-at-preserved c =
    let start = c.args in
    let loop = c.loop-at in
    let state : State = record { progress = progress_answer loop.at; words = loop.words } in
    let room : most_nodes ≤ length (set start.words.now 0 1) = omega (arith, length-set start.words.now 0 1) in
    let going = not-true _ c.loop-at-test.true in
    let taken = c.take_slot-at in
    rw (taken.ensures.0, taken.ensures.1) (turning-turn start.journal.now _ room state loop.invariant going)

pub returns : goal.returns
unfolding begin
returns c =
    let start = c.args in
    let loop = c.loop-at in
    let e = turning-end start.journal.now _ (record { progress = progress_answer loop.at; words = loop.words }) loop.invariant (not-false _ c.loop-at-test.false) in
    (ap (λ (s : State). s.progress) e, ap (λ (s : State). s.words) e)
