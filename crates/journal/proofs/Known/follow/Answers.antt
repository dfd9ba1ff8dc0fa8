-- `journal::Known::follow` meets its contract: before each turn the addresses so far are taken without a fault.
use mathlib.Core.Path.{◌≡◌, refl, ◌∙◌}
use Rattle.std.proofs.Common.{rules, tests, Err}
use Rattle.std.specs.Iterator.{AlwaysYields}
use Rattle.refusal.proofs.Numbers.{numbered}
use Rattle.journal.specs.Replay.{follow}
use Rattle.journal.specs.Recovery.{known_answer}
use Rattle.journal.proofs.FollowLaws.{follows-none, follows-turn, follows-stop, ahead, no_more}
use Rattle.journal.proofs.Known.follow.Goals as goal

pub loop-address-init : goal.loop-address-init
unfolding follow
loop-address-init g c = let at = c.args.self.now in (refl, follows-none at.nodes at.words.now at.few)

pub returns-in_err-take-clause-follows : goal.returns-in_err-take-clause-follows
returns-in_err-take-clause-follows g c xs road =
    let at = c.args.self.now in
    let loop = c.loop-address in
    let r = c.in_err-take.field-0.0 in
    let same : c.from_residual.result ≡ Err r = search (rules, tests) in
    let from = c.into_iter-address-iterator in
    let begun : AlwaysYields g.I.Iterator.next_gives (λ x. x) from.result xs = rw from.ensures.into_iter_gives road in
    let list = ahead g.I.Iterator.next_gives from.result xs begun loop.yielded loop.address-iterator c.next.new.self loop.yielded_by
    c.in-Some.address c.in-Some.ensures.steps in
    rw same
    (follows-stop loop.yielded c.in-Some.address at.nodes at.words.now loop.self.words.now c.take.new.self.words.now _
    (known_answer (Err r) c.take.new.self.nodes) refl loop.invariant.1 c.in_err-take.ensures.follows xs _ list (numbered.some r))

pub loop-address-preserved : goal.loop-address-preserved
loop-address-preserved g c =
    let at = c.args.self.now in
    let loop = c.loop-address in
    let took = c.in_ok-take.ensures in (
      took.same ∙ loop.invariant.0,
      follows-turn loop.yielded c.in-Some.address at.nodes at.words.now loop.self.words.now c.take.new.self.words.now _
          (record { refusal = 0; nodes = c.take.new.self.nodes }) refl loop.invariant.1 took.follows,
    )

pub returns-clause-follows : goal.returns-clause-follows
returns-clause-follows g c xs road =
    let loop = c.loop-address in
    let from = c.into_iter-address-iterator in
    let begun : AlwaysYields g.I.Iterator.next_gives (λ x. x) from.result xs = rw from.ensures.into_iter_gives road in
    let all = no_more g.I.Iterator.next_gives from.result xs begun loop.yielded loop.address-iterator c.next.new.self loop.yielded_by
    c.in-None.ensures.steps in
    rw all at loop.invariant.1
