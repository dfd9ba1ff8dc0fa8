-- `journal::Known::take` meets its contract: each exit is one law of what is left.
use mathlib.Core.Path.{sym, ◌∙◌}
use lib.ListN.{take}
use lib.Seq.{length-take-le}
use native.Mathlib.Omega.{arith}
use Rattle.journal.proofs.ReplayLaws.{taken_other, taken-full}
use Rattle.journal.proofs.FollowLaws.{follows-fault, follows-taken}
use Rattle.journal.proofs.Known.take.Goals as goal

pub returns-then-not-has_next-clause-follows : goal.returns-then-not-has_next-clause-follows
returns-then-not-has_next-clause-follows c =
    let at = c.args.self.now in
    let other = sym c.has_next.ensures ∙ c.if-not-has_next.true in
    follows-fault _ 16 at.nodes at.words.now (taken_other (take at.nodes at.words.now) c.args.address other)

pub returns-then-self-ge-MOST_NODES-clause-follows : goal.returns-then-self-ge-MOST_NODES-clause-follows
returns-then-self-ge-MOST_NODES-clause-follows c =
    let at = c.args.self.now in
    let right = sym c.has_next.ensures ∙ c.if-not-has_next.false in
    let long = length-take-le at.nodes at.words.now (omega (arith, at.few, at.room)) in
    let full = taken-full (take at.nodes at.words.now) c.args.address right (omega (arith, long, c.if-self-ge-MOST_NODES.true)) in
    follows-fault _ 13 at.nodes at.words.now full

pub returns-clause-follows : goal.returns-clause-follows
returns-clause-follows c =
    let at = c.args.self.now in
    let right = sym c.has_next.ensures ∙ c.if-not-has_next.false in
    follows-taken c.args.address at.nodes at.words.now (omega (arith, c.if-self-ge-MOST_NODES.false)) at.room right
