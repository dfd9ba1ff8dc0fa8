-- `journal::Known::enter` meets its contract: each exit is a way through the tests of `not_erased`.
use mathlib.Core.Path.{sym, ◌∙◌}
use native.Mathlib.Omega.{arith}
use lib.ListN.{take}
use Rattle.block.proofs.Laws.{is_block-count}
use Rattle.journal.proofs.FollowLaws.{follows-fault, follows-none, follows_same}
use Rattle.journal.proofs.SlotLaws.{not_erased-gap, not_erased-torn, not_erased_wrong, not_erased-block}
use Rattle.journal.proofs.Known.enter.Goals as goal

pub returns-then-gap-clause-follows : goal.returns-then-gap-clause-follows
returns-then-gap-clause-follows c =
    let at = c.args.self.now in
    let slot = c.args.slot.now in
    let e = not_erased-gap (take at.nodes at.words.now) slot c.args.gap c.if-gap.true in
    (follows-fault _ 16 at.nodes at.words.now e)

pub returns-then-slot-clause-follows : goal.returns-then-slot-clause-follows
returns-then-slot-clause-follows c =
    let at = c.args.self.now in
    let slot = c.args.slot.now in
    let e = not_erased-torn (take at.nodes at.words.now) slot c.args.gap c.if-gap.false c.if-slot.true in
    follows_same at.nodes at.words.now _ _ e (follows-none at.nodes at.words.now at.few)

pub returns-then-not-is_block-clause-follows : goal.returns-then-not-is_block-clause-follows
returns-then-not-is_block-clause-follows c =
    let at = c.args.self.now in
    let slot = c.args.slot.now in
    let wrong = sym c.is_block.ensures ∙ c.if-not-is_block.true in
    let e = not_erased_wrong (take at.nodes at.words.now) slot c.args.gap c.if-gap.false c.if-slot.false wrong in
    (follows-fault _ 16 at.nodes at.words.now e)

pub follow_slot-requires : goal.follow_slot-requires
follow_slot-requires c =
    let at = c.args.self.now in
    let slot = c.args.slot.now in
    let right = sym c.is_block.ensures ∙ c.if-not-is_block.false in
    (omega arith, is_block-count slot right)

pub returns-clause-follows : goal.returns-clause-follows
returns-clause-follows c =
    let at = c.args.self.now in
    let slot = c.args.slot.now in
    let right = sym c.is_block.ensures ∙ c.if-not-is_block.false in
    let e = not_erased-block (take at.nodes at.words.now) slot c.args.gap c.if-gap.false c.if-slot.false right in
    follows_same at.nodes at.words.now _ _ e c.follow_slot.ensures.follows
