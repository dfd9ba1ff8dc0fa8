-- `plan::group` and `plan::item`, which call each other, meet their contracts: each goal is one law of Parts or ItemLaws.
use Rattle.std.proofs.Common.{arith, ◌≡◌, ℕ, [], ◌∷◌, get_or, drop, length-drop, sym, ap, ◌∙◌}
use Rattle.std.proofs.lemmas.Result.{err_from_is_err_and}
use Rattle.node.specs.Node.{given_answer}
use Rattle.plan.specs.Grammar.{closing}
use Rattle.plan.specs.Progress.{Progress}
use Rattle.plan.proofs.Openings.{matched-le}
use Rattle.plan.proofs.Missing.{missing-le}
use Rattle.plan.proofs.Parts.{part_none, part_then, part_stops}
use Rattle.plan.proofs.ItemLaws.{item-full, item_unopened, item-router, item-router-stops, group_closed, group_unclosed}
use Rattle.plan.proofs.+group_item.Goals as goal

-- ---- the group

pub group-loop-byte-init : goal.group-loop-byte-init
group-loop-byte-init t c = record { part = part_none c.requires.0; nodes = c.requires.1; missing = c.requires.2 }

pub group-returns-then-byte-eq41-clause-read : goal.group-returns-then-byte-eq41-clause-read
group-returns-then-byte-eq41-clause-read t c =
    let found = c.in-Some.ensures.lookup in
    let closes : get_or c.args.text.now c.loop-byte.at.place 0 ≡ closing = grind arith in
    group_closed c.loop-byte.invariant.part (omega (arith, found)) closes

pub group-returns-in_err-read-clause-fault : goal.group-returns-in_err-read-clause-fault
group-returns-in_err-read-clause-fault t c = let p = err_from_is_err_and c.from_residual.result c.from_residual.ensures.1 in rw (p.1, p.2) (part_stops c.loop-byte.invariant.part c.in_err-read.ensures.fault)

pub group-loop-byte-preserved : goal.group-loop-byte-preserved
group-loop-byte-preserved t c =
    let kept = c.loop-byte.invariant in
    let part = c.in_ok-read.ensures.read.0 in
    record {
      part = part_then kept.part part;
      nodes = omega (arith, part.nodes, part.forth, kept.nodes);
      missing = omega (arith, part.nodes, part.missed, missing-le part.given, kept.missing);
    }

pub group-returns-clause-fault : goal.group-returns-clause-fault
group-returns-clause-fault t c =
    let ended = c.in_default.ensures.lookup in
    group_unclosed c.loop-byte.invariant.part (omega (arith, ended))

-- ---- the item

-- hosts, of which the first stands at the place, and none behind the last
pub item-returns-then-text-place-eq72-clause-read : goal.item-returns-then-text-place-eq72-clause-read
item-returns-then-text-place-eq72-clause-read t c =
    let part = c.hosts.ensures.read c.args.allowed in
    let moved : c.args.from.place ≡ c.hosts.result.progress.place → ⊥ = λ e.
    c.hosts.ensures.all (ap (λ (k : ℕ). get_or c.args.text.now k 0) (sym e) ∙ c.if-text-place-eq72.true) in
    (part, omega (arith, part.forth, moved))

-- no group more is allowed
pub item-returns-then-allowed-eq0-clause-fault : goal.item-returns-then-allowed-eq0-clause-fault
item-returns-then-allowed-eq0-clause-fault t c =
    item-full c.args.text.now c.args.from.place c.args.node c.requires.0 c.requires.1 c.if-text-place-eq72.false c.if-allowed-eq0.true

-- no "R("
pub item-returns-in_err-open-clause-fault : goal.item-returns-in_err-open-clause-fault
item-returns-in_err-open-clause-fault t c =
    let fault = c.in_err-open.ensures.fault in
    let p = err_from_is_err_and c.from_residual.result c.from_residual.ensures.1 in rw (p.1, p.2)
    (item_unopened c.args.text.now c.args.from.place c.args.node c.requires.0 c.requires.1 c.if-text-place-eq72.false
    (omega (arith, c.if-allowed-eq0.false)) fault.0 fault.1)

-- a router with its group
pub item-group-requires : goal.item-group-requires
item-group-requires t c =
    let counted = c.named-inner.ensures in
    let both = c.in_ok-open.ensures.both in
    let place = ap (λ (x : Progress). x.place) counted in
    let nodes = ap (λ (x : Progress). x.nodes) counted in
    let missed = ap (λ (x : Progress). x.missing) counted in
    let at = c.args.from.place in
    let text = c.args.text.now in (
      omega (arith, c.decreases, c.if-allowed-eq0.false),
      (
        omega (arith, place, both.0, both.1, (matched-le (drop at text)).0, length-drop at text, c.requires.0),
        omega (arith, place, nodes, both.0, c.requires.2),
        omega (arith, missed, nodes, missing-le (c.address_of-router.result.number ∷ []), c.requires.3),
      ),
    )

pub item-returns-in_err-progress-clause-fault : goal.item-returns-in_err-progress-clause-fault
item-returns-in_err-progress-clause-fault t c =
    let both = c.in_ok-open.ensures.both in
    let p = err_from_is_err_and c.from_residual-in_err-progress.result c.from_residual-in_err-progress.ensures.1 in rw (p.1, p.2)
    (item-router-stops c.args.text.now c.args.words.now c.put.new.words c.args.from c.named-inner.result c.args.node c.requires.0 c.requires.1
    c.if-text-place-eq72.false c.in_ok-open.open both.0 both.1 (given_answer c.child-given.result) c.child-given.ensures c.address_of-router.ensures c.put.ensures
    c.named-inner.ensures c.fresh.ensures (omega (arith, c.if-allowed-eq0.false)) c.in_err-progress.ensures.fault)

pub item-returns-clause-read : goal.item-returns-clause-read
item-returns-clause-read t c =
    let both = c.in_ok-open.ensures.both in
    let part = c.in_ok-progress.ensures.read in (
      item-router c.args.text.now c.args.words.now c.put.new.words c.args.from c.named-inner.result c.args.node c.requires.0 c.requires.1
          c.if-text-place-eq72.false c.in_ok-open.open both.0 both.1 (given_answer c.child-given.result) c.child-given.ensures c.address_of-router.ensures c.put.ensures
          c.named-inner.ensures c.fresh.ensures (omega (arith, c.if-allowed-eq0.false)) part,
      omega (arith, part.forth, ap (λ (x : Progress). x.place) c.named-inner.ensures, both.0),
    )
