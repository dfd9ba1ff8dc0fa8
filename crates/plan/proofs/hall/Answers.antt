-- `plan::hall` meets its contract: each exit is one law of the whole text, by what has been read up to the ")" of the root's group.
use Rattle.std.proofs.Common.{arith}
use Rattle.std.proofs.lemmas.Result.{err_from_is_err_and}
use Rattle.plan.proofs.Openings.{matched-le}
use Rattle.plan.proofs.HallLaws.{hall_unopened, hall-stopped, hall-surplus, hall-whole}
use Rattle.plan.proofs.hall.Goals as goal

pub returns-in_err-open-clause-fault : goal.returns-in_err-open-clause-fault
returns-in_err-open-clause-fault c =
    let fault = c.in_err-open.ensures.fault in let p = err_from_is_err_and c.from_residual.result c.from_residual.ensures.1 in rw (p.1, p.2) (hall_unopened c.args.text.now fault.0 fault.1)

pub group-requires : goal.group-requires
group-requires c =
    let both = c.in_ok-open.ensures.both in
    (omega (arith, both.0, both.1, (matched-le c.args.text.now).0), omega (arith, both.0), omega arith)

pub returns-in_err-end-clause-fault : goal.returns-in_err-end-clause-fault
returns-in_err-end-clause-fault c =
    let both = c.in_ok-open.ensures.both in
    let p = err_from_is_err_and c.from_residual-in_err-end.result c.from_residual-in_err-end.ensures.1 in
    rw (p.1, p.2) (hall-stopped c.args.text.now c.args.words.now c.put.new.words both.0 both.1 c.put.ensures c.fresh.ensures c.in_err-end.ensures.fault)

pub returns-then-end-text-clause-fault : goal.returns-then-end-text-clause-fault
returns-then-end-text-clause-fault c =
    let both = c.in_ok-open.ensures.both in
    hall-surplus c.args.text.now c.args.words.now c.put.new.words both.0 both.1 c.put.ensures c.fresh.ensures c.in_ok-end.ensures.read c.if-end-text.true

pub returns-clause-read : goal.returns-clause-read
returns-clause-read c =
    let both = c.in_ok-open.ensures.both in
    hall-whole c.args.text.now c.args.words.now c.put.new.words both.0 both.1 c.put.ensures c.fresh.ensures c.in_ok-end.ensures.read (omega (arith, c.if-end-text.false))
