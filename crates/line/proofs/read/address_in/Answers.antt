-- Each return is the case of the digits that its tests leave.
use Rattle.std.proofs.Common.{◌∙◌, arith}
use Rattle.line.proofs.Parsed.{found_none, found}
use Rattle.line.proofs.read.address_in.Goals as goal

pub returns-then-count-eq0 : goal.returns-then-count-eq0
returns-then-count-eq0 c = found_none c.args.text.now c.count_digits-count.ensures c.then-count-eq0.either

pub returns : goal.returns
returns c =
    let f = found c.args.text.now c.count_digits-count.ensures c.if-count-eq0.false c.if-count-gt-LONGEST.false (omega arith) in
    (f.0, c.of.ensures ∙ c.number_of.ensures ∙ f.1, f.2)
