-- `block::all_are` meets its contract: the test of all is the test of each. Assumes nothing.
use Rattle.std.proofs.Common.{eqb, sym, ◌∙◌, rules, tests}
use Rattle.std.proofs.lemmas.Iterator.{YieldsList-from_slice}
use Rattle.std.proofs.lemmas.Iterator.Search.{all_from_yields_List}
use Rattle.block.proofs.Zeros.{all_are_by_all}
use Rattle.block.proofs.all_are.Goals as goal

pub returns : goal.returns
returns c =
    let byte = c.args.byte in
    let bytes = c.args.bytes.now in
    all_from_yields_List (λ b. eqb b byte) _ _ _ c.all.ensures.ran (YieldsList-from_slice bytes cc) (λ x b q k. search (rules, tests))
    ∙ sym (all_are_by_all byte bytes)
