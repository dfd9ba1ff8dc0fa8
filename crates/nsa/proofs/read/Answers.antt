-- `nsa::read` meets its contract: each of the three calls answers the field that stands where the ones before it end. Assumes nothing.
use Rattle.std.proofs.Common.{rules, ap₂, ◌∙◌, ℕ, ◌+◌, arith}
use Rattle.nsa.specs.Fields.{found}
use Rattle.nsa.proofs.InRow.{length_ends, source_refused, source_ends, source_few, destination_refused, destination_few, row_found}
use Rattle.nsa.proofs.read.Goals as goal

pub slice_bounds-read_address-count : goal.slice_bounds-read_address-count
slice_bounds-read_address-count c = length_ends c.args.fields.now _ _ c.in_ok-length.ensures

pub slice_bounds-read_address-start : goal.slice_bounds-read_address-start
slice_bounds-read_address-start c = let h = length_ends c.args.fields.now _ _ c.in_ok-length.ensures in omega arith

pub returns-in_err-source-clause-answer : goal.returns-in_err-source-clause-answer
returns-in_err-source-clause-answer c = search (rules, source_refused c.args.fields.now _ _ c.in_ok-length.ensures)

pub overflow_add-destination_at : goal.overflow_add-destination_at
overflow_add-destination_at c = let h = source_few c.args.fields.now _ _ c.in_ok-length.ensures _ _ c.in_ok-source.ensures in omega arith

pub slice_bounds-read_address-count-2 : goal.slice_bounds-read_address-count-2
slice_bounds-read_address-count-2 c = source_ends c.args.fields.now _ _ c.in_ok-length.ensures _ _ c.in_ok-source.ensures

pub slice_bounds-read_address-start-2 : goal.slice_bounds-read_address-start-2
slice_bounds-read_address-start-2 c = let h = source_ends c.args.fields.now _ _ c.in_ok-length.ensures _ _ c.in_ok-source.ensures in omega arith

pub returns-in_err-destination-clause-answer : goal.returns-in_err-destination-clause-answer
returns-in_err-destination-clause-answer c = search (rules, destination_refused c.args.fields.now _ _ c.in_ok-length.ensures _ _ c.in_ok-source.ensures)

pub overflow_add-result : goal.overflow_add-result
overflow_add-result c = let h = destination_few c.args.fields.now _ _ c.in_ok-length.ensures _ _ c.in_ok-source.ensures _ _ c.in_ok-destination.ensures in omega arith

pub returns-clause-answer : goal.returns-clause-answer
returns-clause-answer c =
    let l = c.in_ok-length.length in
    let s = c.in_ok-source.source in
    let d = c.in_ok-destination.destination in
    ap₂ (λ (x y : ℕ). found l.number x y (l.size + s.size + d.size)) c.of.ensures c.of-2.ensures
    ∙ row_found c.args.fields.now _ _ c.in_ok-length.ensures _ _ c.in_ok-source.ensures _ _ c.in_ok-destination.ensures
