-- Each return is the case of the input that its tests leave.
use Rattle.std.proofs.Common.{sym, ap₂, ◌∙◌}
use Rattle.line.specs.Line.{between}
use Rattle.line.proofs.Parsed.{parsed-first, parsed_unspaced, parsed_no_second, parsed_unended, parsed-both}
use Rattle.line.proofs.read.read_line.Goals as goal

pub returns-in_err-first : goal.returns-in_err-first
returns-in_err-first c = rw c.from_residual.ensures (parsed-first c.args.input.now c.in_err-first.ensures)

pub returns-in_err-strip_prefix : goal.returns-in_err-strip_prefix
returns-in_err-strip_prefix c =
    rw c.from_residual-in_err-strip_prefix.ensures (parsed_unspaced c.args.input.now c.in_ok-first.ensures.2 c.in_err-strip_prefix.ensures.cases)

pub returns-in_err-second : goal.returns-in_err-second
returns-in_err-second c =
    let space = c.in_ok-strip_prefix.ensures.cases in
    rw c.from_residual-in_err-second.ensures (parsed_no_second c.args.input.now c.in_ok-first.ensures.2 space.0 space.1 c.in_err-second.ensures)

pub returns-then-ne : goal.returns-then-ne
returns-then-ne c =
    let space = c.in_ok-strip_prefix.ensures.cases in
    parsed_unended c.args.input.now c.in_ok-first.ensures.2 space.0 space.1 c.in_ok-second.ensures.2 (rw c.as_slice.ensures at c.if-ne.ensures)

pub returns : goal.returns
returns c =
    let space = c.in_ok-strip_prefix.ensures.cases in
    let first = c.in_ok-first.ensures in
    let second = c.in_ok-second.ensures in
    parsed-both c.args.input.now first.2 space.0 space.1 second.2 (rw c.as_slice.ensures at c.if-ne.ensures) first.0 second.0
    ∙ sym (ap₂ between first.1 second.1)
