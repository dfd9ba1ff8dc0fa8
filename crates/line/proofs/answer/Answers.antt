-- By what the input asks for, the reply is the refusal's text or the path's.
use Rattle.std.proofs.Common.{sym, ◌∙◌}
use Rattle.line.proofs.Exact.{exactly_the_line}
use Rattle.line.proofs.Replies.{answering-unreadable, answering-between, answering-parts}
use Rattle.line.proofs.answer.Goals as goal

pub returns-in-None-clause-answer : goal.returns-in-None-clause-answer
returns-in-None-clause-answer c =
    (answering-parts c.args.input.now c.args.out.now (c.refuse.ensures ∙ sym (answering-unreadable c.args.input.now c.args.out.now c.in-None.ensures))).0

pub returns-in-None-clause-buffer : goal.returns-in-None-clause-buffer
returns-in-None-clause-buffer c =
    (answering-parts c.args.input.now c.args.out.now (c.refuse.ensures ∙ sym (answering-unreadable c.args.input.now c.args.out.now c.in-None.ensures))).1

pub report-requires-clause-first_some : goal.report-requires-clause-first_some
report-requires-clause-first_some c = (exactly_the_line.only _ _ _ c.in-Some.ensures).0.some

pub report-requires-clause-second_some : goal.report-requires-clause-second_some
report-requires-clause-second_some c = (exactly_the_line.only _ _ _ c.in-Some.ensures).1.some

pub returns-in-Some-clause-answer : goal.returns-in-Some-clause-answer
returns-in-Some-clause-answer c =
    (answering-parts c.args.input.now c.args.out.now (c.report.ensures ∙ sym (answering-between c.args.input.now c.args.out.now c.in-Some.ensures))).0

pub returns-in-Some-clause-buffer : goal.returns-in-Some-clause-buffer
returns-in-Some-clause-buffer c =
    (answering-parts c.args.input.now c.args.out.now (c.report.ensures ∙ sym (answering-between c.args.input.now c.args.out.now c.in-Some.ensures))).1
