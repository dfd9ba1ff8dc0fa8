-- `journal::among` meets its contract: a part at a time, the number stands in the first of those left or behind it.
use Rattle.std.proofs.Common.{◌≡◌, ◌||◌, Bool, true, false, sym, ap, ◌∙◌, rules}
use Rattle.std.proofs.lemmas.List.{nil_from_length}
use Rattle.std.specs.Slice.Iter.{chunks_rest}
use Rattle.journal.specs.Replay.{among}
use Rattle.journal.proofs.AmongLaws.{among_append}
use Rattle.journal.proofs.among.Goals as goal

pub returns-then-among_all : goal.returns-then-among_all
returns-then-among_all c =
    let a = c.args.number in
    let behind = among a (chunks_rest c.next.new.self) in
    let found : among a c.in-Some.part.now ≡ true = sym c.among_all.ensures ∙ c.if-among_all.true in
    sym (sym c.loop-part.invariant.3 ∙ ap (among a) c.in-Some.ensures.steps.1.0 ∙ among_append a _ _ ∙ ap (λ (b : Bool). b || behind) found)

pub loop-part-preserved : goal.loop-part-preserved
loop-part-preserved c =
    let a = c.args.number in
    let behind = among a (chunks_rest c.next.new.self) in
    let not_found : among a c.in-Some.part.now ≡ false = sym c.among_all.ensures ∙ c.if-among_all.false in
    let rest = ap (among a) c.in-Some.ensures.steps.1.0 ∙ among_append a _ _ ∙ ap (λ (b : Bool). b || behind) not_found in
    (search rules, tt, c.in-Some.ensures.steps.0 ∙ c.loop-part.invariant.2, sym rest ∙ c.loop-part.invariant.3)

pub returns : goal.returns
unfolding among
returns c =
    let none = nil_from_length _ c.in-None.ensures.steps.1.0 in
    sym (ap (among c.args.number) none) ∙ c.loop-part.invariant.3
