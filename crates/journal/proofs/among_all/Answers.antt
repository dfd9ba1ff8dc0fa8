-- `journal::among_all` meets its contract: what is found is what stands among those looked at.
use Rattle.std.proofs.Common.{◌≡◌, ◌||◌, false, eqb, refl, sym, ap, ◌∙◌, rules, tests}
use Rattle.std.proofs.lemmas.Fn.{fold_over, fronts}
use Rattle.std.proofs.lemmas.Iterator.{YieldsList-from_slice}
use Rattle.journal.specs.Replay.{among}
use Rattle.journal.proofs.AmongLaws.{among_snoc}
use Rattle.journal.proofs.among_all.Goals as goal

pub returns : goal.returns
unfolding among
returns c =
    let a = c.args.number in
    let list = c.args.list.now in
    fold_over fronts (λ y. y.now) _ (λ ys found. found ≡ among a ys) _
    (λ ys found x b f j k.
    let one : b ≡ (found || eqb x.now a) = search (rules, tests) in
    (one ∙ ap (λ found. found || eqb x.now a) j ∙ sym (among_snoc a ys x.now), search (rules, tests)))
    c.iter.result list false c.fold.result (YieldsList-from_slice list cc).runs refl c.fold.ensures.ran
