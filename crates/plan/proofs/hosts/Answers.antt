-- `plan::hosts` meets its contract: a host behind those read.
use Rattle.std.proofs.Common.{arith, ◌≡◌, [], ◌∷◌, get_or, ap}
use Rattle.node.specs.Node.{given_answer}
use Rattle.plan.specs.Grammar.{letter_h}
use Rattle.plan.specs.Progress.{Progress}
use Rattle.plan.proofs.Missing.{missing-le}
use Rattle.plan.proofs.Parts.{part_none, part_then}
use Rattle.plan.proofs.ItemLaws.{item-host}
use Rattle.plan.proofs.hosts.Goals as goal

pub loop-given-init : goal.loop-given-init
loop-given-init c = record { part = λ allowed. part_none c.requires.0; nodes = c.requires.1; missing = c.requires.2 }

pub loop-given-preserved : goal.loop-given-preserved
loop-given-preserved c =
    let kept = c.loop-given.invariant in
    let found = c.in-Some-eq72.ensures.lookup in
    let letter : get_or c.args.text.now c.loop-given.at.place 0 ≡ letter_h = grind arith in
    let counted = c.named-at.ensures in
    let place = ap (λ (x : Progress). x.place) counted in
    let nodes = ap (λ (x : Progress). x.nodes) counted in
    let missed = ap (λ (x : Progress). x.missing) counted in
    let host = c.address_of-host.result.number in
    record {
      part = λ allowed. part_then (kept.part allowed) (
          item-host (omega (arith, found)) (given_answer c.child-given.result) letter c.child-given.ensures c.address_of-host.ensures c.put.ensures counted
          );
      nodes = omega (arith, place, nodes, kept.nodes);
      missing = omega (arith, nodes, missed, missing-le (host ∷ []), kept.missing);
    }
