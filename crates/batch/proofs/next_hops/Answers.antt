-- `next_hops` meets its contract: a place below the count is within each of the slices, and the answer stored there is the one for the destination
-- at that place. Assumes nothing.
use Rattle.std.proofs.Common.{◌≡◌, ℕ, ◌+◌, ◌<◌, List, map, length, min, get_or, set, sym, ap, ◌∙◌, arith}
use Rattle.std.proofs.lemmas.List.{get_or-take, length-take}
use Rattle.forward.specs.Forward.{next_hop}
use Rattle.batch.specs.Exported.{PasaHop, pasa_hop}
use Rattle.batch.specs.Batch.{hop_for, front, first_hops, next_hops}
use Rattle.batch.proofs.Front.{shortest_min, front-zero, front-next}
use Rattle.batch.proofs.next_hops.Goals as goal
use Rattle.batch.proofs.next_hops.Goals.{After-from-answer}

pub loop-i-init : goal.loop-i-init
loop-i-init c = record { nodes = sym (front-zero _ _); actions = sym (front-zero _ _); refusals = sym (front-zero _ _) }

-- the answer that is stored is the one for the destination at this place
stored : (c : After-from-answer) → c.from-answer.result ≡ hop_for c.args.node (get_or c.args.destinations.now c.loop-i.i 0)
unfolding hop_for
stored c =
    c.from-answer.ensures
    ∙ ap pasa_hop (c.next_hop.ensures ∙ ap (next_hop c.args.node) (c.of.ensures ∙ get_or-take _ c.args.destinations.now c.loop-i.i 0 (omega (arith, length-take {A = ℕ}))))

-- and so is what a slice holds with one of its numbers stored
one-more : (c : After-from-answer) (f : PasaHop → ℕ) (words₀ words : List ℕ) → c.loop-i.i < length words₀
    → words ≡ front c.loop-i.i (map (λ d. f (hop_for c.args.node d)) c.args.destinations.now) words₀
    → set words c.loop-i.i (f c.from-answer.result) ≡ front (c.loop-i.i + 1) (map (λ d. f (hop_for c.args.node d)) c.args.destinations.now) words₀
one-more c f words₀ words h e = rw (e, stored c) (front-next (λ d. f (hop_for c.args.node d)) c.loop-i.i c.args.destinations.now words₀ (omega (arith, length-take {A = ℕ})) h)

pub loop-i-preserved : goal.loop-i-preserved
loop-i-preserved c =
    let so_far = c.loop-i.invariant in
    record {
      nodes = one-more c (λ h. h.node) _ _ (omega (arith, length-take {A = ℕ})) so_far.nodes;
      actions = one-more c (λ h. h.action) _ _ (omega (arith, length-take {A = ℕ})) so_far.actions;
      refusals = one-more c (λ h. h.refusal) _ _ (omega (arith, length-take {A = ℕ})) so_far.refusals;
    }

pub returns : goal.returns
unfolding next_hops first_hops
returns c =
    let so_far = c.loop-i.invariant in
    let shortest = shortest_min c.args.destinations.now c.args.nodes.now c.args.actions.now c.args.refusals.now in
    let all : c.loop-i.i ≡ min (min (length c.args.destinations.now) (length c.args.nodes.now)) (min (length c.args.actions.now) (length c.args.refusals.now)) =
    omega (arith, length-take {A = ℕ}) in
    cc
