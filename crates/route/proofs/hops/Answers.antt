-- The ways up and down are what the two addresses have more than their turning point, and zero has no steps.
use Rattle.std.proofs.Common.{◌≡◌, ℕ, zero, suc, ◌+◌, ◌<◌, ◌≤◌, ◌^◌, refl, arith}
use Rattle.address.specs.Bits.{longest, bits, bits_in}
use Rattle.address.specs.Steps.{steps, steps_of}
use Rattle.address.specs.Address.{depth}
use Rattle.address.proofs.Steps.{depth_range}
use Rattle.route.specs.Path.{path, hops}
use Rattle.route.proofs.Turning.{length-turn-first, length-turn-second}
use Rattle.route.proofs.PathLaws.{depth-steps, hops-depth}
use Rattle.route.proofs.hops.Goals as goal
use Rattle.route.proofs.hops.Goals.{After-count_ways-ways, in_default-via-in-Ok+in_default, in_default-via-in_default}

depth_zero : depth 0 ≡ 0
unfolding depth steps steps_of bits bits_in
depth_zero = refl

depth_most : (n : ℕ) → n < 2 ^ longest → depth n ≤ 63
depth_most zero h = omega (arith, depth_zero)
depth_most (suc n) h = depth_range.most (suc n) (record { some = omega arith; fits = h })

hops_from_zero : (d : ℕ) → depth 0 + depth d ≡ hops (path 0 d)
hops_from_zero d = omega (arith, hops-depth 0 d, length-turn-first (steps 0) (steps d), depth-steps 0, depth_zero)

hops_to_zero : (a : ℕ) → depth a + depth 0 ≡ hops (path a 0)
hops_to_zero a = omega (arith, hops-depth a 0, length-turn-second (steps a) (steps 0), depth-steps 0, depth_zero)

pub overflow_add-result : goal.overflow_add-result
overflow_add-result c =
    omega (arith, c.depth.ensures, c.depth-in_default.ensures, depth_most c.args.first.number (omega arith), depth_most c.args.second.number (omega arith))

pub overflow_cast-result : goal.overflow_cast-result
overflow_cast-result c =
    omega (arith, c.depth.ensures, c.depth-in_default.ensures, depth_most c.args.first.number (omega arith), depth_most c.args.second.number (omega arith))

pub returns-in_default : goal.returns-in_default
returns-in_default c =
    rw (c.depth.ensures, c.depth-in_default.ensures)
    (elim c.in_default.branch [
      | in_default-via-in-Ok+in_default w ↦
          let d : c.args.second.number ≡ 0 = w.in_default.ensures.0 in
          rw d (hops_to_zero c.args.first.number)
      | in_default-via-in_default w ↦
          let a : c.args.first.number ≡ 0 = (rw w.in_default.is-0 at c.new.ensures).0 in
          rw a (hops_from_zero c.args.second.number)
    ])

most : (c : After-count_ways-ways) → c.count_ways-ways.result.up + c.count_ways-ways.result.down ≤ 126
most c =
    let h = depth_most c.in-Ok-Ok.from.address.number (omega arith) in
    let l = depth_most c.in-Ok-Ok.to.address.number (omega arith) in
    omega (arith, h, l)

pub overflow_add-result-2 : goal.overflow_add-result-2
overflow_add-result-2 c = omega (arith, most (goal.at.overflow_add-result-2 c).After-count_ways-ways)

pub overflow_cast-result-2 : goal.overflow_cast-result-2
overflow_cast-result-2 c = omega (arith, most (goal.at.overflow_cast-result-2 c).After-count_ways-ways)

pub returns : goal.returns
returns c =
    let a : c.in-Ok-Ok.from.address.number ≡ c.args.first.number = rw c.in-Ok-Ok.is-0 at c.new.ensures in
    let d : c.in-Ok-Ok.to.address.number ≡ c.args.second.number = rw c.in-Ok-Ok.is-1 at c.new-2.ensures in
    rw (← a, ← d) (omega (arith, hops-depth c.in-Ok-Ok.from.address.number c.in-Ok-Ok.to.address.number))
