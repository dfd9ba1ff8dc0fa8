-- The common first bits are where the words' leading zeros say, or more of them are ones.
use Rattle.std.proofs.Common.{◌≡◌, ◌<◌, ℕ, length, sym, ap, ap₂, eqb-true, ◌∙◌, bit_or, arith}
use Rattle.std.proofs.lemmas.Bool.{eqb-false}
use Rattle.std.specs.Int.Bits.{bit_xor}
use Rattle.std.specs.Int.Count.{count_leading_zeros}
use Rattle.address.specs.Bits.{bits, longest}
use Rattle.address.specs.Steps.{steps}
use Rattle.address.specs.Numbers.{IsAddress}
use Rattle.route.specs.Counting.{steps_behind, marks}
use Rattle.route.proofs.Turning.{turn_self}
use Rattle.route.proofs.PathLaws.{depth-steps}
use Rattle.route.proofs.Common.{same, turn-behind, turn-behind_comm}
use Rattle.route.proofs.Zeros.{leading_marks, same_lt}
use Rattle.route.proofs.Marked.count_ways.Goals as goal
use Rattle.route.proofs.Marked.count_ways.Goals.{Start}

self-address : (c : Start) → IsAddress c.args.self.address.number
self-address c = record { some = c.args.self.some; fits = omega arith }

second-address : (c : Start) → IsAddress c.args.second.address.number
second-address c = record { some = c.args.second.some; fits = omega arith }

common : (c : Start)
    → count_leading_zeros longest (bit_or (bit_xor c.args.self.word c.args.second.word) 1)
    ≡ same (marks (bits c.args.self.address.number)) (marks (bits c.args.second.address.number))
common c =
    ap₂ (λ (m n : ℕ). count_leading_zeros longest (bit_or (bit_xor m n) 1)) c.args.self.marked c.args.second.marked
    ∙ leading_marks (self-address c) (second-address c)

short : (c : Start) → count_leading_zeros longest (bit_or (bit_xor c.args.self.word c.args.second.word) 1) < longest
short c = omega (arith, common c, same_lt (self-address c) (second-address c))

pub returns-then-eq-clause-up : goal.returns-then-eq-clause-up
returns-then-eq-clause-up c =
    let a = c.args.self.address.number in
    let e : a ≡ c.args.second.address.number = eqb-true _ _ (sym c.if-eq.ensures) in
    rw (← e) (omega (arith, ap length (turn_self (steps a)), depth-steps a))

pub returns-then-eq-clause-down : goal.returns-then-eq-clause-down
returns-then-eq-clause-down c =
    let a = c.args.self.address.number in
    let e : a ≡ c.args.second.address.number = eqb-true _ _ (sym c.if-eq.ensures) in
    rw (← e) (omega (arith, ap length (turn_self (steps a)), depth-steps a))

pub steps_behind-up-requires : goal.steps_behind-up-requires
steps_behind-up-requires c = omega (arith, short (goal.at.steps_behind-up-requires c).Start)

pub steps_behind-down-requires : goal.steps_behind-down-requires
steps_behind-down-requires c = omega (arith, short (goal.at.steps_behind-down-requires c).Start)

pub returns-clause-up : goal.returns-clause-up
returns-clause-up c =
    let at = (goal.at.returns-clause-up c).Start in
    let up = c.steps_behind-up.ensures ∙ ap (λ (n : ℕ). steps_behind n c.args.self.address.number) (common at) in
    omega (arith, up, turn-behind (self-address at) (second-address at) (eqb-false _ _ (sym c.if-eq.ensures)))

pub returns-clause-down : goal.returns-clause-down
returns-clause-down c =
    let at = (goal.at.returns-clause-down c).Start in
    let down = c.steps_behind-down.ensures ∙ ap (λ (n : ℕ). steps_behind n c.args.second.address.number) (common at) in
    omega (arith, down, turn-behind_comm (self-address at) (second-address at) (eqb-false _ _ (sym c.if-eq.ensures)))
