-- `nsa::read_counted` meets its contract: a length of 5 to 8 gives the least number that takes so many octets. Assumes nothing.
use Rattle.std.proofs.Common.{◌≡◌, sym, ap, ◌∙◌, ℕ, ◌+◌, ◌-◌, ◌*◌, ◌%◌, ◌^◌, ◌≤◌, get_or, arith, lit<}
use native.Mathlib.Nat.{one-mul, pow-le-pow_right}
use lib.Pow.{shl_exact}
use Rattle.nsa.specs.Fields.{number_reading}
use Rattle.nsa.proofs.Cases.{counted_reading-right}
use Rattle.nsa.proofs.read_counted.Goals as goal

pub read_number-requires-clause-fits : goal.read_number-requires-clause-fits
read_number-requires-clause-fits c =
    let n = get_or c.args.field.now 1 0 in
    let few : n ≤ 8 = omega arith in
    let most : 256 ^ n ≤ 2 ^ 64 = pow-le-pow_right (lit< tt) few in
    omega arith

pub returns-in-5-to-8 : goal.returns-in-5-to-8
returns-in-5-to-8 c =
    let p = c.args.field.now in
    let k = 8 * (get_or p 1 0 - 1) in
    let short : 1 + k ≤ 64 = omega arith in
    let least : 1 * 2 ^ k % 2 ^ 64 ≡ 2 ^ k = shl_exact 1 k 64 (lit< tt) short ∙ one-mul (2 ^ k) in
    c.read_number.ensures
    ∙ ap (λ (n : ℕ). number_reading 2 (get_or p 1 0) n 0 p) least
    ∙ sym (counted_reading-right p (omega arith) (omega arith) (omega arith))
