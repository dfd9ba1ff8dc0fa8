-- The marks that are left by the shift are the zeros behind, and a host has one step more.
use Rattle.std.proofs.Common.{◌≡◌, ◌+◌, ◌*◌, ◌%◌, ◌^◌, drop, arith}
use Rattle.std.specs.Int.Count.{ones}
use Rattle.address.specs.Bits.{bits, longest}
use Rattle.route.specs.Counting.{zeros}
use Rattle.route.proofs.Zeros.{ones-marks}
use Rattle.route.proofs.Marked.steps_behind.Goals as goal
use Rattle.route.proofs.Marked.steps_behind.Goals.{After-is_host}

behind : (c : After-is_host)
    → ones (c.args.self.word * 2 ^ c.args.common % 2 ^ longest) ≡ zeros (drop (c.args.common + 1) (bits c.args.self.address.number))
behind c = rw c.args.self.marked (ones-marks (record { some = c.args.self.some; fits = omega arith }) c.args.common (omega arith))

pub returns-then-is_host : goal.returns-then-is_host
returns-then-is_host c = rw (behind (goal.at.returns-then-is_host c).After-is_host, ← c.is_host.ensures, c.if-is_host.true)

pub returns : goal.returns
returns c = rw (behind (goal.at.returns c).After-is_host, ← c.is_host.ensures, c.if-is_host.false) (omega arith)
