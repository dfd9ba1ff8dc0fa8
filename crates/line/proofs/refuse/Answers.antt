-- The text is 11 octets long and goes to the front.
use Rattle.std.proofs.Common.{ap, ℕ, List, ◌++◌, length, drop, arith, lt-ltb, le-ltb}
use Rattle.octets.specs.Octets.{refuse_writing, wrote, write}
use Rattle.line.specs.Line.{refused_text}
use Rattle.line.proofs.refuse.Goals as goal

pub returns-then-out-lt11 : goal.returns-then-out-lt11
unfolding refuse_writing refused_text
returns-then-out-lt11 c = rw (lt-ltb (length c.args.out.now) 11 c.if-out-lt11.true)

pub returns : goal.returns
unfolding write refused_text
returns c =
    rw (le-ltb (length c.args.out.now) 11 (omega arith))
    (ap (λ (l : List ℕ). record { answer = wrote 11; buffer = l ++ drop 11 c.args.out.now }) c.copy_from_slice.ensures.after)
