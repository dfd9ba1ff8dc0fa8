-- A next-hop answer as a struct of plain numbers.
use Rattle.std.specs.Prelude.{ℕ, Result, Ok, Err}
use Rattle.forward.specs.declared.Hop.{Hop}
use Rattle.forward.specs.Forward.{Action, HopAnswer, deliver, to_parent, to_child, stop, refused_hop, hop_answer}
pub use Rattle.batch.specs.declared.PasaHop.{PasaHop}

-- the actions are numbered: 0 stopped, 1 delivered, 2 to the parent, 3 to the child
unfoldable pub action_number : Action → ℕ
action_number stop = 0
action_number deliver = 1
action_number to_parent = 2
action_number to_child = 3

unfoldable pub pasa_hop : HopAnswer → PasaHop
pasa_hop a = record { node = a.named; refusal = a.refusal; action = action_number a.action }

-- the numbers for each case of an answer whose refusal is any number, as an octet in C may be one that no paper has
abbrev pub numbered_answer : Result Hop ℕ → HopAnswer
numbered_answer (Ok h) = hop_answer (Ok h)
numbered_answer (Err k) = refused_hop k
