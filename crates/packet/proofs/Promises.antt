-- What the next hop from a packet promises, by its contract as the code states it, is `packet_hop`. It asks nothing of its caller.
use mathlib.Core.Path.{◌≡◌}
use mathlib.Core.List.{List}
use Prim.Native.Nat.{ℕ}
use contract.Lifetimes.{Lfts}
use Rattle.std.specs.Borrow.{Bor}
use Rattle.node.specs.declared.Node.{Node}
use Rattle.std.specs.Prelude.{Result}
use Rattle.refusal.specs.declared.Refusal.{Refusal}
use Rattle.forward.specs.declared.Hop.{Hop}
use Rattle.forward.specs.Forward.{hop_answer}
use Rattle.packet.specs.Packet.{packet_hop}
use Rattle.packet.proofs.next_hop.Reads as next-hop-reads

pub next-hop_promise : (κs : Lfts 1) (n : Node) (packet : Bor (List ℕ)) (r : Result Hop Refusal)
    → next-hop-reads.Learnt κs (n, (packet, tt)) r (n, (packet, tt))
    → hop_answer r ≡ packet_hop n packet.now
next-hop_promise κs n packet r h = h

pub next-hop-asks-nothing : (κs : Lfts 1) (n : Node) (packet : Bor (List ℕ)) → next-hop-reads.Asked κs (n, (packet, tt))
next-hop-asks-nothing κs n packet = tt
