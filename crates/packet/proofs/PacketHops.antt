-- The next hop from a packet, case by case: a bad record, a refused reading, and the answer for the address read. Assumes nothing.
use mathlib.Core.Path.{◌≡◌, sym, ap, ◌∙◌}
use mathlib.Core.Bool.{true, false}
use mathlib.Core.List.{List}
use Prim.Native.Nat.{ℕ}
use borrow.Author.Tests.{eq-eqb, ne_eqb}
use Rattle.header.specs.Header.{HeaderAnswer, reading, found, refused_header}
use Rattle.header.proofs.Payload.{reading-refused}
use Rattle.node.specs.Node.{with_limits, is_good}
use Rattle.node.specs.declared.Node.{Node}
use Rattle.forward.specs.Forward.{refused_hop, next_hop}
use Rattle.forward.proofs.Rules.{next_hop-with_limits}
use Rattle.packet.specs.Packet.{packet_hop}

module _ (n : Node) (p : List ℕ) where
  pub packet_hop-bad : is_good n ≡ false → packet_hop n p ≡ refused_hop 1
  unfolding packet_hop
  packet_hop-bad g = rw g

  pub packet_hop-refused : is_good n ≡ true → {k : ℕ} → reading p ≡ refused_header k → packet_hop n p ≡ refused_hop k
  unfolding packet_hop
  packet_hop-refused g e =
      let number = ap (λ (x : HeaderAnswer). x.refusal) e in
      rw (g, ne_eqb (reading p).refusal 0 (λ z. reading-refused p e (sym number ∙ z))) (ap refused_hop number)

  pub packet_hop-found : is_good n ≡ true → {d k : ℕ} → reading p ≡ found d k → packet_hop n p ≡ next_hop n d
  unfolding packet_hop
  packet_hop-found g e =
      rw (g, eq-eqb (reading p).refusal 0 (ap (λ (x : HeaderAnswer). x.refusal) e)) (ap (λ (x : HeaderAnswer). next_hop n x.address) e)

-- a limit plays no part but in 1
pub packet_hop-with_limits : (n : Node) (routers hosts : ℕ) (p : List ℕ) → is_good n ≡ true → is_good (with_limits routers hosts n) ≡ true
    → packet_hop (with_limits routers hosts n) p ≡ packet_hop n p
unfolding packet_hop
packet_hop-with_limits n routers hosts p good still =
    rw (good, still, next_hop-with_limits n routers hosts (reading p).address good still)
