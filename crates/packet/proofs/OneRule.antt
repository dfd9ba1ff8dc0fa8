-- The statement of the refusals allows one rule for the next hop from a packet: it gives the refusal's number, and with that everything else that is
-- answered. Assumes nothing.
use Prim.Native.Nat.{ℕ, ◌^◌, ◌<◌}
use mathlib.Core.Path.{◌≡◌, refl, sym, ap, ◌∙◌}
use mathlib.Core.List.{List}
use native.Mathlib.Decide.{ℕ_discrete}
use Rattle.address.specs.Bits.{longest}
use Rattle.octets.specs.Octets.{AreOctets}
use Rattle.node.specs.Node.{address_in}
use Rattle.node.specs.declared.Node.{Node}
use Rattle.forward.specs.Forward.{HopAnswer, refused_hop}
use Rattle.packet.specs.Packet.{packet_hop}
use Rattle.packet.specs.Refusals.{PacketRefusals}
use Rattle.packet.proofs.RefusalLaws.{packet_refusals}

module _ (rule : Node → List ℕ → HopAnswer) (claim : PacketRefusals rule) (n : Node) (p : List ℕ) (fits : address_in n < 2 ^ longest) (are : AreOctets p) where
  same_number : (rule n p).refusal ≡ (packet_hop n p).refusal
  same_number = (claim.given n p fits are (packet_hop n p).refusal).1 ((packet_refusals.given n p fits are (packet_hop n p).refusal).0 refl)

  pub one_packet_rule : rule n p ≡ packet_hop n p
  one_packet_rule = go (ℕ_discrete (packet_hop n p).refusal 0)
    where
      go : Dec ((packet_hop n p).refusal ≡ 0) → rule n p ≡ packet_hop n p
      go (yes h) = (claim.without n p (same_number ∙ h)).1 ∙ sym (packet_refusals.without n p h).1
      go (no h) =
          claim.beside n p (λ z. h (sym same_number ∙ z)) ∙ ap refused_hop same_number ∙ sym (packet_refusals.beside n p h)
