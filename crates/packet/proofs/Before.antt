-- The next hop from a packet beside `empty_goes`, the one of before document 02 (Eight): it stands where the octets are refused or have a payload behind them,
-- and elsewhere with one octet more. Assumes nothing.
use Rattle.std.specs.Prelude.{if◌then◌else◌}
use mathlib.Core.Path.{◌≡◌, ap}
use mathlib.Core.Bool.{true, false, not}
use mathlib.Core.List.{List, [], ◌∷◌, ◌++◌}
use Prim.Native.Nat.{ℕ, ◌≤◌, ◌<◌}
use borrow.Author.Tests.{eq-eqb, ne_eqb}
use lib.Dec.{eqb}
use lib.ListN.{length}
use Rattle.header.specs.Header.{HeaderAnswer, octets_reading}
use Rattle.header.proofs.Payload.{refused_stand_lem, accepted_stand_lem, accepted-empty, accepted_more}
use Rattle.node.specs.Node.{is_good}
use Rattle.node.specs.declared.Node.{Node}
use Rattle.forward.specs.Forward.{HopAnswer, refused_hop, next_hop}
use Rattle.packet.specs.Packet.{packet_hop}
use Rattle.packet.specs.WrongRules.{empty_goes}
use Rattle.packet.proofs.PacketHops.{packet_hop-refused}

module _ (n : Node) (p : List ℕ) where
  pub empty_goes-bad : is_good n ≡ false → empty_goes n p ≡ refused_hop 1
  unfolding empty_goes
  empty_goes-bad g = rw g

  pub empty_goes-refused : is_good n ≡ true → ((octets_reading p).refusal ≡ 0 → ⊥) → empty_goes n p ≡ refused_hop (octets_reading p).refusal
  unfolding empty_goes
  empty_goes-refused g h = rw (g, ne_eqb (octets_reading p).refusal 0 h)

  pub empty_goes-found : is_good n ≡ true → (octets_reading p).refusal ≡ 0 → empty_goes n p ≡ next_hop n (octets_reading p).address
  unfolding empty_goes
  empty_goes-found g e = rw (g, eq-eqb (octets_reading p).refusal 0 e)

  -- what an answer of a reading comes to
  hop_for : HeaderAnswer → HopAnswer
  hop_for r = if not (is_good n) then refused_hop 1 else if not (eqb r.refusal 0) then refused_hop r.refusal else next_hop n r.address

  pub hop-stands : ((octets_reading p).refusal ≡ 0 → ⊥) → packet_hop n p ≡ empty_goes n p
  unfolding packet_hop empty_goes hop_for
  hop-stands h = ap hop_for (refused_stand_lem p h)

  pub hop_more : (o : ℕ) → (octets_reading p).refusal ≡ 0 → packet_hop n (p ++ (o ∷ [])) ≡ empty_goes n p
  unfolding packet_hop empty_goes hop_for
  hop_more o e = ap hop_for (accepted_more p e o)

  pub hop-accepted : (octets_reading p).refusal ≡ 0 → (octets_reading p).place < length p → packet_hop n p ≡ empty_goes n p
  unfolding packet_hop empty_goes hop_for
  hop-accepted e h = ap hop_for (accepted_stand_lem p e h)

  pub hop-empty : is_good n ≡ true → (octets_reading p).refusal ≡ 0 → length p ≤ (octets_reading p).place → packet_hop n p ≡ refused_hop 16
  hop-empty g e h = packet_hop-refused n p g (accepted-empty p e h)
