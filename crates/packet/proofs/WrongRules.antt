-- The reading before 1 is refuted by its answer to no octets at a record of address zero. What the rules for an empty packet answer to a header alone is
-- worked out here, and that demand 1 leaves 16: by that and by demand 3 they are refuted in tree.
use mathlib.Core.Path.{◌≡◌, sym, ap, ◌∙◌}
use mathlib.Core.Bool.{true}
use mathlib.Core.List.{List, []}
use Prim.Native.Nat.{ℕ, ◌^◌, ◌<◌}
use native.Mathlib.Omega.{arith}
use borrow.Author.Tests.{eq-eqb, ne_eqb}
use lib.Dec.{lit<}
use Rattle.address.specs.Bits.{longest}
use Rattle.address.specs.Numbers.{IsAddress}
use Rattle.header.specs.Header.{HeaderAnswer, header, octets_reading, reading}
use Rattle.header.proofs.Opened.{reading-opened}
use Rattle.header.proofs.Demand2.{octets-header, octets_reading_alone, reading_alone}
use Rattle.node.specs.Node.{address_in, fresh, is_good}
use Rattle.node.specs.declared.Node.{Node}
use Rattle.node.proofs.Opened.{records-opened}
use Rattle.forward.specs.Forward.{HopAnswer, deliver_at, refused_hop, next_hop}
use Rattle.packet.specs.Packet.{packet_hop}
use Rattle.packet.specs.Refusals.{PacketRefusals}
use Rattle.packet.specs.WrongRules.{reading_first, empty_goes, empty_delivered, not_given_first, empty_late}
use Rattle.packet.proofs.PacketHops.{packet_hop-refused}
use Rattle.packet.proofs.OneRule.{one_packet_rule}
use Rattle.packet.proofs.Before.{empty_goes-found}

pub reading_first_refuted : PacketRefusals reading_first → ⊥
unfolding reading_first packet_hop reading-opened records-opened
reading_first_refuted claim = omega (arith, ap (λ (r : HopAnswer). r.refusal) (one_packet_rule reading_first claim (fresh 0) [] (lit< tt) tt))

-- ---- what the rules answer to a header alone

module _ {d : ℕ} (b : IsAddress d) where
  said : (octets_reading (header d)).address ≡ d
  said = ap (λ (x : HeaderAnswer). x.address) (octets_reading_alone b)

  module _ (n : Node) (good : is_good n ≡ true) where
    pub empty_goes_alone : empty_goes n (header d) ≡ next_hop n d
    empty_goes_alone = empty_goes-found n (header d) good (ap (λ (x : HeaderAnswer). x.refusal) (octets_reading_alone b)) ∙ ap (next_hop n) said

    pub empty_delivered_alone : d ≡ address_in n → empty_delivered n (header d) ≡ deliver_at (address_in n)
    unfolding empty_delivered
    empty_delivered_alone e =
        let sixteen = ap (λ (x : HeaderAnswer). x.refusal) (reading_alone b) in
        rw (good, eq-eqb (reading (header d)).refusal 16 sixteen, eq-eqb (octets_reading (header d)).address (address_in n) (said ∙ e))

    pub not_given_first_alone : next_hop n d ≡ refused_hop 7 → not_given_first n (header d) ≡ refused_hop 7
    unfolding not_given_first
    not_given_first_alone e = rw (eq-eqb (empty_goes n (header d)).refusal 7 (ap (λ (r : HopAnswer). r.refusal) (empty_goes_alone ∙ e)))

    pub empty_late_alone : (d ≡ address_in n → ⊥) → empty_late n (header d) ≡ next_hop n d
    unfolding empty_late
    empty_late_alone other = rw (ne_eqb (octets_reading (header d)).address (address_in n) (λ e. other (sym said ∙ e))) empty_goes_alone

    -- demand 1 leaves 16 alone
    pub sixteen_alone : (rule : Node → List ℕ → HopAnswer) → PacketRefusals rule → address_in n < 2 ^ longest → rule n (header d) ≡ refused_hop 16
    sixteen_alone rule claim fits =
        one_packet_rule rule claim n (header d) fits (octets-header b) ∙ packet_hop-refused n (header d) good (reading_alone b)
