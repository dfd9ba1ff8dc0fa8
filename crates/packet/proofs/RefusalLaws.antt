-- The next hop from a packet is refused exactly where one of its conditions holds: the record's, then those of the reading, and where the packet
-- is read those of the next hop for the address, of which only 7 is left. Assumes nothing.
use mathlib.Core.Path.{◌≡◌, refl, sym, ap, ap₂, ◌∙◌}
use mathlib.Core.Bool.{Bool, true, false}
use mathlib.Core.Logic.{inl, inr}
use mathlib.Core.List.{List}
use Prim.Native.Nat.{ℕ, zero, suc, ◌^◌, ◌<◌}
use native.Mathlib.Decide.{ℕ_discrete}
use native.Mathlib.Omega.{arith}
use Rattle.address.specs.Bits.{longest}
use Rattle.address.specs.Numbers.{IsAddress}
use Rattle.address.specs.Order.{done, ◌when◌otherwise◌, ◌then◌, First}
use Rattle.address.proofs.OrderLaws.{given-exactly, first_then}
use Rattle.octets.specs.Octets.{AreOctets}
use Rattle.header.specs.Header.{reading, found, refused_header}
use Rattle.header.specs.Refusals.{reading_order}
use Rattle.header.proofs.RefusalLaws.{first-reading, numbered_reading, header-read-refusals}
use Rattle.header.proofs.Demand2.{header_read}
use Rattle.node.specs.Node.{address_in, is_good}
use Rattle.node.specs.declared.Node.{Node}
use Rattle.node.proofs.RefusalLaws.{bad-record, not-bad}
use Rattle.forward.specs.Forward.{HopAnswer, refused_hop, next_hop}
use Rattle.forward.specs.Refusals.{ChildNotGiven, hop_order}
use Rattle.forward.proofs.Rules.{next_hop_most}
use Rattle.forward.proofs.RefusalLaws.{first-hop, hop-refusals}
use Rattle.packet.specs.Packet.{packet_hop}
use Rattle.packet.specs.Refusals.{packet_order, PacketRefusals}
use Rattle.packet.proofs.PacketHops.{packet_hop-bad, packet_hop-refused, packet_hop-found}

number : {x y : HopAnswer} → x ≡ y → x.refusal ≡ y.refusal
number e = ap (λ (r : HopAnswer). r.refusal) e

-- what is read, by its number
found-answer : (p : List ℕ) → (reading p).refusal ≡ 0 → reading p ≡ found (reading p).address (reading p).place
found-answer p e = ap (λ (k : ℕ). record { refusal = k; address = (reading p).address; place = (reading p).place }) e

refused-answer : (p : List ℕ) (k : ℕ) → (reading p).refusal ≡ suc k → reading p ≡ refused_header (suc k)
refused-answer p k e = go (header-read-refusals.beside p (λ z. omega arith)) e
  where
    go : ((reading p).address ≡ 0) × ((reading p).place ≡ 0) → (reading p).refusal ≡ suc k → reading p ≡ refused_header (suc k)
    go (a, l) r =
        ap (λ (x : ℕ). record { refusal = x; address = (reading p).address; place = (reading p).place }) r
        ∙ ap₂ (λ (x y : ℕ). record { refusal = suc k; address = x; place = y }) a l

module _ (n : Node) (p : List ℕ) (g : is_good n ≡ true) where
  by_reading : ((reading p).refusal ≡ 0 → ⊥) → (packet_hop n p).refusal ≡ (reading p).refusal
  by_reading h = go (reading p).refusal refl
    where
      go : (k : ℕ) → (reading p).refusal ≡ k → (packet_hop n p).refusal ≡ k
      go zero e = absurd (h e)
      go (suc k) e = number (packet_hop-refused n p g (refused-answer p k e))

  by_address : (reading p).refusal ≡ 0 → packet_hop n p ≡ next_hop n (reading p).address
  by_address e = packet_hop-found n p g (found-answer p e)

  -- past a good record and an address that is not zero, 7 is left
  first-address : address_in n < 2 ^ longest → AreOctets p → (reading p).refusal ≡ 0
      → First (7 when ChildNotGiven n (reading p).address otherwise done) (next_hop n (reading p).address).refusal
  first-address f are e = go (header_read p (reading p).address (reading p).place are (found-answer p e)).0
    where
      left : IsAddress (reading p).address → First (hop_order n (reading p).address) (next_hop n (reading p).address).refusal
          → First (7 when ChildNotGiven n (reading p).address otherwise done) (next_hop n (reading p).address).refusal
      left a (inl bad) = absurd (not-bad n g bad.0)
      left a (inr (good, inl zero-address)) = absurd (omega (arith, a.some, zero-address.0))
      left a (inr (good, inr (some, rest))) = rest

      go : IsAddress (reading p).address
          → First (7 when ChildNotGiven n (reading p).address otherwise done) (next_hop n (reading p).address).refusal
      go a = left a (first-hop n (reading p).address f a.fits)

first_packet : (n : Node) (p : List ℕ) → address_in n < 2 ^ longest → AreOctets p → First (packet_order n p) (packet_hop n p).refusal
unfolding ◌then◌
first_packet n p f are = go (is_good n) refl
  where
    go : (t : Bool) → is_good n ≡ t → First (packet_order n p) (packet_hop n p).refusal
    go false g = inl (bad-record n g, number (packet_hop-bad n p g))
    go true g = inr (
      not-bad n g,
      first_then (reading_order p) (7 when ChildNotGiven n (reading p).address otherwise done)
          (numbered_reading p) (first-reading p) (λ e. first-address n p g f are e) (λ e. number (by_address n p g e)) (λ h. by_reading n p g h),
    )

pub packet_refusals : PacketRefusals packet_hop
packet_refusals = record {
  given = λ n p f are. given-exactly (packet_order n p) (first_packet n p f are);
  beside = λ n p h. go-beside n p h (is_good n) refl;
  without = λ n p e. go_without n p e (is_good n) refl;
}
  where
    go-beside : (n : Node) (p : List ℕ) → ((packet_hop n p).refusal ≡ 0 → ⊥) → (t : Bool) → is_good n ≡ t → packet_hop n p ≡ refused_hop (packet_hop n p).refusal
    go-beside n p h false g = packet_hop-bad n p g ∙ ap refused_hop (sym (number (packet_hop-bad n p g)))
    go-beside n p h true g = read (reading p).refusal refl
      where
        read : (k : ℕ) → (reading p).refusal ≡ k → packet_hop n p ≡ refused_hop (packet_hop n p).refusal
        read zero e =
            let same = by_address n p g e in
            same ∙ hop-refusals.beside n (reading p).address (λ z. h (number same ∙ z)) ∙ ap refused_hop (sym (number same))
        read (suc k) e = let same = packet_hop-refused n p g (refused-answer p k e) in same ∙ ap refused_hop (sym (number same))

    go_without : (n : Node) (p : List ℕ) → (packet_hop n p).refusal ≡ 0 → (t : Bool) → is_good n ≡ t
        → ((reading p).refusal ≡ 0) × (packet_hop n p ≡ next_hop n (reading p).address)
    go_without n p e false g = absurd (omega (arith, number (packet_hop-bad n p g)))
    go_without n p e true g = read (reading p).refusal refl
      where
        read : (k : ℕ) → (reading p).refusal ≡ k → ((reading p).refusal ≡ 0) × (packet_hop n p ≡ next_hop n (reading p).address)
        read zero z = (z, by_address n p g z)
        read (suc k) z = absurd (omega (arith, number (packet_hop-refused n p g (refused-answer p k z))))

-- ---- 16 is a good record's, and the reading's

pub sixteen-hop : (n : Node) (p : List ℕ) → (packet_hop n p).refusal ≡ 16 → (is_good n ≡ true) × ((reading p).refusal ≡ 16)
sixteen-hop n p e = go (is_good n) refl (ℕ_discrete (reading p).refusal 0)
  where
    go : (t : Bool) → is_good n ≡ t → Dec ((reading p).refusal ≡ 0) → (is_good n ≡ true) × ((reading p).refusal ≡ 16)
    go false g d = absurd (omega (arith, number (packet_hop-bad n p g)))
    go true g (no h) = (g, sym (by_reading n p g h) ∙ e)
    go true g (yes z) = absurd (omega (arith, next_hop_most n (reading p).address, number (by_address n p g z)))
