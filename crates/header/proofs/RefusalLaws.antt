-- Each refusal of the header stands where the document puts it: at every condition of the order the definition, by the checks that have
-- passed on the way, gives that condition's number. Assumes nothing.
use Rattle.std.specs.Prelude.{if◌then◌else◌}
use mathlib.Core.Path.{◌≡◌, refl, sym, ap, ap₂, subst, ◌∙◌}
use mathlib.Core.Bool.{Bool, true, false}
use mathlib.Core.Logic.Dec
use mathlib.Core.Logic.{◌⊎◌, inl, inr}
use mathlib.Core.List.{List, [], ◌∷◌, ◌++◌}
use Prim.Native.Nat.{ℕ, zero, suc, ◌+◌, ◌-◌, ◌/◌, ◌%◌, ◌≤◌, ◌<◌}
use native.Mathlib.Decide.{ℕ_discrete, dec_le, dec_lt}
use native.Mathlib.Omega.{arith}
use borrow.Author.Tests.{eq-eqb, ne_eqb}
use lib.Dec.{eqb, ltb, lit<}
use lib.ListN.{length, drop, get_or, take-append-drop}
use Rattle.address.specs.Order.{Order, done, ◌when◌otherwise◌, ◌then◌, First, GivenExactly}
use Rattle.address.proofs.OrderLaws.{given-exactly, Numbered, first_then}
use Rattle.octets.specs.Octets.{refuse_writing, write}
use Rattle.address.proofs.Decided.{decided, one_of, holds}
use Rattle.octets.proofs.LentLaws.{refusal-refuse_writing, refusal-write, Outcome, outcome_leaves, outcome-writes}
use Rattle.header.specs.Header.{most_octets, header, place, writing, HeaderAnswer, octets_reading, reading, refused_header, found, fixed_octets, page_octet, critical_pattern, routing_type, in_order, start_fault, is_page_octet, has_critical_pattern, is_routing_type, size_told, address_octets, address_fault}
use Rattle.header.specs.Refusals.{writing_order, HeaderWriteRefusals, octet_at, OtherTopBits, size_said, sized_order, Absent, octets_order, reading_order, AcceptedHeader, HeaderReadRefusals}
use Rattle.header.proofs.Start.{in_order-absent, in_order_wrong, in_order-right, start_fault_page, start_fault_critical, start_fault-zero}
use Rattle.header.proofs.Parts.{length-address_octets, zero_fault-some, zero_fault-single, zero_fault_several, address_fault-size, address_fault-short, address_fault-long, address_fault-zero}
use Rattle.header.proofs.Cases.{octets_reading-start, octets_reading-address, octets_reading-found, octets_reading-cases, octets_reading_inverse}
use Rattle.header.proofs.Payload.{reading-unread, reading-empty, reading-found, Case, unread, empty, read, reading-case, reading_inverse}
use Rattle.header.proofs.Writing.{length-header, writing-zero, writing-short, writing-done}

-- ---- writing

pub writing-outcome : (a : ℕ) (buffer : List ℕ) → Outcome (header a) buffer (writing a buffer)
unfolding writing
writing-outcome a buffer = go (eqb a 0) (ltb (length buffer) (place a))
  where
    go : (zero short : Bool)
        → Outcome (header a) buffer (if zero then refuse_writing 9 buffer else if short then refuse_writing 10 buffer else write (header a) buffer)
    go true short = inl (8, refl)
    go false true = inl (9, refl)
    go false false = inr refl

first-writing : (a : ℕ) (buffer : List ℕ) → First (writing_order a buffer) (writing a buffer).answer.refusal
first-writing a buffer =
    decided (ℕ_discrete a 0) (λ e. refusal-refuse_writing 9 buffer (writing-zero a buffer e)) λ some.
    decided (dec_lt (length buffer) (length (header a)))
    (λ h. refusal-refuse_writing 10 buffer (writing-short a buffer some (omega (arith, length-header a)))) λ h.
    refusal-write (header a) buffer (writing-done a buffer some (omega (arith, length-header a)))

pub header-write-refusals : HeaderWriteRefusals writing
header-write-refusals = record {
  given = λ a buffer. given-exactly (writing_order a buffer) (first-writing a buffer);
  beside = λ a buffer. outcome_leaves (header a) buffer (writing a buffer) (writing-outcome a buffer);
  without = λ a buffer. outcome-writes (header a) buffer (writing a buffer) (writing-outcome a buffer);
}

-- ---- reading

other_wrong : (o : ℕ) → OtherTopBits o → o / 32 ≡ critical_pattern → ⊥
other_wrong o (inl h) e = omega arith
other_wrong o (inr h) e = omega arith

-- a second octet with the right top bits, and the size that its others say
top_right : (p : List ℕ) → (OtherTopBits (octet_at 1 p) → ⊥) → (octet_at 1 p / 32 ≡ critical_pattern) × (size_told p ≡ size_said p)
unfolding size_told
top_right p n =
    let below : octet_at 1 p < 0b10000000 → ⊥ = λ h. n (inl h) in
    let above : 0b10100000 ≤ octet_at 1 p → ⊥ = λ h. n (inr h) in
    (omega arith, omega arith)

first-sized : (s : ℕ) (p : List ℕ) → 0 < s → First (sized_order s p) (address_fault s p)
first-sized s p some =
    decided (dec_lt 8 s) (λ large. address_fault-size s p (omega arith)) λ small.
    let allowed : s ≤ most_octets = omega arith in
    decided (dec_lt (length p) (fixed_octets + s)) (λ short. address_fault-short s p allowed short) λ long.
    let fault = address_fault-long s p allowed (omega arith) in
    let zero = ℕ_discrete (octet_at 3 p) 0 in
    decided (Dec.and (ℕ_discrete s 1) zero) (λ c. fault ∙ zero_fault-single s (octet_at 3 p) c.1 c.0) λ single.
    decided (Dec.and (dec_lt 1 s) zero) (λ c. fault ∙ zero_fault_several s (octet_at 3 p) c.1 (λ e. omega (arith, c.0))) λ several.
    fault ∙ zero_fault-some s (octet_at 3 p) (λ z. let more : s ≡ 1 → ⊥ = λ e. single (e, z) in several (omega arith, z))

module _ (p : List ℕ) where
  by_start : {n : ℕ} → start_fault p ≡ suc n → (octets_reading p).refusal ≡ suc n
  by_start e = sym (ap (λ (x : HeaderAnswer). x.refusal) (octets_reading-start p (sym e) (λ z. omega arith)))

  by_address : start_fault p ≡ 0 → (octets_reading p).refusal ≡ address_fault (size_told p) p
  by_address s = go (address_fault (size_told p) p) refl
    where
      go : (n : ℕ) → address_fault (size_told p) p ≡ n → (octets_reading p).refusal ≡ n
      go zero e = ap (λ (x : HeaderAnswer). x.refusal) (octets_reading-found p s e)
      go (suc n) e = sym (ap (λ (x : HeaderAnswer). x.refusal) (octets_reading-address p s (sym e) (λ z. omega arith)))

pub first-octets : (p : List ℕ) → First (octets_order p) (octets_reading p).refusal
unfolding start_fault in_order
first-octets p =
    let later = has_critical_pattern ∷ is_routing_type ∷ [] in
    decided (dec_le (length p) 0) (λ h. by_start p (in_order-absent is_page_octet later p 0 h)) λ there.
    decided (Dec.not (ℕ_discrete (octet_at 0 p) 0xF1))
    (λ wrong. by_start p (in_order_wrong is_page_octet later p 0 (omega arith) (ne_eqb (octet_at 0 p) page_octet wrong))) λ first.
    let right = holds (ℕ_discrete (octet_at 0 p) 0xF1) first in
    let page = start_fault_page p (omega arith) right in
    decided (dec_le (length p) 1) (λ h. by_start p (page ∙ in_order-absent has_critical_pattern (is_routing_type ∷ []) p 1 h)) λ there.
    decided (one_of (dec_lt (octet_at 1 p) 0b10000000) (dec_le 0b10100000 (octet_at 1 p)))
    (λ other.
    let wrong = ne_eqb (octet_at 1 p / 32) critical_pattern (other_wrong (octet_at 1 p) other) in
    by_start p (page ∙ in_order_wrong has_critical_pattern (is_routing_type ∷ []) p 1 (omega arith) wrong)) λ second.
    let critical = start_fault_critical p (omega arith) right (top_right p second).0 in
    decided (dec_le (length p) 2) (λ h. by_start p (critical ∙ in_order-absent is_routing_type [] p 2 h)) λ there.
    decided (Dec.not (ℕ_discrete (octet_at 2 p) 15))
    (λ wrong. by_start p (critical ∙ in_order_wrong is_routing_type [] p 2 (omega arith) (ne_eqb (octet_at 2 p) routing_type wrong))) λ third.
    let type = eq-eqb (octet_at 2 p) routing_type (holds (ℕ_discrete (octet_at 2 p) 15) third) in
    let begun = critical ∙ in_order-right is_routing_type [] p 2 (omega arith) type in
    let fault = by_address p begun ∙ ap (λ (k : ℕ). address_fault k p) (top_right p second).1 in
    subst (λ (n : ℕ). First (sized_order (size_said p) p) n) (sym fault) (first-sized (size_said p) p (omega arith))

-- without a refusal the checks found no fault
pub octets-accepted : (p : List ℕ) → (octets_reading p).refusal ≡ 0 → AcceptedHeader p (octets_reading p).address (octets_reading p).place
unfolding size_told address_octets
octets-accepted p e =
    let r = octets_reading p in
    let answer : r ≡ found r.address r.place = ap (λ (n : ℕ). record { refusal = n; address = r.address; place = r.place }) e in
    let (begun, whole, number, end) = octets_reading_inverse p r.address r.place answer in
    let (o, rest, q, top) = start_fault-zero p begun in
    let s = size_told p in
    let told : s ≡ o % 32 + 1 = ap (λ (l : List ℕ). get_or l 1 0 % 32 + 1) q in
    let right = address_fault-zero s p whole in
    let os = address_octets s p in
    let many : length os ≡ s = length-address_octets s p right.1 in
    let second : o ≡ 0b10000000 + (length os - 1) = omega arith in
    let behind : rest ≡ os ++ drop s (drop fixed_octets p) = sym (take-append-drop s (drop fixed_octets p) ∙ ap (drop fixed_octets) q) in
    record {
      os = os;
      payload = drop s (drop fixed_octets p);
      laid = q ∙ ap₂ (λ (x : ℕ) (l : List ℕ). 0xF1 ∷ x ∷ 15 ∷ l) second behind;
      sized = (omega arith, omega (arith, right.0));
      number = sym number;
      behind = sym end ∙ ap (λ (k : ℕ). fixed_octets + k) (sym many);
    }

pub octets-given : (p : List ℕ) → GivenExactly (octets_order p) (octets_reading p).refusal
octets-given p = given-exactly (octets_order p) (first-octets p)

zeros : {x : HeaderAnswer} {n : ℕ} → x ≡ refused_header n → (x.address ≡ 0) × (x.place ≡ 0)
zeros e = (ap (λ (x : HeaderAnswer). x.address) e, ap (λ (x : HeaderAnswer). x.place) e)

pub octets-beside : (p : List ℕ) → ((octets_reading p).refusal ≡ 0 → ⊥) → ((octets_reading p).address ≡ 0) × ((octets_reading p).place ≡ 0)
octets-beside p h = go (octets_reading-cases p)
  where
    go : ((n : ℕ) × (n < 9) × (octets_reading p ≡ refused_header (suc n))) ⊎ ((start_fault p ≡ 0) × (address_fault (size_told p) p ≡ 0))
        → ((octets_reading p).address ≡ 0) × ((octets_reading p).place ≡ 0)
    go (inl (n, small, e)) = zeros e
    go (inr (s, f)) = absurd (h (ap (λ (x : HeaderAnswer). x.refusal) (octets_reading-found p s f)))

-- ---- and behind the header's own octets the payload is looked for

-- the size said is the one told, wherever no octet has a fault
place-said : (p : List ℕ) {a k : ℕ} → octets_reading p ≡ found a k → k ≡ 3 + size_said p
unfolding size_told
place-said p {a} {k} e =
    let (begun, whole, number, end) = octets_reading_inverse p a k e in
    let (o, rest, q, top) = start_fault-zero p begun in
    omega (arith, end, ap (λ (l : List ℕ). get_or l 1 0) q)

-- no condition has the number 0
numbered_octets : (p : List ℕ) → Numbered (octets_order p)
numbered_octets p = (lit< tt, (lit< tt, (lit< tt, (lit< tt, (lit< tt, (lit< tt, (lit< tt, (lit< tt, (lit< tt, (lit< tt, tt))))))))))

pub numbered_reading : (p : List ℕ) → Numbered (reading_order p)
unfolding ◌then◌
numbered_reading p = (lit< tt, (lit< tt, (lit< tt, (lit< tt, (lit< tt, (lit< tt, (lit< tt, (lit< tt, (lit< tt, (lit< tt, (lit< tt, tt)))))))))))

pub first-reading : (p : List ℕ) → First (reading_order p) (reading p).refusal
first-reading p = go (reading-case p)
  where
    after : Order
    after = 16 when Absent (3 + size_said p) p otherwise done

    number : {x y : HeaderAnswer} → x ≡ y → x.refusal ≡ y.refusal
    number e = ap (λ (x : HeaderAnswer). x.refusal) e

    behind : {s : ℕ} → ((octets_reading p).refusal ≡ 0 → First after s) → ((octets_reading p).refusal ≡ 0 → (reading p).refusal ≡ s)
        → (((octets_reading p).refusal ≡ 0 → ⊥) → (reading p).refusal ≡ (octets_reading p).refusal) → First (reading_order p) (reading p).refusal
    behind decides same other = first_then (octets_order p) after (numbered_octets p) (first-octets p) decides same other

    go : Case p → First (reading_order p) (reading p).refusal
    go (unread l e) =
        let none : (octets_reading p).refusal ≡ 0 → ⊥ = λ z. omega (arith, number e) in
        behind {s = 0} (λ z. absurd (none z)) (λ z. absurd (none z)) (λ h. number (reading-unread p e (λ z. omega arith)) ∙ sym (number e))
    go (empty e l) =
        behind {s = 16} (λ z. inl (omega (arith, place-said p e), refl)) (λ z. number (reading-empty p e l)) (λ h. absurd (h (number e)))
    go (read e l) =
        behind {s = 0} (λ z. inr (λ h. omega (arith, place-said p e), refl)) (λ z. number (reading-found p e l)) (λ h. absurd (h (number e)))

-- without a refusal the octets have no fault, and one is behind them
accepted : (p : List ℕ) → (reading p).refusal ≡ 0 → AcceptedHeader p (reading p).address (reading p).place × ((reading p).place < length p)
accepted p e =
    let r = reading p in
    let answer : r ≡ found r.address r.place = ap (λ (n : ℕ). record { refusal = n; address = r.address; place = r.place }) e in
    let (octets, some) = reading_inverse p r.address r.place answer in
    let so = octets-accepted p (ap (λ (x : HeaderAnswer). x.refusal) octets) in
    let same = octets ∙ sym answer in (
      record {
        os = so.os;
        payload = so.payload;
        laid = so.laid;
        sized = so.sized;
        number = ap (λ (x : HeaderAnswer). x.address) (sym same) ∙ so.number;
        behind = ap (λ (x : HeaderAnswer). x.place) (sym same) ∙ so.behind;
      },
      some,
    )

pub header-read-refusals : HeaderReadRefusals reading
header-read-refusals = record {
  given = λ p. given-exactly (reading_order p) (first-reading p);
  beside = λ p. beside p (reading-case p);
  without = accepted;
}
  where
    beside : (p : List ℕ) → Case p → ((reading p).refusal ≡ 0 → ⊥) → ((reading p).address ≡ 0) × ((reading p).place ≡ 0)
    beside p (unread l e) h = zeros (reading-unread p e (λ z. omega arith))
    beside p (empty e l) h = zeros (reading-empty p e l)
    beside p (read e l) h = absurd (h (ap (λ (x : HeaderAnswer). x.refusal) (reading-found p e l)))
