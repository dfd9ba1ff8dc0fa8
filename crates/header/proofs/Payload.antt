-- What a reading makes of the octets' answer: it stands, and where an address was found and nothing is behind the header it is 16. So "Accepted header
-- cases .. get one payload octet more; refused ones stand" (document 02, Eight). Assumes nothing.
use mathlib.Core.Path.{◌≡◌, sym, ap, ◌∙◌}
use mathlib.Core.Logic.{◌⊎◌, inl, inr}
use mathlib.Core.List.{List, [], ◌∷◌, ◌++◌}
use Prim.Native.Nat.{ℕ, suc, ◌+◌, ◌/◌, ◌%◌, ◌≤◌, ◌<◌}
use native.Mathlib.Decide.{dec_le}
use native.Mathlib.Nat.{lt_of_not-le}
use native.Mathlib.Omega.{arith}
use borrow.Author.Tests.{eq-eqb, ne_eqb, lt-ltb, le-ltb}
use lib.Dec.{lit<}
use lib.ListN.{length, take, drop, get_or, length-append}
use lib.Seq.{take-append-le}
use Rattle.refusal.specs.declared.Refusal.{Refusal}
use Rattle.refusal.specs.Refusal.{number_of}
use Rattle.refusal.proofs.Numbers.{some}
use Rattle.octets.specs.Octets.{value}
use Rattle.header.specs.Header.{HeaderAnswer, octets_reading, reading, with_payload, least_payload, refused_header, found, start_fault, in_order, critical_pattern, address_fault, zero_fault, size_told, address_octets, fixed_octets}
use Rattle.header.proofs.Start.{start_fault-zero, start_fault-length}
use Rattle.header.proofs.Parts.{first-address_octets, address_fault-long, address_fault-zero}
use Rattle.header.proofs.Cases.{octets_reading-start, octets_reading-address, octets_reading-found, octets_reading-cases, octets_reading_inverse}

-- ---- case by case

module _ (p : List ℕ) where
  pub reading-unread : {n : ℕ} → octets_reading p ≡ refused_header n → (n ≡ 0 → ⊥) → reading p ≡ refused_header n
  unfolding reading with_payload
  reading-unread e some = rw (ne_eqb (octets_reading p).refusal 0 (λ z. some (sym (ap (λ (x : HeaderAnswer). x.refusal) e) ∙ z))) e

  module _ {a k : ℕ} (e : octets_reading p ≡ found a k) where
    number : (octets_reading p).refusal ≡ 0
    number = ap (λ (x : HeaderAnswer). x.refusal) e

    end : (octets_reading p).place ≡ k
    end = ap (λ (x : HeaderAnswer). x.place) e

    pub reading-empty : length p ≤ k → reading p ≡ refused_header 16
    unfolding reading with_payload
    reading-empty h = rw (eq-eqb (octets_reading p).refusal 0 number, lt-ltb (length p) ((octets_reading p).place + least_payload) (omega (arith, end)))

    pub reading-found : k < length p → reading p ≡ found a k
    unfolding reading with_payload
    reading-found h = rw (eq-eqb (octets_reading p).refusal 0 number, le-ltb (length p) ((octets_reading p).place + least_payload) (omega (arith, end))) e

-- ---- which case an answer came from

pub data Case (p : List ℕ) : Type 0 where
  unread : {n : ℕ} → n < 9 → octets_reading p ≡ refused_header (suc n) → Case p
  empty : {a k : ℕ} → octets_reading p ≡ found a k → length p ≤ k → Case p
  read : {a k : ℕ} → octets_reading p ≡ found a k → k < length p → Case p

pub reading-case : (p : List ℕ) → Case p
reading-case p = go (octets_reading-cases p) (dec_le (length p) (fixed_octets + size_told p))
  where
    go : ((n : ℕ) × (n < 9) × (octets_reading p ≡ refused_header (suc n))) ⊎ ((start_fault p ≡ 0) × (address_fault (size_told p) p ≡ 0))
        → Dec (length p ≤ fixed_octets + size_told p) → Case p
    go (inl (n, small, e)) d = unread small e
    go (inr (s, f)) (yes h) = empty (octets_reading-found p s f) h
    go (inr (s, f)) (no h) = read (octets_reading-found p s f) (lt_of_not-le h)

module _ (p : List ℕ) where
  -- an address was found, and an octet is behind the header
  pub reading_inverse : (a k : ℕ) → reading p ≡ found a k → (octets_reading p ≡ found a k) × (k < length p)
  reading_inverse a k e = go (reading-case p)
    where
      go : Case p → (octets_reading p ≡ found a k) × (k < length p)
      go (unread h q) = absurd (omega (arith, ap (λ (x : HeaderAnswer). x.refusal) (sym (reading-unread p q (λ z. omega arith)) ∙ e)))
      go (empty q h) = absurd (omega (arith, ap (λ (x : HeaderAnswer). x.refusal) (sym (reading-empty p q h) ∙ e)))
      go (read q h) =
          let same = sym (reading-found p q h) ∙ e in
          (q ∙ same, omega (arith, h, ap (λ (x : HeaderAnswer). x.place) same))

  -- an address was found, and no octet is behind the header
  pub reading-sixteen : (reading p).refusal ≡ 16 → (a : ℕ) × (k : ℕ) × (octets_reading p ≡ found a k) × (length p ≤ k)
  reading-sixteen e = go (reading-case p)
    where
      go : Case p → (a : ℕ) × (k : ℕ) × (octets_reading p ≡ found a k) × (length p ≤ k)
      go (unread h q) = absurd (omega (arith, ap (λ (x : HeaderAnswer). x.refusal) (reading-unread p q (λ z. omega arith))))
      go (empty {a} {k} q h) = (a, k, q, h)
      go (read q h) = absurd (omega (arith, ap (λ (x : HeaderAnswer). x.refusal) (reading-found p q h)))

-- a refusal's number is never 0
pub reading-refused : (p : List ℕ) {n : ℕ} → reading p ≡ refused_header n → n ≡ 0 → ⊥
reading-refused p e z =
    let (q, h) = reading_inverse p 0 0 (e ∙ ap refused_header z) in omega (arith, (octets_reading_inverse p 0 0 q).3)

-- ---- one octet more

-- where the octets have no fault, nothing behind them changes what they say
module _ (p rest : List ℕ) (begun : start_fault p ≡ 0) (whole : address_fault (size_told p) p ≡ 0) where
  longer-start : start_fault (p ++ rest) ≡ 0
  unfolding start_fault in_order
  longer-start =
      let (o, behind, q, top) = start_fault-zero p begun in
      ap (λ (l : List ℕ). start_fault (l ++ rest)) q ∙ simp (eq-eqb (o / 32) critical_pattern top)

  longer-size : size_told (p ++ rest) ≡ size_told p
  unfolding size_told
  longer-size =
      let (o, behind, q, top) = start_fault-zero p begun in
      ap (λ (l : List ℕ). get_or (l ++ rest) 1 0 % 32 + 1) q ∙ sym (ap (λ (l : List ℕ). get_or l 1 0 % 32 + 1) q)

  longer-octets : address_octets (size_told p) (p ++ rest) ≡ address_octets (size_told p) p
  unfolding address_octets
  longer-octets =
      let (o, behind, q, top) = start_fault-zero p begun in
      let right = address_fault-zero (size_told p) p whole in
      ap (λ (l : List ℕ). take (size_told p) (drop fixed_octets (l ++ rest))) q
      ∙ take-append-le (size_told p) behind rest (omega (arith, right.1, ap length q))
      ∙ sym (ap (λ (l : List ℕ). take (size_told p) (drop fixed_octets l)) q)

  told-some : 1 ≤ size_told p
  unfolding size_told
  told-some = omega arith

  longer-first : get_or (p ++ rest) fixed_octets 0 ≡ get_or p fixed_octets 0
  longer-first =
      sym (first-address_octets (size_told p) (p ++ rest) told-some)
      ∙ ap (λ (l : List ℕ). get_or l 0 0) longer-octets
      ∙ first-address_octets (size_told p) p told-some

  longer-whole : address_fault (size_told (p ++ rest)) (p ++ rest) ≡ 0
  longer-whole =
      let right = address_fault-zero (size_told p) p whole in
      ap (λ (k : ℕ). address_fault k (p ++ rest)) longer-size
      ∙ address_fault-long (size_told p) (p ++ rest) right.0 (omega (arith, right.1, length-append p rest))
      ∙ ap (zero_fault (size_told p)) longer-first
      ∙ right.2

pub octets_reading-longer : (p rest : List ℕ) {a k : ℕ} → octets_reading p ≡ found a k → octets_reading (p ++ rest) ≡ found a k
octets_reading-longer p rest {a} {k} e =
    let (s, f, number, end) = octets_reading_inverse p a k e in
    octets_reading-found (p ++ rest) (longer-start p rest s f) (longer-whole p rest s f)
    ∙ ap (λ (n : ℕ). found (value (address_octets n (p ++ rest))) (fixed_octets + n)) (longer-size p rest s f)
    ∙ ap (λ (os : List ℕ). found (value os) (fixed_octets + size_told p)) (longer-octets p rest s f)
    ∙ ap (λ (x : ℕ). found x (fixed_octets + size_told p)) number
    ∙ ap (found a) end

-- the place is within the octets
pub octets_reading-place : (p : List ℕ) {a k : ℕ} → octets_reading p ≡ found a k → k ≤ length p
octets_reading-place p {a} {k} e = let (s, f, number, end) = octets_reading_inverse p a k e in omega (arith, (address_fault-zero (size_told p) p f).1)

pub reading-longer : (p rest : List ℕ) {a k : ℕ} → octets_reading p ≡ found a k → 0 < length rest → reading (p ++ rest) ≡ found a k
reading-longer p rest e some =
    reading-found (p ++ rest) (octets_reading-longer p rest e) (omega (arith, octets_reading-place p e, length-append p rest))

-- ---- the same of an answer by its number

pub refused_stand_lem : (p : List ℕ) → ((octets_reading p).refusal ≡ 0 → ⊥) → reading p ≡ octets_reading p
unfolding reading with_payload
refused_stand_lem p h = rw (ne_eqb (octets_reading p).refusal 0 h)

module _ (p : List ℕ) (e : (octets_reading p).refusal ≡ 0) where
  answer : octets_reading p ≡ found (octets_reading p).address (octets_reading p).place
  answer = ap (λ (n : ℕ). record { refusal = n; address = (octets_reading p).address; place = (octets_reading p).place }) e

  pub accepted_stand_lem : (octets_reading p).place < length p → reading p ≡ octets_reading p
  accepted_stand_lem h = reading-found p answer h ∙ sym answer

  pub accepted-empty : length p ≤ (octets_reading p).place → reading p ≡ refused_header 16
  accepted-empty h = reading-empty p answer h

  pub accepted_more : (o : ℕ) → reading (p ++ (o ∷ [])) ≡ octets_reading p
  accepted_more o = reading-longer p (o ∷ []) answer (lit< tt) ∙ sym answer

-- ---- what reading comes to, check by check

module _ (p : List ℕ) where
  pub start_refused : (r : Refusal) → number_of r ≡ start_fault p → refused_header (number_of r) ≡ reading p
  start_refused r e = sym (reading-unread p (sym (octets_reading-start p e (some r))) (some r))

  module _ (begun : 0 ≡ start_fault p) where
    pub second_there : 1 < length p
    second_there = omega (arith, start_fault-length p (sym begun))

    pub address_refused : (r : Refusal) → number_of r ≡ address_fault (size_told p) p → refused_header (number_of r) ≡ reading p
    address_refused r e = sym (reading-unread p (sym (octets_reading-address p (sym begun) e (some r))) (some r))

    module _ (whole : 0 ≡ address_fault (size_told p) p) where
      pub payload_refused : length p < fixed_octets + size_told p + least_payload → refused_header 16 ≡ reading p
      payload_refused h = sym (reading-empty p (octets_reading-found p (sym begun) (sym whole)) (omega arith))

pub ruleset read_cases = (start_refused, second_there, address_refused, payload_refused)
