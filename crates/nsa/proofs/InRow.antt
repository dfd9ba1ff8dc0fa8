-- What reading three fields in a row answers, case by case, and how far a field reaches. Assumes nothing.
use mathlib.Core.Path.{◌≡◌, refl, sym, ap, ap₂, ◌∙◌, subst}
use mathlib.Core.List.{List, [], ◌∷◌, ◌++◌}
use Prim.Native.Nat.{ℕ, zero, suc, ◌+◌, ◌*◌, ◌-◌, ◌^◌, ◌≤◌, ◌<◌}
use native.Mathlib.Decide.{ℕ_discrete, dec_lt}
use native.Mathlib.Omega.{arith}
use borrow.Author.Tests.{eq-eqb, ne_eqb}
use lib.ListN.{length, take, drop, get_or, length-drop}
use lib.Seq.{take_all, drop-append_seam, drop-append-add}
use Rattle.std.proofs.Common.{Fits, w8}
use Rattle.refusal.specs.declared.Refusal.{Refusal}
use Rattle.refusal.specs.Refusal.{number_of}
use Rattle.refusal.proofs.Numbers.{some}
use Rattle.octets.specs.Octets.{value, AreOctets}
use Rattle.octets.proofs.OctetLaws.{all_octets}
use Rattle.nsa.specs.Fields.{Field, field, refused_field, number_reading, length_reading, counted_reading, address_reading, FieldsAnswer, found, refused_fields, source_reading, destination_reading, reading}
use Rattle.nsa.proofs.Cases.{refusal, number_reading-missing, number_reading-low, number_reading-found, length_reading-absent, length_reading_alone, length_reading-one, length_reading_two, length_reading_reserved, counted_reading-absent, counted_reading-few, counted_reading-many, counted_reading-right, address_reading-absent, address_reading-zero, address_reading_alone, address_reading_two, address_reading_four, address_reading-counted}

-- ---- three in a row

module _ (p : List ℕ) where
  pub reading-length : {n : ℕ} → n ≡ (length_reading p).refusal → (n ≡ 0 → ⊥) → refused_fields n ≡ reading p
  unfolding reading
  reading-length e h = rw (ne_eqb (length_reading p).refusal 0 (λ z. h (e ∙ z))) (ap refused_fields e)

  module _ (l : (length_reading p).refusal ≡ 0) where
    pub reading-source : {n : ℕ} → n ≡ (source_reading p).refusal → (n ≡ 0 → ⊥) → refused_fields n ≡ reading p
    unfolding reading
    reading-source e h = rw (eq-eqb (length_reading p).refusal 0 l, ne_eqb (source_reading p).refusal 0 (λ z. h (e ∙ z))) (ap refused_fields e)

    module _ (s : (source_reading p).refusal ≡ 0) where
      pub reading-destination : {n : ℕ} → n ≡ (destination_reading p).refusal → (n ≡ 0 → ⊥) → refused_fields n ≡ reading p
      unfolding reading
      reading-destination e h =
          rw (eq-eqb (length_reading p).refusal 0 l, eq-eqb (source_reading p).refusal 0 s, ne_eqb (destination_reading p).refusal 0 (λ z. h (e ∙ z)))
          (ap refused_fields e)

      pub reading-found : (destination_reading p).refusal ≡ 0
          → reading p ≡ found (length_reading p).number (source_reading p).number (destination_reading p).number
          ((length_reading p).size + (source_reading p).size + (destination_reading p).size)
      unfolding reading
      reading-found d =
          rw (eq-eqb (length_reading p).refusal 0 l, eq-eqb (source_reading p).refusal 0 s, eq-eqb (destination_reading p).refusal 0 d)

-- ---- how far a field reaches: into the octets, at most ten of them, and at least one where it is not refused

abbrev Within : List ℕ → Field → Type 0
Within p f = (f.size ≤ length p) × (f.size ≤ 10) × (f.refusal ≡ 0 → 1 ≤ f.size)

within : (p : List ℕ) {f g : Field} → f ≡ g → Within p g → Within p f
within p e w = subst (Within p) (sym e) w

refused-within : (p : List ℕ) {f : Field} (n : ℕ) → f ≡ refused_field (suc n) → Within p f
refused-within p n e = within p e (omega arith, omega arith, λ z. absurd (omega arith))

number-within : (before count least added : ℕ) (p : List ℕ) → 1 ≤ before → before + count ≤ 10 → Within p (number_reading before count least added p)
number-within before count least added p some h = go (dec_lt (length p) (before + count)) (dec_lt (value (take count (drop before p))) least)
  where
    go : Dec (length p < before + count) → Dec (value (take count (drop before p)) < least) → Within p (number_reading before count least added p)
    go (yes short) low = refused-within p 3 (number_reading-missing before count least added p short)
    go (no long) (yes low) = refused-within p 5 (number_reading-low before count least added p (omega arith) low)
    go (no long) (no high) = within p (number_reading-found before count least added p (omega arith) (omega arith)) (omega arith, omega arith, λ z. omega arith)

pub length-within : (p : List ℕ) → Within p (length_reading p)
length-within [] = refused-within [] 3 (length_reading-absent [] (omega arith))
length-within (o ∷ os) = go (dec_lt o 253) (ℕ_discrete o 253) (ℕ_discrete o 254)
  where
    p : List ℕ
    p = o ∷ os

    some : 1 ≤ length (o ∷ os)
    some = omega arith

    go : Dec (o < 253) → Dec (o ≡ 253) → Dec (o ≡ 254) → Within (o ∷ os) (length_reading (o ∷ os))
    go (yes h) one two = within p (length_reading_alone p some h) (omega arith, omega arith, λ z. omega arith)
    go (no h) (yes e) two = within p (length_reading-one p some e) (number-within 1 1 1 252 p (omega arith) (omega arith))
    go (no h) (no one) (yes e) = within p (length_reading_two p some e) (number-within 1 2 256 252 p (omega arith) (omega arith))
    go (no h) (no one) (no two) = refused-within p 5 (length_reading_reserved p some (omega arith))

counted-within : (p : List ℕ) → Within p (counted_reading p)
counted-within p = go (dec_lt (length p) 2) (dec_lt (get_or p 1 0) 5) (dec_lt 8 (get_or p 1 0))
  where
    go : Dec (length p < 2) → Dec (get_or p 1 0 < 5) → Dec (8 < get_or p 1 0) → Within p (counted_reading p)
    go (yes h) few many = refused-within p 3 (counted_reading-absent p h)
    go (no h) (yes few) many = refused-within p 5 (counted_reading-few p (omega arith) few)
    go (no h) (no few) (yes many) = refused-within p 5 (counted_reading-many p (omega arith) many)
    go (no h) (no few) (no many) =
        within p (counted_reading-right p (omega arith) (omega arith) (omega arith))
        (number-within 2 (get_or p 1 0) (2 ^ (8 * (get_or p 1 0 - 1))) 0 p (omega arith) (omega arith))

address-within : (p : List ℕ) → Within p (address_reading p)
address-within [] = refused-within [] 3 (address_reading-absent [] (omega arith))
address-within (o ∷ os) = go (ℕ_discrete o 0) (dec_lt o 253) (ℕ_discrete o 253) (ℕ_discrete o 254)
  where
    p : List ℕ
    p = o ∷ os

    some : 1 ≤ length (o ∷ os)
    some = omega arith

    go : Dec (o ≡ 0) → Dec (o < 253) → Dec (o ≡ 253) → Dec (o ≡ 254) → Within (o ∷ os) (address_reading (o ∷ os))
    go (yes z) h two four = refused-within p 8 (address_reading-zero p some z)
    go (no z) (yes h) two four = within p (address_reading_alone p some z h) (omega arith, omega arith, λ z. omega arith)
    go (no z) (no h) (yes e) four = within p (address_reading_two p some e) (number-within 1 2 253 0 p (omega arith) (omega arith))
    go (no z) (no h) (no two) (yes e) = within p (address_reading_four p some e) (number-within 1 4 (256 ^ 2) 0 p (omega arith) (omega arith))
    go (no z) (no h) (no two) (no four) = within p (address_reading-counted p some (omega arith)) (counted-within p)

-- all that stands behind a place
pub part-behind : (k : ℕ) (p : List ℕ) → take (length p - k) (drop k p) ≡ drop k p
part-behind k p = take_all (length p - k) (drop k p) (omega (arith, length-drop k p))

-- each of the three ends within the octets
module _ (p : List ℕ) where
  pub source-within : ((length_reading p).size + (source_reading p).size ≤ length p) × ((length_reading p).size + (source_reading p).size ≤ 20)
  unfolding source_reading
  source-within = let k = (length_reading p).size in omega (arith, length-within p, address-within (drop k p), length-drop k p)

  pub destination-within : ((length_reading p).size + (source_reading p).size + (destination_reading p).size ≤ length p)
      × ((length_reading p).size + (source_reading p).size + (destination_reading p).size ≤ 30)
  unfolding destination_reading
  destination-within =
      let k = (length_reading p).size + (source_reading p).size in omega (arith, source-within, address-within (drop k p), length-drop k p)

-- no refusal: none of the three has one
pub reading-right : (p : List ℕ) → (reading p).refusal ≡ 0 → ((length_reading p).refusal ≡ 0) × ((source_reading p).refusal ≡ 0) × ((destination_reading p).refusal ≡ 0)
reading-right p z = go (length_reading p).refusal refl (source_reading p).refusal refl (destination_reading p).refusal refl
  where
    refused : {A : Type 0} (n : ℕ) → refused_fields (suc n) ≡ reading p → A
    refused n e = absurd (omega (arith, z, ap (λ (x : FieldsAnswer). x.refusal) e))

    go : (k : ℕ) → (length_reading p).refusal ≡ k → (m : ℕ) → (source_reading p).refusal ≡ m → (n : ℕ) → (destination_reading p).refusal ≡ n
        → ((length_reading p).refusal ≡ 0) × ((source_reading p).refusal ≡ 0) × ((destination_reading p).refusal ≡ 0)
    go (suc k) e m f n g = refused k (reading-length p (sym e) (λ z. omega arith))
    go zero e (suc m) f n g = refused m (reading-source p e (sym f) (λ z. omega arith))
    go zero e zero f (suc n) g = refused n (reading-destination p e f (sym g) (λ z. omega arith))
    go zero e zero f zero g = (e, f, g)

-- behind a payload length that was read the source is read, and behind a source the destination
pub source-behind : (f rest : List ℕ) {n : ℕ} → length_reading (f ++ rest) ≡ field n (length f) → source_reading (f ++ rest) ≡ address_reading rest
unfolding source_reading
source-behind f rest e = ap (λ (x : Field). address_reading (drop x.size (f ++ rest))) e ∙ ap address_reading (drop-append_seam f rest)

pub destination-behind : (f g rest : List ℕ) {n a : ℕ} → length_reading (f ++ (g ++ rest)) ≡ field n (length f)
    → source_reading (f ++ (g ++ rest)) ≡ field a (length g) → destination_reading (f ++ (g ++ rest)) ≡ address_reading rest
unfolding destination_reading
destination-behind f g rest d e =
    ap₂ (λ (x y : Field). address_reading (drop (x.size + y.size) (f ++ (g ++ rest)))) d e
    ∙ ap address_reading (drop-append-add f (g ++ rest) (length g) ∙ drop-append_seam g rest)

-- ---- what reading comes to, field by field, from what each of the three calls answered

module _ (p : List ℕ) where
  pub length_refused : (r : Refusal) → refused_field (number_of r) ≡ length_reading p → refused_fields (number_of r) ≡ reading p
  length_refused r e = reading-length p (ap refusal e) (some r)

  module _ (n k : ℕ) (l : field n k ≡ length_reading p) where
    pub length_ends : k ≤ length p
    length_ends = let w = length-within p in let e = ap (λ (f : Field). f.size) l in omega arith

    source_read : address_reading (take (length p - k) (drop k p)) ≡ source_reading p
    unfolding source_reading
    source_read = ap address_reading (part-behind k p) ∙ ap (λ (f : Field). address_reading (drop f.size p)) l

    pub source_refused : (r : Refusal) → refused_field (number_of r) ≡ address_reading (take (length p - k) (drop k p)) → refused_fields (number_of r) ≡ reading p
    source_refused r e = reading-source p (sym (ap refusal l)) (ap refusal (e ∙ source_read)) (some r)

    module _ (a m : ℕ) (s : field a m ≡ address_reading (take (length p - k) (drop k p))) where
      ends : k + m ≡ (length_reading p).size + (source_reading p).size
      ends = ap₂ (λ (f g : Field). f.size + g.size) l (s ∙ source_read)

      pub source_ends : k + m ≤ length p
      source_ends = let w = source-within p in omega (arith, ends)

      pub source_few : k + m ≤ 20
      source_few = let w = source-within p in omega (arith, ends)

      destination_read : address_reading (take (length p - (k + m)) (drop (k + m) p)) ≡ destination_reading p
      unfolding destination_reading
      destination_read = ap address_reading (part-behind (k + m) p) ∙ ap (λ (j : ℕ). address_reading (drop j p)) ends

      pub destination_refused : (r : Refusal) → refused_field (number_of r) ≡ address_reading (take (length p - (k + m)) (drop (k + m) p))
          → refused_fields (number_of r) ≡ reading p
      destination_refused r e =
          reading-destination p (sym (ap refusal l)) (sym (ap refusal (s ∙ source_read))) (ap refusal (e ∙ destination_read)) (some r)

      module _ (b j : ℕ) (d : field b j ≡ address_reading (take (length p - (k + m)) (drop (k + m) p))) where
        pub destination_few : k + m + j ≤ 30
        destination_few = let w = destination-within p in let e = ap (λ (f : Field). f.size) (d ∙ destination_read) in omega (arith, ends)

        pub row_found : found n a b (k + m + j) ≡ reading p
        row_found =
            ap₂ (λ (f g : Field). found f.number g.number b (f.size + g.size + j)) l (s ∙ source_read)
            ∙ ap (λ (h : Field). found (length_reading p).number (source_reading p).number h.number ((length_reading p).size + (source_reading p).size + h.size))
            (d ∙ destination_read)
            ∙ sym (reading-found p (sym (ap refusal l)) (sym (ap refusal (s ∙ source_read))) (sym (ap refusal (d ∙ destination_read))))

-- what is lent is octets
pub lent : (p : List ℕ) → ((i : ℕ) → Fits w8 (get_or p i 0)) → AreOctets p
lent p h = all_octets p (λ i. (h i).fits)

pub ruleset read_cases = (length_refused, length_ends, source_refused, source_ends, source_few, destination_refused, destination_few, lent)
