-- Each refusal of reading stands where the document puts it: at every condition of a field's order the definition, by the checks that have passed
-- on the way, gives that condition's number; and the fields follow one another where their first octets say. Assumes nothing.
use mathlib.Core.Path.{◌≡◌, refl, sym, ap, ap₂, ◌∙◌, subst}
use mathlib.Core.Logic.Dec
use mathlib.Core.Logic.{◌⊎◌, inl, inr}
use mathlib.Core.List.{List, [], ◌∷◌, ◌++◌, append_assoc}
use Prim.Native.Nat.{ℕ, ◌+◌, ◌*◌, ◌-◌, ◌^◌, ◌≤◌, ◌<◌}
use native.Mathlib.Decide.{ℕ_discrete, dec_le, dec_lt}
use native.Mathlib.Omega.{arith}
use lib.Dec.{lit<}
use lib.ListN.{length, take, drop, get_or, take-append-drop, length-drop}
use lib.Seq.{get_or-take, get_or-drop, length-take-le, drop-drop}
use Rattle.address.specs.Order.{First, ◌then◌}
use Rattle.address.proofs.OrderLaws.{given-exactly, first_then, Numbered}
use Rattle.address.proofs.Decided.{decided, one_of}
use Rattle.octets.specs.Octets.{AreOctets, value}
use Rattle.octets.proofs.Correspondence.{value-zeros}
use Rattle.octets.proofs.OctetLaws.{value_snoc, take-octets, drop-octets, value-lt_of_zeros, value_ge_of_zeros}
use Rattle.nsa.specs.Fields.{length_field, address_field, fields, Field, number_reading, length_reading, counted_reading, address_reading, FieldsAnswer, refused_fields, source_reading, destination_reading, reading}
use Rattle.nsa.specs.Refusals.{octet_at, told, length_field_order, length_end, address_field_order, address_end, behind_length, behind_source, fields_reading_order, AcceptedFields, FieldsReadRefusals}
use Rattle.nsa.proofs.Writing.{length_fields}
use Rattle.nsa.proofs.Cases.{refusal, number_reading-missing, number_reading-low, number_reading-found, length_reading-absent, length_reading_alone, length_reading-one, length_reading_two, length_reading_reserved, counted_reading-absent, counted_reading-few, counted_reading-many, counted_reading-right, address_reading-absent, address_reading-zero, address_reading_alone, address_reading_two, address_reading_four, address_reading-counted}
use Rattle.nsa.proofs.InRow.{reading-length, reading-source, reading-destination, reading-found}
use Rattle.nsa.proofs.BackAndForth.{length-read, address_read}
use Rattle.nsa.proofs.Demand2.{fields_read}
use Rattle.nsa.proofs.Forms.{length-form, address-form, length-form-end, address-form-end}

first-octet : (p : List ℕ) → AreOctets p → get_or p 0 0 < 256
first-octet [] all = omega arith
first-octet (o ∷ os) all = all.0

-- ---- a payload length

module _ (p : List ℕ) (all : AreOctets p) where
  first-length : First (length_field_order p) (length_reading p).refusal
  first-length =
      let o = octet_at 0 p in
      decided (dec_le (length p) 0) (λ h. ap refusal (length_reading-absent p (omega arith))) λ there.
      let some : 1 ≤ length p = omega arith in
      decided (ℕ_discrete o 255) (λ e. ap refusal (length_reading_reserved p some (omega arith))) λ other.
      decided (Dec.and (ℕ_discrete o 253) (dec_le (length p) 1))
      (λ c. ap refusal (length_reading-one p some c.0 ∙ number_reading-missing 1 1 1 252 p (omega (arith, c.1)))) λ absent1.
      decided (Dec.and (ℕ_discrete o 253) (dec_le (told 1 1 p + 252) 252))
      (λ c.
      let long : length p ≤ 1 → ⊥ = λ h. absent1 (c.0, h) in
      ap refusal (length_reading-one p some c.0 ∙ number_reading-low 1 1 1 252 p (omega arith) (omega (arith, c.1)))) λ low1.
      decided (Dec.and (ℕ_discrete o 254) (dec_le (length p) 2))
      (λ c. ap refusal (length_reading_two p some c.0 ∙ number_reading-missing 1 2 256 252 p (omega (arith, c.1)))) λ absent2.
      decided (Dec.and (ℕ_discrete o 254) (dec_le (told 1 2 p + 252) 507))
      (λ c.
      let long : length p ≤ 2 → ⊥ = λ h. absent2 (c.0, h) in
      ap refusal (length_reading_two p some c.0 ∙ number_reading-low 1 2 256 252 p (omega arith) (omega (arith, c.1)))) λ low2.
      go some other absent1 low1 absent2 low2 (dec_lt o 253) (ℕ_discrete o 253) (ℕ_discrete o 254)
    where
      go : 1 ≤ length p → (octet_at 0 p ≡ 255 → ⊥)
          → (((octet_at 0 p ≡ 253) × (length p ≤ 1)) → ⊥) → (((octet_at 0 p ≡ 253) × (told 1 1 p + 252 ≤ 252)) → ⊥)
          → (((octet_at 0 p ≡ 254) × (length p ≤ 2)) → ⊥) → (((octet_at 0 p ≡ 254) × (told 1 2 p + 252 ≤ 507)) → ⊥)
          → Dec (octet_at 0 p < 253) → Dec (octet_at 0 p ≡ 253) → Dec (octet_at 0 p ≡ 254) → (length_reading p).refusal ≡ 0
      go some other absent1 low1 absent2 low2 (yes h) one two = ap refusal (length_reading_alone p some h)
      go some other absent1 low1 absent2 low2 (no h) (yes e) two =
          let long : length p ≤ 1 → ⊥ = λ h. absent1 (e, h) in
          let high : told 1 1 p + 252 ≤ 252 → ⊥ = λ h. low1 (e, h) in
          ap refusal (length_reading-one p some e ∙ number_reading-found 1 1 1 252 p (omega arith) (omega arith))
      go some other absent1 low1 absent2 low2 (no h) (no one) (yes e) =
          let long : length p ≤ 2 → ⊥ = λ h. absent2 (e, h) in
          let high : told 1 2 p + 252 ≤ 507 → ⊥ = λ h. low2 (e, h) in
          ap refusal (length_reading_two p some e ∙ number_reading-found 1 2 256 252 p (omega arith) (omega arith))
      go some other absent1 low1 absent2 low2 (no h) (no one) (no two) = absurd (other (omega (arith, first-octet p all)))

-- ---- an address

-- after 255 the first of 5 to 8 octets is zero exactly if the number is below what one octet fewer holds
module _ (p : List ℕ) (all : AreOctets p) (k : ℕ) (some : 5 ≤ k) (most : k ≤ 8) (whole : 2 + k ≤ length p) where
  os : List ℕ
  os = take k (drop 2 p)

  fewer : 256 ^ (length os - 1) ≡ 2 ^ (8 * (k - 1))
  unfolding os
  fewer =
      let many : length os ≡ k = length-take-le k (drop 2 p) (omega (arith, length-drop 2 p)) in
      ap (λ (j : ℕ). 256 ^ (j - 1)) many ∙ go (ℕ_discrete k 5) (ℕ_discrete k 6) (ℕ_discrete k 7)
    where
      Same : ℕ → Type 0
      Same j = 256 ^ (j - 1) ≡ 2 ^ (8 * (j - 1))

      go : Dec (k ≡ 5) → Dec (k ≡ 6) → Dec (k ≡ 7) → Same k
      go (yes e) six seven = subst Same (sym e) refl
      go (no five) (yes e) seven = subst Same (sym e) refl
      go (no five) (no six) (yes e) = subst Same (sym e) refl
      go (no five) (no six) (no seven) = let e : k ≡ 8 = omega arith in subst Same (sym e) refl

  first-told : value (take 1 os) ≡ octet_at 2 p
  unfolding os
  first-told = alone (take k (drop 2 p)) ∙ get_or-take k (drop 2 p) 0 0 (omega arith) ∙ get_or-drop 2 p 0 0
    where
      alone : (l : List ℕ) → value (take 1 l) ≡ get_or l 0 0
      alone [] = value-zeros 0
      alone (o ∷ l) = omega (arith, value_snoc [] o, value-zeros 0)

  are : AreOctets os
  unfolding os
  are = take-octets k (drop 2 p) (drop-octets 2 p all)

  counted-low : octet_at 2 p ≡ 0 → value (take k (drop 2 p)) < 2 ^ (8 * (k - 1))
  unfolding os
  counted-low z = subst (λ (n : ℕ). value os < n) fewer (value-lt_of_zeros 1 os are (first-told ∙ z))

  counted-high : (octet_at 2 p ≡ 0 → ⊥) → 2 ^ (8 * (k - 1)) ≤ value (take k (drop 2 p))
  unfolding os
  counted-high n = subst (λ (m : ℕ). m ≤ value os) fewer (value_ge_of_zeros 1 os are (λ z. n (sym first-told ∙ z)))

module _ (p : List ℕ) (all : AreOctets p) where
  -- with a length octet: 255, and it is told
  counted : 1 ≤ length p → octet_at 0 p ≡ 255 → address_reading p ≡ counted_reading p
  counted some e = address_reading-counted p some (omega arith)

  sized : 1 ≤ length p → octet_at 0 p ≡ 255 → ((octet_at 0 p ≡ 255) × (length p ≤ 1) → ⊥) → ((octet_at 0 p ≡ 255) × ((octet_at 1 p < 5) ⊎ (8 < octet_at 1 p)) → ⊥)
      → (5 ≤ octet_at 1 p) × (octet_at 1 p ≤ 8) × (address_reading p ≡ number_reading 2 (octet_at 1 p) (2 ^ (8 * (octet_at 1 p - 1))) 0 p)
  sized some e absent outside =
      let long : length p ≤ 1 → ⊥ = λ h. absent (e, h) in
      let few : octet_at 1 p < 5 → ⊥ = λ h. outside (e, inl h) in
      let many : 8 < octet_at 1 p → ⊥ = λ h. outside (e, inr h) in
      (omega arith, omega arith, counted some e ∙ counted_reading-right p (omega arith) (omega arith) (omega arith))

  outside-refused : 2 ≤ length p → (octet_at 1 p < 5) ⊎ (8 < octet_at 1 p) → (counted_reading p).refusal ≡ 6
  outside-refused long (inl few) = ap refusal (counted_reading-few p long few)
  outside-refused long (inr many) = ap refusal (counted_reading-many p long many)

  first-address : First (address_field_order p) (address_reading p).refusal
  first-address =
      let o = octet_at 0 p in
      let k = octet_at 1 p in
      decided (dec_le (length p) 0) (λ h. ap refusal (address_reading-absent p (omega arith))) λ there.
      let some : 1 ≤ length p = omega arith in
      decided (ℕ_discrete o 0) (λ e. ap refusal (address_reading-zero p some e)) λ other.
      decided (Dec.and (ℕ_discrete o 253) (dec_le (length p) 2))
      (λ c. ap refusal (address_reading_two p some c.0 ∙ number_reading-missing 1 2 253 0 p (omega (arith, c.1)))) λ absent2.
      decided (Dec.and (ℕ_discrete o 253) (dec_le (told 1 2 p) 252))
      (λ c.
      let long : length p ≤ 2 → ⊥ = λ h. absent2 (c.0, h) in
      ap refusal (address_reading_two p some c.0 ∙ number_reading-low 1 2 253 0 p (omega arith) (omega (arith, c.1)))) λ low2.
      decided (Dec.and (ℕ_discrete o 254) (dec_le (length p) 4))
      (λ c. ap refusal (address_reading_four p some c.0 ∙ number_reading-missing 1 4 (256 ^ 2) 0 p (omega (arith, c.1)))) λ absent4.
      decided (Dec.and (ℕ_discrete o 254) (dec_le (told 1 4 p) 65535))
      (λ c.
      let long : length p ≤ 4 → ⊥ = λ h. absent4 (c.0, h) in
      ap refusal (address_reading_four p some c.0 ∙ number_reading-low 1 4 (256 ^ 2) 0 p (omega arith) (omega (arith, c.1)))) λ low4.
      decided (Dec.and (ℕ_discrete o 255) (dec_le (length p) 1))
      (λ c. ap refusal (counted some c.0 ∙ counted_reading-absent p (omega (arith, c.1)))) λ absent1.
      decided (Dec.and (ℕ_discrete o 255) (one_of (dec_lt k 5) (dec_lt 8 k)))
      (λ c.
      let long : length p ≤ 1 → ⊥ = λ h. absent1 (c.0, h) in
      ap refusal (counted some c.0) ∙ outside-refused (omega arith) c.1) λ outside.
      decided (Dec.and (ℕ_discrete o 255) (dec_lt (length p) (2 + k)))
      (λ c.
      let (five, eight, r) = sized some c.0 absent1 outside in
      ap refusal (r ∙ number_reading-missing 2 k (2 ^ (8 * (k - 1))) 0 p c.1)) λ short.
      decided (Dec.and (ℕ_discrete o 255) (ℕ_discrete (octet_at 2 p) 0))
      (λ c.
      let long : length p < 2 + k → ⊥ = λ h. short (c.0, h) in
      let (five, eight, r) = sized some c.0 absent1 outside in
      let whole : 2 + k ≤ length p = omega arith in
      ap refusal (r ∙ number_reading-low 2 k (2 ^ (8 * (k - 1))) 0 p whole (counted-low p all k five eight whole c.1))) λ leading.
      go some other absent2 low2 absent4 low4 absent1 outside short leading (dec_lt o 253) (ℕ_discrete o 253) (ℕ_discrete o 254)
    where
      go : 1 ≤ length p → (octet_at 0 p ≡ 0 → ⊥)
          → (((octet_at 0 p ≡ 253) × (length p ≤ 2)) → ⊥) → (((octet_at 0 p ≡ 253) × (told 1 2 p ≤ 252)) → ⊥)
          → (((octet_at 0 p ≡ 254) × (length p ≤ 4)) → ⊥) → (((octet_at 0 p ≡ 254) × (told 1 4 p ≤ 65535)) → ⊥)
          → (((octet_at 0 p ≡ 255) × (length p ≤ 1)) → ⊥) → (((octet_at 0 p ≡ 255) × ((octet_at 1 p < 5) ⊎ (8 < octet_at 1 p))) → ⊥)
          → (((octet_at 0 p ≡ 255) × (length p < 2 + octet_at 1 p)) → ⊥) → (((octet_at 0 p ≡ 255) × (octet_at 2 p ≡ 0)) → ⊥)
          → Dec (octet_at 0 p < 253) → Dec (octet_at 0 p ≡ 253) → Dec (octet_at 0 p ≡ 254) → (address_reading p).refusal ≡ 0
      go some other absent2 low2 absent4 low4 absent1 outside short leading (yes h) two four = ap refusal (address_reading_alone p some other h)
      go some other absent2 low2 absent4 low4 absent1 outside short leading (no h) (yes e) four =
          let long : length p ≤ 2 → ⊥ = λ h. absent2 (e, h) in
          let high : told 1 2 p ≤ 252 → ⊥ = λ h. low2 (e, h) in
          ap refusal (address_reading_two p some e ∙ number_reading-found 1 2 253 0 p (omega arith) (omega arith))
      go some other absent2 low2 absent4 low4 absent1 outside short leading (no h) (no two) (yes e) =
          let long : length p ≤ 4 → ⊥ = λ h. absent4 (e, h) in
          let high : told 1 4 p ≤ 65535 → ⊥ = λ h. low4 (e, h) in
          ap refusal (address_reading_four p some e ∙ number_reading-found 1 4 (256 ^ 2) 0 p (omega arith) (omega arith))
      go some other absent2 low2 absent4 low4 absent1 outside short leading (no h) (no two) (no four) =
          let k = octet_at 1 p in
          let e : octet_at 0 p ≡ 255 = omega (arith, first-octet p all) in
          let (five, eight, r) = sized some e absent1 outside in
          let long : length p < 2 + k → ⊥ = λ h. short (e, h) in
          let whole : 2 + k ≤ length p = omega arith in
          ap refusal (r ∙ number_reading-found 2 k (2 ^ (8 * (k - 1))) 0 p whole (counted-high p all k five eight whole (λ z. leading (e, z))))

-- ---- where a field ends

-- octets with a form in front
in_front : (k : ℕ) (p f : List ℕ) → take k p ≡ f → f ++ drop k p ≡ p
in_front k p f e = ap (λ (l : List ℕ). l ++ drop k p) (sym e) ∙ take-append-drop k p

length-ends : (p : List ℕ) → AreOctets p → (length_reading p).refusal ≡ 0 → (length_reading p).size ≡ length_end p
length-ends p all z =
    let (short, (within, taken)) = length-read p all z in
    let n = (length_reading p).number in
    let k = (length_reading p).size in
    sym (length-take-le k p within) ∙ ap length taken ∙ (length-form-end (length_field n) (drop k p) n (length-form n short)).0 ∙ ap length_end (in_front k p (length_field n) taken)

address-ends : (p : List ℕ) → AreOctets p → (address_reading p).refusal ≡ 0 → (address_reading p).size ≡ address_end p
address-ends p all z =
    let (address, (within, taken)) = address_read p all z in
    let a = (address_reading p).number in
    let k = (address_reading p).size in
    sym (length-take-le k p within) ∙ ap length taken ∙ (address-form-end (address_field a) (drop k p) a (address-form a address.fits)).0 ∙ ap address_end (in_front k p (address_field a) taken)

-- ---- three in a row

module _ (p : List ℕ) (all : AreOctets p) where
  behind-length : (length_reading p).refusal ≡ 0 → source_reading p ≡ address_reading (behind_length p)
  unfolding source_reading
  behind-length l = ap (λ (k : ℕ). address_reading (drop k p)) (length-ends p all l)

  source-octets : AreOctets (behind_length p)
  source-octets = drop-octets (length_end p) p all

  behind-source : (length_reading p).refusal ≡ 0 → (source_reading p).refusal ≡ 0 → destination_reading p ≡ address_reading (behind_source p)
  unfolding destination_reading
  behind-source l s =
      let e = behind-length l in
      let ends = ap (λ (f : Field). f.size) e ∙ address-ends (behind_length p) source-octets (sym (ap refusal e) ∙ s) in
      ap₂ (λ (j k : ℕ). address_reading (drop (j + k) p)) (length-ends p all l) ends
      ∙ ap address_reading (sym (drop-drop (address_end (behind_length p)) (length_end p) p))

  destination-octets : AreOctets (behind_source p)
  destination-octets = drop-octets (address_end (behind_length p)) (behind_length p) source-octets

  numbered_length : Numbered (length_field_order p)
  numbered_length = (lit< tt, (lit< tt, (lit< tt, (lit< tt, (lit< tt, (lit< tt, tt))))))

  numbered_address : (q : List ℕ) → Numbered (address_field_order q)
  numbered_address q = (lit< tt, (lit< tt, (lit< tt, (lit< tt, (lit< tt, (lit< tt, (lit< tt, (lit< tt, (lit< tt, (lit< tt, tt))))))))))

  -- the refusal is that of the first field that has one
  by_length : ((length_reading p).refusal ≡ 0 → ⊥) → (reading p).refusal ≡ (length_reading p).refusal
  by_length n = sym (ap (λ (x : FieldsAnswer). x.refusal) (reading-length p refl n))

  by_source : (length_reading p).refusal ≡ 0 → ((source_reading p).refusal ≡ 0 → ⊥) → (reading p).refusal ≡ (source_reading p).refusal
  by_source l n = sym (ap (λ (x : FieldsAnswer). x.refusal) (reading-source p l refl n))

  by_destination : (length_reading p).refusal ≡ 0 → (source_reading p).refusal ≡ 0 → (reading p).refusal ≡ (destination_reading p).refusal
  by_destination l s = go (ℕ_discrete (destination_reading p).refusal 0)
    where
      go : Dec ((destination_reading p).refusal ≡ 0) → (reading p).refusal ≡ (destination_reading p).refusal
      go (yes d) = ap (λ (x : FieldsAnswer). x.refusal) (reading-found p l s d) ∙ sym d
      go (no n) = sym (ap (λ (x : FieldsAnswer). x.refusal) (reading-destination p l s refl n))

  first-reading : First (fields_reading_order p) (reading p).refusal
  first-reading =
      first_then (length_field_order p) (address_field_order (behind_length p) then address_field_order (behind_source p)) numbered_length (first-length p all)
      (λ l.
      let e = ap refusal (behind-length l) in
      first_then (address_field_order (behind_length p)) (address_field_order (behind_source p)) (numbered_address (behind_length p)) (first-address (behind_length p) source-octets)
      (λ s. first-address (behind_source p) destination-octets)
      (λ s. let right = e ∙ s in by_destination l right ∙ ap refusal (behind-source l right))
      (λ n. by_source l (λ z. n (sym e ∙ z)) ∙ e))
      (λ l. refl) by_length

accepted : (p : List ℕ) → AreOctets p → (reading p).refusal ≡ 0
    → AcceptedFields p (reading p).length (reading p).source (reading p).destination (reading p).place
unfolding fields
accepted p all z =
    let read = fields_read p all z in
    let l = length_field (reading p).length in
    let s = address_field (reading p).source in
    let d = address_field (reading p).destination in
    let rest = drop (reading p).place p in
    record {
      in_length = l;
      in_source = s;
      in_destination = d;
      behind = rest;
      laid =
          sym (in_front (reading p).place p (l ++ (s ++ d)) read.taken)
          ∙ append_assoc l (s ++ d) rest
          ∙ ap (λ (os : List ℕ). l ++ os) (append_assoc s d rest);
      length-told = length-form (reading p).length read.short;
      source_told = address-form (reading p).source read.source.fits;
      destination-told = address-form (reading p).destination read.destination.fits;
      after = read.sized ∙ length_fields (reading p).length (reading p).source (reading p).destination;
    }

pub fields-read-refusals : FieldsReadRefusals reading
fields-read-refusals = record {
  given = λ p all. given-exactly (fields_reading_order p) (first-reading p all);
  beside = λ p. beside p (ℕ_discrete (length_reading p).refusal 0) (ℕ_discrete (source_reading p).refusal 0) (ℕ_discrete (destination_reading p).refusal 0);
  without = accepted;
}
  where
    Zeros : FieldsAnswer → Type 0
    Zeros x = (x.length ≡ 0) × (x.source ≡ 0) × (x.destination ≡ 0) × (x.place ≡ 0)

    refused : (p : List ℕ) (n : ℕ) → refused_fields n ≡ reading p → Zeros (reading p)
    refused p n e = subst Zeros e (refl, refl, refl, refl)

    beside : (p : List ℕ) → Dec ((length_reading p).refusal ≡ 0) → Dec ((source_reading p).refusal ≡ 0) → Dec ((destination_reading p).refusal ≡ 0)
        → ((reading p).refusal ≡ 0 → ⊥) → Zeros (reading p)
    beside p (no n) s d h = refused p (length_reading p).refusal (reading-length p refl n)
    beside p (yes l) (no n) d h = refused p (source_reading p).refusal (reading-source p l refl n)
    beside p (yes l) (yes s) (no n) h = refused p (destination_reading p).refusal (reading-destination p l s refl n)
    beside p (yes l) (yes s) (yes d) h = absurd (h (ap (λ (x : FieldsAnswer). x.refusal) (reading-found p l s d)))
