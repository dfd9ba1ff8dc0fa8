-- A field that is written reads as its number, whatever stands behind it (`length-put`, `address-put`), and octets that are read as a field are
-- what is written of the number (`length-read`, `address_read`). Assumes nothing.
use mathlib.Core.Path.{◌≡◌, refl, sym, ap, ap₂, ◌∙◌, subst}
use mathlib.Core.List.{List, [], ◌∷◌, ◌++◌}
use Prim.Native.Nat.{ℕ, suc, ◌+◌, ◌*◌, ◌-◌, ◌^◌, ◌≤◌, ◌<◌}
use native.Mathlib.Decide.{ℕ_discrete, dec_lt}
use native.Mathlib.Nat.{lt_of_lt_of_le, pow-le-pow_right}
use native.Mathlib.Omega.{arith}
use lib.Dec.{lit<}
use lib.ListN.{length, take, drop, length-drop}
use lib.Seq.{take-add, length-take-le}
use Rattle.address.specs.Bits.{longest}
use Rattle.address.specs.Numbers.{IsAddress}
use Rattle.octets.specs.Octets.{octets, value, AreOctets}
use Rattle.octets.proofs.OctetLaws.{length-octets, value-octets_of_lt, octets-value, value-lt, take-octets, drop-octets}
use Rattle.nsa.specs.Fields.{length_field, long_octets, address_field, longest_payload, Field, field, refused_field, number_reading, length_reading, counted_reading, address_reading}
use Rattle.nsa.proofs.Writing.{length_field_alone, length_field-one, length_field_two, address_field_alone, address_field_two, address_field_four, address_field-counted, long_octets_five, long_octets_six, long_octets_seven, long_octets_eight, long_octets_bounds, length-behind, length-counted}
use Rattle.nsa.proofs.Cases.{refusal, cut_out, number_reading-missing, number_reading-low, number_reading-found, length_reading-absent, length_reading_alone, length_reading-one, length_reading_two, length_reading_reserved, counted_reading-absent, counted_reading-few, counted_reading-many, counted_reading-right, address_reading-absent, address_reading-zero, address_reading_alone, address_reading_two, address_reading_four, address_reading-counted}

-- ---- how many octets a long address takes: the fewest

abbrev pub LongIn : ℕ → ℕ → Type 0
LongIn a k = (2 ^ (8 * (k - 1)) ≤ a) × (a < 256 ^ k)

pub long_in : (a : ℕ) → 256 ^ 4 ≤ a → a < 2 ^ longest → LongIn a (long_octets a)
long_in a l h = go (dec_lt a (256 ^ 5)) (dec_lt a (256 ^ 6)) (dec_lt a (256 ^ 7))
  where
    go : Dec (a < 256 ^ 5) → Dec (a < 256 ^ 6) → Dec (a < 256 ^ 7) → LongIn a (long_octets a)
    go (yes five) six seven = subst (LongIn a) (sym (long_octets_five a five)) (omega arith)
    go (no five) (yes six) seven = subst (LongIn a) (sym (long_octets_six a (omega arith) six)) (omega arith)
    go (no five) (no six) (yes seven) = subst (LongIn a) (sym (long_octets_seven a (omega arith) seven)) (omega arith)
    go (no five) (no six) (no seven) = subst (LongIn a) (sym (long_octets_eight a (omega arith))) (omega arith)

-- and no other number of octets, of 5 to 8
pub long_exact : (a k : ℕ) → 5 ≤ k → k ≤ 8 → LongIn a k → (256 ^ 4 ≤ a) × (long_octets a ≡ k)
long_exact a k some most h = go (ℕ_discrete k 5) (ℕ_discrete k 6) (ℕ_discrete k 7)
  where
    go : Dec (k ≡ 5) → Dec (k ≡ 6) → Dec (k ≡ 7) → (256 ^ 4 ≤ a) × (long_octets a ≡ k)
    go (yes e) six seven = let g = subst (LongIn a) e h in (omega arith, long_octets_five a (omega arith) ∙ sym e)
    go (no five) (yes e) seven = let g = subst (LongIn a) e h in (omega arith, long_octets_six a (omega arith) (omega arith) ∙ sym e)
    go (no five) (no six) (yes e) = let g = subst (LongIn a) e h in (omega arith, long_octets_seven a (omega arith) (omega arith) ∙ sym e)
    go (no five) (no six) (no seven) =
        let e : k ≡ 8 = omega arith in let g = subst (LongIn a) e h in (omega arith, long_octets_eight a (omega arith) ∙ sym e)

-- ---- what is written reads back

-- a number in `count` octets behind some others
number_put : (front : List ℕ) (count least added m : ℕ) (rest : List ℕ) → m < 256 ^ count → least ≤ m
    → number_reading (length front) count least added (front ++ (octets count m ++ rest)) ≡ field (m + added) (length front + count)
number_put front count least added m rest h l =
    let p = front ++ (octets count m ++ rest) in
    let (whole, cut) = cut_out front (octets count m) rest count (length-octets count m) in
    let told : value (take count (drop (length front) p)) ≡ m = ap value cut ∙ value-octets_of_lt count m h in
    number_reading-found (length front) count least added p whole (omega arith) ∙ ap (λ (v : ℕ). field (v + added) (length front + count)) told

-- what is written of a number reads as it, whatever stands behind
abbrev Tells : (ℕ → List ℕ) → (List ℕ → Field) → ℕ → List ℕ → Type 0
Tells form reading n rest = reading (form n ++ rest) ≡ field n (length (form n))

pub length-put : (n : ℕ) (rest : List ℕ) → n ≤ longest_payload → Tells length_field length_reading n rest
length-put n rest most = go (dec_lt n 253) (dec_lt n 508)
  where
    go : Dec (n < 253) → Dec (n < 508) → Tells length_field length_reading n rest
    go (yes h) two =
        let e = length_field_alone n h in
        ap (λ (f : List ℕ). length_reading (f ++ rest)) e
        ∙ length_reading_alone (n ∷ rest) (omega arith) h
        ∙ ap (field n) (sym (ap length e))
    go (no l) (yes h) =
        let e = length_field-one n (omega arith) h in
        let p : List ℕ = 253 ∷ (octets 1 (n - 252) ++ rest) in
        let back : n - 252 + 252 ≡ n = omega arith in
        ap (λ (f : List ℕ). length_reading (f ++ rest)) e
        ∙ length_reading-one p (omega arith) refl
        ∙ number_put (253 ∷ []) 1 1 252 (n - 252) rest (omega arith) (omega arith)
        ∙ ap₂ field back (sym (length-behind 253 1 (n - 252) e))
    go (no l) (no m) =
        let e = length_field_two n (omega arith) in
        let p : List ℕ = 254 ∷ (octets 2 (n - 252) ++ rest) in
        let back : n - 252 + 252 ≡ n = omega arith in
        ap (λ (f : List ℕ). length_reading (f ++ rest)) e
        ∙ length_reading_two p (omega arith) refl
        ∙ number_put (254 ∷ []) 2 256 252 (n - 252) rest (omega arith) (omega arith)
        ∙ ap₂ field back (sym (length-behind 254 2 (n - 252) e))

pub address-put : (a : ℕ) (rest : List ℕ) → IsAddress a → Tells address_field address_reading a rest
address-put a rest address = go (dec_lt a 253) (dec_lt a (256 ^ 2)) (dec_lt a (256 ^ 4))
  where
    same : a + 0 ≡ a
    same = omega arith

    go : Dec (a < 253) → Dec (a < 256 ^ 2) → Dec (a < 256 ^ 4) → Tells address_field address_reading a rest
    go (yes h) two four =
        let e = address_field_alone a h in
        ap (λ (f : List ℕ). address_reading (f ++ rest)) e
        ∙ address_reading_alone (a ∷ rest) (omega arith) (λ z. omega (arith, address.some)) h
        ∙ ap (field a) (sym (ap length e))
    go (no l) (yes h) four =
        let e = address_field_two a (omega arith) h in
        ap (λ (f : List ℕ). address_reading (f ++ rest)) e
        ∙ address_reading_two (253 ∷ (octets 2 a ++ rest)) (omega arith) refl
        ∙ number_put (253 ∷ []) 2 253 0 a rest h (omega arith)
        ∙ ap₂ field same (sym (length-behind 253 2 a e))
    go (no l) (no m) (yes h) =
        let e = address_field_four a (omega arith) h in
        ap (λ (f : List ℕ). address_reading (f ++ rest)) e
        ∙ address_reading_four (254 ∷ (octets 4 a ++ rest)) (omega arith) refl
        ∙ number_put (254 ∷ []) 4 (256 ^ 2) 0 a rest h (omega arith)
        ∙ ap₂ field same (sym (length-behind 254 4 a e))
    go (no l) (no m) (no n) =
        let large : 256 ^ 4 ≤ a = omega arith in
        let k = long_octets a in
        let p : List ℕ = 255 ∷ k ∷ (octets k a ++ rest) in
        let bounds = long_octets_bounds a in
        let fits = long_in a large address.fits in
        ap (λ (f : List ℕ). address_reading (f ++ rest)) (address_field-counted a large)
        ∙ address_reading-counted p (omega arith) (omega arith)
        ∙ counted_reading-right p (omega arith) bounds.0 bounds.1
        ∙ number_put (255 ∷ k ∷ []) k (2 ^ (8 * (k - 1))) 0 a rest fits.1 fits.0
        ∙ ap₂ field same (sym (length-counted a large))

-- ---- what is read is what would have been written

-- a number that was read: its octets are there, it is not below the least, and it is theirs
abbrev Right : ℕ → ℕ → ℕ → ℕ → List ℕ → Type 0
Right before count least added p =
    (before + count ≤ length p) × (least ≤ value (take count (drop before p)))
    × (number_reading before count least added p ≡ field (value (take count (drop before p)) + added) (before + count))

number-right : (before count least added : ℕ) (p : List ℕ) → (number_reading before count least added p).refusal ≡ 0 → Right before count least added p
number-right before count least added p z = go (dec_lt (length p) (before + count)) (dec_lt (value (take count (drop before p))) least)
  where
    go : Dec (length p < before + count) → Dec (value (take count (drop before p)) < least) → Right before count least added p
    go (yes short) low = absurd (omega (arith, z, ap refusal (number_reading-missing before count least added p short)))
    go (no long) (yes low) = absurd (omega (arith, z, ap refusal (number_reading-low before count least added p (omega arith) low)))
    go (no long) (no high) = (omega arith, omega arith, number_reading-found before count least added p (omega arith) (omega arith))

-- the number of some octets: below what so many hold, and with those for its own
pub octets-held : (k : ℕ) (os : List ℕ) → AreOctets os → length os ≡ k → (value os < 256 ^ k) × (octets k (value os) ≡ os)
octets-held k os are many =
    (subst (λ (j : ℕ). value os < 256 ^ j) many (value-lt os are), ap (λ (j : ℕ). octets j (value os)) (sym many) ∙ octets-value os are)

octets-read : (before count : ℕ) (p : List ℕ) → AreOctets p → before + count ≤ length p
    → (value (take count (drop before p)) < 256 ^ count) × (octets count (value (take count (drop before p))) ≡ take count (drop before p))
octets-read before count p all h =
    octets-held count (take count (drop before p)) (take-octets count (drop before p) (drop-octets before p all))
    (length-take-le count (drop before p) (omega (arith, length-drop before p)))

-- the octets that a field takes are what is written of its number
abbrev AsWritten : (ℕ → List ℕ) → Field → List ℕ → Type 0
AsWritten form f p = (f.size ≤ length p) × (take f.size p ≡ form f.number)

-- refused, which it was not
refused-not : {f : Field} {A : Type 0} (n : ℕ) → f.refusal ≡ 0 → f ≡ refused_field (suc n) → A
refused-not n z e = absurd (omega (arith, z, ap refusal e))

-- a mark and the octets behind it, where those are a number's
marked : {f : List ℕ} (o mark count n : ℕ) (os : List ℕ) → o ≡ mark → f ≡ mark ∷ octets count n → octets count n ≡ take count os → o ∷ take count os ≡ f
marked o mark count n os e form held = ap₂ (λ (x : ℕ) (l : List ℕ). x ∷ l) e (sym held) ∙ sym form

pub length-read : (p : List ℕ) → AreOctets p → (length_reading p).refusal ≡ 0
    → ((length_reading p).number ≤ longest_payload) × AsWritten length_field (length_reading p) p
length-read [] all z = refused-not 3 z (length_reading-absent [] (omega arith))
length-read (o ∷ os) all z = go (dec_lt o 253) (ℕ_discrete o 253) (ℕ_discrete o 254)
  where
    p : List ℕ
    p = o ∷ os

    Goal : Field → Type 0
    Goal f = (f.number ≤ longest_payload) × AsWritten length_field f (o ∷ os)

    go : Dec (o < 253) → Dec (o ≡ 253) → Dec (o ≡ 254) → Goal (length_reading (o ∷ os))
    go (yes h) one two = subst Goal (sym (length_reading_alone p (omega arith) h)) (omega arith, (omega arith, sym (length_field_alone o h)))
    go (no h) (yes e) two =
        let r = length_reading-one p (omega arith) e in
        let (whole, least, found) = number-right 1 1 1 252 p (sym (ap refusal r) ∙ z) in
        let (less, held) = octets-read 1 1 p all whole in
        let v = value (take 1 os) in
        let back : v + 252 - 252 ≡ v = omega arith in
        let form = length_field-one (v + 252) (omega arith) (omega arith) ∙ ap (λ (m : ℕ). 253 ∷ octets 1 m) back in
        subst Goal (sym (r ∙ found)) (omega arith, (whole, marked o 253 1 v os e form held))
    go (no h) (no one) (yes e) =
        let r = length_reading_two p (omega arith) e in
        let (whole, least, found) = number-right 1 2 256 252 p (sym (ap refusal r) ∙ z) in
        let (less, held) = octets-read 1 2 p all whole in
        let v = value (take 2 os) in
        let back : v + 252 - 252 ≡ v = omega arith in
        let form = length_field_two (v + 252) (omega arith) ∙ ap (λ (m : ℕ). 254 ∷ octets 2 m) back in
        subst Goal (sym (r ∙ found)) (omega arith, (whole, marked o 254 2 v os e form held))
    go (no h) (no one) (no two) = refused-not 5 z (length_reading_reserved p (omega arith) (omega arith))

-- after 255: the length octet, and as many octets
counted-read : (o k : ℕ) (os : List ℕ) → o ≡ 255 → AreOctets (o ∷ k ∷ os) → (counted_reading (o ∷ k ∷ os)).refusal ≡ 0
    → IsAddress (counted_reading (o ∷ k ∷ os)).number × AsWritten address_field (counted_reading (o ∷ k ∷ os)) (o ∷ k ∷ os)
counted-read o k os e all z = go (dec_lt k 5) (dec_lt 8 k)
  where
    p : List ℕ
    p = o ∷ k ∷ os

    Goal : Field → Type 0
    Goal f = IsAddress f.number × AsWritten address_field f (o ∷ k ∷ os)

    go : Dec (k < 5) → Dec (8 < k) → Goal (counted_reading (o ∷ k ∷ os))
    go (yes few) many = refused-not 5 z (counted_reading-few p (omega arith) few)
    go (no few) (yes many) = refused-not 5 z (counted_reading-many p (omega arith) many)
    go (no few) (no many) =
        let some : 5 ≤ k = omega arith in
        let most : k ≤ 8 = omega arith in
        let r = counted_reading-right p (omega arith) some most in
        let (whole, least, found) = number-right 2 k (2 ^ (8 * (k - 1))) 0 p (sym (ap refusal r) ∙ z) in
        let (less, held) = octets-read 2 k p all whole in
        let v = value (take k os) in
        let (large, exact) = long_exact v k some most (least, less) in
        let same : v + 0 ≡ v = omega arith in
        let form : address_field v ≡ 255 ∷ k ∷ take k os =
        address_field-counted v large ∙ ap (λ (j : ℕ). 255 ∷ j ∷ octets j v) exact ∙ ap (λ (l : List ℕ). 255 ∷ k ∷ l) held in
        let taken : take (2 + k) p ≡ address_field v = take-add 2 k p ∙ ap (λ (x : ℕ). x ∷ k ∷ take k os) e ∙ sym form in
        let fits : v < 2 ^ longest = lt_of_lt_of_le less (pow-le-pow_right {n = 256} (lit< tt) most) in
        subst Goal (sym (r ∙ found ∙ ap (λ (n : ℕ). field n (2 + k)) same)) (record { some = omega arith; fits = fits }, (whole, taken))

pub address_read : (p : List ℕ) → AreOctets p → (address_reading p).refusal ≡ 0
    → IsAddress (address_reading p).number × AsWritten address_field (address_reading p) p
address_read [] all z = refused-not 3 z (address_reading-absent [] (omega arith))
address_read (o ∷ os) all z = go (ℕ_discrete o 0) (dec_lt o 253) (ℕ_discrete o 253) (ℕ_discrete o 254)
  where
    p : List ℕ
    p = o ∷ os

    Goal : Field → Type 0
    Goal f = IsAddress f.number × AsWritten address_field f (o ∷ os)

    same : (n : ℕ) → n + 0 ≡ n
    same n = omega arith

    behind : (os : List ℕ) → o ≡ 255 → AreOctets (o ∷ os) → (counted_reading (o ∷ os)).refusal ≡ 0
        → IsAddress (counted_reading (o ∷ os)).number × AsWritten address_field (counted_reading (o ∷ os)) (o ∷ os)
    behind [] e all z = refused-not 3 z (counted_reading-absent (o ∷ []) (omega arith))
    behind (k ∷ os) e all z = counted-read o k os e all z

    go : Dec (o ≡ 0) → Dec (o < 253) → Dec (o ≡ 253) → Dec (o ≡ 254) → Goal (address_reading (o ∷ os))
    go (yes e) h two four = refused-not 8 z (address_reading-zero p (omega arith) e)
    go (no n) (yes h) two four =
        subst Goal (sym (address_reading_alone p (omega arith) n h))
        (record { some = omega arith; fits = omega arith }, (omega arith, sym (address_field_alone o h)))
    go (no n) (no h) (yes e) four =
        let r = address_reading_two p (omega arith) e in
        let (whole, least, found) = number-right 1 2 253 0 p (sym (ap refusal r) ∙ z) in
        let (less, held) = octets-read 1 2 p all whole in
        let v = value (take 2 os) in
        subst Goal (sym (r ∙ found ∙ ap (λ (n : ℕ). field n 3) (same v)))
        (record { some = omega arith; fits = omega arith }, (whole, marked o 253 2 v os e (address_field_two v least less) held))
    go (no n) (no h) (no two) (yes e) =
        let r = address_reading_four p (omega arith) e in
        let (whole, least, found) = number-right 1 4 (256 ^ 2) 0 p (sym (ap refusal r) ∙ z) in
        let (less, held) = octets-read 1 4 p all whole in
        let v = value (take 4 os) in
        subst Goal (sym (r ∙ found ∙ ap (λ (n : ℕ). field n 5) (same v)))
        (record { some = omega arith; fits = omega arith }, (whole, marked o 254 4 v os e (address_field_four v least less) held))
    go (no n) (no h) (no two) (no four) =
        let r = address_reading-counted p (omega arith) (omega arith) in
        subst Goal (sym r) (behind os (omega (arith, all.0)) all (sym (ap refusal r) ∙ z))
