-- The fields that are written are forms of their numbers, and the shortest. A form's first octet, and its second after 255, tell how many octets
-- it has and which number (`length-form-end`, `address-form-end`), and how many octets a number needs follows from what they hold. Assumes nothing.
use Rattle.std.specs.Prelude.{if◌then◌else◌}
use mathlib.Core.Path.{◌≡◌, refl, sym, ap, ap₂, ◌∙◌, subst}
use mathlib.Core.Logic.{◌⊎◌, inl, inr}
use mathlib.Core.List.{List, ◌∷◌, ◌++◌}
use Prim.Native.Nat.{ℕ, ◌+◌, ◌-◌, ◌^◌, ◌≤◌, ◌<◌}
use native.Mathlib.Decide.{ℕ_discrete, dec_lt, dec_le}
use native.Mathlib.Nat.{pow-le-pow_right}
use native.Mathlib.Omega.{arith}
use borrow.Author.Tests.{lt-ltb}
use mathlib.Core.Bool.{true}
use lib.Dec.{eqb, ltb, lit<}
use lib.ListN.{length, drop, get_or}
use Rattle.address.specs.Bits.{longest}
use Rattle.octets.specs.Octets.{octets, value, AreOctets}
use Rattle.octets.proofs.OctetLaws.{length-octets, octets-octets, value-octets_of_lt, octets-value, value-lt}
use Rattle.nsa.specs.Fields.{length_field, long_octets, address_field, longest_payload}
use Rattle.nsa.specs.Forms.{LengthForm, length_alone, length_one, length_two, AddressForm, address_alone, address_two, address_four, address_counted, ShortestLengths, OursOrRefused, ShortestAddresses, AtMost23}
use Rattle.nsa.specs.Refusals.{length_end, address_end}
use Rattle.nsa.proofs.Writing.{length_field_alone, length_field-one, length_field_two, address_field_alone, address_field_two, address_field_four, address_field-counted, long_octets_five, long_octets_six, long_octets_seven, long_octets_eight, long_octets_bounds, length-behind, length-counted, length-length_field, length-address_field, length_fields}
use Rattle.nsa.proofs.BackAndForth.{octets-held, long_in}

-- the octets that hold a number, and no more of it
rest-octets : (k n : ℕ) → n < 256 ^ k → AreOctets (octets k n) × (length (octets k n) ≡ k) × (n ≡ value (octets k n))
rest-octets k n h = (octets-octets k n, length-octets k n, sym (value-octets_of_lt k n h))

-- fewer octets do not hold a number
too_few : (a k j : ℕ) → a < 256 ^ k → 256 ^ j ≤ a → k ≤ j → ⊥
too_few a k j h l f = omega (arith, pow-le-pow_right {n = 256} (lit< tt) f)

-- a form behind a mark whose number is not too low for it is ours
module _ {os rest : List ℕ} {n : ℕ} (are : AreOctets rest) where
  pub one-ours : length rest ≡ 1 → os ≡ 253 ∷ rest → n ≡ value rest + 252 → 253 ≤ n → os ≡ length_field n
  one-ours many e number high =
      let (less, held) = octets-held 1 rest are many in
      let left : n - 252 ≡ value rest = omega arith in
      e ∙ ap (λ (l : List ℕ). 253 ∷ l) (sym (ap (octets 1) left ∙ held)) ∙ sym (length_field-one n high (omega arith))

  pub two_ours : length rest ≡ 2 → os ≡ 254 ∷ rest → n ≡ value rest + 252 → 508 ≤ n → os ≡ length_field n
  two_ours many e number high =
      let (less, held) = octets-held 2 rest are many in
      let left : n - 252 ≡ value rest = omega arith in
      e ∙ ap (λ (l : List ℕ). 254 ∷ l) (sym (ap (octets 2) left ∙ held)) ∙ sym (length_field_two n high)

  pub two_address-ours : length rest ≡ 2 → os ≡ 253 ∷ rest → n ≡ value rest → 253 ≤ n → os ≡ address_field n
  two_address-ours many e number high =
      let (less, held) = octets-held 2 rest are many in
      e ∙ ap (λ (l : List ℕ). 253 ∷ l) (sym (ap (octets 2) number ∙ held)) ∙ sym (address_field_two n high (omega arith))

  pub four_address-ours : length rest ≡ 4 → os ≡ 254 ∷ rest → n ≡ value rest → 256 ^ 2 ≤ n → os ≡ address_field n
  four_address-ours many e number high =
      let (less, held) = octets-held 4 rest are many in
      e ∙ ap (λ (l : List ℕ). 254 ∷ l) (sym (ap (octets 4) number ∙ held)) ∙ sym (address_field_four n high (omega arith))

-- ---- payload lengths

pub length-form : (n : ℕ) → n ≤ longest_payload → LengthForm (length_field n) n
length-form n most = go (dec_lt n 253) (dec_lt n 508)
  where
    go : Dec (n < 253) → Dec (n < 508) → LengthForm (length_field n) n
    go (yes h) two = length_alone (omega arith) (length_field_alone n h)
    go (no l) (yes h) =
        let (are, many, number) = rest-octets 1 (n - 252) (omega arith) in
        length_one (octets 1 (n - 252)) are many (length_field-one n (omega arith) h) (omega arith)
    go (no l) (no m) =
        let (are, many, number) = rest-octets 2 (n - 252) (omega arith) in
        length_two (octets 2 (n - 252)) are many (length_field_two n (omega arith)) (omega arith)

length-shortest : (n : ℕ) (os : List ℕ) → LengthForm os n → (os ≡ length_field n) ⊎ (length (length_field n) < length os)
length-shortest n os (length_alone h e) = inl (e ∙ sym (length_field_alone n (omega arith)))
length-shortest n os (length_one rest are many e number) = go (dec_lt n 253)
  where
    long : length os ≡ 2
    long = omega (arith, ap length e)

    go : Dec (n < 253) → (os ≡ length_field n) ⊎ (length (length_field n) < length os)
    go (yes h) = inr (omega (arith, ap length (length_field_alone n h), long))
    go (no h) = inl (one-ours are many e number (omega arith))
length-shortest n os (length_two rest are many e number) = go (dec_lt n 253) (dec_lt n 508)
  where
    long : length os ≡ 3
    long = omega (arith, ap length e)

    go : Dec (n < 253) → Dec (n < 508) → (os ≡ length_field n) ⊎ (length (length_field n) < length os)
    go (yes h) two = inr (omega (arith, ap length (length_field_alone n h), long))
    go (no l) (yes h) = inr (omega (arith, length-behind 253 1 (n - 252) (length_field-one n (omega arith) h), long))
    go (no l) (no m) = inl (two_ours are many e number (omega arith))

length-none-above : (n : ℕ) (os : List ℕ) → LengthForm os n → n ≤ longest_payload
length-none-above n os (length_alone h e) = omega arith
length-none-above n os (length_one rest are many e number) = omega (arith, (octets-held 1 rest are many).0)
length-none-above n os (length_two rest are many e number) = omega (arith, (octets-held 2 rest are many).0)

pub shortest-lengths : ShortestLengths
shortest-lengths = record { a_form = length-form; shortest = length-shortest; none_above = length-none-above }

-- ---- addresses

pub address-form : (a : ℕ) → a < 2 ^ longest → AddressForm (address_field a) a
address-form a fits = go (dec_lt a 253) (dec_lt a (256 ^ 2)) (dec_lt a (256 ^ 4))
  where
    go : Dec (a < 253) → Dec (a < 256 ^ 2) → Dec (a < 256 ^ 4) → AddressForm (address_field a) a
    go (yes h) two four = address_alone (omega arith) (address_field_alone a h)
    go (no l) (yes h) four =
        let (are, many, number) = rest-octets 2 a h in address_two (octets 2 a) are many (address_field_two a (omega arith) h) number
    go (no l) (no m) (yes h) =
        let (are, many, number) = rest-octets 4 a h in address_four (octets 4 a) are many (address_field_four a (omega arith) h) number
    go (no l) (no m) (no n) =
        let large : 256 ^ 4 ≤ a = omega arith in
        let k = long_octets a in
        let (are, many, number) = rest-octets k a (long_in a large fits).1 in
        address_counted (octets k a) are (omega (arith, many, long_octets_bounds a))
        (address_field-counted a large ∙ ap (λ (j : ℕ). 255 ∷ j ∷ octets k a) (sym many)) number

-- no more octets than hold the number, where four do not
long-least : (a k : ℕ) → a < 256 ^ k → 256 ^ 4 ≤ a → long_octets a ≤ k
long-least a k h large = go (dec_lt a (256 ^ 5)) (dec_lt a (256 ^ 6)) (dec_lt a (256 ^ 7)) (dec_le k 4) (dec_le k 5) (dec_le k 6) (dec_le k 7)
  where
    go : Dec (a < 256 ^ 5) → Dec (a < 256 ^ 6) → Dec (a < 256 ^ 7) → Dec (k ≤ 4) → Dec (k ≤ 5) → Dec (k ≤ 6) → Dec (k ≤ 7) → long_octets a ≤ k
    go five six seven (yes f) five' six' seven' = absurd (too_few a k 4 h large f)
    go (yes five) six seven (no f) five' six' seven' = omega (arith, long_octets_five a five)
    go (no five) six seven (no f) (yes g) six' seven' = absurd (too_few a k 5 h (omega arith) g)
    go (no five) (yes six) seven (no f) (no g) six' seven' = omega (arith, long_octets_six a (omega arith) six)
    go (no five) (no six) seven (no f) (no g) (yes i) seven' = absurd (too_few a k 6 h (omega arith) i)
    go (no five) (no six) (yes seven) (no f) (no g) (no i) seven' = omega (arith, long_octets_seven a (omega arith) seven)
    go (no five) (no six) (no seven) (no f) (no g) (no i) (yes j) = absurd (too_few a k 7 h (omega arith) j)
    go (no five) (no six) (no seven) (no f) (no g) (no i) (no j) = omega (arith, long_octets_eight a (omega arith))

-- how long the field of a number is that two octets hold, and of one that four do
size_two : (a : ℕ) → a < 256 ^ 2 → length (address_field a) ≤ 3
size_two a h = go (dec_lt a 253)
  where
    go : Dec (a < 253) → length (address_field a) ≤ 3
    go (yes l) = omega (arith, ap length (address_field_alone a l))
    go (no l) = omega (arith, length-behind 253 2 a (address_field_two a (omega arith) h))

size_four : (a : ℕ) → a < 256 ^ 4 → length (address_field a) ≤ 5
size_four a h = go (dec_lt a (256 ^ 2))
  where
    go : Dec (a < 256 ^ 2) → length (address_field a) ≤ 5
    go (yes l) = omega (arith, size_two a l)
    go (no l) = omega (arith, length-behind 254 4 a (address_field_four a (omega arith) h))

-- with a length octet: no shorter than the field of a number that so many octets hold
size-counted : (a k : ℕ) → a < 256 ^ k → length (address_field a) ≤ 2 + k
size-counted a k h = go (dec_lt a 253) (dec_lt a (256 ^ 2)) (dec_lt a (256 ^ 4)) (dec_le k 0) (dec_le k 2)
  where
    go : Dec (a < 253) → Dec (a < 256 ^ 2) → Dec (a < 256 ^ 4) → Dec (k ≤ 0) → Dec (k ≤ 2) → length (address_field a) ≤ 2 + k
    go (yes l) two four none few = omega (arith, ap length (address_field_alone a l))
    go (no l) two four (yes f) few = absurd (too_few a k 0 h (omega arith) f)
    go (no l) (yes two) four (no f) few = omega (arith, size_two a two)
    go (no l) (no two) four (no f) (yes g) = absurd (too_few a k 2 h (omega arith) g)
    go (no l) (no two) (yes four) (no f) (no g) = omega (arith, size_four a four)
    go (no l) (no two) (no four) (no f) (no g) = omega (arith, length-counted a (omega arith), long-least a k h (omega arith))

address-shortest : (a : ℕ) (os : List ℕ) → AddressForm os a → length (address_field a) ≤ length os
address-shortest a os (address_alone h e) = omega (arith, ap length e, ap length (address_field_alone a (omega arith)))
address-shortest a os (address_two rest are many e number) = omega (arith, ap length e, size_two a (omega (arith, (octets-held 2 rest are many).0)))
address-shortest a os (address_four rest are many e number) = omega (arith, ap length e, size_four a (omega (arith, (octets-held 4 rest are many).0)))
address-shortest a os (address_counted rest are some e number) =
    omega (arith, ap length e, size-counted a (length rest) (subst (λ (n : ℕ). n < 256 ^ length rest) (sym number) (value-lt rest are)))

address-only : (a : ℕ) (os : List ℕ) → AddressForm os a → OursOrRefused a os
address-only a os (address_alone h e) = inl (e ∙ sym (address_field_alone a (omega arith)))
address-only a os (address_two rest are many e number) = go (dec_lt a 253)
  where
    go : Dec (a < 253) → OursOrRefused a os
    go (yes h) = inr (inl (omega (arith, ap length e, ap length (address_field_alone a h))))
    go (no h) = inl (two_address-ours are many e number (omega arith))
address-only a os (address_four rest are many e number) = go (dec_lt a (256 ^ 2))
  where
    go : Dec (a < 256 ^ 2) → OursOrRefused a os
    go (yes h) = inr (inl (omega (arith, ap length e, size_two a h)))
    go (no h) = inl (four_address-ours are many e number (omega arith))
address-only a os (address_counted rest are some e number) = go (dec_lt (length rest) 5) (dec_lt a (256 ^ 4)) (ℕ_discrete (long_octets a) (length rest))
  where
    long : length os ≡ 2 + length rest
    long = omega (arith, ap length e)

    less : a < 256 ^ length rest
    less = subst (λ (n : ℕ). n < 256 ^ length rest) (sym number) (value-lt rest are)

    go : Dec (length rest < 5) → Dec (a < 256 ^ 4) → Dec (long_octets a ≡ length rest) → OursOrRefused a os
    go (yes few) four same = inr (inr (rest, e, few))
    go (no few) (yes four) same = inr (inl (omega (arith, long, size_four a four)))
    go (no few) (no four) (yes same) =
        inl
        (e
        ∙ ap₂ (λ (k : ℕ) (l : List ℕ). 255 ∷ k ∷ l) (sym same) (sym (octets-value rest are) ∙ ap₂ octets (sym same) (sym number))
        ∙ sym (address_field-counted a (omega arith)))
    go (no few) (no four) (no other) =
        inr (inl (omega (arith, long, length-counted a (omega arith), long-least a (length rest) less (omega arith))))

pub shortest-addresses : ShortestAddresses
shortest-addresses = record { a_form = address-form; shortest = address-shortest; only_one = address-only }

pub at_most_23 : AtMost23
at_most_23 l s d = omega (arith, length_fields l s d, length-length_field l, length-address_field s, length-address_field d)

-- ---- what a form's octets tell

-- the number, by the first octet
abbrev pub length_number : List ℕ → ℕ
length_number os = if ltb (get_or os 0 0) 253 then get_or os 0 0 else value (drop 1 os) + 252

abbrev pub address_number : List ℕ → ℕ
address_number os =
    if ltb (get_or os 0 0) 253 then get_or os 0 0
    else if eqb (get_or os 0 0) 255 then value (drop 2 os)
    else value (drop 1 os)

pub length-form-end : (os rest : List ℕ) (n : ℕ) → LengthForm os n → (length os ≡ length_end (os ++ rest)) × (n ≡ length_number os)
length-form-end os rest n (length_alone h e) =
    let l : ltb n 253 ≡ true = lt-ltb n 253 (omega arith) in
    (rw (e, l) refl, rw (e, l) refl)
length-form-end os rest n (length_one tail are many e number) = (rw e (omega arith), rw e number)
length-form-end os rest n (length_two tail are many e number) = (rw e (omega arith), rw e number)

pub address-form-end : (os rest : List ℕ) (a : ℕ) → AddressForm os a → (length os ≡ address_end (os ++ rest)) × (a ≡ address_number os)
address-form-end os rest a (address_alone h e) =
    let l : ltb a 253 ≡ true = lt-ltb a 253 (omega arith) in
    (rw (e, l) refl, rw (e, l) refl)
address-form-end os rest a (address_two tail are many e number) = (rw e (omega arith), rw e number)
address-form-end os rest a (address_four tail are many e number) = (rw e (omega arith), rw e number)
address-form-end os rest a (address_counted tail are some e number) = (rw e (omega arith), rw e number)
