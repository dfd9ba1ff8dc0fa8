-- A form that is not ours is refused with 6: its number is below the least of its mark, or after 255 its length is not 5 to 8 or its number below
-- what one octet fewer holds; otherwise it would be ours. Assumes nothing.
use mathlib.Core.Path.{◌≡◌, refl, sym, ap, ◌∙◌}
use mathlib.Core.List.{List, [], ◌∷◌, ◌++◌}
use Prim.Native.Nat.{ℕ, ◌*◌, ◌-◌, ◌^◌, ◌≤◌, ◌<◌}
use native.Mathlib.Decide.{dec_lt}
use native.Mathlib.Omega.{arith}
use lib.ListN.{length}
use Rattle.address.specs.Numbers.{IsAddress}
use Rattle.octets.specs.Octets.{value, octets}
use Rattle.nsa.specs.Fields.{length_field, address_field, longest_payload, refused_field, number_reading, length_reading, counted_reading, address_reading, refused_fields, reading}
use Rattle.nsa.specs.Forms.{LengthForm, length_alone, length_one, length_two, AddressForm, address_alone, address_two, address_four, address_counted}
use Rattle.nsa.specs.Shortest.{OtherwiseSix}
use Rattle.nsa.proofs.Writing.{length_field_alone, address_field_alone, address_field-counted}
use Rattle.nsa.proofs.Cases.{refusal, cut_out, number_reading-low, length_reading-one, length_reading_two, counted_reading-few, counted_reading-many, counted_reading-right, address_reading_two, address_reading_four, address_reading-counted}
use Rattle.nsa.proofs.InRow.{reading-length, reading-source, reading-destination, source-behind, destination-behind}
use Rattle.nsa.proofs.BackAndForth.{octets-held, length-put, address-put, long_exact}
use Rattle.nsa.proofs.Forms.{one-ours, two_ours, two_address-ours, four_address-ours}

-- a number below the least of its mark, in the octets behind some others
number-low : (front os : List ℕ) (count least added : ℕ) (behind : List ℕ) → length os ≡ count → value os < least
    → number_reading (length front) count least added (front ++ (os ++ behind)) ≡ refused_field 6
number-low front os count least added behind many low =
    let (whole, cut) = cut_out front os behind count many in
    number_reading-low (length front) count least added (front ++ (os ++ behind)) whole (omega (arith, ap value cut))

length_other : (os behind : List ℕ) (n : ℕ) → LengthForm os n → (os ≡ length_field n → ⊥) → length_reading (os ++ behind) ≡ refused_field 6
length_other os behind n (length_alone h e) other = absurd (other (e ∙ sym (length_field_alone n (omega arith))))
length_other os behind n (length_one rest are many e number) other = go (dec_lt n 253)
  where
    go : Dec (n < 253) → length_reading (os ++ behind) ≡ refused_field 6
    go (yes low) =
        ap (λ (f : List ℕ). length_reading (f ++ behind)) e
        ∙ length_reading-one (253 ∷ (rest ++ behind)) (omega arith) refl
        ∙ number-low (253 ∷ []) rest 1 1 252 behind many (omega arith)
    go (no high) = absurd (other (one-ours are many e number (omega arith)))
length_other os behind n (length_two rest are many e number) other = go (dec_lt n 508)
  where
    go : Dec (n < 508) → length_reading (os ++ behind) ≡ refused_field 6
    go (yes low) =
        ap (λ (f : List ℕ). length_reading (f ++ behind)) e
        ∙ length_reading_two (254 ∷ (rest ++ behind)) (omega arith) refl
        ∙ number-low (254 ∷ []) rest 2 256 252 behind many (omega arith)
    go (no high) = absurd (other (two_ours are many e number (omega arith)))

address_other : (os behind : List ℕ) (a : ℕ) → AddressForm os a → (os ≡ address_field a → ⊥) → address_reading (os ++ behind) ≡ refused_field 6
address_other os behind a (address_alone h e) other = absurd (other (e ∙ sym (address_field_alone a (omega arith))))
address_other os behind a (address_two rest are many e number) other = go (dec_lt a 253)
  where
    go : Dec (a < 253) → address_reading (os ++ behind) ≡ refused_field 6
    go (yes low) =
        ap (λ (f : List ℕ). address_reading (f ++ behind)) e
        ∙ address_reading_two (253 ∷ (rest ++ behind)) (omega arith) refl
        ∙ number-low (253 ∷ []) rest 2 253 0 behind many (omega arith)
    go (no high) = absurd (other (two_address-ours are many e number (omega arith)))
address_other os behind a (address_four rest are many e number) other = go (dec_lt a (256 ^ 2))
  where
    go : Dec (a < 256 ^ 2) → address_reading (os ++ behind) ≡ refused_field 6
    go (yes low) =
        ap (λ (f : List ℕ). address_reading (f ++ behind)) e
        ∙ address_reading_four (254 ∷ (rest ++ behind)) (omega arith) refl
        ∙ number-low (254 ∷ []) rest 4 (256 ^ 2) 0 behind many (omega arith)
    go (no high) = absurd (other (four_address-ours are many e number (omega arith)))
address_other os behind a (address_counted rest are some e number) other = go (dec_lt k 5) (dec_lt 8 k) (dec_lt (value rest) (2 ^ (8 * (k - 1))))
  where
    k : ℕ
    k = length rest

    p : List ℕ
    p = 255 ∷ k ∷ (rest ++ behind)

    begun : address_reading (os ++ behind) ≡ counted_reading p
    begun = ap (λ (f : List ℕ). address_reading (f ++ behind)) e ∙ address_reading-counted p (omega arith) (omega arith)

    go : Dec (k < 5) → Dec (8 < k) → Dec (value rest < 2 ^ (8 * (k - 1))) → address_reading (os ++ behind) ≡ refused_field 6
    go (yes few) many low = begun ∙ counted_reading-few p (omega arith) few
    go (no few) (yes many) low = begun ∙ counted_reading-many p (omega arith) many
    go (no few) (no many) (yes low) =
        begun ∙ counted_reading-right p (omega arith) (omega arith) (omega arith) ∙ number-low (255 ∷ k ∷ []) rest k (2 ^ (8 * (k - 1))) 0 behind refl low
    go (no few) (no many) (no high) =
        let (less, held) = octets-held k rest are refl in
        let (large, exact) = long_exact (value rest) k (omega arith) (omega arith) (omega arith, less) in
        let ours : address_field a ≡ 255 ∷ k ∷ rest =
        ap address_field number ∙ address_field-counted (value rest) large ∙ ap (λ (j : ℕ). 255 ∷ j ∷ octets j (value rest)) exact ∙ ap (λ (l : List ℕ). 255 ∷ k ∷ l) held in
        absurd (other (e ∙ sym ours))

-- ---- in each of the three fields

pub otherwise_six : OtherwiseSix reading
otherwise_six = record { a_length = in_length; a_source = in_source; a_destination = in_destination }
  where
    six : ◌≡◌ {A = ℕ} 6 0 → ⊥
    six e = omega arith

    in_length : (os behind : List ℕ) (n : ℕ) → LengthForm os n → (os ≡ length_field n → ⊥) → reading (os ++ behind) ≡ refused_fields 6
    in_length os behind n form other = sym (reading-length (os ++ behind) (sym (ap refusal (length_other os behind n form other))) six)

    in_source : (l : ℕ) (os behind : List ℕ) (a : ℕ) → l ≤ longest_payload → AddressForm os a → (os ≡ address_field a → ⊥)
        → reading (length_field l ++ (os ++ behind)) ≡ refused_fields 6
    in_source l os behind a short form other =
        let p = length_field l ++ (os ++ behind) in
        let length-told = length-put l (os ++ behind) short in
        sym
        (reading-source p (ap refusal length-told)
        (sym (ap refusal (source-behind (length_field l) (os ++ behind) length-told ∙ address_other os behind a form other))) six)

    in_destination : (l s : ℕ) (os behind : List ℕ) (a : ℕ) → l ≤ longest_payload → IsAddress s → AddressForm os a → (os ≡ address_field a → ⊥)
        → reading (length_field l ++ (address_field s ++ (os ++ behind))) ≡ refused_fields 6
    in_destination l s os behind a short source form other =
        let p = length_field l ++ (address_field s ++ (os ++ behind)) in
        let length-told = length-put l (address_field s ++ (os ++ behind)) short in
        let source_told = source-behind (length_field l) (address_field s ++ (os ++ behind)) length-told ∙ address-put s (os ++ behind) source in
        sym
        (reading-destination p (ap refusal length-told) (ap refusal source_told)
        (sym (ap refusal (destination-behind (length_field l) (address_field s) (os ++ behind) length-told source_told ∙ address_other os behind a form other))) six)
