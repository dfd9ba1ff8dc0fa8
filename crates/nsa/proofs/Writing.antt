-- What the fields are and what writing comes to, case by case. Assumes nothing.
use mathlib.Core.Path.{◌≡◌, sym, ap, ap₂, ◌∙◌}
use mathlib.Core.List.{List, [], ◌∷◌, ◌++◌, append-nil, append_assoc}
use Prim.Native.Nat.{ℕ, suc, ◌+◌, ◌-◌, ◌^◌, ◌≤◌, ◌<◌}
use native.Mathlib.Decide.{dec_lt}
use native.Mathlib.Omega.{arith}
use borrow.Author.Tests.{eq-eqb, ne_eqb, lt-ltb, le-ltb}
use borrow.Rule.Slice.PartMut.{put_mid, Post-is}
use lib.ListN.{length, drop, set, length-append}
use lib.Seq.{drop-length, take_at, drop_at, drop-drop}
use Rattle.octets.specs.Octets.{octets, refuse_writing, write}
use Rattle.octets.proofs.OctetLaws.{length-octets}
use Rattle.nsa.specs.Fields.{length_field, long_octets, address_field, fields, longest_payload, writing}

-- ---- a field: its first octet, and a number in the octets behind it

module _ (n : ℕ) where
  pub length_field_alone : n < 253 → length_field n ≡ n ∷ []
  unfolding length_field
  length_field_alone h = rw (lt-ltb n 253 h)

  pub length_field-one : 253 ≤ n → n < 508 → length_field n ≡ 253 ∷ octets 1 (n - 252)
  unfolding length_field
  length_field-one l h = rw (le-ltb n 253 l, lt-ltb n 508 h)

  pub length_field_two : 508 ≤ n → length_field n ≡ 254 ∷ octets 2 (n - 252)
  unfolding length_field
  length_field_two l = let k : 253 ≤ n = omega arith in rw (le-ltb n 253 k, le-ltb n 508 l)

module _ (a : ℕ) where
  pub address_field_alone : a < 253 → address_field a ≡ a ∷ []
  unfolding address_field
  address_field_alone h = rw (lt-ltb a 253 h)

  pub address_field_two : 253 ≤ a → a < 256 ^ 2 → address_field a ≡ 253 ∷ octets 2 a
  unfolding address_field
  address_field_two l h = rw (le-ltb a 253 l, lt-ltb a (256 ^ 2) h)

  pub address_field_four : 256 ^ 2 ≤ a → a < 256 ^ 4 → address_field a ≡ 254 ∷ octets 4 a
  unfolding address_field
  address_field_four l h = let k : 253 ≤ a = omega arith in rw (le-ltb a 253 k, le-ltb a (256 ^ 2) l, lt-ltb a (256 ^ 4) h)

  pub address_field-counted : 256 ^ 4 ≤ a → address_field a ≡ 255 ∷ long_octets a ∷ octets (long_octets a) a
  unfolding address_field
  address_field-counted l =
      let k : 253 ≤ a = omega arith in let m : 256 ^ 2 ≤ a = omega arith in rw (le-ltb a 253 k, le-ltb a (256 ^ 2) m, le-ltb a (256 ^ 4) l)

  pub long_octets_five : a < 256 ^ 5 → long_octets a ≡ 5
  unfolding long_octets
  long_octets_five h = rw (lt-ltb a (256 ^ 5) h)

  pub long_octets_six : 256 ^ 5 ≤ a → a < 256 ^ 6 → long_octets a ≡ 6
  unfolding long_octets
  long_octets_six l h = rw (le-ltb a (256 ^ 5) l, lt-ltb a (256 ^ 6) h)

  pub long_octets_seven : 256 ^ 6 ≤ a → a < 256 ^ 7 → long_octets a ≡ 7
  unfolding long_octets
  long_octets_seven l h = let k : 256 ^ 5 ≤ a = omega arith in rw (le-ltb a (256 ^ 5) k, le-ltb a (256 ^ 6) l, lt-ltb a (256 ^ 7) h)

  pub long_octets_eight : 256 ^ 7 ≤ a → long_octets a ≡ 8
  unfolding long_octets
  long_octets_eight l =
      let k : 256 ^ 5 ≤ a = omega arith in let m : 256 ^ 6 ≤ a = omega arith in rw (le-ltb a (256 ^ 5) k, le-ltb a (256 ^ 6) m, le-ltb a (256 ^ 7) l)

  pub long_octets_bounds : (5 ≤ long_octets a) × (long_octets a ≤ 8)
  long_octets_bounds = go (dec_lt a (256 ^ 5)) (dec_lt a (256 ^ 6)) (dec_lt a (256 ^ 7))
    where
      go : Dec (a < 256 ^ 5) → Dec (a < 256 ^ 6) → Dec (a < 256 ^ 7) → (5 ≤ long_octets a) × (long_octets a ≤ 8)
      go (yes h) six seven = omega (arith, long_octets_five h)
      go (no five) (yes h) seven = omega (arith, long_octets_six (omega arith) h)
      go (no five) (no six) (yes h) = omega (arith, long_octets_seven (omega arith) h)
      go (no five) (no six) (no seven) = omega (arith, long_octets_eight (omega arith))

-- how long a field is that is one octet and k behind it
module _ {f : List ℕ} (o k n : ℕ) (e : f ≡ o ∷ octets k n) where
  pub length-behind : length f ≡ suc k
  length-behind = ap length e ∙ ap suc (length-octets k n)

-- how many octets a field takes: at least one, and at most three and ten
pub length-length_field : (n : ℕ) → (1 ≤ length (length_field n)) × (length (length_field n) ≤ 3)
length-length_field n = go (dec_lt n 253) (dec_lt n 508)
  where
    go : Dec (n < 253) → Dec (n < 508) → (1 ≤ length (length_field n)) × (length (length_field n) ≤ 3)
    go (yes h) two = omega (arith, ap length (length_field_alone n h))
    go (no l) (yes h) = omega (arith, length-behind 253 1 (n - 252) (length_field-one n (omega arith) h))
    go (no l) (no m) = omega (arith, length-behind 254 2 (n - 252) (length_field_two n (omega arith)))

pub length-counted : (a : ℕ) → 256 ^ 4 ≤ a → length (address_field a) ≡ 2 + long_octets a
length-counted a l = omega (arith, ap length (address_field-counted a l), length-octets (long_octets a) a)

pub length-address_field : (a : ℕ) → (1 ≤ length (address_field a)) × (length (address_field a) ≤ 10)
length-address_field a = go (dec_lt a 253) (dec_lt a (256 ^ 2)) (dec_lt a (256 ^ 4))
  where
    go : Dec (a < 253) → Dec (a < 256 ^ 2) → Dec (a < 256 ^ 4) → (1 ≤ length (address_field a)) × (length (address_field a) ≤ 10)
    go (yes h) two four = omega (arith, ap length (address_field_alone a h))
    go (no l) (yes h) four = omega (arith, length-behind 253 2 a (address_field_two a (omega arith) h))
    go (no l) (no m) (yes h) = omega (arith, length-behind 254 4 a (address_field_four a (omega arith) h))
    go (no l) (no m) (no n) = omega (arith, length-counted a (omega arith), long_octets_bounds a)

-- the buffer with its first octet stored, and the others put behind it
pub framed : (out os : List ℕ) (o k : ℕ) → k ≡ length out → 1 ≤ k → put_mid 1 (k - 1) (set out 0 o) os ≡ o ∷ os
framed [] os o k e h = absurd (omega arith)
framed (x ∷ out) os o k e h =
    let m : k - 1 ≡ length out = omega arith in
    rw m (ap (λ (l : List ℕ). o ∷ (os ++ l)) (drop-length out) ∙ ap (λ (l : List ℕ). o ∷ l) (append-nil os))

-- the buffer with some octets in front, and others put behind those
put_next : (out xs ys : List ℕ) (m n : ℕ) → length xs ≡ m → length ys ≡ n
    → put_mid m (m + n - m) (xs ++ drop m out) ys ≡ (xs ++ ys) ++ drop (m + n) out
put_next out xs ys m n e f =
    ap₂ (λ (front behind : List ℕ). front ++ (ys ++ behind)) (take_at xs (drop m out) m e)
    (Post-is m (m + n) (xs ++ drop m out) (omega arith)
    ∙ sym (drop-drop n m (xs ++ drop m out))
    ∙ ap (drop n) (drop_at xs (drop m out) m e)
    ∙ drop-drop n m out)
    ∙ sym (append_assoc xs ys (drop (m + n) out))

-- ---- three in a row

pub length_fields : (l s d : ℕ) → length (fields l s d) ≡ length (length_field l) + length (address_field s) + length (address_field d)
unfolding fields
length_fields l s d = length-append (length_field l) (address_field s ++ address_field d) ∙ omega (arith, length-append (address_field s) (address_field d))

-- the buffer with three parts put one behind the other
pub put_three : (out xs ys zs : List ℕ) (k m n : ℕ) → length xs ≡ k → length ys ≡ m → length zs ≡ n
    → put_mid (k + m) (k + m + n - (k + m)) (put_mid k (k + m - k) (xs ++ drop k out) ys) zs ≡ (write (xs ++ (ys ++ zs)) out).buffer
unfolding write
put_three out xs ys zs k m n e f g =
    let end : k + m + n ≡ length (xs ++ (ys ++ zs)) = omega (arith, length-append xs (ys ++ zs), length-append ys zs) in
    ap (λ (l : List ℕ). put_mid (k + m) (k + m + n - (k + m)) l zs) (put_next out xs ys k m e f)
    ∙ put_next out (xs ++ ys) zs (k + m) n (length-append xs ys ∙ ap₂ ◌+◌ e f) g
    ∙ ap₂ (λ (all : List ℕ) (j : ℕ). all ++ drop j out) (append_assoc xs ys zs) end

module _ (l s d : ℕ) (buffer : List ℕ) where
  pub writing-long : longest_payload < l → writing l s d buffer ≡ refuse_writing 14 buffer
  unfolding writing
  writing-long h = rw (lt-ltb longest_payload l h)

  module _ (short : l ≤ longest_payload) where
    pub writing-zero-source : s ≡ 0 → writing l s d buffer ≡ refuse_writing 9 buffer
    unfolding writing
    writing-zero-source z = rw (le-ltb longest_payload l short, eq-eqb s 0 z)

    pub writing-zero-destination : (s ≡ 0 → ⊥) → d ≡ 0 → writing l s d buffer ≡ refuse_writing 9 buffer
    unfolding writing
    writing-zero-destination n z = rw (le-ltb longest_payload l short, ne_eqb s 0 n, eq-eqb d 0 z)

    module _ (source : s ≡ 0 → ⊥) (destination : d ≡ 0 → ⊥) where
      pub writing-short : length buffer < length (fields l s d) → writing l s d buffer ≡ refuse_writing 10 buffer
      unfolding writing
      writing-short h = rw (le-ltb longest_payload l short, ne_eqb s 0 source, ne_eqb d 0 destination, lt-ltb (length buffer) (length (fields l s d)) h)

      pub writing-done : length (fields l s d) ≤ length buffer → writing l s d buffer ≡ write (fields l s d) buffer
      unfolding writing
      writing-done h = rw (le-ltb longest_payload l short, ne_eqb s 0 source, ne_eqb d 0 destination, le-ltb (length buffer) (length (fields l s d)) h)
