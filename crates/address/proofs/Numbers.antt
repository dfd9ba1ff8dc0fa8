-- Bit strings that begin with 1 and numbers above zero are one to one. One more bit behind a string is one more digit behind its number
-- (`bits_snoc`, `number_snoc`), so both ways round follow by induction, one on the digits that are left and one on the string.
use Rattle.std.specs.Prelude.{if◌then◌else◌}
use mathlib.Core.Path.{◌≡◌, refl, sym, ap, ◌∙◌}
use mathlib.Core.Logic.{◌⊎◌, inl, inr}
use mathlib.Core.List.{List, [], ◌∷◌, ◌++◌, append_assoc, append-nil}
use Prim.Native.Nat.{ℕ, zero, suc, ◌+◌, ◌*◌, ◌-◌, ◌/◌, ◌%◌, ◌^◌, ◌<◌, ◌≤◌}
use native.Mathlib.Nat.{pow-suc, eq-zero-or-pos, add-zero, zero-add, add-suc, suc-add, add-mul, mul_assoc, pow-succ'}
use native.Mathlib.Numerals.{sub-one}
use native.Mathlib.Omega.{arith}
use lib.ListN.{length, replicate, length-append}
use lib.Dec.{eqb}
use lib.Pow.{pow_mono, pow_pos}
use lib.Count.{count_leading_zeros}
use Rattle.address.specs.Bits.{Bit, O, I, last_bit, bits_in, bits, digit, number_from, number, longest, root}
use Rattle.address.specs.Address.{bit_length}
use Rattle.address.specs.Numbers.{IsAddressString, IsAddress, OneToOne}

-- the last digit, and what is left of a bound without it

pub digit-last_bit : (n : ℕ) → digit (last_bit n) ≡ n % 2
unfolding last_bit digit
digit-last_bit n = go (n % 2) (omega arith)
  where
    go : (r : ℕ) → r < 2 → digit (if eqb r 0 then O else I) ≡ r
    go zero h = refl
    go (suc zero) h = refl
    go (suc (suc r)) h = absurd (omega arith)

pub digit_lt : (b : Bit) → digit b < 2
unfolding digit
digit_lt O = omega arith
digit_lt I = omega arith

pub last_bit_snoc : (n : ℕ) (b : Bit) → last_bit (n * 2 + digit b) ≡ b
unfolding last_bit digit
last_bit_snoc n O = let e : (n * 2 + 0) % 2 ≡ 0 = omega arith in rw e
last_bit_snoc n I = let e : (n * 2 + 1) % 2 ≡ 1 = omega arith in rw e

half_lt : {n : ℕ} (k : ℕ) → n < 2 ^ suc k → n / 2 < 2 ^ k
half_lt k h = omega (arith, pow-suc 2 k)

-- digits, most significant first

bits_in-zero : (k : ℕ) → bits_in k 0 ≡ []
unfolding bits_in
bits_in-zero zero = refl
bits_in-zero (suc k) = refl

pub bits_in-pos : (k n : ℕ) → 0 < n → bits_in (suc k) n ≡ bits_in k (n / 2) ++ (last_bit n ∷ [])
unfolding bits_in
bits_in-pos k zero h = absurd (omega arith)
bits_in-pos k (suc n) h = refl

-- more digits to look at than there are change nothing
bits_in-suc : (k n : ℕ) → n < 2 ^ k → bits_in (suc k) n ≡ bits_in k n
unfolding bits_in
bits_in-suc zero zero h = refl
bits_in-suc zero (suc n) h = absurd (omega arith)
bits_in-suc (suc k) zero h = refl
bits_in-suc (suc k) (suc n) h = ap (λ (bs : List Bit). bs ++ (last_bit (suc n) ∷ [])) (bits_in-suc k (suc n / 2) (half_lt k h))

pub bits_snoc : (n : ℕ) (b : Bit) → 0 < n → n * 2 + digit b < 2 ^ longest → bits (n * 2 + digit b) ≡ bits n ++ (b ∷ [])
unfolding bits
bits_snoc n b p h =
    let e : (n * 2 + digit b) / 2 ≡ n = omega (arith, digit_lt b) in
    bits_in-pos 63 (n * 2 + digit b) (omega arith) ∙ rw (e, last_bit_snoc n b, bits_in-suc 63 n (omega arith))

-- the number of a string

pub number_from-append : (n : ℕ) (bs cs : List Bit) → number_from n (bs ++ cs) ≡ number_from (number_from n bs) cs
unfolding number_from
number_from-append n [] cs = refl
number_from-append n (b ∷ bs) cs = number_from-append (n * 2 + digit b) bs cs

pub number_snoc : (bs : List Bit) (b : Bit) → number (bs ++ (b ∷ [])) ≡ number bs * 2 + digit b
unfolding number number_from
number_snoc bs b = number_from-append 0 bs (b ∷ [])

-- each digit behind a number makes it one digit longer

number_from-lt : (n j : ℕ) (bs : List Bit) → n < 2 ^ j → number_from n bs < 2 ^ (j + length bs)
unfolding number_from
number_from-lt n j [] h = rw add-zero h
number_from-lt n j (b ∷ bs) h =
    rw (add-suc, ← suc-add) (number_from-lt (n * 2 + digit b) (suc j) bs (omega (arith, pow-suc 2 j, digit_lt b)))

number_from_ge : (n j : ℕ) (bs : List Bit) → 2 ^ j ≤ n → 2 ^ (j + length bs) ≤ number_from n bs
unfolding number_from
number_from_ge n j [] h = rw add-zero h
number_from_ge n j (b ∷ bs) h = rw (add-suc, ← suc-add) (number_from_ge (n * 2 + digit b) (suc j) bs (omega (arith, pow-suc 2 j)))

pub number_lt : (bs : List Bit) → number bs < 2 ^ length bs
unfolding number
number_lt bs = rw zero-add at (number_from-lt 0 0 bs (omega arith))

pub number_ge : {bs : List Bit} → IsAddressString bs → 2 ^ (length bs - 1) ≤ number bs
unfolding number number_from digit
number_ge s = rw (s.first.1, sub-one) (rw zero-add at (number_from_ge 1 0 s.first.0 (omega arith)))

-- ones behind a number
pub number_from-ones : (n i : ℕ) → number_from n (replicate i I) ≡ n * 2 ^ i + (2 ^ i - 1)
unfolding number_from digit
number_from-ones n zero = omega arith
number_from-ones n (suc i) = rw (number_from-ones (n * 2 + 1) i, add-mul, mul_assoc, pow-succ') (omega (arith, pow_pos i))

-- the bits of a number that holds a string

bits-number_from : (n j : ℕ) (bs : List Bit) → 0 < n → n < 2 ^ j → j + length bs ≤ longest → bits (number_from n bs) ≡ bits n ++ bs
unfolding number_from
bits-number_from n j [] p h l = sym (append-nil (bits n))
bits-number_from n j (b ∷ bs) p h l =
    let q : n * 2 + digit b < 2 ^ suc j = omega (arith, pow-suc 2 j, digit_lt b) in
    bits-number_from (n * 2 + digit b) (suc j) bs (omega arith) q (omega arith)
    ∙ rw (bits_snoc n b p (omega (arith, pow_mono {i = suc j} {j = longest} (omega arith))), append_assoc)

pub bits-root : bits root ≡ I ∷ []
unfolding bits bits_in last_bit
bits-root = refl

pub bits-number : {bs : List Bit} → IsAddressString bs → bits (number bs) ≡ bs
unfolding number number_from digit
bits-number s =
    rw s.first.1
    (bits-number_from root 1 s.first.0 (omega arith) (omega arith) (omega (arith, ap length s.first.1)) ∙ rw bits-root)

pub number-address : {bs : List Bit} → IsAddressString bs → IsAddress (number bs)
number-address {bs} s = record {
  some = omega (arith, number_ge s, pow_pos (length bs - 1));
  fits = omega (arith, number_lt bs, pow_mono {i = length bs} {j = longest} s.short);
}

-- the number that its bits hold

number-bits_in : (k n : ℕ) → n < 2 ^ k → number (bits_in k n) ≡ n
unfolding bits_in number number_from
number-bits_in zero n h = omega arith
number-bits_in (suc k) zero h = refl
number-bits_in (suc k) (suc n) h =
    rw (number_snoc (bits_in k (suc n / 2)) (last_bit (suc n)), number-bits_in k (suc n / 2) (half_lt k h), digit-last_bit) (omega arith)

pub number-bits : {n : ℕ} → n < 2 ^ longest → number (bits n) ≡ n
unfolding bits
number-bits h = number-bits_in longest _ h

-- "whose first bit is 1"
bits_in-first : (k n : ℕ) → 0 < n → n < 2 ^ k → (rest : List Bit) × (bits_in k n ≡ I ∷ rest)
unfolding bits_in
bits_in-first zero n p h = absurd (omega arith)
bits_in-first (suc k) zero p h = absurd (omega arith)
bits_in-first (suc k) (suc n) p h = go (λ q. bits_in-first k (suc n / 2) q (half_lt k h)) (eq-zero-or-pos (suc n / 2))
  where
    go : (0 < suc n / 2 → (rest : List Bit) × (bits_in k (suc n / 2) ≡ I ∷ rest)) → (suc n / 2 ≡ 0) ⊎ (0 < suc n / 2)
        → (rest : List Bit) × (bits_in k (suc n / 2) ++ (last_bit (suc n) ∷ []) ≡ I ∷ rest)
    go rest (inl e) = ([], let one : n ≡ 0 = omega arith in rw (e, bits_in-zero, one) (unfold last_bit in refl))
    go rest (inr q) = ((rest q).0 ++ (last_bit (suc n) ∷ []), rw (rest q).1)

leading_zeros_bits_in : (k n : ℕ) → n < 2 ^ k → count_leading_zeros k n + length (bits_in k n) ≡ k
unfolding count_leading_zeros bits_in
leading_zeros_bits_in zero n h = refl
leading_zeros_bits_in (suc k) zero h = omega arith
leading_zeros_bits_in (suc k) (suc n) h = rw length-append (omega (arith, leading_zeros_bits_in k (suc n / 2) (half_lt k h)))

pub leading_zeros_bit_length : {n : ℕ} → n < 2 ^ longest → count_leading_zeros longest n + bit_length n ≡ longest
unfolding bit_length bits
leading_zeros_bit_length h = leading_zeros_bits_in longest _ h

pub bit_length-le : {n : ℕ} → n < 2 ^ longest → bit_length n ≤ longest
bit_length-le h = omega (arith, leading_zeros_bit_length h)

pub bits-string : {n : ℕ} → IsAddress n → IsAddressString (bits n)
unfolding bits bit_length
bits-string a = record { first = bits_in-first longest _ a.some a.fits; short = bit_length-le a.fits }

pub bit_length-pos : {n : ℕ} → IsAddress n → 0 < bit_length n
unfolding bit_length
bit_length-pos a = omega (arith, ap length (bits-string a).first.1)

pub lt-bit_length : {n : ℕ} → n < 2 ^ longest → n < 2 ^ bit_length n
unfolding bit_length
lt-bit_length {n} h = rw (number-bits h) at (number_lt (bits n))

pub ge_bit_length : {n : ℕ} → IsAddress n → 2 ^ (bit_length n - 1) ≤ n
unfolding bit_length
ge_bit_length a = rw (number-bits a.fits) at (number_ge (bits-string a))

pub one_to_one : OneToOne
one_to_one =
    record { held = λ bs s. (number-address s, bits-number s); shown = λ n a. (bits-string a, number-bits a.fits) }
