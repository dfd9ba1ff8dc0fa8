-- The zeros of addresses as words. A bit in front of a string is its digit times a power of two in front of its number, so each count and each
-- operation on the words goes by the strings, bit by bit from the first. Assumes nothing.
use mathlib.Core.Path.{◌≡◌, refl, sym, ap, ◌∙◌}
use mathlib.Core.List.{List, [], ◌∷◌, ◌++◌, map}
use Prim.Native.Nat.{ℕ, zero, suc, ◌+◌, ◌-◌, ◌*◌, ◌%◌, ◌^◌, ◌≤◌, ◌<◌}
use native.Mathlib.Nat.{add-zero, zero-add, add_comm, add-mul, mul_assoc, mul-mod_left, mod-eq_of_lt, pow-suc, pow-succ'}
use native.Mathlib.Omega.{arith}
use lib.ListN.{length, take, drop, replicate, length-append, length-map, length-drop, length-replicate, take-append-drop}
use lib.Seq.{drop-nil, drop-drop}
use lib.Pow.{pow_pos, pow-add, low, shl-shr, mod-pow-add, not_mod}
use lib.Bits.{bit_xor, bit_or, xor_lt, xor_self, xor_block, or_shifted}
use lib.Count.{ones, ones_cat, count_leading_zeros, leading_unique}
use Rattle.address.specs.Bits.{Bit, O, I, bits, digit, number_from, number, longest}
use Rattle.address.specs.Address.{bit_length}
use Rattle.address.specs.Numbers.{IsAddress}
use Rattle.address.proofs.Numbers.{number_lt, number_from-append, number-bits, bits-string, leading_zeros_bit_length}
use Rattle.route.specs.Counting.{zeros, opposite, turned_over, marks}
use Rattle.route.proofs.Common.{same}

-- the number of a string from its first bit on

number_from-split : (n : ℕ) (bs : List Bit) → number_from n bs ≡ n * 2 ^ length bs + number bs
unfolding number_from number
number_from-split n [] = omega arith
number_from-split n (b ∷ bs) =
    rw (number_from-split (n * 2 + digit b) bs, number_from-split (0 * 2 + digit b) bs, add-mul, mul_assoc, pow-succ') (omega arith)

number-cons : (b : Bit) (bs : List Bit) → number (b ∷ bs) ≡ digit b * 2 ^ length bs + number bs
unfolding number number_from
number-cons b bs = number_from-split (0 * 2 + digit b) bs ∙ rw (zero-add (digit b))

number_append : (bs cs : List Bit) → number (bs ++ cs) ≡ number bs * 2 ^ length cs + number cs
unfolding number
number_append bs cs = number_from-append 0 bs cs ∙ number_from-split (number_from 0 bs) cs

number-zeros : (n : ℕ) → number (replicate n O) ≡ 0
unfolding number number_from digit
number-zeros zero = refl
number-zeros (suc n) = number-zeros n

-- the last bits of a string are its number's remainder
number-drop : (k : ℕ) (bs : List Bit) → number (drop k bs) ≡ number bs % 2 ^ length (drop k bs)
number-drop k bs =
    sym (ap (λ (cs : List Bit). number cs % 2 ^ length (drop k bs)) (sym (take-append-drop k bs))
    ∙ rw (number_append (take k bs) (drop k bs)) (low (number (take k bs)) (length (drop k bs)) (number_lt (drop k bs))))

-- the ones of a word are the zeros of its string

ones-cons : (b : Bit) (bs : List Bit) → ones (number (b ∷ bs)) ≡ ones (digit b) + ones (number bs)
ones-cons b bs = rw (number-cons b bs) (ones_cat (length bs) (digit b) (number bs) (number_lt bs))

ones-turned_over : (k n : ℕ) (bs : List Bit) → ones (number (drop k (turned_over n bs))) ≡ zeros (drop k bs)
unfolding turned_over opposite zeros ones digit
ones-turned_over zero n [] = rw (number-zeros n)
ones-turned_over (suc k) zero [] = unfold number number_from in refl
ones-turned_over (suc k) (suc n) [] = ones-turned_over k n [] ∙ ap zeros (drop-nil k)
ones-turned_over zero n (O ∷ bs) = ones-cons I (turned_over n bs) ∙ omega (arith, ones-turned_over zero n bs)
ones-turned_over zero n (I ∷ bs) = ones-cons O (turned_over n bs) ∙ omega (arith, ones-turned_over zero n bs)
ones-turned_over (suc k) n (b ∷ bs) = ones-turned_over k n bs

-- where a word is shifted left past k bits, the ones of those behind are left

shl-mod : (n j k : ℕ) → n * 2 ^ k % 2 ^ (j + k) ≡ n % 2 ^ j * 2 ^ k
shl-mod n j k = mod-pow-add (n * 2 ^ k) j k ∙ rw (shl-shr n k, mul-mod_left n (2 ^ k), add-zero)

ones_shl : (n j k : ℕ) → ones (n * 2 ^ k % 2 ^ (j + k)) ≡ ones (n % 2 ^ j)
unfolding ones
ones_shl n j k = rw (shl-mod n j k, ← add-zero (n % 2 ^ j * 2 ^ k)) (ones_cat k (n % 2 ^ j) 0 (pow_pos k) ∙ add-zero (ones (n % 2 ^ j)))

pub ones-behind : (w k : ℕ) (us : List Bit) → length us + 1 ≡ w → k < w → ones (number us * 2 * 2 ^ k % 2 ^ w) ≡ ones (number (drop k us))
ones-behind w k us e h =
    let long : length (drop k us) + (k + 1) ≡ w = omega (arith, length-drop k us) in
    let power : 2 * 2 ^ k ≡ 2 ^ (k + 1) = omega (arith, pow-add 2 k 1) in
    rw (number-drop k us, mul_assoc (number us) 2 (2 ^ k), power, ← long) (ones_shl (number us) (length (drop k us)) (k + 1))

-- the common bits are the leading zeros where two words differ

-- the places from the first one on where two words differ
record Differs (us vs : List Bit) : Type 0 where
  left : ℕ
  whole : same us vs + left ≡ length us
  below : bit_xor (number us) (number vs) < 2 ^ left
  above : 2 ^ left ≤ 2 * bit_xor (number us) (number vs) + 1

module _ (us vs : List Bit) (e : length us ≡ length vs) where
  xor-cons : (x y : Bit)
      → bit_xor (number (x ∷ us)) (number (y ∷ vs)) ≡ bit_xor (digit x) (digit y) * 2 ^ length us + bit_xor (number us) (number vs)
  xor-cons x y =
      rw (number-cons x us, number-cons y vs, ← e)
      (xor_block (length us) (digit x) (digit y) (number us) (number vs) (number_lt us) (rw e (number_lt vs)))

  differs-alike : (b : Bit) → same (b ∷ us) (b ∷ vs) ≡ suc (same us vs) → Differs us vs → Differs (b ∷ us) (b ∷ vs)
  differs-alike b s d =
      let alike : bit_xor (number (b ∷ us)) (number (b ∷ vs)) ≡ bit_xor (number us) (number vs) =
      xor-cons b b ∙ rw (xor_self (digit b)) (omega arith) in
      record { left = d.left; whole = omega (arith, d.whole); below = rw alike d.below; above = rw alike d.above }

  differs_here : (x y : Bit) → same (x ∷ us) (y ∷ vs) ≡ 0 → bit_xor (digit x) (digit y) ≡ 1 → Differs (x ∷ us) (y ∷ vs)
  differs_here x y s one =
      let rest = xor_lt (length us) (number us) (number vs) (number_lt us) (rw e (number_lt vs)) in
      record {
        left = suc (length us);
        whole = omega arith;
        below = rw (xor-cons x y, one) (omega (arith, rest, pow-suc 2 (length us)));
        above = rw (xor-cons x y, one) (omega (arith, pow-suc 2 (length us)));
      }

differs : (us vs : List Bit) → length us ≡ length vs → Differs us vs
unfolding same digit
differs [] [] e = unfold number number_from in record { left = 0; whole = refl; below = omega arith; above = omega arith }
differs [] (v ∷ vs) e = absurd (omega arith)
differs (u ∷ us) [] e = absurd (omega arith)
differs (O ∷ us) (O ∷ vs) e = let f : length us ≡ length vs = omega arith in differs-alike us vs f O refl (differs us vs f)
differs (O ∷ us) (I ∷ vs) e = differs_here us vs (omega arith) O I refl refl
differs (I ∷ us) (O ∷ vs) e = differs_here us vs (omega arith) I O refl refl
differs (I ∷ us) (I ∷ vs) e = let f : length us ≡ length vs = omega arith in differs-alike us vs f I refl (differs us vs f)

xor-even : (m n : ℕ) → bit_xor (m * 2) (n * 2) ≡ bit_xor m n * 2
xor-even m n = rw (add-zero, add-zero, add-zero) at (xor_block 1 m n 0 0 (pow_pos 1) (pow_pos 1))

pub leading_same : (w : ℕ) (us vs : List Bit) → length us + 1 ≡ w → length us ≡ length vs
    → count_leading_zeros w (bit_or (bit_xor (number us * 2) (number vs * 2)) 1) ≡ same us vs
leading_same w us vs l e =
    let d = differs us vs e in
    let x = bit_xor (number us) (number vs) in
    let power = pow-suc 2 d.left in
    rw (xor-even (number us) (number vs), or_shifted x 1 1 (omega arith))
    (sym (leading_unique w (x * 2 + 1) (same us vs) (suc d.left) (omega (arith, d.whole)) (omega (arith, d.below)) (omega (arith, d.above))))

-- the word of an address

number-opposite : (bs : List Bit) → number (map opposite bs) + number bs + 1 ≡ 2 ^ length bs
unfolding opposite digit
number-opposite [] = unfold number number_from in refl
number-opposite (O ∷ bs) =
    rw (number-cons I (map opposite bs), number-cons O bs, length-map) (omega (arith, number-opposite bs, pow-suc 2 (length bs)))
number-opposite (I ∷ bs) =
    rw (number-cons O (map opposite bs), number-cons I bs, length-map) (omega (arith, number-opposite bs, pow-suc 2 (length bs)))

number-turned_over : (n : ℕ) (bs : List Bit) → number (turned_over n bs) ≡ number (map opposite bs) * 2 ^ n
unfolding turned_over
number-turned_over n bs = number_append (map opposite bs) (replicate n O) ∙ rw (length-replicate, number-zeros n, add-zero)

length-turned_over : (n : ℕ) (bs : List Bit) → length (turned_over n bs) ≡ length bs + n
unfolding turned_over
length-turned_over n bs = rw (length-append, length-map, length-replicate)

word : {a : ℕ} (w z : ℕ) (us : List Bit) → number (I ∷ us) ≡ a → z + suc (length us) ≡ w
    → (2 ^ w - 1 - a) * 2 ^ z % 2 ^ w * 2 % 2 ^ w ≡ number (turned_over z us) * 2
unfolding digit
word {a} w z us n e =
    let l = length us in
    let m = 2 ^ w - 1 - a in
    let y = number (map opposite us) in
    let shifted : m * 2 ^ z % 2 ^ w ≡ m % 2 ^ suc l * 2 ^ z =
    ap (λ (k : ℕ). m * 2 ^ z % 2 ^ k) (sym e ∙ add_comm z (suc l)) ∙ shl-mod m (suc l) z in
    let kept : m % 2 ^ suc l ≡ 2 ^ suc l - 1 - a =
    ap (λ (k : ℕ). (2 ^ k - 1 - a) % 2 ^ suc l) (sym e) ∙ not_mod z (suc l) (rw n at (number_lt (I ∷ us))) in
    let over : 2 ^ suc l - 1 - a ≡ y = omega (arith, n, number-cons I us, number-opposite us, pow-suc 2 l) in
    let long = length-turned_over z us in
    let power : 2 ^ w ≡ 2 ^ length (turned_over z us) * 2 = ap (λ (k : ℕ). 2 ^ k) (omega arith) ∙ pow-suc 2 (length (turned_over z us)) in
    rw (shifted, kept, over, ← number-turned_over z us) (mod-eq_of_lt (omega (arith, power, number_lt (turned_over z us))))

module _ {a : ℕ} (h : IsAddress a) where
  leading_bits : count_leading_zeros longest a ≡ longest - length (bits a)
  unfolding bit_length
  leading_bits = omega (arith, leading_zeros_bit_length h.fits)

  pub leading_lt : count_leading_zeros longest a < longest
  leading_lt = omega (arith, leading_bits, ap length (bits-string h).first.1)

  pub length-marks : length (marks (bits a)) + 1 ≡ longest
  unfolding marks
  length-marks =
      let s = bits-string h in
      rw (length-turned_over, length-drop) (omega (arith, ap length s.first.1, s.short))

  pub word-marks : (2 ^ longest - 1 - a) * 2 ^ count_leading_zeros longest a % 2 ^ longest * 2 % 2 ^ longest ≡ number (marks (bits a)) * 2
  unfolding marks
  word-marks =
      let s = bits-string h in
      let us = s.first.0 in
      let n : number (I ∷ us) ≡ a = sym (ap number s.first.1) ∙ number-bits h.fits in
      rw (leading_bits, s.first.1) (word longest (longest - length (I ∷ us)) us n (omega (arith, ap length s.first.1, s.short)))

  pub ones-marks : (k : ℕ) → k < longest → ones (number (marks (bits a)) * 2 * 2 ^ k % 2 ^ longest) ≡ zeros (drop (k + 1) (bits a))
  unfolding marks
  ones-marks k l =
      ones-behind longest k (marks (bits a)) length-marks l
      ∙ ones-turned_over k (longest - length (bits a)) (drop 1 (bits a))
      ∙ rw (drop-drop k 1 (bits a), add_comm 1 k)

module _ {a d : ℕ} (h : IsAddress a) (l : IsAddress d) where
  alike-long : length (marks (bits a)) ≡ length (marks (bits d))
  alike-long = omega (arith, length-marks h, length-marks l)

  pub leading_marks : count_leading_zeros longest (bit_or (bit_xor (number (marks (bits a)) * 2) (number (marks (bits d)) * 2)) 1)
      ≡ same (marks (bits a)) (marks (bits d))
  leading_marks = leading_same longest (marks (bits a)) (marks (bits d)) (length-marks h) alike-long

  pub same_lt : same (marks (bits a)) (marks (bits d)) < longest
  same_lt = omega (arith, (differs (marks (bits a)) (marks (bits d)) alike-long).whole, length-marks h)
