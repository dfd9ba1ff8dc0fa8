-- The laws of numbers as octets: k octets of n give n's remainder by 256 ^ k, and the octets of what some octets give are those octets.
-- Each is one induction over the octets, from the front for `joined` and from the end for `octets`. Assumes nothing.
use mathlib.Core.Path.{◌≡◌, refl, sym, ap, ap₂, ◌∙◌, subst}
use Prim.Native.Nat.{ℕ, zero, suc, ◌+◌, ◌-◌, ◌*◌, ◌/◌, ◌%◌, ◌^◌, ◌≤◌, ◌<◌}
use native.Mathlib.Nat.{add-zero, add-suc, suc-add, zero-add, mod-one, mod-eq_of_lt, pow-suc, pow-succ', mul_assoc, one-mul, pow-le-pow_right, lt_of_lt_of_le, zero-mul, add-mul, add_assoc, mul-le-mul_right, pos_of_ne-zero}
use native.Mathlib.Numerals.{add-one}
use native.Mathlib.Omega.{arith}
use mathlib.Core.List.{List, [], ◌∷◌, ◌++◌, append-nil, append_assoc}
use lib.ListN.{length, take, drop, get_or, length-append, length-drop, take-append-drop}
use lib.Arith.{mod-mul, digits_lt, digits_div, digits_mod}
use lib.Dec.{lit<}
use Rattle.octets.specs.Octets.{octets, joined, value, AreOctets}

pub length-octets : (k n : ℕ) → length (octets k n) ≡ k
unfolding octets
length-octets zero n = refl
length-octets (suc k) n = length-append (octets k (n / 256)) (n % 256 ∷ []) ∙ ap (λ (m : ℕ). m + 1) (length-octets k (n / 256)) ∙ add-one k

pub joined-append : (n : ℕ) (xs ys : List ℕ) → joined n (xs ++ ys) ≡ joined (joined n xs) ys
unfolding joined
joined-append n [] ys = refl
joined-append n (x ∷ xs) ys = joined-append (n * 256 + x) xs ys

pub value_snoc : (os : List ℕ) (o : ℕ) → value (os ++ (o ∷ [])) ≡ value os * 256 + o
unfolding value joined
value_snoc os o = joined-append 0 os (o ∷ [])

256-pow-pos : (k : ℕ) → 0 < 256 ^ k
256-pow-pos zero = lit< tt
256-pow-pos (suc k) = let h = 256-pow-pos k in rw (pow-suc 256 k) (omega arith)

pub value-octets : (k n : ℕ) → value (octets k n) ≡ n % 256 ^ k
unfolding octets value joined
value-octets zero n = sym (mod-one n)
value-octets (suc k) n =
    value_snoc (octets k (n / 256)) (n % 256)
    ∙ ap (λ (v : ℕ). v * 256 + n % 256) (value-octets k (n / 256))
    ∙ sym (mod-mul n (256-pow-pos k) (lit< tt))
    ∙ ap (λ (p : ℕ). n % p) (sym (pow-suc 256 k))

pub value-octets_of_lt : (k n : ℕ) → n < 256 ^ k → value (octets k n) ≡ n
value-octets_of_lt k n h = value-octets k n ∙ mod-eq_of_lt h

octets-joined : (k n : ℕ) (os : List ℕ) → AreOctets os → octets (k + length os) (joined n os) ≡ octets k n ++ os
unfolding octets joined
octets-joined k n [] all = ap (λ (j : ℕ). octets j n) (add-zero k) ∙ sym (append-nil (octets k n))
octets-joined k n (o ∷ os) all =
    ap (λ (j : ℕ). octets j (joined (n * 256 + o) os)) (add-suc k (length os) ∙ sym (suc-add k (length os)))
    ∙ octets-joined (suc k) (n * 256 + o) os all.1
    ∙ ap₂ (λ (m r : ℕ). octets k m ++ (r ∷ []) ++ os) (digits_div n all.0) (digits_mod n all.0)
    ∙ append_assoc (octets k n) (o ∷ []) os

pub octets-value : (os : List ℕ) → AreOctets os → octets (length os) (value os) ≡ os
unfolding octets value
octets-value os all = ap (λ (k : ℕ). octets k (value os)) (sym (zero-add (length os))) ∙ octets-joined 0 0 os all

joined-lt : {n m : ℕ} (os : List ℕ) → AreOctets os → n < m → joined n os < m * 256 ^ length os
unfolding joined
joined-lt {n} {m} [] all h = omega arith
joined-lt {n} {m} (o ∷ os) all h =
    subst (λ (p : ℕ). joined (n * 256 + o) os < p) (mul_assoc m 256 (256 ^ length os) ∙ ap (λ (p : ℕ). m * p) (sym (pow-succ' 256 (length os))))
    (joined-lt {n = n * 256 + o} {m = m * 256} os all.1 (digits_lt h all.0))

pub value-lt : (os : List ℕ) → AreOctets os → value os < 256 ^ length os
unfolding value
value-lt os all = subst (λ (p : ℕ). joined 0 os < p) (one-mul (256 ^ length os)) (joined-lt os all (lit< tt))

-- ---- what is known of the octets in a buffer

pub all_octets : (os : List ℕ) → ((i : ℕ) → get_or os i 0 < 256) → AreOctets os
all_octets [] h = tt
all_octets (o ∷ os) h = (h 0, all_octets os (λ i. h (suc i)))

pub take-octets : (k : ℕ) (os : List ℕ) → AreOctets os → AreOctets (take k os)
take-octets zero os all = tt
take-octets (suc k) [] all = tt
take-octets (suc k) (o ∷ os) all = (all.0, take-octets k os all.1)

pub drop-octets : (k : ℕ) (os : List ℕ) → AreOctets os → AreOctets (drop k os)
drop-octets zero os all = all
drop-octets (suc k) [] all = tt
drop-octets (suc k) (o ∷ os) all = drop-octets k os all.1

pub append-octets : (xs ys : List ℕ) → AreOctets xs → AreOctets ys → AreOctets (xs ++ ys)
append-octets [] ys all more = more
append-octets (x ∷ xs) ys all more = (all.0, append-octets xs ys all.1 more)

pub octets-octets : (k n : ℕ) → AreOctets (octets k n)
unfolding octets
octets-octets zero n = tt
octets-octets (suc k) n = append-octets (octets k (n / 256)) (n % 256 ∷ []) (octets-octets k (n / 256)) (omega arith, tt)

-- at most eight octets give a number of 64 bits
pub value-fits : (os : List ℕ) → AreOctets os → length os ≤ 8 → value os < 2 ^ 64
value-fits os all h = lt_of_lt_of_le (value-lt os all) (pow-le-pow_right (lit< tt) h)

pub value-mod : (os : List ℕ) → AreOctets os → length os ≤ 8 → value os % 2 ^ 64 ≡ value os
value-mod os all h = mod-eq_of_lt (value-fits os all h)

-- ---- the octets in front, and those behind them

joined-value : (n : ℕ) (os : List ℕ) → joined n os ≡ n * 256 ^ length os + value os
unfolding joined value
joined-value n [] = omega arith
joined-value n (o ∷ os) =
    let p = 256 ^ length os in
    let up : n * 256 * p ≡ n * 256 ^ suc (length os) = mul_assoc n 256 p ∙ ap (λ (q : ℕ). n * q) (sym (pow-succ' 256 (length os))) in
    let alone : 0 * 256 + o ≡ o = omega arith in
    joined-value (n * 256 + o) os
    ∙ rw (add-mul (n * 256) o p, up, add_assoc)
    (ap (λ (v : ℕ). n * 256 ^ suc (length os) + v) (sym (ap (λ (m : ℕ). joined m os) alone ∙ joined-value o os)))

pub value-append : (xs ys : List ℕ) → value (xs ++ ys) ≡ value xs * 256 ^ length ys + value ys
unfolding value
value-append xs ys = joined-append 0 xs ys ∙ joined-value (joined 0 xs) ys

-- the first k of some octets are zeros exactly if the others hold the whole number
module _ (k : ℕ) (os : List ℕ) (all : AreOctets os) where
  behind : 256 ^ length (drop k os) ≡ 256 ^ (length os - k)
  behind = ap (λ (n : ℕ). 256 ^ n) (length-drop k os)

  parts : value os ≡ value (take k os) * 256 ^ length (drop k os) + value (drop k os)
  parts = ap value (sym (take-append-drop k os)) ∙ value-append (take k os) (drop k os)

  pub value-lt_of_zeros : value (take k os) ≡ 0 → value os < 256 ^ (length os - k)
  value-lt_of_zeros e =
      let whole : value os ≡ value (drop k os) =
      parts ∙ ap (λ (v : ℕ). v * 256 ^ length (drop k os) + value (drop k os)) e ∙ omega (arith, zero-mul (256 ^ length (drop k os))) in
      omega (arith, value-lt (drop k os) (drop-octets k os all), behind)

  pub value_ge_of_zeros : (value (take k os) ≡ 0 → ⊥) → 256 ^ (length os - k) ≤ value os
  value_ge_of_zeros h =
      omega (arith, parts, behind, mul-le-mul_right {m = 1} {n = value (take k os)} (256 ^ length (drop k os)) (pos_of_ne-zero h))
