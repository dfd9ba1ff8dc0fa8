-- How many octets an address takes. A bound on a number by octets is one on its bit length (`lt-octets`, `octets-le`), and `size` rounds
-- the bit length up to whole octets, so the fewest that hold the number are those. Assumes nothing.
use mathlib.Core.Path.{◌≡◌, refl, sym, ap, ◌∙◌, subst}
use Prim.Native.Nat.{ℕ, zero, suc, ◌*◌, ◌-◌, ◌^◌, ◌≤◌, ◌<◌}
use native.Mathlib.Nat.{pow-suc, mul-suc, lt_of_not-le, not-le_of_lt, lt_of_le_of_lt, lt_of_lt_of_le, le_trans}
use native.Mathlib.Omega.{arith}
use lib.Pow.{pow-add, pow_mono}
use Rattle.address.specs.Bits.{longest}
use Rattle.address.specs.Address.{bit_length}
use Rattle.address.specs.Numbers.{IsAddress}
use Rattle.address.proofs.Numbers.{bit_length-le, bit_length-pos, lt-bit_length, ge_bit_length}
use Rattle.header.specs.Header.{size}
use Rattle.header.specs.Fewest.{FewestOctets}

octets-pow : (s : ℕ) → 256 ^ s ≡ 2 ^ (8 * s)
octets-pow zero = refl
octets-pow (suc s) = pow-suc 256 s ∙ ap (λ (p : ℕ). p * 256) (octets-pow s) ∙ sym (pow-add 2 (8 * s) 8) ∙ ap (λ (k : ℕ). 2 ^ k) (sym (mul-suc 8 s))

exponent_lt : {i j : ℕ} → 2 ^ i < 2 ^ j → i < j
exponent_lt h = lt_of_not-le (λ g. not-le_of_lt h (pow_mono g))

-- a number that s octets hold has no more bits than those
bit_length-le-octets : {a : ℕ} (s : ℕ) → IsAddress a → a < 256 ^ s → bit_length a ≤ 8 * s
bit_length-le-octets {a} s n h =
    let e = exponent_lt {i = bit_length a - 1} {j = 8 * s} (lt_of_le_of_lt (ge_bit_length n) (subst (λ (p : ℕ). a < p) (octets-pow s) h)) in omega arith

-- and one that s octets do not hold has more
octets-lt-bit_length : {a : ℕ} (s : ℕ) → IsAddress a → 256 ^ s ≤ a → 8 * s < bit_length a
octets-lt-bit_length {a} s n h =
    exponent_lt (lt_of_le_of_lt (subst (λ (p : ℕ). p ≤ a) (octets-pow s) h) (lt-bit_length n.fits))

lt-octets : {a : ℕ} (s : ℕ) → IsAddress a → bit_length a ≤ 8 * s → a < 256 ^ s
lt-octets {a} s n h = subst (λ (p : ℕ). a < p) (sym (octets-pow s)) (lt_of_lt_of_le (lt-bit_length n.fits) (pow_mono h))

octets-le : {a : ℕ} (s : ℕ) → IsAddress a → 8 * s < bit_length a → 256 ^ s ≤ a
octets-le {a} s n h = subst (λ (p : ℕ). p ≤ a) (sym (octets-pow s)) (le_trans (pow_mono (omega arith)) (ge_bit_length n))

pub size-le : {a : ℕ} → a < 2 ^ longest → size a ≤ 8
unfolding size
size-le h = omega (arith, bit_length-le h)

pub size_ge : {a : ℕ} → IsAddress a → 1 ≤ size a
unfolding size
size_ge n = omega (arith, bit_length-pos n)

pub fewest-octets : FewestOctets
unfolding size
fewest-octets a n = record {
  allowed = (size_ge n, size-le n.fits);
  holds = lt-octets (size a) n (omega (arith, bit_length-le n.fits));
  fewest = λ s h. omega (arith, bit_length-le-octets s n h);
}

-- the size of a number that s octets hold, and no fewer
pub size_exact : {a s : ℕ} → IsAddress a → a < 256 ^ s → 1 ≤ s → 256 ^ (s - 1) ≤ a → size a ≡ s
unfolding size
size_exact {a} {s} n h some l = omega (arith, bit_length-le-octets s n h, octets-lt-bit_length (s - 1) n l)

-- and no fewer hold a number than its size says
pub size-least : {a : ℕ} → IsAddress a → 256 ^ (size a - 1) ≤ a
unfolding size
size-least {a} n = octets-le (size a - 1) n (omega (arith, bit_length-pos n))
