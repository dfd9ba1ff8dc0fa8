-- What the code computes is what the functions on an address answer. A host's number is odd and above 1, and the depth is the count of
-- zeros, with one more for a host, since each step that leads to a router ends with the one zero that it has. Half of a number ends with the
-- ones of its last step, which the trailing zeros of one more count, with the first bit of all where the parent is the root.
use Rattle.std.specs.Prelude.{if◌then◌else◌}
use mathlib.Core.Path.{◌≡◌, refl, sym, ap, ◌∙◌}
use mathlib.Core.Bool.{Bool, true, false, ◌&&◌}
use mathlib.Core.List.{List, [], ◌∷◌, ◌++◌, append_assoc}
use Prim.Native.Nat.{ℕ, zero, suc, ◌+◌, ◌*◌, ◌-◌, ◌/◌, ◌%◌, ◌^◌, ◌<◌, ◌≤◌}
use native.Mathlib.Nat.{lt_of_not-le, pow-suc, add-zero, add-mul}
use native.Mathlib.Omega.{arith}
use borrow.Author.Tests.{lt-ltb, ne_eqb}
use lib.Dec.{eqb, ltb}
use lib.ListN.{length}
use lib.Pow.{pow_mono, pow_pos, high, ones_lt}
use lib.Bits.{shifted_half, shifted_even}
use lib.Count.{ones, ones_cat, ones-ones, under, count_trailing_zeros}
use Rattle.address.specs.Bits.{Bit, O, I, last_bit, bits_in, bits, digit, longest, root}
use Rattle.address.specs.Steps.{Kind, router, host, Step, child, last_step, cut, steps_of, steps, last_of, step_bits, spelled, address_of}
use Rattle.address.specs.Address.{bit_length, ends_in_one, is_host, depth, above, parent}
use Rattle.address.specs.Numbers.{IsAddress}
use Rattle.address.specs.Cuts.{AllRouters, AreSteps}
use Rattle.address.proofs.Numbers.{digit-last_bit, digit_lt, bits_in-pos, bits-string, lt-bit_length}
use Rattle.address.proofs.Steps.{are_steps_steps, spelled-steps, address_of-steps, length-spelled, length-lt-spelled, are_steps_routers, address-address_of, address_of-root, address_of-child}

le-one : (P : ℕ → Type 0) → P 0 → P 1 → {n : ℕ} → n ≤ 1 → P n
le-one P p q {n = zero} h = p
le-one P p q {n = suc zero} h = q
le-one P p q {n = suc (suc n)} h = absurd (omega arith)

-- hosts

pub ends_in_one-snoc : (bs : List Bit) (b : Bit) → ends_in_one (bs ++ (b ∷ [])) ≡ eqb (digit b) 1
unfolding ends_in_one digit
ends_in_one-snoc [] O = refl
ends_in_one-snoc [] I = refl
ends_in_one-snoc (a ∷ []) b = ends_in_one-snoc [] b
ends_in_one-snoc (a ∷ c ∷ bs) b = ends_in_one-snoc (c ∷ bs) b

and-true : (t : Bool) → t && true ≡ t
and-true true = refl
and-true false = refl

pub is_host-small : {n : ℕ} → n ≤ 1 → is_host n ≡ false
unfolding is_host bit_length ends_in_one bits bits_in last_bit
is_host-small h = le-one (λ n. is_host n ≡ false) refl refl h

pub is_host-odd : {n : ℕ} → 1 < n → n < 2 ^ longest → is_host n ≡ eqb (n % 2) 1
unfolding is_host bits
is_host-odd {n} l h =
    let long : 1 < bit_length n = lt_of_not-le (λ g. omega (arith, lt-bit_length h, pow_mono {i = bit_length n} {j = 1} g)) in
    rw (lt-ltb 1 (bit_length n) long, and-true, bits_in-pos 63 n (omega arith), ends_in_one-snoc, digit-last_bit)

-- the last step leads to a host
abbrev pub host_last : List Step → Bool
host_last [] = false
host_last (child router i ∷ up) = false
host_last (child host i ∷ up) = true

host_last-digit : (kind : Kind) (i : ℕ) (up : List Step) → digit (last_of kind) ≡ (if host_last (child kind i ∷ up) then 1 else 0)
unfolding digit last_of
host_last-digit router i up = refl
host_last-digit host i up = refl

if-one : (t : Bool) → eqb (if t then 1 else 0) 1 ≡ t
if-one true = refl
if-one false = refl

pub host_last-routers : (ss : List Step) → AllRouters ss → host_last ss ≡ false
host_last-routers [] r = refl
host_last-routers (child router i ∷ up) r = refl
host_last-routers (child host i ∷ up) r = absurd r

pub is_host-steps : {n : ℕ} → IsAddress n → is_host n ≡ host_last (steps n)
unfolding is_host bit_length
is_host-steps {n} a = rw (← spelled-steps a) (go (steps n))
  where
    go : (ss : List Step) → ends_in_one (spelled ss) && ltb 1 (length (spelled ss)) ≡ host_last ss
    go [] = unfold spelled ends_in_one in refl
    go (child kind i ∷ up) =
        let long : 1 < length (spelled (child kind i ∷ up)) = omega (arith, length-spelled kind i up, length-lt-spelled up) in
        rw (lt-ltb 1 (length (spelled (child kind i ∷ up))) long, and-true)
        (unfold spelled step_bits in rw (← append_assoc, ends_in_one-snoc, host_last-digit kind i up, if-one))

-- depth

ones-digit : (b : Bit) → ones (digit b) ≡ digit b
unfolding ones digit
ones-digit O = refl
ones-digit I = refl

ones-child : (kind : Kind) (i : ℕ) (up : List Step) → ones (address_of (child kind i ∷ up)) ≡ ones (address_of up) + i + digit (last_of kind)
ones-child kind i up =
    rw address_of-child
    (ones_cat 1 (address_of up * 2 ^ i + (2 ^ i - 1)) (digit (last_of kind)) (digit_lt (last_of kind))
    ∙ rw (ones_cat i (address_of up) (2 ^ i - 1) (ones_lt i), ones-ones i, ones-digit))

depth-are_steps : (ss : List Step) → AreSteps ss
    → length ss + ones (address_of ss) ≡ length (spelled ss) + (if host_last ss then 1 else 0)
depth-are_steps [] r = rw address_of-root (unfold ones spelled in refl)
depth-are_steps (child kind i ∷ up) r =
    let below = rw (host_last-routers up r) at (depth-are_steps up (are_steps_routers up r)) in
    rw (length-spelled, ones-child, host_last-digit kind i up) (omega arith)

pub depth-ones : {n : ℕ} → n < 2 ^ longest → depth n + ones n ≡ bit_length n + (if is_host n then 1 else 0)
unfolding depth bit_length
depth-ones {n = zero} h = unfold depth steps steps_of bit_length is_host ends_in_one bits bits_in ones in refl
depth-ones {n = suc n} h =
    let a : IsAddress (suc n) = record { some = omega arith; fits = h } in
    rw (address_of-steps a, spelled-steps a, ← is_host-steps a) at (depth-are_steps (steps (suc n)) (are_steps_steps (suc n)))

-- parents

pub trailing_zeros-lt : (k n : ℕ) → 0 < n → n < 2 ^ k → count_trailing_zeros k n < k
unfolding count_trailing_zeros
trailing_zeros-lt zero n p h = absurd (omega arith)
trailing_zeros-lt (suc k) n p h = go (n % 2) refl (λ q. trailing_zeros-lt k (n / 2) q (omega (arith, pow-suc 2 k)))
  where
    go : (d : ℕ) → n % 2 ≡ d → (0 < n / 2 → count_trailing_zeros k (n / 2) < k) → under d (count_trailing_zeros k (n / 2)) < suc k
    go zero e below = omega (arith, below (omega arith))
    go (suc d) e below = omega arith

trailing_zeros-shifted : (k i a : ℕ) → i < k → count_trailing_zeros k ((a * 2 + 1) * 2 ^ i) ≡ i
unfolding count_trailing_zeros
trailing_zeros-shifted zero i a h = absurd (omega arith)
trailing_zeros-shifted (suc k) zero a h = let e : (a * 2 + 1) * 1 % 2 ≡ 1 = omega arith in rw e
trailing_zeros-shifted (suc k) (suc i) a h =
    rw (shifted_even (a * 2 + 1) i, shifted_half (a * 2 + 1) i) (ap suc (trailing_zeros-shifted k i a (omega arith)))

-- a number without the ones at its end
abbrev pub kept : ℕ → ℕ
kept n = n / 2 ^ count_trailing_zeros longest (n + 1)

kept-ones : (a i : ℕ) → i < longest → kept (a * 2 * 2 ^ i + (2 ^ i - 1)) ≡ a * 2
kept-ones a i h =
    let e : a * 2 * 2 ^ i + (2 ^ i - 1) + 1 ≡ (a * 2 + 1) * 2 ^ i = omega (arith, add-mul (a * 2) 1 (2 ^ i), pow_pos i) in
    rw (e, trailing_zeros-shifted longest i a h) (high (a * 2) i (ones_lt i))

-- in place of 0, where the ones reach to the first bit, the root
abbrev pub or_root : ℕ → ℕ
or_root n = if eqb n 0 then root else n

or_root-kept : (i : ℕ) (up : List Step) → AllRouters up → length (spelled up) + i + 1 ≤ longest
    → or_root (kept (address_of up * 2 ^ i + (2 ^ i - 1))) ≡ address_of up
unfolding spelled digit last_of
or_root-kept i [] r short =
    let e : 1 * 2 ^ i + (2 ^ i - 1) ≡ 0 * 2 * 2 ^ suc i + (2 ^ suc i - 1) = omega (arith, pow-suc 2 i) in
    rw (address_of-root, e, kept-ones 0 (suc i) (omega arith))
or_root-kept i (child router j ∷ up) r short =
    let half : ℕ = address_of up * 2 ^ j + (2 ^ j - 1) in
    let e : address_of (child router j ∷ up) ≡ half * 2 = address_of-child router j up ∙ add-zero (half * 2) in
    let some = (address-address_of (child router j ∷ up) (omega arith)).some in
    rw (e, kept-ones half i (omega arith), ne_eqb (half * 2) 0 (λ z. omega arith))
or_root-kept i (child host j ∷ up) r short = absurd r

pub parent-small : {n : ℕ} → n ≤ 1 → parent n ≡ 0
unfolding parent above steps steps_of cut last_step bits bits_in
parent-small h = le-one (λ n. parent n ≡ 0) refl refl h

pub parent-kept : {n : ℕ} → 1 < n → n < 2 ^ longest → parent n ≡ or_root (kept (n / 2))
unfolding parent above
parent-kept {n} l h =
    let a : IsAddress n = record { some = omega arith; fits = h } in
    go (steps n) (are_steps_steps n) (address_of-steps a) (rw (spelled-steps a) (bits-string a).short)
  where
    go : (ss : List Step) → AreSteps ss → address_of ss ≡ n → length (spelled ss) ≤ longest → above ss ≡ or_root (kept (n / 2))
    go [] r e short = absurd (omega (arith, address_of-root))
    go (child kind i ∷ up) r e short =
        let half : n / 2 ≡ address_of up * 2 ^ i + (2 ^ i - 1) = omega (arith, address_of-child kind i up, digit_lt (last_of kind)) in
        rw half (sym (or_root-kept i up r (omega (arith, length-spelled kind i up))))
