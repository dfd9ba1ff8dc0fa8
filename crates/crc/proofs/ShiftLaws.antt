-- The laws of the register: it stays within 16 bits, it is linear in what it holds and what goes in, and the bits of a number go in by parts.
-- Assumes nothing.
use Rattle.std.specs.Prelude.{if◌then◌else◌}
use mathlib.Core.Path.{◌≡◌, refl, sym, ap, ap₂, ◌∙◌}
use mathlib.Core.Bool.{Bool, true, false}
use mathlib.Core.List.{List, [], ◌∷◌}
use Prim.Native.Nat.{ℕ, zero, suc, ◌*◌, ◌/◌, ◌%◌, ◌^◌, ◌<◌}
use native.Mathlib.Nat.{mod-lt}
use native.Mathlib.Omega.{arith}
use lib.Dec.{eqb, lit<}
use lib.Bits.{bit_xor, xor_zero_r, xor_lt, xor_shr, xor_mod}
use Rattle.crc.specs.Crc.{polynomial, start, bit, moved_up, shift_in, shift_bits, shift_octet, crc_from, crc}
use Rattle.std.specs.List.{fold}
use Rattle.crc.specs.Checks.{CrcFits}
use Rattle.crc.proofs.XorLaws.{at_bits, xor_exchange, xor_times}

-- ---- within 16 bits

moved_up-lt : (r : ℕ) → moved_up r < 2 ^ 16
unfolding moved_up
moved_up-lt r = mod-lt (r * 2) (lit< tt)

pub shift_in-lt : (r b : ℕ) → shift_in r b < 2 ^ 16
unfolding shift_in
shift_in-lt r b = go (eqb (bit 15 r) b)
  where
    go : (t : Bool) → (if t then moved_up r else bit_xor (moved_up r) polynomial) < 2 ^ 16
    go true = moved_up-lt r
    go false = xor_lt 16 (moved_up r) polynomial (moved_up-lt r) (lit< tt)

pub shift_bits-lt : (k r n : ℕ) → r < 2 ^ 16 → shift_bits k r n < 2 ^ 16
unfolding shift_bits
shift_bits-lt zero r n h = h
shift_bits-lt (suc k) r n h = shift_bits-lt k (shift_in r (bit k n)) n (shift_in-lt r (bit k n))

pub crc_from-lt : (r : ℕ) (os : List ℕ) → r < 2 ^ 16 → crc_from r os < 2 ^ 16
unfolding crc_from shift_octet
crc_from-lt r [] h = h
crc_from-lt r (o ∷ os) h = crc_from-lt (shift_bits 8 r o) os (shift_bits-lt 8 r o h)

pub crc-fits : CrcFits
unfolding crc
crc-fits os = crc_from-lt start os (lit< tt)

-- ---- by a fold

crc_from_by_fold : (r : ℕ) (os : List ℕ) → crc_from r os ≡ fold shift_octet r os
unfolding crc_from
crc_from_by_fold r [] = refl
crc_from_by_fold r (o ∷ os) = crc_from_by_fold (shift_octet r o) os

-- the octets go in one after the other, as a fold takes them
pub crc_by_fold : (os : List ℕ) → crc os ≡ fold shift_octet start os
unfolding crc
crc_by_fold = crc_from_by_fold start

-- ---- linear: the exclusive or of two registers and of two message bits gives that of the two results

bit-lt : (k n : ℕ) → bit k n < 2
unfolding bit
bit-lt k n = mod-lt (n / 2 ^ k) (lit< tt)

bit-xor : (k a b : ℕ) → bit k (bit_xor a b) ≡ bit_xor (bit k a) (bit k b)
unfolding bit
bit-xor k a b = ap (λ (n : ℕ). n % 2) (xor_shr a b k) ∙ xor_mod (a / 2 ^ k) (b / 2 ^ k) 1

moved_up-xor : (a b : ℕ) → moved_up (bit_xor a b) ≡ bit_xor (moved_up a) (moved_up b)
unfolding moved_up
moved_up-xor a b = ap (λ (n : ℕ). n % 2 ^ 16) (sym (xor_times 1 a b)) ∙ xor_mod (a * 2) (b * 2) 16

-- what is taken off, by the bit that leaves and the message bit
abbrev taken : ℕ → ℕ → ℕ
taken t b = bit_xor t b * polynomial

shift_in-taken : (r b : ℕ) → b < 2 → shift_in r b ≡ bit_xor (moved_up r) (taken (bit 15 r) b)
unfolding shift_in
shift_in-taken r b h =
    at_bits (λ (t : ℕ). (if eqb t b then moved_up r else bit_xor (moved_up r) polynomial) ≡ bit_xor (moved_up r) (taken t b))
    (at_bits (λ (m : ℕ). (if eqb 0 m then moved_up r else bit_xor (moved_up r) polynomial) ≡ bit_xor (moved_up r) (taken 0 m)) nothing refl b h)
    (at_bits (λ (m : ℕ). (if eqb 1 m then moved_up r else bit_xor (moved_up r) polynomial) ≡ bit_xor (moved_up r) (taken 1 m)) refl nothing b h)
    (bit 15 r)
    (bit-lt 15 r)
  where
    nothing : moved_up r ≡ bit_xor (moved_up r) 0
    nothing = sym (xor_zero_r (moved_up r))

times_polynomial : (x y : ℕ) → x < 2 → y < 2 → bit_xor x y * polynomial ≡ bit_xor (x * polynomial) (y * polynomial)
times_polynomial x y h k =
    at_bits (λ (b : ℕ). bit_xor b y * polynomial ≡ bit_xor (b * polynomial) (y * polynomial)) refl
    (at_bits (λ (b : ℕ). bit_xor 1 b * polynomial ≡ bit_xor polynomial (b * polynomial)) refl refl y k) x h

taken-xor : (t s b c : ℕ) → t < 2 → s < 2 → b < 2 → c < 2 → taken (bit_xor t s) (bit_xor b c) ≡ bit_xor (taken t b) (taken s c)
taken-xor t s b c ht hs hb hc =
    ap (λ (n : ℕ). n * polynomial) (xor_exchange t s b c)
    ∙ times_polynomial (bit_xor t b) (bit_xor s c) (xor_lt 1 t b ht hb) (xor_lt 1 s c hs hc)

shift_in-xor : (r s b c : ℕ) → b < 2 → c < 2 → shift_in (bit_xor r s) (bit_xor b c) ≡ bit_xor (shift_in r b) (shift_in s c)
shift_in-xor r s b c hb hc =
    shift_in-taken (bit_xor r s) (bit_xor b c) (xor_lt 1 b c hb hc)
    ∙ ap₂ bit_xor (moved_up-xor r s)
    (ap (λ (t : ℕ). taken t (bit_xor b c)) (bit-xor 15 r s) ∙ taken-xor (bit 15 r) (bit 15 s) b c (bit-lt 15 r) (bit-lt 15 s) hb hc)
    ∙ xor_exchange (moved_up r) (moved_up s) (taken (bit 15 r) b) (taken (bit 15 s) c)
    ∙ ap₂ bit_xor (sym (shift_in-taken r b hb)) (sym (shift_in-taken s c hc))

pub shift_bits-xor : (k r s n m : ℕ) → shift_bits k (bit_xor r s) (bit_xor n m) ≡ bit_xor (shift_bits k r n) (shift_bits k s m)
unfolding shift_bits
shift_bits-xor zero r s n m = refl
shift_bits-xor (suc k) r s n m =
    ap (λ (t : ℕ). shift_bits k t (bit_xor n m))
    (ap (shift_in (bit_xor r s)) (bit-xor k n m) ∙ shift_in-xor r s (bit k n) (bit k m) (bit-lt k n) (bit-lt k m))
    ∙ shift_bits-xor k (shift_in r (bit k n)) (shift_in s (bit k m)) n m

-- ---- by parts

-- with nothing at its top the register only moves up
shift_in-low : (r : ℕ) → r < 2 ^ 15 → shift_in r 0 ≡ r * 2
unfolding shift_in bit moved_up
shift_in-low r h =
    let top : r / 2 ^ 15 % 2 ≡ 0 = omega arith in
    rw top (omega arith)

pub shift_bits-low : (r : ℕ) → r < 2 ^ 12 → shift_bits 4 r 0 ≡ r * 2 ^ 4
unfolding shift_bits bit
shift_bits-low r h =
    let first : r < 2 ^ 15 = omega arith in
    let second : r * 2 < 2 ^ 15 = omega arith in
    let third : r * 2 * 2 < 2 ^ 15 = omega arith in
    let fourth : r * 2 * 2 * 2 < 2 ^ 15 = omega arith in
    rw (shift_in-low r first, shift_in-low (r * 2) second, shift_in-low (r * 2 * 2) third, shift_in-low (r * 2 * 2 * 2) fourth) (omega arith)

-- an octet is its high half and then its low half
pub halves : (r o : ℕ) → shift_bits 4 (shift_bits 4 r (o / 2 ^ 4)) (o % 2 ^ 4) ≡ shift_octet r o
unfolding shift_octet shift_bits bit
halves r o =
    let b7 : o / 2 ^ 4 / 2 ^ 3 % 2 ≡ o / 2 ^ 7 % 2 = omega arith in
    let b6 : o / 2 ^ 4 / 2 ^ 2 % 2 ≡ o / 2 ^ 6 % 2 = omega arith in
    let b5 : o / 2 ^ 4 / 2 ^ 1 % 2 ≡ o / 2 ^ 5 % 2 = omega arith in
    let b4 : o / 2 ^ 4 / 2 ^ 0 % 2 ≡ o / 2 ^ 4 % 2 = omega arith in
    let b3 : o % 2 ^ 4 / 2 ^ 3 % 2 ≡ o / 2 ^ 3 % 2 = omega arith in
    let b2 : o % 2 ^ 4 / 2 ^ 2 % 2 ≡ o / 2 ^ 2 % 2 = omega arith in
    let b1 : o % 2 ^ 4 / 2 ^ 1 % 2 ≡ o / 2 ^ 1 % 2 = omega arith in
    let b0 : o % 2 ^ 4 / 2 ^ 0 % 2 ≡ o / 2 ^ 0 % 2 = omega arith in
    rw (b7, b6, b5, b4, b3, b2, b1, b0)
