-- What writing comes to, case by case, and the buffer as the code leaves it: three octets set, and the address put behind them. Assumes
-- nothing.
use mathlib.Core.Path.{◌≡◌, sym, ap, ◌∙◌}
use mathlib.Core.List.{List, [], ◌∷◌, ◌++◌}
use Prim.Native.Nat.{ℕ, suc, ◌+◌, ◌-◌, ◌*◌, ◌^◌, ◌≤◌, ◌<◌}
use native.Mathlib.Nat.{add-sub_cancel_left, pos_of_ne-zero}
use native.Mathlib.Omega.{arith}
use borrow.Author.Tests.{eq-eqb, ne_eqb, lt-ltb, le-ltb}
use borrow.Rule.Slice.PartMut.{put_mid}
use lib.ListN.{length, drop, set}
use Rattle.address.specs.Bits.{longest}
use Rattle.address.specs.Numbers.{IsAddress}
use Rattle.octets.specs.Octets.{octets, refuse_writing, write}
use Rattle.octets.proofs.OctetLaws.{length-octets}
use Rattle.header.proofs.Size.{size-le, size_ge}
use Rattle.header.specs.Header.{header, place, size, writing, fixed_octets, page_octet, critical_pattern, routing_type}

pub length-header : (a : ℕ) → length (header a) ≡ place a
unfolding header place
length-header a = omega (arith, length-octets (size a) a)

module _ (a : ℕ) (buffer : List ℕ) where
  pub writing-zero : a ≡ 0 → writing a buffer ≡ refuse_writing 9 buffer
  unfolding writing
  writing-zero e = rw (eq-eqb a 0 e)

  pub writing-short : (a ≡ 0 → ⊥) → length buffer < place a → writing a buffer ≡ refuse_writing 10 buffer
  unfolding writing
  writing-short h l = rw (ne_eqb a 0 h, lt-ltb (length buffer) (place a) l)

  pub writing-done : (a ≡ 0 → ⊥) → place a ≤ length buffer → writing a buffer ≡ write (header a) buffer
  unfolding writing
  writing-done h l = rw (ne_eqb a 0 h, le-ltb (length buffer) (place a) l)

-- the buffer with three octets set, and some octets put behind them
framed : (out os : List ℕ) (x y z k : ℕ) → fixed_octets + k ≤ length out
    → put_mid fixed_octets (fixed_octets + k - fixed_octets) (set (set (set out 0 x) 1 y) 2 z) os ≡ (x ∷ y ∷ z ∷ os) ++ drop (fixed_octets + k) out
framed [] os x y z k h = absurd (omega arith)
framed (a ∷ []) os x y z k h = absurd (omega arith)
framed (a ∷ b ∷ []) os x y z k h = absurd (omega arith)
framed (a ∷ b ∷ c ∷ rest) os x y z k h =
    let three : fixed_octets + k ≡ suc (suc (suc k)) = omega arith in rw (add-sub_cancel_left fixed_octets k, three)

pub framed-header : (out os : List ℕ) (a s : ℕ) → s ≡ size a → os ≡ octets s a → fixed_octets + s ≤ length out
    → put_mid fixed_octets (fixed_octets + s - fixed_octets) (set (set (set out 0 page_octet) 1 (critical_pattern * 32 + (s - 1))) 2 routing_type) os ≡ (write (header a) out).buffer
unfolding write header place
framed-header out os a s e f h =
    framed out os page_octet (critical_pattern * 32 + (s - 1)) routing_type s h
    ∙ ap (λ (l : List ℕ). (page_octet ∷ (critical_pattern * 32 + (s - 1)) ∷ routing_type ∷ l) ++ drop (fixed_octets + s) out) f
    ∙ ap (λ (k : ℕ). (page_octet ∷ (critical_pattern * 32 + (k - 1)) ∷ routing_type ∷ octets k a) ++ drop (fixed_octets + k) out) e
    ∙ ap (λ (k : ℕ). header a ++ drop k out) (sym (length-header a))

-- the octets that an address takes that is not zero
module _ {a s : ℕ} (some : a ≡ 0 → ⊥) (fits : a < 2 ^ longest) (e : s ≡ size a) where
  is : IsAddress a
  is = record { some = pos_of_ne-zero {n = a} some; fits = fits }

  pub octets-least : 1 ≤ s
  octets-least = omega (arith, e, size_ge is)

  pub octets_most : s ≤ 8
  octets_most = omega (arith, e, size-le fits)

pub ruleset write_cases = (octets-least, octets_most)
