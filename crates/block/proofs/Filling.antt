-- A buffer that is filled in order: what stands before the place is the beginning of what is to stand there, one element further with each that
-- is stored, and all of it at the end. Assumes nothing.
use mathlib.Core.Path.{◌≡◌, sym, ap, ap₂, ◌∙◌}
use mathlib.Core.List.{List, [], ◌∷◌, ◌++◌, append_assoc}
use Prim.Native.Nat.{ℕ, ◌+◌, ◌-◌, ◌≤◌, ◌<◌}
use native.Mathlib.Numerals.{add-one}
use native.Mathlib.Omega.{arith}
use borrow.Rule.Slice.PartMut.{put_mid, post_of, same_len_mid, mid_len}
use lib.ListN.{length, take, drop, get_or, set, length-append}
use lib.Seq.{take-suc, take-suc-set, take_all, take_at, take-add, length-take-le}

pub filled_more : (out all : List ℕ) (i v : ℕ) → length out ≡ length all → i < length out → take i out ≡ take i all → v ≡ get_or all i 0
    → take (i + 1) (set out i v) ≡ take (i + 1) all
filled_more out all i v same h e f =
    ap (λ (k : ℕ). take k (set out i v)) (add-one i)
    ∙ take-suc-set out i v h
    ∙ ap₂ (λ (l : List ℕ) (x : ℕ). l ++ (x ∷ [])) e f
    ∙ sym (ap (λ (k : ℕ). take k all) (add-one i) ∙ take-suc all i 0 (omega arith))

-- some elements at once, from a place to another, as a call that is lent their part leaves them
pub filled_part : (out all part : List ℕ) (at end : ℕ) → at ≤ end → end ≤ length out → length part ≡ end - at → take at out ≡ take at all
    → part ≡ take (end - at) (drop at all)
    → take end (put_mid at (end - at) out part) ≡ take end all
filled_part out all part at end h g l e f =
    let whole : at + (end - at) ≡ end = omega arith in
    let long : length (take at out ++ part) ≡ end = omega (arith, length-append (take at out) part, length-take-le at out (omega arith)) in
    ap (take end) (sym (append_assoc (take at out) part (post_of at (end - at) out)))
    ∙ take_at (take at out ++ part) (post_of at (end - at) out) end long
    ∙ ap₂ (λ (l r : List ℕ). l ++ r) e f
    ∙ sym (take-add at (end - at) all)
    ∙ ap (λ (k : ℕ). take k all) whole

pub length_filled_part : (out part : List ℕ) (at end : ℕ) → at ≤ end → end ≤ length out → length part ≡ end - at
    → length (put_mid at (end - at) out part) ≡ length out
length_filled_part out part at end h g l = same_len_mid at (end - at) out part (l ∙ sym (mid_len at end out g))

pub filled_all : (out all : List ℕ) (i : ℕ) → length out ≡ length all → length out ≤ i → take i out ≡ take i all → out ≡ all
filled_all out all i same h e = sym (take_all i out h) ∙ e ∙ take_all i all (omega arith)
