-- The test for a host is right: a string ends in 1 exactly if it is something with a 1 behind it. Assumes nothing.
use mathlib.Core.Path.{◌≡◌, refl, sym, ap, subst, ◌∙◌}
use mathlib.Core.Bool.{true, false, and-eq-true_iff}
use mathlib.Core.Logic.{◌⊎◌, inl, inr}
use mathlib.Core.List.{List, [], ◌∷◌, ◌++◌}
use Prim.Native.Nat.{ℕ, zero, suc, ◌/◌, ◌<◌}
use native.Mathlib.Omega.{arith}
use borrow.Author.Tests.{lt-ltb, ltb-true}
use lib.Dec.{ltb}
use lib.ListN.{length, length-append}
use Rattle.address.specs.Bits.{Bit, O, I, bits, bits_in, last_bit, digit, root}
use Rattle.address.specs.Address.{bit_length, ends_in_one, is_host}
use Rattle.address.specs.Kinds.{EndsIn, IsRoot, IsRouter, IsHost, Kinds}
use Rattle.address.proofs.Numbers.{bits_in-pos}
use Rattle.address.proofs.Answers.{ends_in_one-snoc}

ends_in_one_true : (bs : List Bit) → ends_in_one bs ≡ true → (front : List Bit) × (bs ≡ front ++ (I ∷ []))
unfolding ends_in_one
ends_in_one_true [] e = let z : ◌≡◌ {A = ℕ} 0 1 = cc in absurd (omega arith)
ends_in_one_true (O ∷ []) e = let z : ◌≡◌ {A = ℕ} 0 1 = cc in absurd (omega arith)
ends_in_one_true (I ∷ []) e = ([], refl)
ends_in_one_true (b ∷ c ∷ bs) e = let rest = ends_in_one_true (c ∷ bs) e in (b ∷ rest.0, ap (λ (l : List Bit). b ∷ l) rest.1)

ends_in_one_false : (b : Bit) (bs : List Bit) → ends_in_one (b ∷ bs) ≡ false → (front : List Bit) × (b ∷ bs ≡ front ++ (O ∷ []))
unfolding ends_in_one
ends_in_one_false O [] e = ([], refl)
ends_in_one_false I [] e = let z : ◌≡◌ {A = ℕ} 0 1 = cc in absurd (omega arith)
ends_in_one_false b (c ∷ bs) e = let rest = ends_in_one_false c bs e in (b ∷ rest.0, ap (λ (l : List Bit). b ∷ l) rest.1)

ends-one : (a : ℕ) → EndsIn I a → ends_in_one (bits a) ≡ true
unfolding digit
ends-one a (front, e) = ap ends_in_one e ∙ ends_in_one-snoc front I

ends-zero : (a : ℕ) → EndsIn O a → ends_in_one (bits a) ≡ false
unfolding digit
ends-zero a (front, e) = ap ends_in_one e ∙ ends_in_one-snoc front O

pub ends-pos : (b : Bit) (a : ℕ) → EndsIn b a → 0 < a
unfolding bits bits_in
ends-pos b zero (front, e) = absurd (omega (arith, ap length e, length-append front (b ∷ [])))
ends-pos b (suc a) ends = omega arith

pub is_host_true : (a : ℕ) → is_host a ≡ true → IsHost a
unfolding is_host
is_host_true a e =
    let (last, long) = (and-eq-true_iff (ends_in_one (bits a)) (ltb 1 (bit_length a))).0 e in
    (ends_in_one_true (bits a) last, ltb-true 1 (bit_length a) long)

pub is_host-host : (a : ℕ) → IsHost a → is_host a ≡ true
unfolding is_host
is_host-host a (ends, long) = (and-eq-true_iff (ends_in_one (bits a)) (ltb 1 (bit_length a))).1 (ends-one a ends, lt-ltb 1 (bit_length a) long)

pub is_host_no_host : (a : ℕ) → is_host a ≡ false → IsHost a → ⊥
is_host_no_host a e h = let z : true ≡ false = sym (is_host-host a h) ∙ e in let y : ◌≡◌ {A = ℕ} 0 1 = cc in omega arith

pub both_ways : (a : ℕ) → EndsIn O a → EndsIn I a → ⊥
both_ways a z i = let e : true ≡ false = sym (ends-one a i) ∙ ends-zero a z in let y : ◌≡◌ {A = ℕ} 0 1 = cc in omega arith

-- a number with no digits, and one with no digits before its last

bits_in-none : (k n : ℕ) → bits_in (suc k) n ≡ [] → n ≡ 0
bits_in-none k zero e = refl
bits_in-none k (suc n) e =
    absurd (omega (arith, ap length e, ap length (bits_in-pos k (suc n) (omega arith)), length-append (bits_in k (suc n / 2)) (last_bit (suc n) ∷ [])))

half-none : (n : ℕ) → 0 < n → n / 2 ≡ 0 → n ≡ root
half-none n h e = omega arith

ends-root : EndsIn I root
unfolding bits bits_in last_bit
ends-root = ([], refl)

short-root : 1 < bit_length root → ⊥
unfolding bit_length bits bits_in last_bit
short-root h = omega arith

some-kind : (a : ℕ) → 0 < a → IsRoot a ⊎ IsRouter a ⊎ IsHost a
unfolding bit_length bits
some-kind a h = go (bits_in 63 (a / 2)) refl (last_bit a) (bits_in-pos 63 a h)
  where
    -- behind at least one bit
    last : (c : Bit) (rest : List Bit) (b : Bit) → bits a ≡ (c ∷ rest) ++ (b ∷ []) → IsRoot a ⊎ IsRouter a ⊎ IsHost a
    last c rest O e = inr (inl (c ∷ rest, e))
    last c rest I e = inr (inr ((c ∷ rest, e), omega (arith, ap length e, length-append rest (I ∷ []))))

    go : (front : List Bit) → bits_in 63 (a / 2) ≡ front → (b : Bit) → bits a ≡ bits_in 63 (a / 2) ++ (b ∷ []) → IsRoot a ⊎ IsRouter a ⊎ IsHost a
    go [] f b e = inl (half-none a h (bits_in-none 62 (a / 2) f))
    go (c ∷ rest) f b e = last c rest b (e ∙ ap (λ (l : List Bit). l ++ (b ∷ [])) f)

pub kinds : Kinds
kinds = record {
  tested = λ a. (is_host_true a, is_host-host a);
  some = some-kind;
  root_ends = ends-root;
  root_no_host = λ h. short-root h.1;
  router_no_root = λ a z e. both_ways a z (subst (λ (x : ℕ). EndsIn I x) (sym e) ends-root);
  router_no_host = λ a z h. both_ways a z h.0;
}
