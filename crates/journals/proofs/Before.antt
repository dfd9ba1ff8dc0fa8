-- The address before a child's: with one of the ones before the last bit dropped, it is the child before it of the same kind, or the node itself
-- where there is none. Assumes nothing.
use mathlib.Core.Path.{◌≡◌, refl, ap, ◌∙◌}
use mathlib.Core.List.{List, [], ◌∷◌}
use Prim.Native.Nat.{ℕ, suc, ◌+◌, ◌*◌, ◌-◌, ◌/◌, ◌%◌, ◌^◌, ◌<◌}
use native.Mathlib.Nat.{pow-suc, mul-le-mul_right}
use native.Mathlib.Omega.{arith}
use borrow.Author.Tests.{eq-eqb, ne_eqb}
use lib.Pow.{pow_pos}
use Rattle.address.specs.Bits.{digit, root}
use Rattle.address.specs.Steps.{Step, child, last_of, address_of}
use Rattle.address.specs.declared.Kind.{Kind}
use Rattle.address.specs.declared.Kind.TheVariants.{Router, Host}
use Rattle.address.specs.Cuts.{AllRouters}
use Rattle.address.proofs.Numbers.{digit_lt}
use Rattle.address.proofs.Steps.{address_of-root, address_of-child}
use Rattle.journal.specs.Replay.{before}

-- the cases of the definition, by the number's last bit and its half

module _ (a : ℕ) where
  before-odd : a % 2 ≡ 1 → before a ≡ a / 2
  unfolding before
  before-odd o = rw (eq-eqb (a % 2) 1 o)

  before_root : a % 2 ≡ 0 → a / 2 ≡ root → before a ≡ a / 2
  unfolding before
  before_root e h = rw (ne_eqb (a % 2) 1 (λ z. omega arith), eq-eqb (a / 2) root h)

  before-even : a % 2 ≡ 0 → (a / 2 ≡ root → ⊥) → a / 2 % 2 ≡ 0 → before a ≡ a / 2
  unfolding before
  before-even e h z = rw (ne_eqb (a % 2) 1 (λ z. omega arith), ne_eqb (a / 2) root h, eq-eqb (a / 2 % 2) 0 z)

  before-one : a % 2 ≡ 0 → (a / 2 ≡ root → ⊥) → a / 2 % 2 ≡ 1 → before a ≡ a / 2 - 1
  unfolding before
  before-one e h o = rw (ne_eqb (a % 2) 1 (λ z. omega arith), ne_eqb (a / 2) root h, ne_eqb (a / 2 % 2) 0 (λ z. omega arith))

pub before-zero : before 0 ≡ 0
unfolding before
before-zero = refl

-- a child's number, and its half: the node's with the ones behind it

half-child : (kind : Kind) (i : ℕ) (up : List Step) → address_of (child kind i ∷ up) / 2 ≡ address_of up * 2 ^ i + (2 ^ i - 1)
half-child kind i up = omega (arith, address_of-child kind i up, digit_lt (last_of kind))

odd-host : (i : ℕ) (up : List Step) → address_of (child Host i ∷ up) % 2 ≡ 1
unfolding digit last_of
odd-host i up = omega (arith, address_of-child Host i up)

even-router : (i : ℕ) (up : List Step) → address_of (child Router i ∷ up) % 2 ≡ 0
unfolding digit last_of
even-router i up = omega (arith, address_of-child Router i up)

half-first : (kind : Kind) (up : List Step) → address_of (child kind 0 ∷ up) / 2 ≡ address_of up
half-first kind up = omega (arith, half-child kind 0 up)

-- one of the ones behind a node's number is the last bit of a host
half-further : (kind : Kind) (i : ℕ) (up : List Step) → address_of (child kind (suc i) ∷ up) / 2 ≡ address_of (child Host i ∷ up)
unfolding digit last_of
half-further kind i up =
    let ones = ap (λ (p : ℕ). address_of up * p) (pow-suc 2 i) in
    omega (arith, half-child kind (suc i) up, address_of-child Host i up, pow-suc 2 i, pow_pos i, ones)

host-router : (i : ℕ) (up : List Step) → address_of (child Host i ∷ up) ≡ address_of (child Router i ∷ up) + 1
unfolding digit last_of
host-router i up = omega (arith, address_of-child Host i up, address_of-child Router i up)

-- no child is the root
pub above_root : (kind : Kind) (i : ℕ) (up : List Step) → 0 < address_of up → root < address_of (child kind i ∷ up)
above_root kind i up some = omega (arith, address_of-child kind i up, mul-le-mul_right {m = 1} {n = address_of up} (2 ^ i) some, pow_pos i)

pub before-first : (kind : Kind) (up : List Step) → AllRouters up → before (address_of (child kind 0 ∷ up)) ≡ address_of up
before-first Host up r = before-odd (address_of (child Host 0 ∷ up)) (odd-host 0 up) ∙ half-first Host up
before-first Router [] r =
    let half = half-first Router [] in
    before_root (address_of (child Router 0 ∷ [])) (even-router 0 []) (half ∙ address_of-root) ∙ half
before-first Router (child Router j ∷ up) r =
    let half = half-first Router (child Router j ∷ up) in
    let even = even-router j up in
    before-even (address_of (child Router 0 ∷ child Router j ∷ up)) (even-router 0 (child Router j ∷ up)) (λ z. omega arith) (omega arith) ∙ half
before-first Router (child Host j ∷ up) r = absurd r

pub before-further : (kind : Kind) (i : ℕ) (up : List Step) → 0 < address_of up
    → before (address_of (child kind (suc i) ∷ up)) ≡ address_of (child kind i ∷ up)
before-further Host i up some = before-odd (address_of (child Host (suc i) ∷ up)) (odd-host (suc i) up) ∙ half-further Host i up
before-further Router i up some =
    let half = half-further Router i up in
    let one = host-router i up in
    let even = even-router i up in
    let some-host = above_root Host i up some in
    before-one (address_of (child Router (suc i) ∷ up)) (even-router (suc i) up) (λ z. omega arith) (omega arith) ∙ omega arith
