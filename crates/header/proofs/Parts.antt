-- The part of a packet that holds the address: as the code cuts it, how long it is, its first octet, and what follows where it has no fault.
-- Assumes nothing.
use mathlib.Core.Path.{◌≡◌, sym, ap, ◌∙◌}
use mathlib.Core.Bool.{not}
use mathlib.Core.List.{List, [], ◌∷◌}
use Prim.Native.Nat.{ℕ, ◌+◌, ◌-◌, ◌^◌, ◌≤◌, ◌<◌}
use native.Mathlib.Decide.{ℕ_discrete}
use native.Mathlib.Omega.{arith}
use native.Mathlib.Nat.{add-sub_cancel_left}
use borrow.Author.Tests.{eq-eqb, ne_eqb, lt-ltb, le-ltb, ltb-false}
use lib.Dec.{eqb, ltb, lit≤}
use lib.ListN.{length, take, drop, get_or, length-take, length-drop}
use lib.Seq.{get_or-take, get_or-drop}
use Rattle.octets.specs.Octets.{AreOctets, value}
use Rattle.address.proofs.ChoiceLaws.{if-zero}
use Rattle.octets.proofs.Correspondence.{value-zeros}
use Rattle.octets.proofs.OctetLaws.{value_snoc, take-octets, drop-octets, value-lt_of_zeros, value_ge_of_zeros}
use Rattle.header.specs.Header.{address_octets, address_fault, zero_fault, most_octets, fixed_octets}
use Rattle.header.proofs.Start.{if_most}

pub length-address_octets : (s : ℕ) (p : List ℕ) → fixed_octets + s ≤ length p → length (address_octets s p) ≡ s
unfolding address_octets
length-address_octets s p h = simp (length-take, length-drop) (omega arith)

pub part-address_octets : (s : ℕ) (p : List ℕ) → take (fixed_octets + s - fixed_octets) (drop fixed_octets p) ≡ address_octets s p
unfolding address_octets
part-address_octets s p = ap (λ (k : ℕ). take k (drop fixed_octets p)) (add-sub_cancel_left fixed_octets s)

pub octets-address_octets : (s : ℕ) (p : List ℕ) → AreOctets p → AreOctets (address_octets s p)
unfolding address_octets
octets-address_octets s p all = take-octets s (drop fixed_octets p) (drop-octets fixed_octets p all)

-- ---- the first octet

pub first-address_octets : (s : ℕ) (p : List ℕ) → 1 ≤ s → get_or (address_octets s p) 0 0 ≡ get_or p fixed_octets 0
unfolding address_octets
first-address_octets s p h = get_or-take s (drop fixed_octets p) 0 0 h ∙ get_or-drop fixed_octets p 0 0

first_alone : (os : List ℕ) → value (take 1 os) ≡ get_or os 0 0
first_alone [] = value-zeros 0
first_alone (o ∷ os) = omega (arith, value_snoc [] o, value-zeros 0)

-- it is zero exactly if the others hold the whole number
module _ (os : List ℕ) (all : AreOctets os) where
  pub lt_of_first : get_or os 0 0 ≡ 0 → value os < 256 ^ (length os - 1)
  lt_of_first e = value-lt_of_zeros 1 os all (first_alone os ∙ e)

  pub ge_of_first : (get_or os 0 0 ≡ 0 → ⊥) → 256 ^ (length os - 1) ≤ value os
  ge_of_first h = value_ge_of_zeros 1 os all (λ e. h (sym (first_alone os) ∙ e))

-- what it says of an address in s octets
module _ (s first : ℕ) where
  pub zero_fault-some : (first ≡ 0 → ⊥) → zero_fault s first ≡ 0
  unfolding zero_fault
  zero_fault-some h = rw (ne_eqb first 0 h)

  pub zero_fault-single : first ≡ 0 → s ≡ 1 → zero_fault s first ≡ 9
  unfolding zero_fault
  zero_fault-single z e = rw (eq-eqb first 0 z, eq-eqb s 1 e)

  pub zero_fault_several : first ≡ 0 → (s ≡ 1 → ⊥) → zero_fault s first ≡ 6
  unfolding zero_fault
  zero_fault_several z n = rw (eq-eqb first 0 z, ne_eqb s 1 n)

  pub zero_fault-zero : zero_fault s first ≡ 0 → first ≡ 0 → ⊥
  zero_fault-zero e z = go (ℕ_discrete s 1)
    where
      go : Dec (s ≡ 1) → ⊥
      go (yes one) = omega (arith, zero_fault-single z one)
      go (no more) = omega (arith, zero_fault_several z more)

-- ---- what follows the first three octets

module _ (s : ℕ) (p : List ℕ) where
  pub address_fault-size : most_octets < s → address_fault s p ≡ 6
  unfolding address_fault
  address_fault-size h = rw (lt-ltb most_octets s h)

  pub address_fault-short : s ≤ most_octets → length p < fixed_octets + s → address_fault s p ≡ 4
  unfolding address_fault
  address_fault-short h l = rw (le-ltb most_octets s h, lt-ltb (length p) (fixed_octets + s) l)

  pub address_fault-long : s ≤ most_octets → fixed_octets + s ≤ length p → address_fault s p ≡ zero_fault s (get_or p fixed_octets 0)
  unfolding address_fault
  address_fault-long h l = rw (le-ltb most_octets s h, le-ltb (length p) (fixed_octets + s) l)

-- no fault has a number above 9
pub address_fault_most : (s : ℕ) (p : List ℕ) → address_fault s p ≤ 9
unfolding address_fault zero_fault
address_fault_most s p =
    let first = get_or p fixed_octets 0 in
    let zero = if_most (not (eqb first 0)) (lit≤ tt) (if_most (eqb s 1) (lit≤ tt) (lit≤ tt)) in
    if_most (ltb most_octets s) (lit≤ tt) (if_most (ltb (length p) (fixed_octets + s)) (lit≤ tt) zero)

-- no fault: the size is allowed, the octets are there, and the first of them has none
pub address_fault-zero : (s : ℕ) (p : List ℕ) → address_fault s p ≡ 0
    → (s ≤ most_octets) × (fixed_octets + s ≤ length p) × (zero_fault s (get_or p fixed_octets 0) ≡ 0)
unfolding address_fault
address_fault-zero s p e =
    let first = if-zero (ltb most_octets s) 5 _ e in
    let second = if-zero (ltb (length p) (fixed_octets + s)) 3 _ first.1 in
    (ltb-false most_octets s first.0, ltb-false (length p) (fixed_octets + s) second.0, second.1)

-- each case of the two faults
pub ruleset fault_cases = (zero_fault-some, zero_fault-single, zero_fault_several, address_fault-size, address_fault-short, address_fault-long)
