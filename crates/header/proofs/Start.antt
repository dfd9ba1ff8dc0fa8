-- The checks of the first octets, one octet at a time: `in_order` from an index on. Assumes nothing.
use Rattle.std.specs.Prelude.{if◌then◌else◌}
use mathlib.Core.Path.{◌≡◌, ap, ap₂, ◌∙◌}
use mathlib.Core.Bool.{Bool, true, false}
use mathlib.Core.List.{List, [], ◌∷◌}
use Prim.Native.Nat.{ℕ, suc, ◌/◌, ◌≤◌, ◌<◌}
use lib.ListN.{length, drop, get_or, drop_of_length-le}
use lib.Seq.{drop-cons}
use lib.Dec.{eqb, lit≤}
use borrow.Author.Tests.{eq-eqb, ne_eqb, eqb-true}
use native.Mathlib.Omega.{arith}
use Rattle.address.proofs.ChoiceLaws.{else_zero}
use Rattle.header.specs.Header.{in_order, start_fault, fixed_octets, page_octet, critical_pattern, routing_type, is_page_octet, has_critical_pattern, is_routing_type}

module _ (right : ℕ → Bool) (rest : List (ℕ → Bool)) (p : List ℕ) (i : ℕ) where
  pub in_order-absent : length p ≤ i → in_order (right ∷ rest) (drop i p) ≡ 4
  unfolding in_order
  in_order-absent h = rw (drop_of_length-le p h)

  pub in_order_wrong : i < length p → right (get_or p i 0) ≡ false → in_order (right ∷ rest) (drop i p) ≡ 5
  unfolding in_order
  in_order_wrong h e = rw (drop-cons p i 0 h, e)

  pub in_order-right : i < length p → right (get_or p i 0) ≡ true → in_order (right ∷ rest) (drop i p) ≡ in_order rest (drop (suc i) p)
  unfolding in_order
  in_order-right h e = rw (drop-cons p i 0 h, e)

pub if_most : (t : Bool) {a b k : ℕ} → a ≤ k → b ≤ k → (if t then a else b) ≤ k
if_most true h l = h
if_most false h l = l

-- no fault has a number above 5
in_order_most : (rights : List (ℕ → Bool)) (p : List ℕ) → in_order rights p ≤ 5
unfolding in_order
in_order_most [] p = lit≤ tt
in_order_most (right ∷ rest) [] = lit≤ tt
in_order_most (right ∷ rest) (o ∷ p) = if_most (right o) (in_order_most rest p) (lit≤ tt)

pub start_fault_most : (p : List ℕ) → start_fault p ≤ 5
unfolding start_fault
start_fault_most p = in_order_most (is_page_octet ∷ has_critical_pattern ∷ is_routing_type ∷ []) p

-- the first octet, and the first two, are right: what the next check says decides
pub start_fault_page : (p : List ℕ) → 0 < length p → get_or p 0 0 ≡ page_octet → start_fault p ≡ in_order (has_critical_pattern ∷ is_routing_type ∷ []) (drop 1 p)
unfolding start_fault
start_fault_page p h e = in_order-right is_page_octet (has_critical_pattern ∷ is_routing_type ∷ []) p 0 h (eq-eqb (get_or p 0 0) page_octet e)

pub start_fault_critical : (p : List ℕ) → 1 < length p → get_or p 0 0 ≡ page_octet → get_or p 1 0 / 32 ≡ critical_pattern → start_fault p ≡ in_order (is_routing_type ∷ []) (drop 2 p)
start_fault_critical p h e f =
    start_fault_page p (omega arith) e ∙ in_order-right has_critical_pattern (is_routing_type ∷ []) p 1 h (eq-eqb (get_or p 1 0 / 32) critical_pattern f)

-- what a packet is whose first three octets are right
pub start_fault-zero : (p : List ℕ) → start_fault p ≡ 0 → (o : ℕ) × (rest : List ℕ) × (p ≡ page_octet ∷ o ∷ routing_type ∷ rest) × (o / 32 ≡ critical_pattern)
unfolding start_fault in_order
start_fault-zero [] e = absurd (omega arith)
start_fault-zero (a ∷ []) e = let first = else_zero (eqb a page_octet) _ 4 e in absurd (omega (arith, first.1))
start_fault-zero (a ∷ b ∷ []) e =
    let first = else_zero (eqb a page_octet) _ 4 e in let second = else_zero (eqb (b / 32) critical_pattern) _ 4 first.1 in absurd (omega (arith, second.1))
start_fault-zero (a ∷ b ∷ c ∷ rest) e =
    let first = else_zero (eqb a page_octet) _ 4 e in
    let second = else_zero (eqb (b / 32) critical_pattern) _ 4 first.1 in
    let third = else_zero (eqb c routing_type) _ 4 second.1 in (
      b,
      rest,
      ap₂ (λ (x z : ℕ). x ∷ b ∷ z ∷ rest) (eqb-true a page_octet first.0) (eqb-true c routing_type third.0),
      eqb-true (b / 32) critical_pattern second.0,
    )

pub start_fault-length : (p : List ℕ) → start_fault p ≡ 0 → fixed_octets ≤ length p
start_fault-length p e = omega (arith, ap length (start_fault-zero p e).2)

-- ---- the checks one after the other: the first that an octet does not pass decides

module _ (p : List ℕ) where
  pub first-absent : length p ≤ 0 → start_fault p ≡ 4
  unfolding start_fault
  first-absent h = in_order-absent is_page_octet (has_critical_pattern ∷ is_routing_type ∷ []) p 0 h

  pub first_wrong : 0 < length p → (get_or p 0 0 ≡ page_octet → ⊥) → start_fault p ≡ 5
  unfolding start_fault
  first_wrong h n = in_order_wrong is_page_octet (has_critical_pattern ∷ is_routing_type ∷ []) p 0 h (ne_eqb _ _ n)

  module _ (first : 0 < length p) (page : get_or p 0 0 ≡ page_octet) where
    pub second-absent : length p ≤ 1 → start_fault p ≡ 4
    second-absent h = start_fault_page p first page ∙ in_order-absent has_critical_pattern (is_routing_type ∷ []) p 1 h

    pub second_wrong : 1 < length p → (get_or p 1 0 / 32 ≡ critical_pattern → ⊥) → start_fault p ≡ 5
    second_wrong h n = start_fault_page p first page ∙ in_order_wrong has_critical_pattern (is_routing_type ∷ []) p 1 h (ne_eqb _ _ n)

    module _ (second : 1 < length p) (critical : get_or p 1 0 / 32 ≡ critical_pattern) where
      pub third-absent : length p ≤ 2 → start_fault p ≡ 4
      third-absent h = start_fault_critical p second page critical ∙ in_order-absent is_routing_type [] p 2 h

      pub third_wrong : 2 < length p → (get_or p 2 0 ≡ routing_type → ⊥) → start_fault p ≡ 5
      third_wrong h n = start_fault_critical p second page critical ∙ in_order_wrong is_routing_type [] p 2 h (ne_eqb _ _ n)

      pub all-right : 2 < length p → get_or p 2 0 ≡ routing_type → start_fault p ≡ 0
      unfolding in_order
      all-right h e = start_fault_critical p second page critical ∙ in_order-right is_routing_type [] p 2 h (eq-eqb _ _ e)

pub ruleset start_cases = (first-absent, first_wrong, second-absent, second_wrong, third-absent, third_wrong, all-right)
