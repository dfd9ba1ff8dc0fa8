-- The next hop is refused exactly where one of its conditions holds. Past 1 and 9 the node is on the destination's way or it is not; where it is,
-- the destination is the node, or it has a next step, whose index decides. Assumes nothing.
use Rattle.std.specs.Prelude.{if◌then◌else◌}
use mathlib.Core.Path.{◌≡◌, refl, sym, ap, ◌∙◌}
use mathlib.Core.Bool.{Bool, true, false, not}
use mathlib.Core.Logic.{◌⊎◌, inl, inr}
use mathlib.Core.List.{List, [], ◌∷◌, ◌++◌}
use Prim.Native.Nat.{ℕ, suc, ◌^◌, ◌<◌}
use native.Mathlib.Nat.{pos_of_ne-zero}
use native.Mathlib.Omega.{arith}
use borrow.Author.Tests.{eqb-true, eqb-false, ltb-true, ltb-false}
use lib.Dec.{eqb, ltb}
use Rattle.address.specs.Bits.{Bit, bits, number as value, longest}
use Rattle.address.specs.Steps.{Step, child, steps}
use Rattle.address.specs.Address.{is_host}
use Rattle.address.specs.Numbers.{IsAddress}
use Rattle.address.specs.Ancestors.{AncestorOrSelf}
use Rattle.address.specs.Order.{First}
use Rattle.address.proofs.OrderLaws.{given-exactly}
use Rattle.address.proofs.Ancestors.{host_ancestor_or_self}
use Rattle.search.specs.Search.{is_prefix, kind_looked, index_looked}
use Rattle.search.proofs.Prefixes.{is_prefix_ancestor_or_self, ancestor_or_self_prefix}
use Rattle.node.specs.Node.{address_in, count, is_good}
use Rattle.node.specs.declared.Node.{Node}
use Rattle.node.proofs.Children.{address-good}
use Rattle.node.proofs.RefusalLaws.{is_good-record, bad-record, not-bad}
use Rattle.forward.specs.Forward.{Action, deliver, to_parent, to_child, stop, HopAnswer, refused_hop, toward, rules, next_hop}
use Rattle.forward.specs.Refusals.{ChildNotGiven, hop_order, HopRefusals}
use Rattle.forward.specs.BySteps.{BySteps}
use Rattle.forward.proofs.Rules.{next_hop-bad, next_hop-zero}
use Rattle.forward.proofs.Hops.{next-step, next_hop-deliver, next_hop_up, next_hop-down, next_hop-stop}

-- on the way or not, as a choice
on_way : {c d : ℕ} → IsAddress c → IsAddress d → AncestorOrSelf (steps c) (steps d) ⊎ (AncestorOrSelf (steps c) (steps d) → ⊥)
on_way {c} {d} a b = go (is_host c) refl (eqb d c) refl (is_prefix (bits c) (bits d)) refl
  where
    go : (h : Bool) → is_host c ≡ h → (s : Bool) → eqb d c ≡ s → (p : Bool) → is_prefix (bits c) (bits d) ≡ p
        → AncestorOrSelf (steps c) (steps d) ⊎ (AncestorOrSelf (steps c) (steps d) → ⊥)
    go h i true s p q = inl ([], ap steps (eqb-true d c s))
    go true i false s p q = inr (λ w. eqb-false d c s (sym (host_ancestor_or_self a b i w)))
    go false i false s true q = inl (is_prefix_ancestor_or_self a b i q)
    go false i false s false q = inr (λ w. let z : true ≡ false = sym (ancestor_or_self_prefix a b w) ∙ q in cc)

number : {x y : HopAnswer} → x ≡ y → x.refusal ≡ y.refusal
number e = ap (λ (r : HopAnswer). r.refusal) e

module _ (n : Node) (d : ℕ) (g : is_good n ≡ true) (a : IsAddress (address_in n)) (b : IsAddress d) where
  -- 7 and nothing else, or no refusal
  abbrev Verdict : Type 0
  Verdict = (ChildNotGiven n d × ((next_hop n d).refusal ≡ 7)) ⊎ ((ChildNotGiven n d → ⊥) × ((next_hop n d).refusal ≡ 0))

  below : Verdict
  below = go (on_way a b)
    where
      -- a refusal at this node is seen in the answer
      told : (next_hop n d).refusal ≡ 0 → ChildNotGiven n d → ⊥
      told e out = omega (arith, number (next_hop-stop n d g a b out.more out.kind out.index out.below out.absent))

      passed : (next_hop n d).refusal ≡ 0 → Verdict
      passed e = inr (told e, e)

      step : (s : Step) (more : List Step) → steps d ≡ more ++ (s ∷ steps (address_in n))
          → Verdict
      step (child kind i) more e = index (ltb i (count kind n)) refl
        where
          index : (t : Bool) → ltb i (count kind n) ≡ t
              → Verdict
          index true t = passed (number (next_hop-down n d g a b more kind i e (ltb-true i (count kind n) t)))
          index false t =
              let out = ltb-false i (count kind n) t in
              inl (record { kind = kind; index = i; more = more; below = e; absent = out }, number (next_hop-stop n d g a b more kind i e out))

      go : AncestorOrSelf (steps (address_in n)) (steps d) ⊎ (AncestorOrSelf (steps (address_in n)) (steps d) → ⊥)
          → Verdict
      go (inr off) = passed (number (next_hop_up n d g a b off))
      go (inl on) = here (eqb d (address_in n)) refl
        where
          here : (t : Bool) → eqb d (address_in n) ≡ t
              → Verdict
          here true t = passed (number (next_hop-deliver n d g a b (eqb-true d (address_in n) t)))
          here false t = let next = next-step a b on (eqb-false d (address_in n) t) in step next.0 next.1 next.2

pub first-hop : (n : Node) (d : ℕ) → address_in n < 2 ^ longest → d < 2 ^ longest → First (hop_order n d) (next_hop n d).refusal
first-hop n d f h = go (is_good n) refl (eqb d 0) refl
  where
    go : (t : Bool) → is_good n ≡ t → (z : Bool) → eqb d 0 ≡ z → First (hop_order n d) (next_hop n d).refusal
    go false g z e = inl (bad-record n g, number (next_hop-bad n d g))
    go true g true e = inr (not-bad n g, inl (eqb-true d 0 e, number (next_hop-zero n d g (eqb-true d 0 e))))
    go true g false e =
        inr (not-bad n g, inr (eqb-false d 0 e, below n d g (address-good n g f) (record { some = pos_of_ne-zero (eqb-false d 0 e); fits = h })))

-- beside a refusal stands nothing, and without one the packet goes on or is delivered

abbrev Right : HopAnswer → Type 0
Right r = ((r.refusal ≡ 0 → ⊥) → r ≡ refused_hop r.refusal) × (r.refusal ≡ 0 → r.action ≡ stop → ⊥)

right-if : (t : Bool) (x y : HopAnswer) → Right x → Right y → Right (if t then x else y)
right-if true x y p q = p
right-if false x y p q = q

right-refused : (k : ℕ) → Right (refused_hop (suc k))
right-refused k = (λ h. refl, λ e s. omega arith)

right_gone : (action : Action) (x : ℕ) → (action ≡ stop → ⊥) → Right (record { refusal = 0; action = action; named = x })
right_gone action x h = (λ e. absurd (e refl), λ e s. h s)

right-toward : (n : Node) (looked : List Bit) → Right (toward n looked)
unfolding toward
right-toward n looked =
    right-if (ltb (index_looked looked) (count (kind_looked looked) n)) _ (refused_hop 7)
    (right_gone to_child (value (bits (address_in n) ++ looked)) (λ s. cc)) (right-refused 6)

right-hop : (n : Node) (d : ℕ) → Right (next_hop n d)
unfolding next_hop rules
right-hop n d =
    right-if (not (is_good n)) _ _ (right-refused 0) (right-if (eqb d 0) _ _ (right-refused 8)
    (right-if (eqb d (address_in n)) _ _ (right_gone deliver _ (λ s. cc)) (right-if (is_host (address_in n)) _ _ (right_gone to_parent _ (λ s. cc))
    (right-if (not (is_prefix (bits (address_in n)) (bits d))) _ _ (right_gone to_parent _ (λ s. cc))
    (right-toward n _)))))

pub hop-refusals : HopRefusals next_hop
hop-refusals = record {
  given = λ n d f h. given-exactly (hop_order n d) (first-hop n d f h);
  beside = λ n d. (right-hop n d).0;
  without = λ n d. (right-hop n d).1;
}

pub by_steps_lem : BySteps
by_steps_lem n d good f b =
    let g = is_good-record n good in
    let a = address-good n g f in
    record {
      same = next_hop-deliver n d g a b;
      elsewhere = next_hop_up n d g a b;
      below = next_hop-down n d g a b;
      absent = next_hop-stop n d g a b;
    }
