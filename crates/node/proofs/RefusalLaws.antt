-- A record is good exactly if the document says so, and a request for a child or a setting of a limit is refused exactly where one of its
-- conditions holds: each test of `is_good`, `child_of` and `set_limit` tells its condition. Assumes nothing.
use mathlib.Core.Path.{◌≡◌, refl, sym, ap, ◌∙◌}
use mathlib.Core.Bool.{Bool, true, false}
use mathlib.Core.Logic.{◌⊎◌, inl, inr, ⊎_elim}
use Prim.Native.Nat.{ℕ, ◌-◌, ◌≤◌, ◌<◌}
use native.Mathlib.Decide.{ℕ_discrete}
use native.Mathlib.Omega.{arith}
use lib.Dec.{leb, ltb}
use borrow.Author.Tests.{leb-true, leb-false, ltb-true, ltb-false}
use Rattle.address.specs.Bits.{O, I, longest}
use Rattle.address.specs.Address.{bit_length, is_host}
use Rattle.address.specs.Kinds.{IsRoot, IsRouter, IsHost}
use Rattle.address.specs.Order.{First}
use Rattle.address.specs.declared.Kind.{Kind}
use Rattle.address.specs.declared.Kind.TheVariants.{Router, Host}
use Rattle.address.proofs.OrderLaws.{given-exactly}
use Rattle.address.proofs.KindLaws.{kinds, is_host_true, is_host-host, is_host_no_host, ends-pos}
use Rattle.node.specs.Node.{Node, Given, Limited, address_in, no_cap, count, limit, with_limit, is_good, refuse_child, child_of, refuse_setting, set_limit}
use Rattle.node.specs.Refusals.{FitsAddress, inner, outer, IsGood, IsBad, child_length, child_order, GoodRecords, ChildRefusals}
use Rattle.node.specs.Refusals.{setting_order, SettingRefusals}
use Rattle.node.proofs.ChildLaws.{some_good, limit_most, count_kept, child_of-bad, child_of-host, child_of-limit, child_of-long, child_of-done}
use Rattle.node.proofs.ChildLaws.{set_limit-bad, set_limit-over, set_limit-below, set_limit-done}
use Rattle.node.proofs.Children.{count-host, count-le, is_good-host, is_good-counts, may_give, child_of-cases, child_of-given}

-- good records

false_of : (t : Bool) → (t ≡ true → ⊥) → t ≡ false
false_of true h = absurd (h refl)
false_of false h = refl

module _ (n : Node) (g : is_good n ≡ true) where
  fits-record : FitsAddress n
  unfolding count
  fits-record = go (is_host (address_in n)) refl
    where
      kind : is_host (address_in n) ≡ false → IsRoot (address_in n) ⊎ IsRouter (address_in n) ⊎ IsHost (address_in n)
          → IsRoot (address_in n) ⊎ IsRouter (address_in n)
      kind e (inl r) = inl r
      kind e (inr (inl r)) = inr r
      kind e (inr (inr h)) = absurd (is_host_no_host (address_in n) e h)

      go : (t : Bool) → is_host (address_in n) ≡ t → FitsAddress n
      go true e = outer (is_host_true (address_in n) e) (count-host n g e Router) (count-host n g e Host)
      go false e = inner (kind e (kinds.some (address_in n) (some_good n g))) (count-le n g e Router) (count-le n g e Host)

  pub good-record : IsGood n
  good-record = record { address = fits-record; limits = record { most = limit_most n g; kept = count_kept n g } }

pub is_good-record : (n : Node) → IsGood n → is_good n ≡ true
is_good-record n good = go good.address
  where
    some : IsRoot (address_in n) ⊎ IsRouter (address_in n) → address_in n ≡ 0 → ⊥
    some (inl e) z = omega arith
    some (inr e) z = omega (arith, ends-pos O (address_in n) e)

    no_host_lem : IsRoot (address_in n) ⊎ IsRouter (address_in n) → IsHost (address_in n) → ⊥
    no_host_lem (inl e) i = kinds.root_no_host (rw e at i)
    no_host_lem (inr e) i = kinds.router_no_host (address_in n) e i

    both : (P : ℕ → Type 0) → P n.routers → P n.hosts → (kind : Kind) → P (count kind n)
    both P r h Router = unfold count in r
    both P r h Host = unfold count in h

    go : FitsAddress n → is_good n ≡ true
    go (inner k r h) =
        is_good-counts n good.limits (λ z. some k z) (false_of (is_host (address_in n)) (λ e. no_host_lem k (is_host_true (address_in n) e)))
        (both (λ (c : ℕ). c ≤ longest - bit_length (address_in n)) r h)
    go (outer h r s) =
        is_good-host n good.limits (λ z. omega (arith, ends-pos I (address_in n) h.0)) (is_host-host (address_in n) h)
        (both (λ (c : ℕ). c ≡ 0) r s)

pub good-records : GoodRecords
good-records n = (good-record n, is_good-record n)

-- the request for a child

pub bad-record : (n : Node) → is_good n ≡ false → IsBad n
bad-record n e g = let z : true ≡ false = sym (is_good-record n g) ∙ e in let y : ◌≡◌ {A = ℕ} 0 1 = cc in omega arith

pub not-bad : (n : Node) → is_good n ≡ true → IsBad n → ⊥
not-bad n e bad = bad (good-record n e)

first-child : (n : Node) (kind : Kind) → First (child_order n kind) (child_of n kind).refusal
unfolding refuse_child
first-child n kind =
    go (is_good n) refl (is_host (address_in n)) refl (ℕ_discrete (count kind n) (limit kind n)) (leb (child_length n kind) longest) refl
  where
    number : {g : Given} → child_of n kind ≡ g → (child_of n kind).refusal ≡ g.refusal
    number e = ap (λ (g : Given). g.refusal) e

    go : (g : Bool) → is_good n ≡ g → (h : Bool) → is_host (address_in n) ≡ h → Dec (count kind n ≡ limit kind n)
        → (s : Bool) → leb (child_length n kind) longest ≡ s → First (child_order n kind) (child_of n kind).refusal
    go false g h i at s short = inl (bad-record n g, number (child_of-bad n kind g))
    go true g true i at s short = inr (not-bad n g, inl (is_host_true (address_in n) i, number (child_of-host n kind g i)))
    go true g false i (yes e) s short =
        inr (not-bad n g, inr (is_host_no_host (address_in n) i, inl (e, number (child_of-limit n kind g i e))))
    go true g false i (no below) false short =
        let long = leb-false (child_length n kind) longest short in
        inr (not-bad n g, inr (is_host_no_host (address_in n) i, inr (below, inl (long, number (child_of-long n kind g i below long)))))
    go true g false i (no below) true short =
        let fits = leb-true (child_length n kind) longest short in
        inr (not-bad n g, inr (is_host_no_host (address_in n) i, inr (below, inr (λ long. omega arith, number (child_of-done n kind g i below fits)))))

pub child-refusals : ChildRefusals child_of
unfolding refuse_child
child-refusals = record {
  given = λ n kind. given-exactly (child_order n kind) (first-child n kind);
  beside = λ n kind h. ⊎_elim (λ may. absurd (h (ap (λ (g : Given). g.refusal) (child_of-given may))))
      (λ r. (ap (λ (g : Given). g.child.number) r.1, ap (λ (g : Given). g.node) r.1)) (child_of-cases n kind);
  without = λ n kind e. ap (λ (g : Given). g.node) (child_of-given (may_give n kind e));
}

-- the setting of a limit

-- nothing speaks against a setting: a good record, and a limit within 0 to 64 and not below the count
pub record MaySet (n : Node) (kind : Kind) (k : ℕ) : Type 0 where
  pub good : is_good n ≡ true
  pub most : k ≤ no_cap
  pub enough : count kind n ≤ k

-- a limit is set or refused with 1
pub set_limit-cases : (n : Node) (kind : Kind) (k : ℕ)
    → (MaySet n kind k × (set_limit n kind k ≡ record { node = with_limit kind k n; refusal = 0 }))
    ⊎ (((no_cap < k) ⊎ (k < count kind n) ⊎ IsBad n) × (set_limit n kind k ≡ refuse_setting 1 n))
set_limit-cases n kind k = go (is_good n) refl (ltb no_cap k) refl (ltb k (count kind n)) refl
  where
    go : (g : Bool) → is_good n ≡ g → (o : Bool) → ltb no_cap k ≡ o → (u : Bool) → ltb k (count kind n) ≡ u
        → (MaySet n kind k × (set_limit n kind k ≡ record { node = with_limit kind k n; refusal = 0 }))
        ⊎ (((no_cap < k) ⊎ (k < count kind n) ⊎ IsBad n) × (set_limit n kind k ≡ refuse_setting 1 n))
    go false g o over u under = inr (inr (inr (bad-record n g)), set_limit-bad n kind k g)
    go true g true over u under = let l = ltb-true no_cap k over in inr (inl l, set_limit-over n kind k g l)
    go true g false over true under =
        let l = ltb-true k (count kind n) under in inr (inr (inl l), set_limit-below n kind k g (ltb-false no_cap k over) l)
    go true g false over false under =
        let most = ltb-false no_cap k over in
        let enough = ltb-false k (count kind n) under in
        inl (record { good = g; most = most; enough = enough }, set_limit-done n kind k g most enough)

first-setting : (n : Node) (kind : Kind) (k : ℕ) → First (setting_order n kind k) (set_limit n kind k).refusal
unfolding refuse_setting
first-setting n kind k =
    ⊎_elim
    (λ done. inr (none done.0, ap (λ (l : Limited). l.refusal) done.1))
    (λ refused. inl (refused.0, ap (λ (l : Limited). l.refusal) refused.1))
    (set_limit-cases n kind k)
  where
    none : MaySet n kind k → (no_cap < k) ⊎ (k < count kind n) ⊎ IsBad n → ⊥
    none may (inl over) = omega (arith, may.most)
    none may (inr (inl under)) = omega (arith, may.enough)
    none may (inr (inr bad)) = not-bad n may.good bad

pub setting-refusals : SettingRefusals set_limit
unfolding refuse_setting
setting-refusals = record {
  given = λ n kind k. given-exactly (setting_order n kind k) (first-setting n kind k);
  beside = λ n kind k h. ⊎_elim (λ done. absurd (h (ap (λ (l : Limited). l.refusal) done.1))) (λ refused. ap (λ (l : Limited). l.node) refused.1)
      (set_limit-cases n kind k);
  without = λ n kind k e. ⊎_elim (λ done. ap (λ (l : Limited). l.node) done.1)
      (λ refused. absurd (omega (arith, ap (λ (l : Limited). l.refusal) refused.1))) (set_limit-cases n kind k);
}
