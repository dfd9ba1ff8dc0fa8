-- A setting leaves a record's address and counts, and a good record good: the limit that it sets is within 0 to 64 and not below the count.
-- Assumes nothing.
use Prim.Native.Nat.{ℕ, ◌-◌, ◌^◌, ◌≤◌, ◌<◌}
use mathlib.Core.Path.{◌≡◌, refl, sym, ap, ap₂, subst, ◌∙◌}
use mathlib.Core.Bool.{Bool, true, false}
use mathlib.Core.Logic.{inl, inr, ⊎_elim, ◌↔◌}
use native.Mathlib.Decide.{ℕ_discrete}
use native.Mathlib.Omega.{arith}
use Rattle.address.specs.Address.{bit_length, is_host}
use Rattle.address.specs.Bits.{longest}
use Rattle.address.specs.Kinds.{IsHost}
use Rattle.address.specs.Order.{done, ◌when◌otherwise◌, First, GivenExactly}
use Rattle.address.proofs.OrderLaws.{given-exactly}
use Rattle.address.specs.declared.Kind.{Kind}
use Rattle.address.specs.declared.Kind.TheVariants.{Router, Host}
use Rattle.node.specs.Node.{Node, Given, Limited, address_in, no_cap, count, limit, with_limits, with_limit, is_good, refuse_child, child_of, refuse_setting, set_limit}
use Rattle.node.specs.Refusals.{FitsAddress, inner, outer, FitsLimits, IsGood, IsBad, child_length, child_order, SettingRefusals}
use Rattle.node.specs.Settings.{SetsLimits}
use Rattle.node.proofs.ChildLaws.{some_good, limit_most, count_kept, child_of-bad}
use Rattle.node.proofs.Children.{address-good, count-host, count-le, below-no_cap, is_good-host, is_good-counts}
use Rattle.node.proofs.RefusalLaws.{MaySet, set_limit-cases, child-refusals, setting-refusals}

-- the record with another limit

pub address_in-with_limit : (kind : Kind) (k : ℕ) (n : Node) → address_in (with_limit kind k n) ≡ address_in n
unfolding with_limits with_limit
address_in-with_limit Router k n = refl
address_in-with_limit Host k n = refl

pub count-with_limit : (kind : Kind) (k : ℕ) (n : Node) (other : Kind) → count other (with_limit kind k n) ≡ count other n
unfolding count with_limits with_limit
count-with_limit Router k n Router = refl
count-with_limit Router k n Host = refl
count-with_limit Host k n Router = refl
count-with_limit Host k n Host = refl

-- a limit set is one that was there, or the one asked
limit-with_limit : (P : Kind → ℕ → Type 0) (kind : Kind) (k : ℕ) (n : Node) → P kind k → ((other : Kind) → P other (limit other n))
    → (other : Kind) → P other (limit other (with_limit kind k n))
unfolding limit with_limits with_limit
limit-with_limit P Router k n new old Router = new
limit-with_limit P Router k n new old Host = old Host
limit-with_limit P Host k n new old Router = old Router
limit-with_limit P Host k n new old Host = new

-- a record with the address and the counts of a good one, and limits that they keep to

pub good-alike : (n m : Node) → is_good n ≡ true → address_in m ≡ address_in n → ((kind : Kind) → count kind m ≡ count kind n) → FitsLimits m
    → is_good m ≡ true
good-alike n m good same counts fits = go (is_host (address_in n)) refl
  where
    some : address_in m ≡ 0 → ⊥
    some z = omega (arith, some_good n good)

    go : (h : Bool) → is_host (address_in n) ≡ h → is_good m ≡ true
    go true h = is_good-host m fits some (ap is_host same ∙ h) (λ kind. counts kind ∙ count-host n good h kind)
    go false h =
        is_good-counts m fits some (ap is_host same ∙ h)
        (λ kind. subst (λ (a : ℕ). count kind m ≤ longest - bit_length a) (sym same) (omega (arith, counts kind, count-le n good h kind)))

good-set : (n : Node) (kind : Kind) (k : ℕ) → MaySet n kind k → is_good (with_limit kind k n) ≡ true
good-set n kind k may = good-alike n (with_limit kind k n) may.good (address_in-with_limit kind k n) (count-with_limit kind k n) (record {
  most = limit-with_limit (λ (other : Kind) (l : ℕ). l ≤ no_cap) kind k n may.most (limit_most n may.good);
  kept = λ other.
      rw (count-with_limit kind k n other)
      (limit-with_limit (λ (other : Kind) (l : ℕ). count other n ≤ l) kind k n may.enough (count_kept n may.good) other);
})

-- a record with other limits

module _ (routers hosts : ℕ) (n : Node) where
  pub address_in-with_limits : address_in (with_limits routers hosts n) ≡ address_in n
  unfolding with_limits
  address_in-with_limits = refl

  pub count-with_limits : (kind : Kind) → count kind (with_limits routers hosts n) ≡ count kind n
  unfolding count with_limits
  count-with_limits Router = refl
  count-with_limits Host = refl

-- its limits taken away

limit_lifted : (n : Node) (kind : Kind) → limit kind (with_limits no_cap no_cap n) ≡ no_cap
unfolding limit with_limits
limit_lifted n Router = refl
limit_lifted n Host = refl

pub good_lifted : (n : Node) → is_good n ≡ true → is_good (with_limits no_cap no_cap n) ≡ true
good_lifted n good = good-alike n (with_limits no_cap no_cap n) good (address_in-with_limits no_cap no_cap n) (count-with_limits no_cap no_cap n) (record {
  most = λ kind. omega (arith, limit_lifted n kind);
  kept = λ kind. omega (arith, limit_lifted n kind, count-with_limits no_cap no_cap n kind, count_kept n good kind, limit_most n good kind);
})

-- the setting

module _ (P : Node → Node → Type 0) where
  set_limit-node : (n : Node) (kind : Kind) (k : ℕ) → P n n → (MaySet n kind k → P n (with_limit kind k n)) → P n (set_limit n kind k).node
  unfolding refuse_setting
  set_limit-node n kind k same set =
      ⊎_elim (λ done. subst (λ (l : Limited). P n l.node) (sym done.1) (set done.0))
      (λ refused. subst (λ (l : Limited). P n l.node) (sym refused.1) same) (set_limit-cases n kind k)

-- the statement of the refusals allows one rule

pub same_refusal : (rule : Node → Kind → ℕ → Limited) → SettingRefusals rule → (n : Node) (kind : Kind) (k : ℕ)
    → (rule n kind k).refusal ≡ (set_limit n kind k).refusal
same_refusal rule claim n kind k =
    (claim.given n kind k (set_limit n kind k).refusal).1 ((setting-refusals.given n kind k (set_limit n kind k).refusal).0 refl)

pub one-setting : (rule : Node → Kind → ℕ → Limited) → SettingRefusals rule → (n : Node) (kind : Kind) (k : ℕ) → rule n kind k ≡ set_limit n kind k
one-setting rule claim n kind k =
    ap₂ (λ (m : Node) (r : ℕ). record { node = m; refusal = r }) (go (ℕ_discrete (set_limit n kind k).refusal 0)) (same_refusal rule claim n kind k)
  where
    go : Dec ((set_limit n kind k).refusal ≡ 0) → (rule n kind k).node ≡ (set_limit n kind k).node
    go (yes z) =
        claim.without n kind k (same_refusal rule claim n kind k ∙ z) ∙ sym (setting-refusals.without n kind k z)
    go (no h) =
        claim.beside n kind k (λ z. h (sym (same_refusal rule claim n kind k) ∙ z)) ∙ sym (setting-refusals.beside n kind k h)

-- "64 meaning no cap"

pub no_cap_good : (n : Node) → limit Router n ≡ no_cap → limit Host n ≡ no_cap → IsGood n ↔ FitsAddress n
no_cap_good n r h = (λ good. good.address, λ fits. record { address = fits; limits = record { most = most; kept = kept fits } })
  where
    most : (kind : Kind) → limit kind n ≤ no_cap
    most Router = omega arith
    most Host = omega arith

    kept : FitsAddress n → (kind : Kind) → count kind n ≤ limit kind n
    kept (inner k f g) Router = unfold count in omega arith
    kept (inner k f g) Host = unfold count in omega arith
    kept (outer k f g) Router = unfold count in omega arith
    kept (outer k f g) Host = unfold count in omega arith

pub no_cap_never : (n : Node) (kind : Kind) → address_in n < 2 ^ longest → limit kind n ≡ no_cap → (child_of n kind).refusal ≡ 15 → ⊥
no_cap_never n kind fits free e = go (is_good n) refl ((child-refusals.given n kind 15).0 e)
  where
    go : (g : Bool) → is_good n ≡ g → First (child_order n kind) 15 → ⊥
    go true good (inr (some, inr (asked, inl (full, z)))) = below-no_cap n good (address-good n good fits) kind free full
    go true good (inl (bad, z)) = omega arith
    go true good (inr (some, inl (host, z))) = omega arith
    go true good (inr (some, inr (asked, inr (below, inl (long, z))))) = omega arith
    go true good (inr (some, inr (asked, inr (below, inr (short, z))))) = omega arith
    go false good f = unfold refuse_child in omega (arith, e, ap (λ (g : Given). g.refusal) (child_of-bad n kind good))

-- so a child is refused as document 01 says
pub no_cap_order : (n : Node) (kind : Kind) → address_in n < 2 ^ longest → limit Router n ≡ no_cap → limit Host n ≡ no_cap
    → GivenExactly (1 when (FitsAddress n → ⊥) otherwise 2 when IsHost (address_in n) otherwise 3 when longest < child_length n kind otherwise done)
    (child_of n kind).refusal
no_cap_order n kind fits r h =
    given-exactly (1 when (FitsAddress n → ⊥) otherwise 2 when IsHost (address_in n) otherwise 3 when longest < child_length n kind otherwise done)
    (go ((child-refusals.given n kind (child_of n kind).refusal).0 refl))
  where
    bad : IsBad n → FitsAddress n → ⊥
    bad b f = b ((no_cap_good n r h).1 f)

    good : (IsBad n → ⊥) → (FitsAddress n → ⊥) → ⊥
    good g f = g (λ (i : IsGood n). f i.address)

    free : (k : Kind) → limit k n ≡ no_cap
    free Router = r
    free Host = h

    go : First (child_order n kind) (child_of n kind).refusal
        → First (1 when (FitsAddress n → ⊥) otherwise 2 when IsHost (address_in n) otherwise 3 when longest < child_length n kind otherwise done)
        (child_of n kind).refusal
    go (inl (b, z)) = inl (bad b, z)
    go (inr (g, inl (i, z))) = inr (good g, inl (i, z))
    go (inr (g, inr (i, inl (full, z)))) = absurd (no_cap_never n kind fits (free kind) z)
    go (inr (g, inr (i, inr (below, inl (long, z))))) = inr (good g, inr (i, inl (long, z)))
    go (inr (g, inr (i, inr (below, inr (short, z))))) = inr (good g, inr (i, inr (short, z)))

pub sets_limits : SetsLimits
sets_limits = record {
  keeps_good = λ n kind k g. set_limit-node (λ (n m : Node). is_good m ≡ true) n kind k g (λ may. good-set n kind k may);
  keeps_address = λ n kind k. set_limit-node (λ (n m : Node). address_in m ≡ address_in n) n kind k refl (λ may. address_in-with_limit kind k n);
  keeps_counts = λ n kind k other.
      set_limit-node (λ (n m : Node). count other m ≡ count other n) n kind k refl (λ may. count-with_limit kind k n other);
}
