-- A record by its address and counts alone, with 64 and 64: it is good where the record is, gives each child that the record gives, and is the
-- record itself where that has no cap. Assumes nothing.
use Prim.Native.Nat.{ℕ}
use mathlib.Core.Path.{◌≡◌, refl, sym, ap, ap₂, ◌∙◌}
use mathlib.Core.Bool.{true}
use native.Mathlib.Omega.{arith}
use Rattle.address.specs.Bits.{number}
use Rattle.address.specs.Address.{is_host}
use Rattle.address.specs.declared.Kind.{Kind}
use Rattle.address.specs.declared.Kind.TheVariants.{Router, Host}
use Rattle.node.specs.Node.{address_in, no_cap, fresh, with_counts, count, limit, with_limits, is_good, child_bits, child_of}
use Rattle.node.specs.declared.Node.{Node}
use Rattle.node.specs.Node.{Given}
use Rattle.node.proofs.ChildLaws.{limit_most, count_kept}
use Rattle.node.proofs.Settings.{good-alike}
use Rattle.node.proofs.Children.{MayGive, may_give, child_of-given}
use Rattle.journals.specs.Replays.{recovered}

-- ---- its parts

module _ (n : Node) where
  pub address_in-recovered : address_in (recovered n) ≡ address_in n
  unfolding recovered with_counts fresh
  address_in-recovered = refl

  pub count-recovered : (kind : Kind) → count kind (recovered n) ≡ count kind n
  unfolding recovered with_counts count
  count-recovered Router = refl
  count-recovered Host = refl

  pub limit-recovered : (kind : Kind) → limit kind (recovered n) ≡ no_cap
  unfolding recovered with_counts fresh limit
  limit-recovered Router = refl
  limit-recovered Host = refl

  pub recovered-free : ((kind : Kind) → limit kind n ≡ no_cap) → recovered n ≡ n
  unfolding recovered with_counts fresh count limit with_limits
  recovered-free free = ap₂ (λ (r h : ℕ). with_limits r h n) (sym (free Router)) (sym (free Host))

-- ---- a good one

pub is_good-recovered : (n : Node) → is_good n ≡ true → is_good (recovered n) ≡ true
is_good-recovered n good = good-alike n (recovered n) good (address_in-recovered n) (count-recovered n) (record {
  most = λ kind. omega (arith, limit-recovered n kind);
  kept = λ kind. omega (arith, limit-recovered n kind, count-recovered n kind, count_kept n good kind, limit_most n good kind);
})

-- ---- its children

child_bits-recovered : (n : Node) (kind : Kind) → child_bits (recovered n) kind ≡ child_bits n kind
unfolding child_bits recovered with_counts fresh
child_bits-recovered n kind = rw (count-recovered n kind) refl

-- a limit only takes children away
may-recovered : {n : Node} {kind : Kind} → MayGive n kind → MayGive (recovered n) kind
may-recovered {n} {kind} may = record {
  good = is_good-recovered n may.good;
  inner = ap is_host (address_in-recovered n) ∙ may.inner;
  below = λ e.
      may.below (omega (arith, count-recovered n kind, limit-recovered n kind, count_kept n may.good kind, limit_most n may.good kind));
  short = rw (child_bits-recovered n kind) may.short;
}

pub child_of-recovered : (n : Node) (kind : Kind) → (child_of n kind).refusal ≡ 0
    → ((child_of (recovered n) kind).refusal ≡ 0) × ((child_of (recovered n) kind).child.number ≡ (child_of n kind).child.number)
child_of-recovered n kind z =
    let may = may_give n kind z in
    let given = child_of-given (may-recovered may) in (
      ap (λ (g : Given). g.refusal) given,
      ap (λ (g : Given). g.child.number) given ∙ ap number (child_bits-recovered n kind)
          ∙ sym (ap (λ (g : Given). g.child.number) (child_of-given may)),
    )
