-- The node of a group is the root or a router. Its record gives a child or refuses it with 3, since it is good, no host's and without a cap; what is
-- handed back, and the record of a router child, are such records again. Assumes nothing.
use Prim.Native.Nat.{ℕ}
use mathlib.Core.Path.{◌≡◌, refl, ap, subst, sym, ◌∙◌}
use mathlib.Core.Bool.{Bool, true, false}
use mathlib.Core.Logic.{◌⊎◌, inl, inr, ⊎_elim}
use mathlib.Core.List.{◌∷◌}
use native.Mathlib.Omega.{arith}
use lib.Dec.{leb}
use borrow.Author.Tests.{leb-true, leb-false}
use Rattle.address.specs.Bits.{longest, root}
use Rattle.address.specs.Steps.{child, steps}
use Rattle.address.specs.Address.{is_host}
use Rattle.address.specs.Numbers.{IsAddress}
use Rattle.address.specs.declared.Kind.{Kind}
use Rattle.address.specs.declared.Kind.TheVariants.{Router}
use Rattle.address.proofs.Answers.{host_last, is_host-small, is_host-steps}
use Rattle.node.specs.Node.{address_in, no_cap, fresh, count, limit, is_good, refuse_child, child_of}
use Rattle.node.specs.Refusals.{child_length}
use Rattle.node.specs.declared.Node.{Node}
use Rattle.node.proofs.ChildLaws.{length-child_bits, child_of-long}
use Rattle.node.proofs.Children.{address_in-fresh, limit-fresh, is_good-fresh, below-no_cap, MayGive, child_of-given}
use Rattle.node.proofs.GivenChildren.{gives-children}
use Rattle.plan.specs.Hall.{child_in, refusal_of}

pub record Inner (n : Node) : Type 0 where
  pub good : is_good n ≡ true
  pub no_host : is_host (address_in n) ≡ false
  pub address : IsAddress (address_in n)
  pub free : (kind : Kind) → limit kind n ≡ no_cap

inner-fresh : {a : ℕ} → IsAddress a → is_host a ≡ false → Inner (fresh a)
inner-fresh {a} is h = record {
  good = is_good-fresh is;
  no_host = ap is_host (address_in-fresh a) ∙ h;
  address = rw (address_in-fresh a) is;
  free = λ kind. limit-fresh kind a;
}

pub inner-root : Inner (fresh root)
inner-root = inner-fresh (record { some = omega arith; fits = omega arith }) (is_host-small (omega arith))

module _ {n : Node} (kind : Kind) (inner : Inner n) where
  inner_below : count kind n ≡ limit kind n → ⊥
  inner_below = below-no_cap n inner.good inner.address kind (inner.free kind)

  pub inner-gives : MayGive n kind ⊎ (child_of n kind ≡ refuse_child 3 n)
  inner-gives = go (leb (child_length n kind) longest) refl
    where
      go : (short : Bool) → leb (child_length n kind) longest ≡ short → MayGive n kind ⊎ (child_of n kind ≡ refuse_child 3 n)
      go true e =
          let fits = leb-true (child_length n kind) longest e in
          inl (record { good = inner.good; inner = inner.no_host; below = inner_below; short = omega (arith, length-child_bits n kind) })
      go false e = inr (child_of-long n kind inner.good inner.no_host inner_below (leb-false (child_length n kind) longest e))

  pub inner-refusal : ((child_of n kind).refusal ≡ 3) ⊎ ((child_of n kind).refusal ≡ 0)
  unfolding refuse_child
  inner-refusal = ⊎_elim (λ may. inr (ap refusal_of (child_of-given may))) (λ r. inl (ap refusal_of r)) inner-gives

  -- the record handed back, refused or not
  pub inner-next : Inner (child_of n kind).node
  inner-next =
      let same = gives-children.keeps_address n kind in
      record {
        good = gives-children.keeps_good n kind inner.good;
        no_host = ap is_host same ∙ inner.no_host;
        address = subst IsAddress (sym same) inner.address;
        free = λ other. gives-children.keeps_limits n kind other ∙ inner.free other;
      }

  module _ (e : (child_of n kind).refusal ≡ 0) where
    pub given-address : IsAddress (child_in (child_of n kind))
    given-address = (gives-children.is_child n kind inner.address.fits e).address

    -- a router's last step is no host's
    pub inner-child : kind ≡ Router → Inner (fresh (child_in (child_of n kind)))
    inner-child k =
        inner-fresh given-address (
        is_host-steps given-address
        ∙ ap host_last (gives-children.is_child n kind inner.address.fits e).cut
        ∙ ap (λ (k : Kind). host_last (child k (count kind n) ∷ steps (address_in n))) k
        )
