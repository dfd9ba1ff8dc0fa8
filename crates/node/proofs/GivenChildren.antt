-- What is given is a child: one step more than the node. Assumes nothing.
use mathlib.Core.Path.{◌≡◌, refl, sym, ap, ◌∙◌}
use mathlib.Core.Bool.{true}
use mathlib.Core.Logic.{⊎_elim}
use native.Mathlib.Omega.{arith}
use lib.ListN.{length}
use Rattle.address.specs.Bits.{number}
use Rattle.address.specs.Steps.{spelled}
use Rattle.address.specs.Address.{depth}
use Rattle.address.specs.Numbers.{IsAddress}
use Rattle.address.specs.declared.Kind.{Kind}
use Rattle.address.proofs.Steps.{spelled-steps}
use Rattle.node.specs.Node.{Node, Given, address_in, limit, is_good, child_bits, refuse_child, child_of}
use Rattle.node.specs.Children.{IsChild, GivesChildren}
use Rattle.node.proofs.Children.{address-good, address_in-raised, limit-raised, MayGive, may_give, child_of-cases, child_of-given, is_good-raised, steps-child, address-child, parent-child}

module _ (n : Node) (kind : Kind) (may : MayGive n kind) (a : IsAddress (address_in n)) where
  is_child_lem : IsChild n kind (number (child_bits n kind))
  unfolding depth spelled
  is_child_lem = record {
    address = address-child may a;
    spells = sym (spelled-steps (address-child may a)) ∙ ap spelled (steps-child may a) ∙ rw (spelled-steps a) refl;
    cut = steps-child may a;
    deeper = ap length (steps-child may a) ∙ omega arith;
    parent_of = parent-child may a;
  }

keeps-good : (n : Node) (kind : Kind) → is_good n ≡ true → is_good (child_of n kind).node ≡ true
unfolding refuse_child
keeps-good n kind g = ⊎_elim (λ may. ap (λ (x : Given). is_good x.node) (child_of-given may) ∙ is_good-raised may)
    (λ r. ap (λ (x : Given). is_good x.node) r.1 ∙ g) (child_of-cases n kind)

keeps-address : (n : Node) (kind : Kind) → address_in (child_of n kind).node ≡ address_in n
unfolding refuse_child
keeps-address n kind = ⊎_elim (λ may. ap (λ (x : Given). address_in x.node) (child_of-given may) ∙ address_in-raised kind n)
    (λ r. ap (λ (x : Given). address_in x.node) r.1) (child_of-cases n kind)

keeps-limits : (n : Node) (kind other : Kind) → limit other (child_of n kind).node ≡ limit other n
unfolding refuse_child
keeps-limits n kind other = ⊎_elim (λ may. ap (λ (x : Given). limit other x.node) (child_of-given may) ∙ limit-raised kind other n)
    (λ r. ap (λ (x : Given). limit other x.node) r.1) (child_of-cases n kind)

pub gives-children : GivesChildren
gives-children = record {
  is_child = λ n kind fits e.
      let may = may_give n kind e in
      rw (child_of-given may) (is_child_lem n kind may (address-good n may.good fits));
  keeps_good = keeps-good;
  keeps_address = keeps-address;
  keeps_limits = keeps-limits;
}
