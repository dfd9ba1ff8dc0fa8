-- The largest plan's tree has as many nodes as the plan, and the larger one's one more: no address is too long. Assumes nothing.
use Prim.Native.Nat.{ℕ, zero, suc}
use mathlib.Core.Path.{◌≡◌, refl, sym, ap, ◌∙◌}
use mathlib.Core.List.{List, [], ◌∷◌, ◌++◌, append_assoc}
use lib.ListN.{length}
use Rattle.address.specs.Bits.{root}
use Rattle.address.specs.declared.Kind.TheVariants.{Router, Host}
use Rattle.node.specs.Node.{address_in, fresh, child_of}
use Rattle.node.specs.declared.Node.{Node}
use Rattle.node.proofs.Children.{address_in-fresh}
use Rattle.node.proofs.GivenChildren.{gives-children}
use Rattle.tree.specs.Tree.{Request, request}
use Rattle.plan.specs.Grammar.{Items, none, host}
use Rattle.plan.specs.Hall.{child_in}
use Rattle.plan.specs.Largest.{routers, hosts, largest_with, largest, too_large}
use Rattle.plan.proofs.Largest.{largest-plan}
use Rattle.halls.specs.Requests.{requests_in, requests}
use Rattle.halls.specs.Largest.{LargestHall}
use Rattle.halls.proofs.Planned.{planned_halls}

-- behind so many routers a host is asked for last, of the same node
host-last : (k : ℕ) (g : Items) (n : Node)
    → requests_in n (routers k g (host none)) ≡ requests_in n (routers k g none) ++ (request (address_in n) Host ∷ [])
unfolding requests_in routers
host-last zero g n = refl
host-last (suc k) g n =
    let in_group = requests_in (fresh (child_in (child_of n Router))) g in
    let next = (child_of n Router).node in
    ap (λ (l : List Request). request (address_in n) Router ∷ l) (
    ap (λ (l : List Request). in_group ++ l) (
    host-last k g next
    ∙ ap (λ (a : ℕ). requests_in next (routers k g none) ++ (request a Host ∷ [])) (gives-children.keeps_address n Router))
    ∙ sym (append_assoc in_group (requests_in next (routers k g none)) (request (address_in n) Host ∷ [])))

last-asked : requests too_large ≡ requests largest ++ (request root Host ∷ [])
unfolding requests largest_with
last-asked =
    host-last 15 (routers 16 (hosts 16) none) (fresh root)
    ∙ ap (λ (a : ℕ). requests_in (fresh root) (routers 15 (routers 16 (hosts 16) none) none) ++ (request a Host ∷ [])) (address_in-fresh root)

pub largest-hall : LargestHall
largest-hall = record {
  counted =
      ap length (sym (planned_halls.tree largest largest-plan.none_too_long)) ∙ (planned_halls.counted largest).1 ∙ largest-plan.counted;
  one_more =
      ap length (sym (planned_halls.tree too_large largest-plan.more_none_too_long)) ∙ (planned_halls.counted too_large).1 ∙ largest-plan.more_counted;
  last_asked = last-asked;
}
