-- The requests of a group's items, from a sound tree in which the group is open, are answered as the items are, and the records of all nodes
-- but the group's own stay: by induction on the items. A router is open where its group begins; its group's requests change no record but
-- the router's own, which is new, so behind it the group above is open as before. Assumes nothing.
use Prim.Native.Nat.{ℕ}
use mathlib.Core.Path.{◌≡◌, refl, sym, ap, ap₂, subst, ◌∙◌}
use mathlib.Core.List.{List, ◌++◌, map, map-append}
use Rattle.address.specs.declared.Kind.TheVariants.{Router, Host}
use Rattle.node.specs.Node.{address_in, fresh, child_of, set_limit}
use Rattle.node.specs.declared.Node.{Node}
use Rattle.node.proofs.Children.{address_in-fresh}
use Rattle.node.proofs.GivenChildren.{gives-children}
use Rattle.tree.specs.Tree.{request, Event, asking, Tree, record_of, Reply, Grown, ask, happen, grow, InTree}
use Rattle.tree.proofs.Sound.{Sound}
use Rattle.tree.proofs.Trees.{in_tree-record_of}
use Rattle.tree.proofs.Runs.{grow-append, replies-append}
use Rattle.tree.proofs.Growth.{sound-ask, sound-grow}
use Rattle.plan.specs.Grammar.{Items, none, host, router}
use Rattle.plan.specs.Hall.{child_in, answers}
use Rattle.halls.specs.Requests.{requests_in}
use Rattle.halls.specs.Halls.{reply_of}
use Rattle.halls.proofs.Asking.{Open, stands, refused, Stays, asked, replies-asked}

pub record Run (n : Node) (items : Items) (t : Tree) (run : Grown) : Type 0 where
  pub answered : run.replies ≡ map reply_of (answers n items)
  pub others : Stays (address_in n) t run.tree

-- an open group is open behind requests that change no record but that of a node that is new
open_behind : {n m : Node} {t between after : Tree} (new : ℕ) → Open n t → address_in m ≡ address_in n → Open m between → (InTree new t → ⊥)
    → Stays new between after → Open m after
open_behind {n} {m} {t} new (stands e outer) same (stands r inner) is_new_lem others =
    stands (others (address_in m) m (λ q. is_new_lem (subst (λ (x : ℕ). InTree x t) (sym same ∙ q) (in_tree-record_of (address_in n) n t e))) r) inner
open_behind new (stands e outer) same (refused z) is_new_lem others = refused z
open_behind new (refused z) same o is_new_lem others = refused (same ∙ z)

-- the requests of a group's items, as a list of demand 3
abbrev events_in : Node → Items → List Event
events_in n items = map asking (requests_in n items)

pub run : (items : Items) (n : Node) (t : Tree) → Sound t → Open n t → Run n items t (grow child_of set_limit t (events_in n items))
unfolding requests_in answers grow happen
run none n t s o = record { answered = refl; others = λ x m ne e. e }
run (host behind) n t s o =
    let first = asked t s n Host o in
    let t1 = (ask child_of t (request (address_in n) Host)).tree in
    let rest = run behind (child_of n Host).node t1 (sound-ask t (request (address_in n) Host) s) first.own in
    record {
      answered = ap₂ (λ (a b : List Reply). a ++ b) (replies-asked t s n Host o) rest.answered;
      others = λ x m ne e. rest.others x m (λ q. ne (q ∙ gives-children.keeps_address n Host)) (first.others x m ne e);
    }
run (router group behind) n t s o =
    let first = asked t s n Router o in
    let new = child_in (child_of n Router) in
    let after = (child_of n Router).node in
    let t1 = (ask child_of t (request (address_in n) Router)).tree in
    let s1 = sound-ask t (request (address_in n) Router) s in
    let inside = run group (fresh new) t1 s1 (first.child refl) in
    let t2 = (grow child_of set_limit t1 (events_in (fresh new) group)).tree in
    let s2 = sound-grow t1 (events_in (fresh new) group) s1 in
    let kept : Stays new t1 t2 = λ x m ne. inside.others x m (λ q. ne (q ∙ address_in-fresh new)) in
    let o2 = open_behind new o (gives-children.keeps_address n Router) first.own first.new kept in
    let rest = run behind after t2 s2 o2 in
    let all = map-append asking (requests_in (fresh new) group) (requests_in after behind) in
    record {
      answered = ap₂ (λ (a b : List Reply). a ++ b) (replies-asked t s n Router o)
          (ap (λ (es : List Event). (grow child_of set_limit t1 es).replies) all
          ∙ replies-append child_of set_limit t1 (events_in (fresh new) group) (events_in after behind)
          ∙ ap₂ (λ (a b : List Reply). a ++ b) inside.answered rest.answered
          ∙ sym (map-append reply_of (answers (fresh new) group) (answers after behind)));
      others = λ x m ne e.
          ap (λ (es : List Event). record_of x (grow child_of set_limit t1 es).tree) all
          ∙ ap (λ (g : Tree). record_of x g) (grow-append child_of set_limit t1 (events_in (fresh new) group) (events_in after behind))
          ∙ rest.others x m (λ q. ne (q ∙ gives-children.keeps_address n Router))
          (kept x m (λ q. first.new (subst (λ (y : ℕ). InTree y t) q (in_tree-record_of x m t e))) (first.others x m ne e));
    }
