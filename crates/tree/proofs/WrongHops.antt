-- Demand 3 excludes each wrong rule for the next hop: in a small tree the rule's answers for a header are computed, and the way that they
-- make is not the one claimed.
use mathlib.Core.Path.{◌≡◌, refl, ap, ◌∙◌}
use mathlib.Core.Bool.{true}
use mathlib.Core.Logic.{⊎_elim}
use mathlib.Core.List.Memᴰ
use mathlib.Core.List.Memᴰ.{head as first}
use mathlib.Core.List.Memᴰ.{tail as later}
use mathlib.Core.List.{List, [], ◌∷◌, Memᴰ}
use Prim.Native.Nat.{ℕ, suc, ◌<◌}
use native.Mathlib.Omega.{arith}
use borrow.Author.Tests.{eq-eqb}
use lib.Dec.{lit<}
use Rattle.address.specs.declared.Kind.TheVariants.{Router as router, Host as host}
use Rattle.address.specs.Steps.{steps, steps_of, cut, last_step, address_of, spelled}
use Rattle.address.specs.Address.{above, parent}
use Rattle.address.specs.Numbers.{IsAddress}
use Rattle.header.specs.Header.{reading, HeaderAnswer}
use Rattle.header.proofs.Demand2.{reading-header}
use Rattle.node.specs.declared.Node.{Node}
use Rattle.node.specs.Node.{fresh, raised, is_good, child_of, set_limit}
use Rattle.forward.specs.Forward.{next_hop, rules, toward}
use Rattle.packet.specs.Packet.{packet_hop}
use Rattle.tree.specs.Tree.{request, Event, asking, Tree, record_of, grown, InTree, standing, Linked, Walk, here, along}
use Rattle.route.specs.Path.{path, path_of, turn, is_ancestor_or_self, same_steps, deeper}
use Rattle.tree.specs.Way.{Fate, delivered_to, stopped_with, passed_to, fate, delivered_at, stopped_at, lost_at, delivered, stopped, lost, onward}
use Rattle.tree.specs.Demand3.{Demand3, Arrives}
use Rattle.tree.specs.WrongHops.{AddressRule, hop_by, rules_by, right_parts, refuses_everything, parent_to_all, leaps, names_nobody, host_keeps, host_delivers, root_as_host, low_bits, looked_short, before_last_bit, one_count}
use Rattle.tree.proofs.Opened.{trees_opened, hops-opened}
use Rattle.tree.proofs.Ways.{way-passed}
use Rattle.tree.proofs.Forwarding.{shortest, packet_shortest}

-- the wrong rules are made as the right one is

hop_by-right : (n : Node) (p : List ℕ) → hop_by next_hop n p ≡ packet_hop n p
unfolding hop_by packet_hop
hop_by-right n p = refl

rules_by-right : (n : Node) (d : ℕ) → rules_by right_parts n d ≡ rules n d
unfolding rules_by rules toward
rules_by-right n d = refl

-- a rule's answer for the shortest packet
hop_by-header : (rule : AddressRule) (n : Node) {d : ℕ} → is_good n ≡ true → IsAddress d → hop_by rule n (shortest d) ≡ rule n d
unfolding hop_by
hop_by-header rule n {d} good a =
    let p = shortest d in
    let e = reading-header a (0 ∷ []) (lit< tt) in
    rw (good, eq-eqb (reading p).refusal 0 (ap (λ (r : HeaderAnswer). r.refusal) e)) (ap (λ (r : HeaderAnswer). rule n r.address) e)

-- ---- small trees

-- whoever unfolds `opened` unfolds all that the trees and the answers below are computed by

opened : Unit {0}
unfolding trees_opened hops-opened steps steps_of cut last_step address_of spelled above parent rules_by
opened = tt

address : (k : ℕ) → k < 8 → IsAddress (suc k)
address k h = record { some = omega arith; fits = omega arith }

not-cons : {x y : ℕ} {l : List ℕ} → (x ≡ y → ⊥) → (Memᴰ x l → ⊥) → Memᴰ x (y ∷ l) → ⊥
not-cons other out i = ⊎_elim other out (Memᴰ.cases_cons i)

-- ---- what arrival excludes

module _ (rule : AddressRule) (claim : (rs : List Event) → Demand3 child_of set_limit (hop_by rule) rs) (rs : List Event) {d : ℕ} (b : IsAddress d) where
  -- the shortest packet for a node d, at a node a
  module _ {a : ℕ} (i : InTree a (grown child_of set_limit rs)) (j : InTree d (grown child_of set_limit rs)) where
    arrives : Arrives (hop_by rule) (grown child_of set_limit rs) (shortest d) a d
    arrives = (claim rs).arrival a d (shortest d) i j (packet_shortest b)

    module _ {n : Node} (r : record_of a (grown child_of set_limit rs) ≡ standing n) (good : is_good n ≡ true) where
      answers : {f : Fate} → fate (rule n d) ≡ f → fate (hop_by rule n (shortest d)) ≡ f
      answers f = ap fate (hop_by-header rule n good b) ∙ f

      never-stopped : {k : ℕ} → fate (rule n d) ≡ stopped_with k → ⊥
      never-stopped {k} f =
          let same = arrives.the_way.only (a ∷ []) (stopped_at k a) (stopped r (answers f)) in
          let z : ◌≡◌ {A = ℕ} 0 1 = cc in
          omega arith

      never-lost : {x : ℕ} → fate (rule n d) ≡ passed_to x → (InTree x (grown child_of set_limit rs) → ⊥) → ⊥
      never-lost f out =
          let same = arrives.the_way.only (a ∷ []) (lost_at a) (lost r (answers f) out) in
          let z : ◌≡◌ {A = ℕ} 0 1 = cc in
          omega arith

      never-elsewhere : {x : ℕ} → fate (rule n d) ≡ delivered_to x → (a ≡ d → ⊥) → ⊥
      never-elsewhere {x} f other =
          let same = arrives.the_way.only (a ∷ []) (delivered_at a x) (delivered r (answers f)) in
          other (cc)

      never_misnamed : {x : ℕ} → fate (rule n d) ≡ delivered_to x → (x ≡ d → ⊥) → ⊥
      never_misnamed {x} f other =
          let same = arrives.the_way.only (a ∷ []) (delivered_at a x) (delivered r (answers f)) in
          other (cc)

-- ---- impostors

-- 1 to itself: it stops
pub refuses_everything_refuted : ((rs : List Event) → Demand3 child_of set_limit refuses_everything rs) → ⊥
unfolding refuses_everything opened
refuses_everything_refuted claim = never-stopped _ claim [] (address 0 (lit< tt)) (first refl) (first refl) refl refl refl

-- 1 to itself: it is lost, since the root has no parent
pub parent_to_all_refuted : ((rs : List Event) → Demand3 child_of set_limit parent_to_all rs) → ⊥
unfolding parent_to_all opened
parent_to_all_refuted claim =
    never-lost _ claim [] (address 0 (lit< tt)) (first refl) (first refl) refl refl refl (not-cons (λ e. omega arith) Memᴰ.not-nil)

-- 1 to itself: it is delivered, but in nobody's name
pub names_nobody_refuted : ((rs : List Event) → Demand3 child_of set_limit names_nobody rs) → ⊥
unfolding names_nobody opened
names_nobody_refuted claim = never_misnamed _ claim [] (address 0 (lit< tt)) (first refl) (first refl) refl refl refl (λ e. omega arith)

-- a walk's first two nodes are linked
walk_link : {t : Tree} {a d x y : ℕ} {w : List ℕ} → Walk t a d (x ∷ y ∷ w) → Linked t x y
walk_link (along l (here i)) = l
walk_link (along l (along k w)) = l

-- 1 to 100 in 1, 10, 100: its way is 1, 100, which no link joins
pub leaps_refuted : ((rs : List Event) → Demand3 child_of set_limit leaps rs) → ⊥
unfolding leaps opened
leaps_refuted claim =
    let rs = asking (request 1 router) ∷ asking (request 2 router) ∷ [] in
    let b = address 3 (lit< tt) in
    let j : InTree 4 (grown child_of set_limit rs) = later (later (first refl)) in
    let goes = arrives _ claim rs b (first refl) j in
    let end = delivered refl (ap fate (hop_by-header _ (fresh 4) refl b)) in
    let way = onward refl (ap fate (hop_by-header _ (raised router (fresh 1)) refl b)) j end in
    let same = (goes.the_way.only (1 ∷ 4 ∷ []) (delivered_at 4 4) way).0 in
    ⊎_elim (λ h. h.not_root refl) (λ h. omega (arith, h.is_parent)) (walk_link (rw (← same) at goes.over_links))

-- ---- slips

-- 11 to 110 in 1, 10, 11, 110: it stops at 11
pub host_keeps_refuted : ((rs : List Event) → Demand3 child_of set_limit host_keeps rs) → ⊥
unfolding host_keeps opened
host_keeps_refuted claim =
    never-stopped _ claim (asking (request 1 router) ∷ asking (request 1 host) ∷ asking (request 1 router) ∷ []) (address 5 (lit< tt))
    (later (later (first refl))) (later (later (later (first refl)))) refl refl refl

-- 11 to 110 in 1, 10, 11, 110: it is delivered at 11
pub host_delivers_refuted : ((rs : List Event) → Demand3 child_of set_limit host_delivers rs) → ⊥
unfolding host_delivers opened
host_delivers_refuted claim =
    never-elsewhere _ claim (asking (request 1 router) ∷ asking (request 1 host) ∷ asking (request 1 router) ∷ []) (address 5 (lit< tt))
    (later (later (first refl))) (later (later (later (first refl)))) refl refl refl (λ e. omega arith)

-- 1 to 10: it is lost at 1
pub root_as_host_refuted : ((rs : List Event) → Demand3 child_of set_limit root_as_host rs) → ⊥
unfolding root_as_host opened
root_as_host_refuted claim =
    never-lost _ claim (asking (request 1 router) ∷ []) (address 1 (lit< tt)) (first refl) (later (first refl)) refl refl refl
    (not-cons (λ e. omega arith) (not-cons (λ e. omega arith) Memᴰ.not-nil))

-- 1 to 10: it is lost at 1
pub low_bits_refuted : ((rs : List Event) → Demand3 child_of set_limit low_bits rs) → ⊥
unfolding low_bits opened
low_bits_refuted claim =
    never-lost _ claim (asking (request 1 router) ∷ []) (address 1 (lit< tt)) (first refl) (later (first refl)) refl refl refl
    (not-cons (λ e. omega arith) (not-cons (λ e. omega arith) Memᴰ.not-nil))

-- 1 to 111 in 1, 11, 111: 1 passes it to 11, and 11 passes it back
pub before_last_bit_refuted : ((rs : List Event) → Demand3 child_of set_limit before_last_bit rs) → ⊥
unfolding before_last_bit looked_short opened path path_of turn is_ancestor_or_self same_steps deeper
before_last_bit_refuted claim =
    let rs = asking (request 1 host) ∷ asking (request 1 host) ∷ [] in
    let b = address 6 (lit< tt) in
    let way = (arrives _ claim rs b (first refl) (later (later (first refl)))).the_way.way in
    let (v, on, e) =
    way-passed _ _ _ refl (ap fate (hop_by-header _ (raised host (raised host (fresh 1))) refl b)) (later (first refl)) way in
    let (u, back, f) = way-passed _ _ _ refl (ap fate (hop_by-header _ (fresh 3) refl b)) (first refl) on in
    let g : 1 ∷ 7 ∷ [] ≡ 1 ∷ 3 ∷ u = e ∙ ap (λ (l : List ℕ). 1 ∷ l) f in
    let z : ◌≡◌ {A = ℕ} 7 3 = cc in
    omega arith

-- 1 for 11, which is not in 1, 10: it is lost at 1
pub one_count_refuted : ((rs : List Event) → Demand3 child_of set_limit one_count rs) → ⊥
unfolding one_count opened
one_count_refuted claim =
    let rs = asking (request 1 router) ∷ [] in
    let b = address 2 (lit< tt) in
    let out : InTree 3 (grown child_of set_limit rs) → ⊥ = not-cons (λ e. omega arith) (not-cons (λ e. omega arith) Memᴰ.not-nil) in
    let (x, end) = (claim rs).absence 1 3 (shortest 3) (first refl) out (packet_shortest b) in
    let same = end.the_way.only (1 ∷ []) (lost_at 1) (lost refl (ap fate (hop_by-header _ (raised router (fresh 1)) refl b)) out) in
    let z : ◌≡◌ {A = ℕ} 0 1 = cc in
    omega arith
