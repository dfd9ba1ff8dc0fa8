-- Demand 1 and demand 3 exclude each wrong rule for an empty packet, at a small tree: its answer for a header alone is computed, and is not the one
-- claimed, nor is the way that it makes.
use mathlib.Core.Path.{◌≡◌, refl, sym, ap, ◌∙◌}
use mathlib.Core.List.Memᴰ.{head as first}
use mathlib.Core.List.Memᴰ.{tail as later}
use mathlib.Core.List.{List, [], ◌∷◌}
use Prim.Native.Nat.{ℕ}
use native.Mathlib.Omega.{arith}
use lib.Dec.{lit<}
use Rattle.address.specs.declared.Kind.TheVariants.{Router as router}
use Rattle.address.specs.Numbers.{IsAddress}
use Rattle.node.specs.Node.{fresh, raised, child_of, set_limit}
use Rattle.forward.specs.Forward.{HopAnswer}
use Rattle.packet.specs.Refusals.{PacketRefusals}
use Rattle.packet.specs.WrongRules.{empty_goes, empty_delivered, not_given_first, empty_late}
use Rattle.packet.proofs.WrongRules.{empty_goes_alone, empty_delivered_alone, not_given_first_alone, empty_late_alone, sixteen_alone}
use Rattle.tree.specs.Tree.{request, Event, asking, grown, InTree}
use Rattle.tree.specs.Way.{fate, delivered_at, stopped_at, delivered, stopped, onward}
use Rattle.tree.specs.Demand3.{Demand3}
use Rattle.tree.proofs.Opened.{trees_opened, hops-opened}

one : IsAddress 1
one = record { some = lit< tt; fits = lit< tt }

two : IsAddress 2
two = record { some = lit< tt; fits = lit< tt }

-- 1 to itself: it is delivered
pub empty_goes_refuted : ((es : List Event) → Demand3 child_of set_limit empty_goes es) → ⊥
unfolding trees_opened hops-opened
empty_goes_refuted claim =
    let e = (((claim []).empty 1 1 (first refl) one).only (1 ∷ []) (delivered_at 1 1) (delivered refl (ap fate (empty_goes_alone one (fresh 1) refl)))).1 in
    let z : ◌≡◌ {A = ℕ} 0 1 = cc in
    omega arith

-- 1 to itself: it is delivered
pub empty_delivered_refuted : ((es : List Event) → Demand3 child_of set_limit empty_delivered es) → ⊥
unfolding trees_opened hops-opened
empty_delivered_refuted claim =
    let e = (((claim []).empty 1 1 (first refl) one).only (1 ∷ []) (delivered_at 1 1) (delivered refl (ap fate (empty_delivered_alone one (fresh 1) refl refl)))).1 in
    let z : ◌≡◌ {A = ℕ} 0 1 = cc in
    omega arith

-- 1 for 10, which is not in the tree: it stops with 7
pub not_given_first_refuted : ((es : List Event) → Demand3 child_of set_limit not_given_first es) → ⊥
unfolding trees_opened hops-opened
not_given_first_refuted claim =
    let e = (((claim []).empty 1 2 (first refl) two).only (1 ∷ []) (stopped_at 7 1) (stopped refl (ap fate (not_given_first_alone two (fresh 1) refl refl)))).1 in
    let z : ◌≡◌ {A = ℕ} 7 16 = cc in
    omega arith

-- 1 to 10 in 1, 10: it stops with 16, but at 10
pub empty_late_refuted : ((es : List Event) → Demand3 child_of set_limit empty_late es) → ⊥
unfolding trees_opened hops-opened
empty_late_refuted claim =
    let es = asking (request 1 router) ∷ [] in
    let j : InTree 2 (grown child_of set_limit es) = later (first refl) in
    let there = ((claim es).empty 2 2 j two).way in
    let way = onward refl (ap fate (empty_late_alone two (raised router (fresh 1)) refl (λ e. omega arith))) j there in
    let e = (((claim es).empty 1 2 (first refl) two).only (1 ∷ 2 ∷ []) (stopped_at 16 2) way).1 in
    let z : ◌≡◌ {A = ℕ} 2 1 = cc in
    omega arith

-- ---- demand 1, at a bare root

-- an answer with another number
not-sixteen : {x y : HopAnswer} → x ≡ y → (x.refusal ≡ y.refusal → ⊥) → ⊥
not-sixteen e h = h (ap (λ (r : HopAnswer). r.refusal) e)

pub empty_goes_misnumbers : PacketRefusals empty_goes → ⊥
unfolding hops-opened
empty_goes_misnumbers claim =
    not-sixteen (sym (empty_goes_alone one (fresh 1) refl) ∙ sixteen_alone one (fresh 1) refl empty_goes claim (lit< tt)) (λ e. omega arith)

pub empty_delivered_misnumbers : PacketRefusals empty_delivered → ⊥
unfolding hops-opened
empty_delivered_misnumbers claim =
    not-sixteen (sym (empty_delivered_alone one (fresh 1) refl refl) ∙ sixteen_alone one (fresh 1) refl empty_delivered claim (lit< tt)) (λ e. omega arith)

pub not_given_first_misnumbers : PacketRefusals not_given_first → ⊥
unfolding hops-opened
not_given_first_misnumbers claim =
    not-sixteen (sym (not_given_first_alone two (fresh 1) refl refl) ∙ sixteen_alone two (fresh 1) refl not_given_first claim (lit< tt)) (λ e. omega arith)

pub empty_late_misnumbers : PacketRefusals empty_late → ⊥
unfolding hops-opened
empty_late_misnumbers claim =
    not-sixteen (sym (empty_late_alone two (fresh 1) refl (λ e. omega arith)) ∙ sixteen_alone two (fresh 1) refl empty_late claim (lit< tt)) (λ e. omega arith)
