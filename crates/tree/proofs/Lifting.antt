-- Demand 3 is true of the rule for a child that takes the limits away: it hands back a good record of the same address with one count raised, and the
-- next hop asks no more of one. So demand 3 does not see limits; the promise of a child does. Assumes nothing.
use Prim.Native.Nat.{ℕ}
use mathlib.Core.Path.{◌≡◌, refl, ◌∙◌, subst}
use mathlib.Core.List.{List, ◌++◌}
use Rattle.address.specs.declared.Kind.{Kind}
use Rattle.node.specs.Node.{address_in, no_cap, with_limits, child_of, set_limit}
use Rattle.node.specs.WrongRules.{lifts_limits}
use Rattle.node.specs.declared.Node.{Node}
use Rattle.node.proofs.GivenChildren.{gives-children}
use Rattle.node.proofs.Settings.{address_in-with_limits, count-with_limits, good_lifted}
use Rattle.packet.specs.Packet.{packet_hop}
use Rattle.tree.specs.Tree.{request, Event, asking, setting, Tree, Record, standing, absent, record_of, replaced, with_child, answered}
use Rattle.tree.specs.Tree.{asked_of, ask, happen, addresses, given_by}
use Rattle.tree.specs.Demand3.{Demand3}
use Rattle.tree.proofs.Sound.{Sound}
use Rattle.tree.proofs.Trees.{in_tree-record_of, address_in-record_of, record_of-replaced, replaced-twice}
use Rattle.tree.proofs.Given.{addresses-asked, addresses-set, nodes_each}
use Rattle.tree.proofs.Growth.{sound-replaced, sound-answered, sound-set, sound-list}
use Rattle.tree.proofs.Theorem.{demand_3_of}

-- the record first without its limits, and then asked
sound_lifted : (t : Tree) → Sound t → (a : ℕ) (n : Node) → record_of a t ≡ standing n → (kind : Kind) → Sound (answered a (lifts_limits n kind) t).tree
unfolding lifts_limits answered
sound_lifted t s a n stands kind =
    let m = with_limits no_cap no_cap n in
    let same = address_in-with_limits no_cap no_cap n ∙ address_in-record_of a n t stands in
    let free = replaced a m t in
    let sound : Sound free = sound-replaced t s a n m stands same (good_lifted n (s.good a n stands)) (count-with_limits no_cap no_cap n) in
    let asked = sound-answered free sound a m (record_of-replaced m same t (in_tree-record_of a n t stands)) kind in
    subst (λ (u : Tree). Sound (with_child (child_of m kind) u)) (replaced-twice m (child_of m kind).node same t) asked

sound_happens : (t : Tree) (e : Event) → Sound t → Sound (happen lifts_limits set_limit t e).tree
unfolding happen ask
sound_happens t (asking (request a kind)) s = go (record_of a t) refl
  where
    go : (x : Record) → record_of a t ≡ x → Sound (asked_of lifts_limits x a kind t).tree
    go (standing n) e = unfold asked_of in sound_lifted t s a n e kind
    go absent e = unfold asked_of in s
sound_happens t (setting a kind k) s = sound-set t a kind k s

keeps : (n : Node) (kind : Kind) → address_in (lifts_limits n kind).node ≡ address_in n
unfolding lifts_limits
keeps n kind = gives-children.keeps_address (with_limits no_cap no_cap n) kind ∙ address_in-with_limits no_cap no_cap n

addresses_happens : (t : Tree) (e : Event)
    → addresses (happen lifts_limits set_limit t e).tree ≡ addresses t ++ given_by (happen lifts_limits set_limit t e).replies
unfolding happen
addresses_happens t (asking r) = addresses-asked lifts_limits keeps t r
addresses_happens t (setting a kind k) = addresses-set t a kind k

pub lifts_limits-demand3 : (es : List Event) → Demand3 lifts_limits set_limit packet_hop es
lifts_limits-demand3 es =
    demand_3_of lifts_limits set_limit es (sound-list lifts_limits set_limit sound_happens es) (nodes_each lifts_limits set_limit addresses_happens es)
