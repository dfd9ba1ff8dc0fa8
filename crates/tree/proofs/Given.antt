-- The nodes of a grown tree are the root and the addresses that the replies give: a request or a setting keeps the addresses of the tree, since the
-- record handed back keeps its own, and a request puts a child's behind them where it is given. Assumes nothing.
use Rattle.std.specs.Prelude.{if◌then◌else◌}
use mathlib.Core.Path.{◌≡◌, refl, sym, ap, ◌∙◌}
use mathlib.Core.List.{List, [], ◌∷◌, ◌++◌, append-nil, append_assoc, map, map-append}
use Prim.Native.Nat.{ℕ, zero, suc}
use native.Mathlib.Omega.{arith}
use borrow.Author.Tests.{ne_eqb}
use lib.Dec.{eqb}
use Rattle.address.specs.Bits.{root}
use Rattle.node.specs.Node.{address_in, fresh, child_of, set_limit}
use Rattle.address.specs.declared.Kind.{Kind}
use Rattle.node.specs.declared.Node.{Node}
use Rattle.node.specs.Node.{Given}
use Rattle.node.proofs.Children.{address_in-fresh}
use Rattle.node.proofs.GivenChildren.{gives-children}
use Rattle.node.proofs.Settings.{sets_limits}
use Rattle.tree.specs.Tree.{ChildRule, SettingRule, Request, request, Event, asking, setting, Tree, bare_root, Record, standing, absent, record_of, replaced, with_child, answered, asked_of}
use Rattle.tree.specs.Tree.{settled, setting_of, ask, happen, grow, grown, addresses, Reply, replied, limited, nobody, given_by, given_in}
use Rattle.tree.proofs.Trees.{addresses-replaced, address_in-record_of}

pub given_by-append : (xs ys : List Reply) → given_by (xs ++ ys) ≡ given_by xs ++ given_by ys
unfolding given_by
given_by-append [] ys = refl
given_by-append (replied zero a ∷ xs) ys = ap (λ (l : List ℕ). a ∷ l) (given_by-append xs ys)
given_by-append (replied (suc n) a ∷ xs) ys = given_by-append xs ys
given_by-append (limited n ∷ xs) ys = given_by-append xs ys
given_by-append (nobody ∷ xs) ys = given_by-append xs ys

addresses-with_child : (g : Given) (t : Tree) → addresses (with_child g t) ≡ addresses t ++ given_by (replied g.refusal g.child.number ∷ [])
unfolding with_child given_by addresses
addresses-with_child g t = go g.refusal
  where
    go : (k : ℕ) → addresses (if eqb k 0 then t ++ (fresh g.child.number ∷ []) else t) ≡ addresses t ++ given_by (replied k g.child.number ∷ [])
    go zero =
        map-append address_in t (fresh g.child.number ∷ [])
        ∙ ap (λ (a : ℕ). map address_in t ++ (a ∷ [])) (address_in-fresh g.child.number)
    go (suc k) = rw (ne_eqb (suc k) 0 (λ z. omega arith)) (sym (append-nil (addresses t)))

-- a rule for a child, or for a setting, that hands back a record of the same address

pub addresses-asked : (child : ChildRule) → ((n : Node) (kind : Kind) → address_in (child n kind).node ≡ address_in n)
    → (t : Tree) (r : Request) → addresses (ask child t r).tree ≡ addresses t ++ given_by (ask child t r).replies
unfolding ask
addresses-asked child keeps t (request a kind) = go (record_of a t) refl
  where
    go : (x : Record) → record_of a t ≡ x
        → addresses (asked_of child x a kind t).tree ≡ addresses t ++ given_by (asked_of child x a kind t).replies
    go (standing n) e = unfold asked_of answered in
        addresses-with_child (child n kind) (replaced a (child n kind).node t)
        ∙ ap (λ (l : List ℕ). l ++ given_by (replied (child n kind).refusal (child n kind).child.number ∷ []))
        (addresses-replaced (child n kind).node (keeps n kind ∙ address_in-record_of a n t e) t)
    go absent e = unfold asked_of given_by in sym (append-nil (addresses t))

pub addresses-set : (t : Tree) (a : ℕ) (kind : Kind) (k : ℕ)
    → addresses (setting_of set_limit (record_of a t) a kind k t).tree ≡ addresses t ++ given_by (setting_of set_limit (record_of a t) a kind k t).replies
addresses-set t a kind k = go (record_of a t) refl
  where
    go : (x : Record) → record_of a t ≡ x
        → addresses (setting_of set_limit x a kind k t).tree ≡ addresses t ++ given_by (setting_of set_limit x a kind k t).replies
    go (standing n) e = unfold setting_of settled given_by in
        addresses-replaced (set_limit n kind k).node (sets_limits.keeps_address n kind k ∙ address_in-record_of a n t e) t
        ∙ sym (append-nil (addresses t))
    go absent e = unfold setting_of given_by in sym (append-nil (addresses t))

pub addresses-ask : (t : Tree) (r : Request) → addresses (ask child_of t r).tree ≡ addresses t ++ given_by (ask child_of t r).replies
addresses-ask = addresses-asked child_of gives-children.keeps_address

pub addresses-happen : (t : Tree) (e : Event)
    → addresses (happen child_of set_limit t e).tree ≡ addresses t ++ given_by (happen child_of set_limit t e).replies
unfolding happen
addresses-happen t (asking r) = addresses-ask t r
addresses-happen t (setting a kind k) = addresses-set t a kind k

-- rules that keep to this, event by event, do so in every list
module _ (child : ChildRule) (set : SettingRule)
    (each : (t : Tree) (e : Event) → addresses (happen child set t e).tree ≡ addresses t ++ given_by (happen child set t e).replies) where
  addresses_each : (t : Tree) (es : List Event) → addresses (grow child set t es).tree ≡ addresses t ++ given_by (grow child set t es).replies
  unfolding grow
  addresses_each t [] = unfold given_by in sym (append-nil (addresses t))
  addresses_each t (e ∷ es) =
      let after = happen child set t e in
      addresses_each after.tree es
      ∙ ap (λ (l : List ℕ). l ++ given_by (grow child set after.tree es).replies) (each t e)
      ∙ append_assoc (addresses t) (given_by after.replies) (given_by (grow child set after.tree es).replies)
      ∙ ap (λ (l : List ℕ). addresses t ++ l) (sym (given_by-append after.replies (grow child set after.tree es).replies))

  pub nodes_each : (es : List Event) → addresses (grown child set es) ≡ root ∷ given_in child set es
  unfolding grown given_in bare_root addresses
  nodes_each es =
      addresses_each bare_root es ∙ ap (λ (a : ℕ). a ∷ given_by (grow child set bare_root es).replies) (address_in-fresh root)

pub addresses-grow : (t : Tree) (es : List Event)
    → addresses (grow child_of set_limit t es).tree ≡ addresses t ++ given_by (grow child_of set_limit t es).replies
addresses-grow = addresses_each child_of set_limit addresses-happen

pub addresses-grown : (es : List Event) → addresses (grown child_of set_limit es) ≡ root ∷ given_in child_of set_limit es
addresses-grown = nodes_each child_of set_limit addresses-happen
