-- The letters of a text, and the kinds of a plan's requests, are the kinds of the plan's items, each by induction on the items; so there are as many
-- letters as nodes. Assumes nothing.
use Prim.Native.Nat.{ℕ, suc, ◌+◌}
use mathlib.Core.Path.{◌≡◌, refl, sym, ap, ap₂, ◌∙◌}
use mathlib.Core.List.{List, [], ◌∷◌, ◌++◌, map, map-append, append_assoc, append-nil}
use lib.ListN.{length, length-append}
use Rattle.address.specs.Bits.{root}
use Rattle.address.specs.declared.Kind.{Kind}
use Rattle.address.specs.declared.Kind.TheVariants.{Router, Host}
use Rattle.node.specs.Node.{fresh}
use Rattle.node.specs.declared.Node.{Node}
use Rattle.plan.specs.Grammar.{Items, none, host, router, closing, items_text, plan_text}
use Rattle.plan.specs.Hall.{items, nodes}
use Rattle.halls.specs.Requests.{requests_in, requests}
use Rattle.halls.specs.Halls.{kind_of, letters}

-- the kinds of a group's items, in the order of the text
kinds_in : Items → List Kind
kinds_in none = []
kinds_in (host behind) = Host ∷ kinds_in behind
kinds_in (router group behind) = Router ∷ (kinds_in group ++ kinds_in behind)

letters-items : (group : Items) (text : List ℕ) → letters (items_text group ++ text) ≡ kinds_in group ++ letters text
unfolding kinds_in letters items_text
letters-items none text = refl
letters-items (host behind) text = ap (λ (l : List Kind). Host ∷ l) (letters-items behind text)
letters-items (router group behind) text =
    ap (λ (l : List Kind). Router ∷ l)
    (ap letters (append_assoc (items_text group) (closing ∷ items_text behind) text)
    ∙ letters-items group (closing ∷ (items_text behind ++ text))
    ∙ ap (λ (l : List Kind). kinds_in group ++ l) (letters-items behind text)
    ∙ sym (append_assoc (kinds_in group) (kinds_in behind) (letters text)))

kinds-requests_in : (group : Items) (n : Node) → map kind_of (requests_in n group) ≡ kinds_in group
unfolding kinds_in requests_in kind_of
kinds-requests_in none n = refl
kinds-requests_in (host behind) n = ap (λ (l : List Kind). Host ∷ l) (kinds-requests_in behind _)
kinds-requests_in (router group behind) n =
    ap (λ (l : List Kind). Router ∷ l) (map-append kind_of (requests_in _ group) (requests_in _ behind)
    ∙ ap₂ (λ (a b : List Kind). a ++ b) (kinds-requests_in group _) (kinds-requests_in behind _))

pub letters-plan : (plan : Items) → letters (plan_text plan) ≡ Router ∷ map kind_of (requests plan)
unfolding letters plan_text requests
letters-plan plan =
    ap (λ (l : List Kind). Router ∷ l)
    (letters-items plan (closing ∷ []) ∙ append-nil (kinds_in plan) ∙ sym (kinds-requests_in plan (fresh root)))

-- as many letters as nodes

length-kinds_in : (group : Items) → length (kinds_in group) ≡ items group
unfolding kinds_in items
length-kinds_in none = refl
length-kinds_in (host behind) = ap suc (length-kinds_in behind)
length-kinds_in (router group behind) =
    ap suc (length-append (kinds_in group) (kinds_in behind) ∙ ap₂ (λ (a b : ℕ). a + b) (length-kinds_in group) (length-kinds_in behind))

pub nodes-letters : (plan : Items) → nodes plan ≡ length (letters (plan_text plan))
unfolding letters plan_text nodes
nodes-letters plan =
    sym (ap (λ (l : List Kind). suc (length l)) (letters-items plan (closing ∷ []) ∙ append-nil (kinds_in plan)) ∙ ap suc (length-kinds_in plan))
