-- A text of the grammar is read whole, with the addresses of its hall: the items of a group give the children that its node is asked for, one
-- after another, and the reading goes on behind their ")". Assumes nothing.
use Prim.Native.Nat.{ℕ, suc, ◌+◌, ◌≤◌}
use mathlib.Core.Path.{◌≡◌, refl, sym, ap, ◌∙◌}
use mathlib.Core.List.{List, [], ◌∷◌, ◌++◌, map, map-append, append-nil}
use native.Mathlib.Omega.{arith}
use lib.ListN.{length, length-append}
use Rattle.address.specs.Bits.{root}
use Rattle.address.specs.declared.Kind.TheVariants.{Router, Host}
use Rattle.node.specs.Node.{fresh, child_of}
use Rattle.node.specs.declared.Node.{Node}
use Rattle.plan.specs.Limits.{most_groups}
use Rattle.plan.specs.Grammar.{letter_h, closing, Items, none, host, router, items_text, plan_text, groups_open, Spells}
use Rattle.plan.specs.Hall.{child_in, answers, hall}
use Rattle.plan.specs.Reading.{start, inside, whole, behind, ended, read_from, reading}
use Rattle.plan.proofs.MoveLaws.{starts, closes, hosts, routers, moved_move, read_from_to, read_from_open, behind-append}
use Rattle.plan.proofs.Spelling.{items_text-router}

-- the children that items give
abbrev children : Node → Items → List ℕ
children n i = map child_in (answers n i)

children-router : (n : Node) (g i : Items) → children n (router g i)
    ≡ child_in (child_of n Router) ∷ (children (fresh (child_in (child_of n Router))) g ++ children (child_of n Router).node i)
unfolding answers
children-router n g i =
    ap (λ (l : List ℕ). child_in (child_of n Router) ∷ l)
    (map-append child_in (answers (fresh (child_in (child_of n Router))) g) (answers (child_of n Router).node i))

-- up to the ")" of their group and past it
read_from-items : (i : Items) (p : ℕ) (n : Node) (up : List Node) (s : List ℕ) → length (n ∷ up) + groups_open i ≤ most_groups
    → read_from p (inside (n ∷ up)) (items_text i ++ closing ∷ s)
    ≡ behind (map child_in (answers n i)) (read_from (p + length (items_text i) + 1) (inside up) s)
unfolding items_text groups_open answers
read_from-items none p n up s l =
    let place : suc p ≡ p + 0 + 1 = omega arith in
    read_from_to p (inside (n ∷ up)) closing s (moved_move (closes n up refl)) ∙ ap (λ (q : ℕ). behind [] (read_from q (inside up) s)) place
read_from-items (host i) p n up s l =
    let next = (child_of n Host).node in
    let place : suc p + length (items_text i) + 1 ≡ p + suc (length (items_text i)) + 1 = omega arith in
    read_from_to p (inside (n ∷ up)) letter_h (items_text i ++ closing ∷ s) (moved_move (hosts n up refl))
    ∙ ap (behind (child_in (child_of n Host) ∷ [])) (read_from-items i (suc p) next up s l)
    ∙ sym (behind-append (child_in (child_of n Host) ∷ []) (children next i) (read_from (suc p + length (items_text i) + 1) (inside up) s))
    ∙ ap (λ (q : ℕ). behind (child_in (child_of n Host) ∷ children next i) (read_from q (inside up) s)) place
read_from-items (router g i) p n up s l =
    let own = child_in (child_of n Router) in
    let next = (child_of n Router).node in
    let behind_group = items_text i ++ closing ∷ s in
    let mid = suc (suc p) + length (items_text g) + 1 in
    let last = read_from (p + suc (suc (length (items_text g ++ closing ∷ items_text i))) + 1) (inside up) s in
    let place : mid + length (items_text i) + 1 ≡ p + suc (suc (length (items_text g ++ closing ∷ items_text i))) + 1 =
    omega (arith, length-append (items_text g) (closing ∷ items_text i)) in
    ap (read_from p (inside (n ∷ up))) (items_text-router g i (closing ∷ s))
    ∙ read_from_open p (inside (n ∷ up)) (items_text g ++ closing ∷ behind_group) (moved_move (routers n up refl (omega arith)))
    ∙ ap (behind (own ∷ []))
    (read_from-items g (suc (suc p)) (fresh own) (next ∷ up) behind_group (omega arith)
    ∙ ap (behind (children (fresh own) g))
    (read_from-items i mid next up s (omega arith) ∙ ap (λ (q : ℕ). behind (children next i) (read_from q (inside up) s)) place)
    ∙ sym (behind-append (children (fresh own) g) (children next i) last))
    ∙ sym (behind-append (own ∷ []) (children (fresh own) g ++ children next i) last)
    ∙ ap (λ (given : List ℕ). behind given last) (sym (children-router n g i))

reading-plan_text : (plan : Items) → suc (groups_open plan) ≤ most_groups → reading (plan_text plan) ≡ whole (hall plan)
unfolding reading plan_text hall behind read_from ended
reading-plan_text plan within =
    read_from_open 0 start (items_text plan ++ closing ∷ []) (moved_move (starts refl))
    ∙ ap (behind (root ∷ []))
    (read_from-items plan 2 (fresh root) [] [] (omega arith)
    ∙ ap whole (append-nil (children (fresh root) plan)))

pub reading-spells : (text : List ℕ) (plan : Items) → Spells text plan → reading text ≡ whole (hall plan)
reading-spells text plan s = ap reading s.spelled ∙ reading-plan_text plan s.within
