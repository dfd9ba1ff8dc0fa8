-- The parts of a text that the two readers read, one law for each way out of them: a host, a router with its group, a group's ")", the text's end
-- and the faults. Assumes nothing.
use mathlib.Core.Path.{◌≡◌, refl, sym, ap, ap₂, ◌∙◌}
use mathlib.Core.List.{List, [], ◌∷◌}
use Prim.Native.Nat.{ℕ, suc, ◌+◌, ◌≤◌, ◌<◌}
use native.Mathlib.Omega.{arith}
use lib.ListN.{length, drop, set, get_or, length-drop}
use lib.Seq.{drop-cons, drop-drop}
use Rattle.address.specs.declared.Address.{Address}
use Rattle.address.specs.declared.Kind.TheVariants.{Router, Host}
use Rattle.node.specs.Node.{fresh, child_of}
use Rattle.node.specs.declared.Node.{Node}
use Rattle.node.specs.Node.{Given}
use Rattle.plan.specs.Limits.{most_groups}
use Rattle.plan.specs.Grammar.{letter_h, closing}
use Rattle.plan.specs.Hall.{child_in}
use Rattle.plan.specs.Reading.{inside, to, behind, ended, fault_at, read_from}
use Rattle.plan.specs.Progress.{Progress, matched, PartRead, PartStops}
use Rattle.plan.proofs.Openings.{matched-le}
use Rattle.plan.proofs.MoveLaws.{closes, hosts, routers, moved_move, fault-item}
use Rattle.plan.proofs.Places.{Opens, place_to, place-fault, place_end, read_from-opened, read_from_unopened}
use Rattle.plan.proofs.Parts.{passed, given-none, part-passed, part_then, part_stops, part-deeper}

-- what stands at a place, where it is neither ")" nor an H, may be opened by an R
may_open : (text : List ℕ) (p : ℕ) (n : Node) (up : List Node) → p < length text
    → (get_or text p 0 ≡ closing → ⊥) → (get_or text p 0 ≡ letter_h → ⊥) → length (n ∷ up) < most_groups
    → Opens (inside (n ∷ up)) (drop p text) (child_in (child_of n Router) ∷ []) (fresh (child_in (child_of n Router)) ∷ (child_of n Router).node ∷ up)
unfolding ended
may_open text p n up h c l room = record {
  named = moved_move (routers n up refl room);
  other = λ o others e r.
      let same : get_or text p 0 ≡ o = ap (λ (s : List ℕ). get_or s 0 0) (sym (drop-cons text p 0 h) ∙ e) in
      fault-item n up o (λ z. c (same ∙ z)) (λ z. l (same ∙ z)) (λ z m. r z);
  ends = λ q. refl;
}

module _ {text words after : List ℕ} {from end : Progress} {allowed : ℕ} {node : Node} (h : from.place < length text) where
  pub item-host : (g : Given) → get_or text from.place 0 ≡ letter_h → g ≡ child_of node Host → {address : Address} → address ≡ g.child
      → after ≡ set words from.nodes address.number → end ≡ passed from (from.place + 1) (address.number ∷ [])
      → PartRead text words after from end allowed (λ up. inside (node ∷ up)) (λ up. inside (g.node ∷ up))
  item-host g o e {address} is w t =
      part-passed (from.place + 1) (address.number ∷ []) t w (omega arith) (omega arith) λ up l.
      place_to text from.place (inside (node ∷ up)) h (
      moved_move (hosts node up o)
      ∙ ap (λ (x : Given). to (child_in x ∷ []) (inside (x.node ∷ up))) (sym e)
      ∙ ap (λ (a : Address). to (a.number ∷ []) (inside (g.node ∷ up))) (sym is)
      )

module _ (text : List ℕ) (p : ℕ) {allowed : ℕ} (node : Node) (h : p < length text) (c : get_or text p 0 ≡ closing → ⊥) (l : get_or text p 0 ≡ letter_h → ⊥) where
  pub item-full : allowed ≡ 0 → PartStops text p p allowed (λ up. inside (node ∷ up))
  item-full z = record { reads = λ up k. place-fault text p (inside (node ∷ up)) h (fault-item node up (get_or text p 0) c l (λ r m. omega arith)) }

  pub item_unopened : 0 < allowed → {q : ℕ} → q ≡ p + matched (drop p text) → matched (drop p text) < 2
      → PartStops text p q allowed (λ up. inside (node ∷ up))
  item_unopened some o m = record {
    reads = λ up k.
        read_from_unopened p (drop p text) (may_open text p node up h c l (omega arith)) m
        ∙ ap (λ (k : ℕ). fault_at k) (sym o);
  }

-- a router with its group, one behind the other

module _ (text words mid : List ℕ) (from at : Progress) {allowed less : ℕ} (node : Node)
    (h : from.place < length text) (c : get_or text from.place 0 ≡ closing → ⊥) (l : get_or text from.place 0 ≡ letter_h → ⊥)
    (q : ℕ) (two : q ≡ from.place + 2) (m : matched (drop from.place text) ≡ 2) (g : Given) (e : g ≡ child_of node Router)
    {address : Address} (is : address ≡ g.child)
    (w : mid ≡ set words from.nodes address.number) (t : at ≡ passed from q (address.number ∷ [])) {owner : Node} (f : owner ≡ fresh address.number)
    (a : allowed ≡ suc less) where
  -- the router itself
  named : PartRead text words mid from at allowed (λ up. inside (node ∷ up)) (λ up. inside (owner ∷ g.node ∷ up))
  named =
      let next : suc (suc from.place) ≡ q = omega arith in
      let here = drop from.place text in
      let rest : drop 2 here ≡ drop q text = drop-drop 2 from.place text ∙ ap (λ (r : ℕ). drop r text) (sym two) in
      part-passed q (address.number ∷ []) t w (omega arith) (omega (arith, (matched-le here).0, length-drop from.place text)) λ up k.
      read_from-opened from.place here (may_open text from.place node up h c l (omega arith)) (omega arith)
      ∙ ap (λ (x : Given).
      behind (child_in x ∷ []) (read_from (suc (suc from.place)) (inside (fresh (child_in x) ∷ x.node ∷ up)) (drop 2 here))) (sym e)
      ∙ ap (λ (x : Address).
      behind (x.number ∷ []) (read_from (suc (suc from.place)) (inside (fresh x.number ∷ g.node ∷ up)) (drop 2 here))) (sym is)
      ∙ ap (λ (n : Node). behind (address.number ∷ []) (read_from (suc (suc from.place)) (inside (n ∷ g.node ∷ up)) (drop 2 here))) (sym f)
      ∙ ap₂ (λ (r : ℕ) (s : List ℕ). behind (address.number ∷ []) (read_from r (inside (owner ∷ g.node ∷ up)) s)) next rest

  pub item-router : {after : List ℕ} {end : Progress} → PartRead text mid after at end less (λ up. inside (owner ∷ up)) (λ up. inside up)
      → PartRead text words after from end allowed (λ up. inside (node ∷ up)) (λ up. inside (g.node ∷ up))
  item-router r = part_then named (part-deeper g.node a r)

  pub item-router-stops : {place : ℕ} → PartStops text at.place place less (λ up. inside (owner ∷ up))
      → PartStops text from.place place allowed (λ up. inside (node ∷ up))
  item-router-stops s = part_stops named (record { reads = λ up k. s.reads (g.node ∷ up) (omega arith) })

-- the end of a group: its ")", or the text's end

module _ {text words mid : List ℕ} {from at : Progress} {allowed : ℕ} {owner node : Node}
    (r : PartRead text words mid from at allowed (λ up. inside (owner ∷ up)) (λ up. inside (node ∷ up))) where
  pub group_closed : at.place < length text → get_or text at.place 0 ≡ closing
      → PartRead text words mid from (record { place = at.place + 1; nodes = at.nodes; missing = at.missing }) allowed (λ up. inside (owner ∷ up)) (λ up. inside up)
  group_closed h o =
      part_then r (
      part-passed (at.place + 1) [] (given-none at (at.place + 1)) refl (omega arith) (omega arith) λ up k.
      place_to text at.place (inside (node ∷ up)) h (moved_move (closes node up o))
      )

  pub group_unclosed : length text ≤ at.place → PartStops text from.place at.place allowed (λ up. inside (owner ∷ up))
  unfolding ended
  group_unclosed h = part_stops r (record { reads = λ up k. place_end text at.place (inside (node ∷ up)) h })
