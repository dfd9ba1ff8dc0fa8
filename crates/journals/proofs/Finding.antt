-- A node's record among the words: zeros behind the addresses are no nodes and nobody's children, so the address is found exactly if it is in the
-- tree, and the children counted are those of its record, which has at most 64 of a kind; its limits are 64 and 64. Assumes nothing.
use mathlib.Core.Path.{◌≡◌, refl, sym, ap, ap₂, ◌∙◌}
use mathlib.Core.Bool.{Bool, true, false, true≢false}
use mathlib.Core.Logic.{◌⊎◌, inl, inr, ⊎_elim, ◌↔◌}
use mathlib.Core.List.Memᴰ
use mathlib.Core.List.{List, ◌++◌, Memᴰ}
use Prim.Native.Nat.{ℕ, zero, suc, ◌≤◌, min}
use native.Mathlib.Decide.{ℕ_discrete}
use native.Mathlib.Omega.{arith}
use borrow.Author.Tests.{eq-eqb, ne_eqb}
use Rattle.address.specs.Address.{is_host, parent}
use Rattle.address.specs.declared.Kind.{Kind}
use Rattle.address.specs.declared.Kind.TheVariants.{Router, Host}
use Rattle.address.proofs.Answers.{parent-small}
use Rattle.node.specs.Node.{address_in, fresh, with_counts, count, is_good, no_cap, limit}
use Rattle.node.specs.declared.Node.{Node}
use Rattle.node.proofs.Children.{count-host, count-le}
use Rattle.tree.specs.Tree.{Tree, standing, record_of, addresses, InTree}
use Rattle.tree.proofs.Sound.{Sound}
use Rattle.tree.proofs.Trees.{in_tree-record_of, address_in-record_of}
use Rattle.journal.specs.Replay.{among}
use Rattle.journal.specs.Record.{children, most_counted, record_in}
use Rattle.journals.specs.Replays.{recovered, zeros_behind}
use Rattle.journals.proofs.Among.{among_mem, among-not, among_true, among_false}
use Rattle.journals.proofs.Counting.{children-append, children-none}
use Rattle.journals.proofs.Counts.{Counted}

-- ---- zeros

mem_zeros : (zeros w : ℕ) → Memᴰ w (zeros_behind zeros) → w ≡ 0
mem_zeros zero w i = absurd (Memᴰ.not-nil i)
mem_zeros (suc k) w i = ⊎_elim (λ e. e) (mem_zeros k w) (Memᴰ.cases_cons i)

module _ (ws : List ℕ) (zeros a : ℕ) (some : a ≡ 0 → ⊥) where
  mem_before-zeros : Memᴰ a (ws ++ zeros_behind zeros) → Memᴰ a ws
  mem_before-zeros i = ⊎_elim (λ i. i) (λ i. absurd (some (mem_zeros zeros a i))) (Memᴰ.append_cases ws i)

  children-zeros : (kind : Kind) → children kind a (ws ++ zeros_behind zeros) ≡ children kind a ws
  children-zeros kind =
      let none : children kind a (zeros_behind zeros) ≡ 0 =
      children-none kind a (zeros_behind zeros) (λ w i e. some (sym e ∙ ap parent (mem_zeros zeros w i) ∙ parent-small {n = 0} (omega arith))) in
      children-append kind a ws (zeros_behind zeros) ∙ omega arith

-- ---- a record

module _ (words : List ℕ) (a : ℕ) where
  -- the children among the words, by a count of one octet, and 64 and 64
  abbrev node_found : Node
  node_found = with_counts (min (children Router a words) most_counted) (min (children Host a words) most_counted) (fresh a)

  module _ (some : a ≡ 0 → ⊥) (there : among a words ≡ true) where
    found-there : (record_in words a).found ≡ true
    unfolding record_in
    found-there = rw (ne_eqb a 0 some, there)

    node-there : (record_in words a).node ≡ node_found
    unfolding record_in
    node-there = rw (ne_eqb a 0 some, there)

  found-zero : a ≡ 0 → (record_in words a).found ≡ false
  unfolding record_in
  found-zero z = rw (eq-eqb a 0 z)

  found-not : (a ≡ 0 → ⊥) → among a words ≡ false → (record_in words a).found ≡ false
  unfolding record_in
  found-not some out = rw (ne_eqb a 0 some, out)

  -- ---- of every list of words

  data Finds : Type 0 where
    there : (a ≡ 0 → ⊥) → among a words ≡ true → Finds
    not_there : (a ≡ 0) ⊎ (among a words ≡ false) → (record_in words a).found ≡ false → (record_in words a).node ≡ fresh 0 → Finds

  node-zero : a ≡ 0 → (record_in words a).node ≡ fresh 0
  unfolding record_in
  node-zero z = rw (eq-eqb a 0 z)

  node-not : (a ≡ 0 → ⊥) → among a words ≡ false → (record_in words a).node ≡ fresh 0
  unfolding record_in
  node-not some out = rw (ne_eqb a 0 some, out)

  finds : Finds
  finds = go (ℕ_discrete a 0) (among a words) refl
    where
      go : Dec (a ≡ 0) → (b : Bool) → among a words ≡ b → Finds
      go (yes z) b e = not_there (inl z) (found-zero z) (node-zero z)
      go (no some) true e = there some e
      go (no some) false e = not_there (inr e) (found-not some e) (node-not some e)

  pub found-exactly : ((record_in words a).found ≡ true) ↔ ((a ≡ 0 → ⊥) × Memᴰ a words)
  found-exactly = (λ e. forth finds e, λ h. back finds h)
    where
      forth : Finds → (record_in words a).found ≡ true → (a ≡ 0 → ⊥) × Memᴰ a words
      forth (there some e) f = (some, among_true a words e)
      forth (not_there out e n) f = absurd (true≢false (sym f ∙ e))

      back : Finds → (a ≡ 0 → ⊥) × Memᴰ a words → (record_in words a).found ≡ true
      back (there some e) h = found-there some e
      back (not_there (inl z) e n) h = absurd (h.0 z)
      back (not_there (inr out) e n) h = absurd (among_false a words out h.1)

  pub found-node : (record_in words a).found ≡ true → (record_in words a).node ≡ node_found
  found-node f = go finds
    where
      go : Finds → (record_in words a).node ≡ node_found
      go (there some e) = node-there some e
      go (not_there out e n) = absurd (true≢false (sym f ∙ e))

  pub found-counts : (record_in words a).found ≡ true
      → (address_in (record_in words a).node ≡ a) × ((kind : Kind) → count kind (record_in words a).node ≡ min (children kind a words) most_counted)
  found-counts f = (ap address_in (found-node f) ∙ own, λ kind. ap (count kind) (found-node f) ∙ counts kind)
    where
      own : address_in node_found ≡ a
      own = unfold with_counts fresh in refl

      counts : (kind : Kind) → count kind node_found ≡ min (children kind a words) most_counted
      counts Router = unfold with_counts count in refl
      counts Host = unfold with_counts count in refl

  pub found-limits : (kind : Kind) → (record_in words a).found ≡ true → limit kind (record_in words a).node ≡ no_cap
  found-limits kind f = ap (limit kind) (found-node f) ∙ limits kind
    where
      limits : (kind : Kind) → limit kind node_found ≡ no_cap
      limits Router = unfold with_counts fresh limit in refl
      limits Host = unfold with_counts fresh limit in refl

  pub node-not_found : (record_in words a).found ≡ false → (record_in words a).node ≡ fresh 0
  node-not_found f = go finds
    where
      go : Finds → (record_in words a).node ≡ fresh 0
      go (there some e) = absurd (true≢false (sym (found-there some e) ∙ f))
      go (not_there out e n) = n

-- a count has one octet and more
count-le_most : (n : Node) → is_good n ≡ true → (kind : Kind) → count kind n ≤ most_counted
count-le_most n g kind = go (is_host (address_in n)) refl
  where
    go : (h : Bool) → is_host (address_in n) ≡ h → count kind n ≤ most_counted
    go true h = omega (arith, count-host n g h kind)
    go false h = omega (arith, count-le n g h kind)

-- ---- a tree

module _ (t : Tree) (s : Sound t) (counted : Counted t) (zeros a : ℕ) where
  abbrev words : List ℕ
  words = addresses t ++ zeros_behind zeros

  some-in_tree : InTree a t → a ≡ 0 → ⊥
  some-in_tree i z = omega (arith, (s.address a i).some)

  among-in_tree : InTree a t → among a words ≡ true
  among-in_tree i = among_mem a words (Memᴰ.append_left (zeros_behind zeros) i)

  pub record_in-found : (n : Node) → record_of a t ≡ standing n → ((record_in words a).found ≡ true) × ((record_in words a).node ≡ recovered n)
  unfolding recovered
  record_in-found n stands =
      let i = in_tree-record_of a n t stands in
      let some = some-in_tree i in
      let counts : (kind : Kind) → min (children kind a words) most_counted ≡ count kind n = λ kind.
      omega (arith, children-zeros (addresses t) zeros a some kind, counted a n kind stands, count-le_most n (s.good a n stands) kind) in (
        found-there words a some (among-in_tree i),
        node-there words a some (among-in_tree i) ∙ ap₂ (λ (r h : ℕ). with_counts r h (fresh a)) (counts Router) (counts Host)
            ∙ ap (λ (x : ℕ). with_counts (count Router n) (count Host n) (fresh x)) (sym (address_in-record_of a n t stands)),
      )

  pub record_in-absent : ((record_in words a).found ≡ false) ↔ (InTree a t → ⊥)
  record_in-absent = (
    λ e i. true≢false (sym (found-there words a (some-in_tree i) (among-in_tree i)) ∙ e),
    λ out. go (ℕ_discrete a 0) out,
  )
    where
      go : Dec (a ≡ 0) → (InTree a t → ⊥) → (record_in words a).found ≡ false
      go (yes z) out = found-zero words a z
      go (no some) out = found-not words a some (among-not a words (λ i. out (mem_before-zeros (addresses t) zeros a some i)))
