-- The next child of a tree that is sound: an address whose last step is the child i of a node has the address before it in the tree exactly if
-- the node is there with i children of the kind or more, and is itself not there exactly if it has no more. So it is the child that the node
-- gives next, by its address and counts. Assumes nothing.
use mathlib.Core.Path.{◌≡◌, refl, sym, ap, ap₂, subst, ◌∙◌}
use mathlib.Core.Bool.{true}
use mathlib.Core.Logic.{⊎_elim, ◌↔◌}
use mathlib.Core.List.Memᴰ
use mathlib.Core.List.{List, [], ◌∷◌}
use Prim.Native.Nat.{ℕ, zero, suc, ◌^◌, ◌<◌, ◌≤◌}
use native.Mathlib.Nat.{lt_of_not-le, eq-zero-or-pos}
use native.Mathlib.Omega.{arith}
use lib.ListN.{length}
use Rattle.address.specs.Bits.{longest, number}
use Rattle.address.specs.Steps.{Step, child, steps, spelled, address_of}
use Rattle.address.specs.Address.{bit_length, is_host}
use Rattle.address.specs.Numbers.{IsAddress}
use Rattle.address.specs.Cuts.{AllRouters}
use Rattle.address.specs.declared.Kind.{Kind}
use Rattle.address.proofs.Numbers.{bit_length-le}
use Rattle.address.proofs.Steps.{address_of-root, address_of-steps, spelled-steps, length-spelled, steps-address_of, parent-address_of}
use Rattle.address.proofs.Answers.{host_last-routers, is_host-steps}
use Rattle.address.proofs.Ancestors.{routers-above, length-tail, address-tail, steps-tail, steps_injective}
use Rattle.node.specs.Node.{address_in, count, child_bits}
use Rattle.node.specs.declared.Node.{Node}
use Rattle.node.specs.Node.{Given}
use Rattle.node.proofs.ChildLaws.{length-child_bits}
use Rattle.node.proofs.Children.{below-no_cap, MayGive, may_give, child_of-given, steps-child, address-child}
use Rattle.tree.specs.Tree.{Tree, standing, record_of, addresses, InTree}
use Rattle.tree.proofs.Sound.{Sound}
use Rattle.tree.proofs.Trees.{in_tree-record_of, address_in-record_of, record_of-in_tree}
use Rattle.journal.specs.Replay.{before, is_next}
use Rattle.journals.specs.Replays.{recovered, IsNextChild}
use Rattle.journals.proofs.Among.{is_next_true, is_next-known}
use Rattle.journals.proofs.Recovered.{address_in-recovered, count-recovered, limit-recovered, is_good-recovered}
use Rattle.journals.proofs.Before.{above_root, before-zero, before-first, before-further}

-- an address and its last step: the child i of a kind of the node whose steps are the others

module _ {a : ℕ} (h : IsAddress a) (kind : Kind) (i : ℕ) (up : List Step) (e : steps a ≡ child kind i ∷ up) where
  address_of-last : address_of (child kind i ∷ up) ≡ a
  address_of-last = ap address_of (sym e) ∙ address_of-steps h

  routers_up : AllRouters up
  routers_up = routers-above a (child kind i) [] up e

  short-last : length (spelled (child kind i ∷ up)) ≤ longest
  short-last = omega (arith, length-tail h [] (child kind i ∷ up) e, bit_length-le h.fits)

  address_up : IsAddress (address_of up)
  address_up = address-tail h (child kind i ∷ []) up e

  steps_up : steps (address_of up) ≡ up
  steps_up = steps-tail h (child kind i ∷ []) up e

  -- the address before it

  before-none : i ≡ 0 → before a ≡ address_of up
  before-none z =
      ap before (sym address_of-last) ∙ ap (λ (k : ℕ). before (address_of (child kind k ∷ up))) z ∙ before-first kind up routers_up

  before-some : (j : ℕ) → i ≡ suc j → before a ≡ address_of (child kind j ∷ up)
  before-some j z =
      ap before (sym address_of-last) ∙ ap (λ (k : ℕ). before (address_of (child kind k ∷ up))) z ∙ before-further kind j up address_up.some

module _ (t : Tree) (s : Sound t) where
  module _ {a : ℕ} (h : IsAddress a) (kind : Kind) (i : ℕ) (up : List Step) (e : steps a ≡ child kind i ∷ up) where
    -- where it is not there, the node has given no child beyond those before it
    count-le : (n : Node) → record_of (address_of up) t ≡ standing n → (InTree a t → ⊥) → count kind n ≤ i
    count-le n stands out =
        omega (arith, lt_of_not-le {n = suc i} {m = count kind n} (λ more. there (s.given (address_of up) n kind i stands more)))
      where
        there : (d : ℕ) × InTree d t × (steps d ≡ child kind i ∷ steps (address_of up)) → ⊥
        there (d, m, f) =
            let same : steps a ≡ steps d = e ∙ ap (λ (l : List Step). child kind i ∷ l) (sym (steps_up h kind i up e)) ∙ sym f in
            out (Memᴰ.cast (steps_injective h (s.address d m) same) m)

    -- by its address and counts it may give the child
    may_give_lem : (n : Node) → record_of (address_of up) t ≡ standing n → count kind n ≡ i → MayGive (recovered n) kind
    unfolding bit_length
    may_give_lem n stands c =
        let own = address_in-recovered n ∙ address_in-record_of (address_of up) n t stands in
        let good = is_good-recovered n (s.good (address_of up) n stands) in
        let above = steps_up h kind i up e in
        let same = ap bit_length own in
        let long = ap length (spelled-steps (address_up h kind i up e)) in
        let longer = ap (λ (ss : List Step). length (spelled ss)) above in
        record {
          good = good;
          inner = ap is_host own ∙ is_host-steps (address_up h kind i up e)
              ∙ host_last-routers (steps (address_of up)) (subst AllRouters (sym above) (routers_up h kind i up e));
          below = below-no_cap (recovered n) good (subst IsAddress (sym own) (address_up h kind i up e)) kind (limit-recovered n kind);
          short = omega (arith, length-child_bits (recovered n) kind, count-recovered n kind, length-spelled kind i up, short-last h kind i up e);
        }

    -- it is the child that the node gives next
    next-child : (n : Node) → record_of (address_of up) t ≡ standing n → count kind n ≡ i → IsNextChild t a
    next-child n stands c =
        let may = may_give_lem n stands c in
        let own = address_in-record_of (address_of up) n t stands in
        let there = address_in-recovered n ∙ own in
        let address_own : IsAddress (address_in (recovered n)) = subst IsAddress (sym there) (address_up h kind i up e) in
        let same : child kind (count kind (recovered n)) ∷ steps (address_in (recovered n)) ≡ steps a =
        ap₂ (λ (k : ℕ) (l : List Step). child kind k ∷ l) (count-recovered n kind ∙ c) (ap steps there ∙ steps_up h kind i up e) ∙ sym e in
        record {
          node = n;
          kind = kind;
          stands = ap (λ (x : ℕ). record_of x t) own ∙ stands;
          given = ap (λ (g : Given). g.refusal) (child_of-given may);
          child = ap (λ (g : Given). g.child.number) (child_of-given may)
              ∙ steps_injective (address-child may address_own) h (steps-child may address_own ∙ same);
        }

  -- the node stands with that count, where the address before it is there and itself is not
  known-node : {a : ℕ} (h : IsAddress a) (kind : Kind) (i : ℕ) (up : List Step) → steps a ≡ child kind i ∷ up → InTree (before a) t → (InTree a t → ⊥)
      → (n : Node) × (record_of (address_of up) t ≡ standing n) × (count kind n ≡ i)
  known-node h kind zero up e there out =
      let here : InTree (address_of up) t = Memᴰ.cast (sym (before-none h kind 0 up e refl)) there in
      let (n, stands, own) = record_of-in_tree t here in
      (n, stands, omega (arith, count-le h kind 0 up e n stands out))
  known-node h kind (suc j) up e there out =
      let d = address_of (child kind j ∷ up) in
      let routers = routers_up h kind (suc j) up e in
      let short : length (spelled (child kind j ∷ up)) ≤ longest =
      omega (arith, short-last h kind (suc j) up e, length-spelled kind (suc j) up, length-spelled kind j up) in
      let one : InTree d t = Memᴰ.cast (sym (before-some h kind (suc j) up e j refl)) there in
      let lower = above_root kind j up (address_up h kind (suc j) up e).some in
      let here : InTree (address_of up) t =
      Memᴰ.cast (sym (parent-address_of (child kind j) up short routers)) (s.parents d one (λ z. omega arith)) in
      let (n, stands, own) = record_of-in_tree t here in
      let below : steps d ≡ child kind j ∷ steps (address_of up) =
      steps-address_of (child kind j ∷ up) short routers ∙ ap (λ (l : List Step). child kind j ∷ l) (sym (steps_up h kind (suc j) up e)) in
      (n, stands, omega (arith, count-le h kind (suc j) up e n stands out, s.counted (address_of up) d n kind j stands one below))

  -- zero is before itself, and no address; the root is there from the beginning
  pub is_next_child_known : {a : ℕ} → a < 2 ^ longest → InTree (before a) t → (InTree a t → ⊥) → IsNextChild t a
  is_next_child_known {a} fits there out = go (steps a) refl
    where
      some : 0 < a
      some =
          ⊎_elim (λ z. absurd (omega (arith, (s.address 0 (Memᴰ.cast (sym (ap before z ∙ before-zero)) there)).some))) (λ p. p)
          (eq-zero-or-pos a)

      h : IsAddress a
      h = record { some = some; fits = fits }

      go : (ss : List Step) → steps a ≡ ss → IsNextChild t a
      go [] e = absurd (out (Memᴰ.cast (sym (address_of-steps h) ∙ ap address_of e ∙ address_of-root) s.rooted))
      go (child kind i ∷ up) e =
          let (n, stands, c) = known-node h kind i up e there out in
          next-child h kind i up e n stands c

  -- and the other way round

  module _ {a : ℕ} (c : IsNextChild t a) where
    abbrev asked : ℕ
    asked = address_in c.node

    given-may : MayGive (recovered c.node) c.kind
    given-may = may_give (recovered c.node) c.kind c.given

    is_given : number (child_bits (recovered c.node) c.kind) ≡ a
    is_given = sym (ap (λ (g : Given). g.child.number) (child_of-given given-may)) ∙ c.child

    in_tree-asked : InTree asked t
    in_tree-asked = in_tree-record_of asked c.node t c.stands

    address-asked : IsAddress asked
    address-asked = s.address asked in_tree-asked

    address-recovered : IsAddress (address_in (recovered c.node))
    address-recovered = subst IsAddress (sym (address_in-recovered c.node)) address-asked

    pub address-next : IsAddress a
    address-next = subst IsAddress is_given (address-child given-may address-recovered)

    steps-given : steps a ≡ child c.kind (count c.kind c.node) ∷ steps asked
    steps-given =
        ap steps (sym is_given) ∙ steps-child given-may address-recovered
        ∙ ap₂ (λ (k b : ℕ). child c.kind k ∷ steps b) (count-recovered c.node c.kind) (address_in-recovered c.node)

    pub in_tree-before : InTree (before a) t
    in_tree-before = go (count c.kind c.node) refl steps-given
      where
        go : (i : ℕ) → count c.kind c.node ≡ i → steps a ≡ child c.kind i ∷ steps asked → InTree (before a) t
        go zero z e =
            Memᴰ.cast (before-none address-next c.kind 0 (steps asked) e refl ∙ address_of-steps address-asked) in_tree-asked
        go (suc j) z e =
            let (d, m, f) = s.given asked c.node c.kind j c.stands (omega arith) in
            Memᴰ.cast (before-some address-next c.kind (suc j) (steps asked) e j refl ∙ ap address_of (sym f) ∙ address_of-steps (s.address d m)) m

    pub not-in_tree : InTree a t → ⊥
    not-in_tree i = omega (arith, s.counted asked a c.node c.kind (count c.kind c.node) c.stands i steps-given)

  -- the two look-ups decide it
  pub is_next-sound : (a : ℕ) → a < 2 ^ longest → (is_next (addresses t) a ≡ true) ↔ IsNextChild t a
  is_next-sound a fits = (
    λ e. let (there, out) = is_next_true a (addresses t) e in is_next_child_known fits there out,
    λ c. is_next-known a (addresses t) (in_tree-before c) (not-in_tree c),
  )
