-- Addresses taken one after the other, from the nodes of a tree grown by requests alone: a next child is one request more, which the node that
-- gives it is asked, since without a limit set the node's record is what its address and counts give. So by induction on the addresses they end
-- as another such tree or at the first fault. Assumes nothing.
use mathlib.Core.Path.{◌≡◌, refl, sym, ap, ap₂, subst, subst₂, ◌∙◌}
use mathlib.Core.Logic.{inl, inr}
use mathlib.Core.List.{List, [], ◌∷◌, ◌++◌, map-append, append-nil}
use Prim.Native.Nat.{ℕ, ◌≤◌}
use native.Mathlib.Omega.{arith}
use lib.ListN.{length, length-append}
use lib.Seq.{append_snoc}
use Rattle.address.specs.Bits.{root}
use Rattle.node.specs.Node.{address_in, child_of, set_limit}
use Rattle.node.specs.declared.Node.{Node}
use Rattle.node.proofs.Children.{address_in-fresh}
use Rattle.tree.specs.Tree.{Request, request, asking, bare_root, Reply, replied, ask, happen, grow, grown, addresses, given_by, given_in}
use Rattle.tree.proofs.Growth.{sound-grown}
use Rattle.tree.proofs.Given.{addresses-ask, addresses-grown}
use Rattle.tree.proofs.Runs.{grown_snoc, replies-standing}
use Rattle.journal.specs.Limits.{most_nodes}
use Rattle.journal.specs.Replay.{Replay, known, fault, next, follow, bare}
use Rattle.journal.proofs.ReplayLaws.{follow-fault}
use Rattle.block.specs.Blocks.{AreWords}
use Rattle.journals.specs.Replays.{recovered, IsNextChild, nodes_of, alone, IsReplayed, IsFirstFault}
use Rattle.journals.proofs.Free.{recovered_alone}
use Rattle.journals.proofs.Taking.{Taken, no_child, too_many, one_more, next-sound}

-- ---- a next child is one request more

module _ (rs : List Request) (a : ℕ) (c : IsNextChild (grown child_of set_limit (alone rs)) a) where
  abbrev last : Request
  last = request (address_in c.node) c.kind

  abbrev more : List Request
  more = rs ++ (last ∷ [])

  itself : recovered c.node ≡ c.node
  itself = recovered_alone rs (address_in c.node) c.node c.stands

  grown_more : grown child_of set_limit (alone more) ≡ (ask child_of (grown child_of set_limit (alone rs)) last).tree
  unfolding happen
  grown_more = ap (grown child_of set_limit) (map-append asking rs (last ∷ [])) ∙ grown_snoc child_of set_limit (alone rs) (asking last)

  pub nodes_of_more : nodes_of (alone more) ≡ nodes_of (alone rs) ++ (a ∷ [])
  unfolding given_by
  nodes_of_more =
      ap addresses grown_more ∙ addresses-ask (grown child_of set_limit (alone rs)) last
      ∙ ap (λ (l : List Reply). nodes_of (alone rs) ++ given_by l)
      (replies-standing child_of (grown child_of set_limit (alone rs)) (address_in c.node) c.kind c.node c.stands)
      ∙ ap₂ (λ (n b : ℕ). nodes_of (alone rs) ++ given_by (replied n b ∷ []))
      (ap (λ (n : Node). (child_of n c.kind).refusal) (sym itself) ∙ c.given)
      (ap (λ (n : Node). (child_of n c.kind).child.number) (sym itself) ∙ c.child)

  pub given_in_more : given_in child_of set_limit (alone more) ≡ given_in child_of set_limit (alone rs) ++ (a ∷ [])
  given_in_more =
      cons_tail (sym (addresses-grown (alone more)) ∙ nodes_of_more ∙ ap (λ (l : List ℕ). l ++ (a ∷ [])) (addresses-grown (alone rs)))
    where
      cons_tail : {x : ℕ} {xs ys : List ℕ} → x ∷ xs ≡ x ∷ ys → xs ≡ ys
      cons_tail e = cc

-- ---- what they end as

abbrev pub Outcome : List ℕ → Replay → Type 0
Outcome journal (known nodes) = IsReplayed journal nodes
Outcome journal (fault n) = IsFirstFault journal n

pub outcome : (rs : List Request) (xs : List ℕ) → AreWords xs → length (nodes_of (alone rs)) ≤ most_nodes
    → Outcome (given_in child_of set_limit (alone rs) ++ xs) (follow (known (nodes_of (alone rs))) xs)
unfolding follow
outcome rs [] w few = record { requests = rs; addresses_given = append-nil (given_in child_of set_limit (alone rs)); the_nodes = refl; few = few }
outcome rs (a ∷ xs) w few =
    go (next (known (nodes_of (alone rs))) a) (next-sound (grown child_of set_limit (alone rs)) (sound-grown (alone rs)) a w.0) (λ rs few. outcome rs xs w.1 few)
  where
    go : (r : Replay) → Taken (grown child_of set_limit (alone rs)) a r
        → ((rs : List Request) → length (nodes_of (alone rs)) ≤ most_nodes → Outcome (given_in child_of set_limit (alone rs) ++ xs) (follow (known (nodes_of (alone rs))) xs))
        → Outcome (given_in child_of set_limit (alone rs) ++ (a ∷ xs)) (follow r xs)
    go r (no_child e out) rest =
        subst (Outcome (given_in child_of set_limit (alone rs) ++ (a ∷ xs))) (sym (ap (λ (r : Replay). follow r xs) e ∙ follow-fault 17 xs))
        (record { requests = rs; address = a; rest = xs; addresses_given = refl; few = few; number = inl (refl, out) })
    go r (too_many e c m) rest =
        subst (Outcome (given_in child_of set_limit (alone rs) ++ (a ∷ xs))) (sym (ap (λ (r : Replay). follow r xs) e ∙ follow-fault 14 xs))
        (record { requests = rs; address = a; rest = xs; addresses_given = refl; few = few; number = inr (refl, c, m) })
    go r (one_more e c l) rest =
        let nodes = nodes_of_more rs a c in
        subst₂ Outcome (ap (λ (l : List ℕ). l ++ xs) (given_in_more rs a c) ∙ append_snoc (given_in child_of set_limit (alone rs)) a xs)
        (ap (λ (r : Replay). follow r xs) (ap (λ (l : List ℕ). known l) nodes ∙ sym e))
        (rest (more rs a c) (omega (arith, ap length nodes, length-append (nodes_of (alone rs)) (a ∷ []))))

-- ---- from a bare root

pub nodes_of-none : nodes_of [] ≡ root ∷ []
unfolding grown grow bare_root addresses
nodes_of-none = ap (λ (a : ℕ). a ∷ []) (address_in-fresh root)

given_in-none : given_in child_of set_limit [] ≡ []
unfolding given_in grow given_by
given_in-none = refl

pub outcome-bare : (journal : List ℕ) → AreWords journal → Outcome journal (follow bare journal)
outcome-bare journal w =
    subst₂ Outcome (ap (λ (l : List ℕ). l ++ journal) given_in-none) (ap (λ (l : List ℕ). follow (known l) journal) nodes_of-none)
    (outcome [] journal w (omega (arith, ap length nodes_of-none)))
