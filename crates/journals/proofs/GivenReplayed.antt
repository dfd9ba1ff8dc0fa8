-- What was given is replayed: by induction on the requests and settings, since each reply to a request without a refusal gives a next child of the
-- tree before it, also by the node's address and counts alone, and a setting gives nothing. So the addresses given since a bare root end as their
-- tree, and with one address more that is a fault as that fault. Assumes nothing.
use mathlib.Core.Path.{◌≡◌, refl, sym, ap, subst, ◌∙◌}
use mathlib.Core.Logic.{inl, inr}
use mathlib.Core.List.{List, [], ◌∷◌, ◌++◌, append-nil}
use Prim.Native.Nat.{ℕ, zero, suc, ◌^◌, ◌<◌, ◌≤◌}
use native.Mathlib.Omega.{arith}
use lib.ListN.{length, length-append}
use Rattle.address.specs.Bits.{longest, root}
use Rattle.address.specs.declared.Kind.{Kind}
use Rattle.node.specs.Node.{child_of, set_limit}
use Rattle.node.specs.declared.Node.{Node}
use Rattle.node.proofs.Children.{address_in-fresh}
use Rattle.tree.specs.Tree.{Reply, replied, limited, nobody, given_by, given_in}
use Rattle.tree.specs.Tree.{request, Event, asking, setting, Tree, bare_root, Record, standing, absent, record_of, happen, grow, grown, addresses}
use Rattle.tree.proofs.Sound.{Sound}
use Rattle.tree.proofs.Trees.{address_in-record_of}
use Rattle.tree.proofs.Growth.{sound-bare_root, sound-happen, sound-grown}
use Rattle.tree.proofs.Given.{given_by-append, addresses-happen, addresses-grow}
use Rattle.tree.proofs.Runs.{replies-standing, replies-absent, set-replies, set-replies-nobody}
use Rattle.journal.specs.Limits.{most_nodes}
use Rattle.journal.specs.Replay.{Replay, known, fault, next, follow, bare}
use Rattle.journal.proofs.ReplayLaws.{follow-fault, follow-append}
use Rattle.block.specs.Blocks.{AreWords}
use Rattle.journals.specs.Replays.{IsNextChild, nodes_of, alone, IsReplayed, IsFault, IsFirstFault}
use Rattle.journals.proofs.Recovered.{child_of-recovered}
use Rattle.journals.proofs.NextChild.{address-next}
use Rattle.journals.proofs.Taking.{next-one_more, next-no_child, next-too_many}

pub are_words_behind : (xs ys : List ℕ) → AreWords (xs ++ ys) → AreWords ys
are_words_behind [] ys w = w
are_words_behind (x ∷ xs) ys w = are_words_behind xs ys w.1

-- ---- one request or setting, and a list of them

-- a child given is a next child
pub next-given : (t : Tree) (a : ℕ) (kind : Kind) (n : Node) → record_of a t ≡ standing n → (child_of n kind).refusal ≡ 0
    → IsNextChild t (child_of n kind).child.number
next-given t a kind n e z = record {
  node = n;
  kind = kind;
  stands = ap (λ (x : ℕ). record_of x t) (address_in-record_of a n t e) ∙ e;
  given = (child_of-recovered n kind z).0;
  child = (child_of-recovered n kind z).1;
}

module _ (t : Tree) (s : Sound t) where
  -- what is replied is followed, where the nodes suffice
  Follows : List Reply → Type 0
  Follows ls = length (addresses t ++ given_by ls) ≤ most_nodes
      → follow (known (addresses t)) (given_by ls) ≡ known (addresses t ++ given_by ls)

  follows-none : (ls : List Reply) → given_by ls ≡ [] → Follows ls
  unfolding follow Follows
  follows-none ls e l =
      ap (follow (known (addresses t))) e
      ∙ ap (λ (l : List ℕ). known l) (sym (append-nil (addresses t)) ∙ ap (λ (l : List ℕ). addresses t ++ l) (sym e))

  follows-replied : (a n : ℕ) → (n ≡ 0 → IsNextChild t a) → Follows (replied n a ∷ [])
  unfolding follow given_by Follows
  follows-replied a zero c l =
      next-one_more t s a (address-next t s (c refl)).fits (c refl) (omega (arith, length-append (addresses t) (a ∷ [])))
  follows-replied a (suc n) c l = follows-none (replied (suc n) a ∷ []) refl l

  -- the reply to one of them
  follows-happen : (e : Event) → Follows (happen child_of set_limit t e).replies
  follows-happen (asking (request a kind)) = go (record_of a t) refl
    where
      go : (x : Record) → record_of a t ≡ x → Follows (happen child_of set_limit t (asking (request a kind))).replies
      go (standing n) e = unfold happen in
          subst Follows (sym (replies-standing child_of t a kind n e))
          (follows-replied (child_of n kind).child.number (child_of n kind).refusal (next-given t a kind n e))
      go absent e = unfold happen given_by in subst Follows (sym (replies-absent child_of t a kind e)) (follows-none (nobody ∷ []) refl)
  follows-happen (setting a kind k) = go (record_of a t) refl
    where
      go : (x : Record) → record_of a t ≡ x → Follows (happen child_of set_limit t (setting a kind k)).replies
      go (standing n) e = unfold given_by in
          subst Follows (sym (set-replies child_of set_limit t a kind k n e)) (follows-none (limited (set_limit n kind k).refusal ∷ []) refl)
      go absent e = unfold given_by in
          subst Follows (sym (set-replies-nobody child_of set_limit t a kind k e)) (follows-none (nobody ∷ []) refl)

  follow-happen : (e : Event) → length (addresses (happen child_of set_limit t e).tree) ≤ most_nodes
      → follow (known (addresses t)) (given_by (happen child_of set_limit t e).replies) ≡ known (addresses (happen child_of set_limit t e).tree)
  unfolding Follows
  follow-happen e few =
      follows-happen e (rw (addresses-happen t e) at few) ∙ ap (λ (l : List ℕ). known l) (sym (addresses-happen t e))

pub follow-grow : (t : Tree) → Sound t → (es : List Event) → length (addresses (grow child_of set_limit t es).tree) ≤ most_nodes
    → follow (known (addresses t)) (given_by (grow child_of set_limit t es).replies) ≡ known (addresses (grow child_of set_limit t es).tree)
unfolding grow
follow-grow t s [] few = unfold given_by follow in refl
follow-grow t s (e ∷ es) few =
    let after = (happen child_of set_limit t e).tree in
    let first = (happen child_of set_limit t e).replies in
    let replies = (grow child_of set_limit after es).replies in
    let fewer : length (addresses after) ≤ most_nodes =
    omega (arith, ap length (addresses-grow after es), length-append (addresses after) (given_by replies)) in
    ap (follow (known (addresses t))) (given_by-append first replies)
    ∙ follow-append (known (addresses t)) (given_by first) (given_by replies)
    ∙ ap (λ (x : Replay). follow x (given_by replies)) (follow-happen t s e fewer)
    ∙ follow-grow after (sound-happen t e s) es few

pub follow-grown : (es : List Event) → length (nodes_of es) ≤ most_nodes → follow bare (given_in child_of set_limit es) ≡ known (nodes_of es)
unfolding grown given_in bare_root addresses
follow-grown es few =
    ap (λ (b : ℕ). follow (known (b ∷ [])) (given_in child_of set_limit es)) (sym (address_in-fresh root)) ∙ follow-grow bare_root sound-bare_root es few

-- ---- from a bare root

pub follow-replayed : (journal nodes : List ℕ) → IsReplayed journal nodes → follow bare journal ≡ known nodes
follow-replayed journal nodes r =
    ap (follow bare) r.addresses_given ∙ follow-grown (alone r.requests) (omega (arith, r.few, ap length r.the_nodes))
    ∙ ap (λ (l : List ℕ). known l) (sym r.the_nodes)

next_is_fault : (es : List Event) (a n : ℕ) → a < 2 ^ longest → IsFault es a n → next (known (nodes_of es)) a ≡ fault n
next_is_fault es a n fits (inl (e, out)) =
    (next-no_child (grown child_of set_limit es) (sound-grown es) a fits).1 out ∙ ap (λ (k : ℕ). fault k) (sym e)
next_is_fault es a n fits (inr (e, c, m)) =
    (next-too_many (grown child_of set_limit es) (sound-grown es) a fits).1 (c, m) ∙ ap (λ (k : ℕ). fault k) (sym e)

pub follow_first_fault : (journal : List ℕ) (n : ℕ) → AreWords journal → IsFirstFault journal n → follow bare journal ≡ fault n
unfolding follow
follow_first_fault journal n w f =
    let es = alone f.requests in
    let words : AreWords (f.address ∷ f.rest) = are_words_behind (given_in child_of set_limit es) (f.address ∷ f.rest) (rw f.addresses_given at w) in
    ap (follow bare) f.addresses_given ∙ follow-append bare (given_in child_of set_limit es) (f.address ∷ f.rest)
    ∙ ap (λ (r : Replay). follow r (f.address ∷ f.rest)) (follow-grown es f.few)
    ∙ ap (λ (r : Replay). follow r f.rest) (next_is_fault es f.address n words.0 f.number) ∙ follow-fault n f.rest
