-- In a sound tree a packet for d goes by the path to x, the node on the way to d to which every other node on it leads: whoever is not on the
-- way to x is not on the way to d and passes it up, whoever is passes it down to a child in the tree, which is given, and x itself has d's
-- next child not given, or is d. Arrival is x = d, and absence is the deepest ancestor of d in the tree. A header alone goes nowhere.
use mathlib.Core.Path.{◌≡◌, refl, sym, ap, ◌∙◌, subst}
use mathlib.Core.Logic.{◌↔◌, ⊎_elim}
use mathlib.Core.Bool.{true}
use mathlib.Core.List.Memᴰ
use mathlib.Core.List.{List, [], ◌∷◌, ◌++◌, append_assoc}
use Prim.Native.Nat.{ℕ, ◌≤◌, ◌<◌}
use native.Mathlib.Nat.{lt_of_not-le}
use native.Mathlib.Omega.{arith}
use lib.Dec.{lit<}
use lib.ListN.{length, drop}
use lib.Seq.{drop_at}
use Rattle.address.specs.declared.Kind.{Kind}
use Rattle.address.specs.Bits.{root}
use Rattle.address.specs.Steps.{Step, child, steps, address_of}
use Rattle.address.specs.Address.{depth, parent}
use Rattle.octets.specs.Octets.{AreOctets}
use Rattle.address.specs.Numbers.{IsAddress}
use Rattle.address.specs.Ancestors.{AncestorOrSelf}
use Rattle.address.proofs.Steps.{address_of-steps, address_of-root}
use Rattle.address.proofs.Ancestors.{steps_injective}
use Rattle.octets.proofs.OctetLaws.{append-octets, drop-octets}
use Rattle.header.specs.Header.{header, place}
use Rattle.header.proofs.Writing.{length-header}
use Rattle.header.proofs.Demand2.{octets-header, reading-header, reading_alone, header_read, found-exactly}
use Rattle.node.specs.Node.{address_in, count, is_good}
use Rattle.node.specs.declared.Node.{Node}
use Rattle.forward.specs.Forward.{HopAnswer, next_hop}
use Rattle.forward.proofs.Hops.{next_hop-deliver, next_hop_up, next_hop-down, next_hop-stop, next-step}
use Rattle.packet.specs.Packet.{packet_hop}
use Rattle.packet.proofs.PacketHops.{packet_hop-refused, packet_hop-found}
use Rattle.route.specs.Path.{path}
use Rattle.route.proofs.Turning.{ancestor_or_self_refl, ancestor_or_self_cons, ancestor_or_self_cases, ancestor_or_self_length, ancestor_or_self_tail}
use Rattle.route.proofs.PathLaws.{steps_ancestor_or_self, depth-steps, off_root}
use Rattle.tree.specs.Tree.{Tree, standing, record_of, InTree}
use Rattle.tree.specs.Way.{delivered_to, stopped_with, passed_to, fate, End, delivered_at, stopped_at, TheWay, IsPacket}
use Rattle.tree.specs.Demand3.{Arrives, IsAncestor, StopsAt}
use Rattle.tree.proofs.Sound.{Sound}
use Rattle.tree.proofs.Trees.{record_of-in_tree, address_in-record_of, dec_in_tree}
use Rattle.tree.proofs.Ways.{the_way-delivered, the_way-stopped, the_way-onward}
use Rattle.tree.proofs.Paths.{Route, arrived, up, down, route, in_tree_ancestor_or_self, walk_path, differ-path}
use Rattle.tree.proofs.Walks.{hops-path_walk}

-- ---- the node that every other node on a way leads to

ancestor_or_self_trans : {xs ys zs : List Step} → AncestorOrSelf xs ys → AncestorOrSelf ys zs → AncestorOrSelf xs zs
ancestor_or_self_trans {xs} (more, e) (further, f) = (further ++ more, f ∙ rw (e, append_assoc))

record Nearest (t : Tree) (ss : List Step) (x : ℕ) : Type 0 where
  there : InTree x t
  on : AncestorOrSelf (steps x) ss
  nearest : (y : ℕ) → InTree y t → AncestorOrSelf (steps y) ss → AncestorOrSelf (steps y) (steps x)

nearest_self : {t : Tree} {ss : List Step} {x : ℕ} → InTree x t → steps x ≡ ss → Nearest t ss x
nearest_self i e = record { there = i; on = ([], sym e); nearest = λ y j w. rw e w }

-- up from an address, until one is in the tree
nearest-above : {t : Tree} → Sound t → {d : ℕ} → IsAddress d → (ss : List Step) → AncestorOrSelf ss (steps d) → (x : ℕ) × Nearest t ss x
nearest-above sound b [] w = (root, nearest_self sound.rooted (ap steps (sym address_of-root) ∙ steps_ancestor_or_self b [] w))
nearest-above {t} sound {d} b (s ∷ above) w =
    go (dec_in_tree (address_of (s ∷ above)) t) (nearest-above sound b above (ancestor_or_self_tail s above (steps d) w))
  where
    go : Dec (InTree (address_of (s ∷ above)) t) → (x : ℕ) × Nearest t above x → (x : ℕ) × Nearest t (s ∷ above) x
    go (yes i) further = (address_of (s ∷ above), nearest_self i (steps_ancestor_or_self b (s ∷ above) w))
    go (no out) (x, near) = (
      x,
      record {
        there = near.there;
        on = ancestor_or_self_cons s (steps x) above near.on;
        nearest = λ y i v.
            ⊎_elim
            (λ e. absurd (out (Memᴰ.cast (ap address_of (sym e) ∙ address_of-steps (sound.address y i)) i)))
            (near.nearest y i)
            (ancestor_or_self_cases (steps y) s above v);
      },
    )

-- ---- what a packet for d meets at a node

module _ (t : Tree) (sound : Sound t) (p : List ℕ) (d : ℕ) (packet : IsPacket p d) where
  address_packet : IsAddress d
  address_packet = (header_read p d packet.place packet.octets packet.reads).0

  module _ {a : ℕ} {n : Node} (i : InTree a t) (r : record_of a t ≡ standing n) where
    own : address_in n ≡ a
    own = address_in-record_of a n t r

    good : is_good n ≡ true
    good = sound.good a n r

    address_own : IsAddress (address_in n)
    address_own = subst IsAddress (sym own) (sound.address a i)

    fate-hop : {r : HopAnswer} → next_hop n d ≡ r → fate (packet_hop n p) ≡ fate r
    fate-hop e = ap fate (packet_hop-found n p good packet.reads ∙ e)

    fate-deliver : a ≡ d → fate (packet_hop n p) ≡ delivered_to a
    unfolding fate
    fate-deliver e = fate-hop (next_hop-deliver n d good address_own address_packet (sym (own ∙ e))) ∙ ap delivered_to own

    fate_up : (AncestorOrSelf (steps a) (steps d) → ⊥) → fate (packet_hop n p) ≡ passed_to (parent a)
    unfolding fate
    fate_up off =
        fate-hop (next_hop_up n d good address_own address_packet (subst (λ (k : ℕ). AncestorOrSelf (steps k) (steps d) → ⊥) (sym own) off))
        ∙ ap (λ (k : ℕ). passed_to (parent k)) own

    module _ (more : List Step) (kind : Kind) (j : ℕ) (e : steps d ≡ more ++ (child kind j ∷ steps a)) where
      own_step : steps d ≡ more ++ (child kind j ∷ steps (address_in n))
      own_step = e ∙ ap (λ (k : ℕ). more ++ (child kind j ∷ steps k)) (sym own)

      fate-down : j < count kind n → fate (packet_hop n p) ≡ passed_to (address_of (child kind j ∷ steps a))
      unfolding fate
      fate-down h =
          fate-hop (next_hop-down n d good address_own address_packet more kind j own_step h)
          ∙ ap (λ (k : ℕ). passed_to (address_of (child kind j ∷ steps k))) own

      fate-stop : count kind n ≤ j → fate (packet_hop n p) ≡ stopped_with 7
      unfolding fate
      fate-stop h = fate-hop (next_hop-stop n d good address_own address_packet more kind j own_step h)

  -- ---- by the path to a node on the way to d, to which every other such node leads

  module _ {x : ℕ} (near : Nearest t (steps d) x) where
    there : InTree x t
    there = near.there

    the_way-route : {a : ℕ} {w : List ℕ} {e : End} → TheWay packet_hop t p x (x ∷ []) e → InTree a t → Route x a w
        → TheWay packet_hop t p a w e
    the_way-route end i (arrived same) = rw same end
    the_way-route {a} end i (up off r) =
        let (n, stands, own) = record_of-in_tree t i in
        let above = sound.parents a i (off_root a x off) in
        the_way-onward packet_hop t p stands (fate_up i stands (λ w. off (near.nearest a i w))) above (the_way-route end above r)
    the_way-route {a} end i (down (child kind j) w r) =
        let (n, stands, own) = record_of-in_tree t i in
        let c = address_of (child kind j ∷ steps a) in
        let below = in_tree_ancestor_or_self t sound (child kind j ∷ steps a) there w in
        let given = sound.counted a c n kind j stands below (steps_ancestor_or_self (sound.address x there) (child kind j ∷ steps a) w) in
        let (more, e) = ancestor_or_self_trans w near.on in
        the_way-onward packet_hop t p stands (fate-down i stands more kind j e given) below (the_way-route end below r)

    the_way-path : {a : ℕ} {e : End} → TheWay packet_hop t p x (x ∷ []) e → InTree a t → TheWay packet_hop t p a (path a x) e
    the_way-path {a} end i = the_way-route end i (route (sound.address a i) (sound.address x there))

    the_way_here : x ≡ d → TheWay packet_hop t p x (x ∷ []) (delivered_at x x)
    the_way_here same =
        let (n, stands, own) = record_of-in_tree t there in
        the_way-delivered packet_hop t p stands (fate-deliver there stands same)

    -- the next child on the way to d is not given, since it would be nearer
    the_way-end : (x ≡ d → ⊥) → TheWay packet_hop t p x (x ∷ []) (stopped_at 7 x)
    the_way-end other = go (next-step (sound.address x there) address_packet near.on (λ same. other (sym same))) (record_of-in_tree t there)
      where
        nobody : {n : Node} (more : List Step) (kind : Kind) (j : ℕ) → steps d ≡ more ++ (child kind j ∷ steps x) → record_of x t ≡ standing n
            → j < count kind n → ⊥
        nobody {n} more kind j e stands h =
            let (c, i, f) = sound.given x n kind j stands h in
            let nearer = near.nearest c i (more, e ∙ ap (λ (l : List Step). more ++ l) (sym f)) in
            omega (arith, ap length f, ancestor_or_self_length (steps c) (steps x) nearer)

        go : (s : Step) × (more : List Step) × (steps d ≡ more ++ (s ∷ steps x)) → (n : Node) × (record_of x t ≡ standing n) × (address_in n ≡ x)
            → TheWay packet_hop t p x (x ∷ []) (stopped_at 7 x)
        go (child kind j, more, e) (n, stands, own) =
            let few = lt_of_not-le (nobody more kind j e stands) in
            the_way-stopped packet_hop t p stands (fate-stop there stands more kind j e (omega arith))

-- ---- the two ends

pub arrival : (t : Tree) → Sound t → (a d : ℕ) (p : List ℕ) → InTree a t → InTree d t → IsPacket p d → Arrives packet_hop t p a d
arrival t sound a d p i j packet =
    let near : Nearest t (steps d) d = nearest_self j refl in
    record {
      the_way = the_way-path t sound p d packet near (the_way_here t sound p d packet near refl) i;
      over_links = walk_path t sound i j;
      once = differ-path (sound.address a i) (sound.address d j);
      shortest = λ w v. hops-path_walk t sound v;
    }

pub absence : (t : Tree) → Sound t → (a d : ℕ) (p : List ℕ) → InTree a t → (InTree d t → ⊥) → IsPacket p d
    → (x : ℕ) × StopsAt packet_hop t p a d x
absence t sound a d p i out packet = go (nearest-above sound b (steps d) (ancestor_or_self_refl (steps d)))
  where
    b : IsAddress d
    b = address_packet t sound p d packet

    ancestor : {x : ℕ} → InTree x t → AncestorOrSelf (steps x) (steps d) → IsAncestor x d
    ancestor {x} j ([], e) = absurd (out (Memᴰ.cast (steps_injective b (sound.address x j) e) j))
    ancestor {x} j (last ∷ others, e) =
        record { kept = steps x; last = last; others = others; dropped = e; remains = sym (address_of-steps (sound.address x j)) }

    deepest : {x y : ℕ} → Nearest t (steps d) x → IsAncestor y d → InTree y t → depth y ≤ depth x
    deepest {x} {y} near above j =
        let w : AncestorOrSelf above.kept (steps d) = (above.last ∷ above.others, above.dropped) in
        let kept : steps y ≡ above.kept = ap steps above.remains ∙ steps_ancestor_or_self b above.kept w in
        omega (arith, depth-steps x, depth-steps y, ancestor_or_self_length (steps y) (steps x) (near.nearest y j (rw kept w)))

    go : (x : ℕ) × Nearest t (steps d) x → (x : ℕ) × StopsAt packet_hop t p a d x
    go (x, near) = (
      x,
      record {
        ancestor = ancestor near.there near.on;
        there = near.there;
        deepest = λ y. deepest near;
        the_way =
            let other : x ≡ d → ⊥ = λ e. out (Memᴰ.cast (sym e) near.there) in
            the_way-path t sound p d packet near (the_way-end t sound p d packet near other) i;
      },
    )

-- ---- every header with a payload is a packet

pub packets : (d : ℕ) (payload : List ℕ) → IsAddress d → AreOctets payload → 0 < length payload → IsPacket (header d ++ payload) d
packets d payload n all some = record {
  octets = append-octets (header d) payload (octets-header n) all;
  place = place d;
  reads = reading-header n payload some;
}

-- and there are no others
pub packets-exactly : (p : List ℕ) (d : ℕ)
    → IsPacket p d ↔ (IsAddress d × ((payload : List ℕ) × AreOctets payload × (0 < length payload) × (p ≡ header d ++ payload)))
packets-exactly p d = (
  λ packet.
      let (address, end, (payload, some, laid)) = (found-exactly p d packet.place packet.octets).0 packet.reads in
      let are = drop-octets (place d) p packet.octets in
      (address, (payload, subst AreOctets (ap (drop (place d)) laid ∙ drop_at (header d) payload (place d) (length-header d)) are, some, laid)),
  λ (address, (payload, are, some, e)). subst (λ (l : List ℕ). IsPacket l d) (sym e) (packets d payload address are some),
)

-- the shortest one
abbrev pub shortest : ℕ → List ℕ
shortest d = header d ++ (0 ∷ [])

pub packet_shortest : {d : ℕ} → IsAddress d → IsPacket (shortest d) d
packet_shortest {d} n = packets d (0 ∷ []) n (lit< tt, tt) (lit< tt)

-- ---- a header alone is refused where it starts

pub empty : (t : Tree) → Sound t → (a d : ℕ) → InTree a t → IsAddress d → TheWay packet_hop t (header d) a (a ∷ []) (stopped_at 16 a)
unfolding fate
empty t sound a d i n =
    let (m, stands, own) = record_of-in_tree t i in
    the_way-stopped packet_hop t (header d) stands (ap fate (packet_hop-refused m (header d) (sound.good a m stands) (reading_alone n)))
