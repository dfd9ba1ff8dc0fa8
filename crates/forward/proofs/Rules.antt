-- What the next hop answers, one law for each exit of the code. Assumes nothing.
use Rattle.std.specs.Prelude.{if◌then◌else◌}
use mathlib.Core.Path.{◌≡◌, ◌∙◌}
use mathlib.Core.Bool.{Bool, true, false, not}
use Prim.Native.Nat.{ℕ, ◌<◌, ◌≤◌}
use borrow.Author.Tests.{eq-eqb, ne_eqb, lt-ltb, le-ltb}
use mathlib.Core.List.{List, ◌++◌}
use lib.Dec.{eqb, ltb, lit≤}
use lib.ListN.{drop}
use Rattle.address.specs.Bits.{Bit, bits, number}
use Rattle.address.specs.Address.{bit_length, is_host, parent}
use Rattle.search.specs.Search.{looked_at, is_prefix, kind_looked, index_looked}
use Rattle.node.specs.Node.{address_in, count, with_limits, is_good}
use Rattle.node.proofs.Settings.{count-with_limits}
use Rattle.node.specs.declared.Node.{Node}
use Rattle.forward.specs.Forward.{HopAnswer, deliver_at, up_to, down_to, refused_hop, toward, rules, next_hop}

module _ (n : Node) (d : ℕ) where
  pub next_hop-bad : is_good n ≡ false → next_hop n d ≡ refused_hop 1
  unfolding next_hop
  next_hop-bad g = rw g

  pub next_hop-zero : is_good n ≡ true → d ≡ 0 → next_hop n d ≡ refused_hop 9
  unfolding next_hop
  next_hop-zero g z = rw (g, eq-eqb d 0 z)

  module _ (g : is_good n ≡ true) (some : d ≡ 0 → ⊥) where
    next_hop-rules : next_hop n d ≡ rules n d
    unfolding next_hop
    next_hop-rules = rw (g, ne_eqb d 0 some)

    pub next_hop_same : d ≡ address_in n → next_hop n d ≡ deliver_at (address_in n)
    unfolding rules
    next_hop_same e = next_hop-rules ∙ rw (eq-eqb d (address_in n) e)

    module _ (other : d ≡ address_in n → ⊥) where
      pub next_hop-host : is_host (address_in n) ≡ true → next_hop n d ≡ up_to (parent (address_in n))
      unfolding rules
      next_hop-host h = next_hop-rules ∙ rw (ne_eqb d (address_in n) other, h)

      pub next_hop-elsewhere : is_host (address_in n) ≡ false → is_prefix (bits (address_in n)) (bits d) ≡ false → next_hop n d ≡ up_to (parent (address_in n))
      unfolding rules
      next_hop-elsewhere h p = next_hop-rules ∙ rw (ne_eqb d (address_in n) other, h, p)

      pub next_hop-below : is_host (address_in n) ≡ false → is_prefix (bits (address_in n)) (bits d) ≡ true
          → next_hop n d ≡ toward n (looked_at (drop (bit_length (address_in n)) (bits d)))
      unfolding rules
      next_hop-below h p = next_hop-rules ∙ rw (ne_eqb d (address_in n) other, h, p)

module _ (n : Node) (looked : List Bit) where
  pub toward-given : index_looked looked < count (kind_looked looked) n → toward n looked ≡ down_to (number (bits (address_in n) ++ looked))
  unfolding toward
  toward-given h = rw (lt-ltb (index_looked looked) (count (kind_looked looked) n) h)

  pub toward-absent : count (kind_looked looked) n ≤ index_looked looked → toward n looked ≡ refused_hop 7
  unfolding toward
  toward-absent h = rw (le-ltb (index_looked looked) (count (kind_looked looked) n) h)

-- no refusal has a number above 9
if_most : (t : Bool) (x y : HopAnswer) → x.refusal ≤ 9 → y.refusal ≤ 9 → (if t then x else y).refusal ≤ 9
if_most true x y h l = h
if_most false x y h l = l

pub next_hop_most : (n : Node) (d : ℕ) → (next_hop n d).refusal ≤ 9
unfolding next_hop rules toward
next_hop_most n d =
    let c = address_in n in
    let up = up_to (parent c) in
    let looked = looked_at (drop (bit_length c) (bits d)) in
    let below : (toward n looked).refusal ≤ 9 =
    if_most (ltb (index_looked looked) (count (kind_looked looked) n)) (down_to (number (bits c ++ looked))) (refused_hop 7) (lit≤ tt) (lit≤ tt) in
    let elsewhere = if_most (not (is_prefix (bits c) (bits d))) up (toward n looked) (lit≤ tt) below in
    let host = if_most (is_host c) up (if not (is_prefix (bits c) (bits d)) then up else toward n looked) (lit≤ tt) elsewhere in
    let own : (rules n d).refusal ≤ 9 =
    if_most (eqb d c) (deliver_at c) (if is_host c then up else if not (is_prefix (bits c) (bits d)) then up else toward n looked) (lit≤ tt) host in
    let some = if_most (eqb d 0) (refused_hop 9) (rules n d) (lit≤ tt) own in
    if_most (not (is_good n)) (refused_hop 1) (if eqb d 0 then refused_hop 9 else rules n d) (lit≤ tt) some

-- a limit plays no part but in 1
module _ (n : Node) (routers hosts d : ℕ) (good : is_good n ≡ true) (still : is_good (with_limits routers hosts n) ≡ true) where
  pub next_hop-with_limits : next_hop (with_limits routers hosts n) d ≡ next_hop n d
  unfolding next_hop rules toward with_limits
  next_hop-with_limits =
      rw (good, still, count-with_limits routers hosts n (kind_looked (looked_at (drop (bit_length (address_in n)) (bits d)))))
