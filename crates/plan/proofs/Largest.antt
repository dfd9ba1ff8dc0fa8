-- A plan of as many nodes as are allowed is read: each node's children fit where its address and the number of its children are short enough. A
-- text of as many bytes is never read: what it spells has too many nodes. Assumes nothing.
use Prim.Native.Nat.{ℕ, zero, suc, ◌+◌, ◌*◌, ◌≤◌, ◌<◌}
use mathlib.Core.Path.{◌≡◌, refl, ap, ◌∙◌}
use mathlib.Core.Bool.{Bool, true, false}
use mathlib.Core.Logic.{◌⊎◌, inl, inr, ⊎_elim}
use mathlib.Core.List.Memᴰ
use mathlib.Core.List.{List, [], ◌∷◌, ◌++◌, map, map-append, Memᴰ}
use native.Mathlib.Omega.{arith}
use lib.ListN.{length, drop, replicate, length-append, length-replicate}
use lib.Dec.{ltb}
use borrow.Author.Tests.{ltb-true, ltb-false}
use Rattle.address.specs.Bits.{longest, last_bit, bits_in, bits, root}
use Rattle.address.specs.Address.{bit_length}
use Rattle.address.specs.declared.Kind.{Kind}
use Rattle.address.specs.declared.Kind.TheVariants.{Router, Host}
use Rattle.node.specs.Node.{address_in, fresh, count, with_counts, raised, child_bits, child_of}
use Rattle.node.specs.declared.Node.{Node}
use Rattle.node.specs.Node.{Given}
use Rattle.node.proofs.ChildLaws.{length-child_bits}
use Rattle.node.proofs.Children.{address_in-fresh, count-fresh, count-raised, below-no_cap, MayGive, child_of-given}
use Rattle.node.proofs.GivenChildren.{gives-children}
use Rattle.plan.specs.Limits.{most_bytes, most_nodes}
use Rattle.plan.specs.Grammar.{letter_h, Items, none, host, router, items_text, plan_text, groups_open, Spells}
use Rattle.plan.specs.Hall.{child_in, answers, hall, items, nodes, refusal_of, SomeTooLong}
use Rattle.plan.specs.Reading.{start, move, whole, fault_at, reading}
use Rattle.plan.specs.Plan.{PlanEffect, refuse_plan, missing, planning}
use Rattle.plan.specs.Largest.{hosts, routers, largest_with, largest, too_large, LargestPlan, LongTexts}
use Rattle.plan.proofs.MoveLaws.{read_from-fault}
use Rattle.plan.proofs.Inner.{Inner, inner-root, inner-next, inner-child}
use Rattle.plan.proofs.Answers.{length-hall}
use Rattle.plan.proofs.TooLong.{too_long_lem}
use Rattle.plan.proofs.Wholly.{reading-spells}
use Rattle.plan.proofs.PlanLaws.{planning-bytes, planning-stops, planning-nodes, planning-room, planning-done}
use Rattle.plan.proofs.RefusalLaws.{End, many_bytes, outside, many_nodes, too_long, no_room, fits, planning-end}

-- ---- three bytes a node

length-items_text : (i : Items) → length (items_text i) ≤ 3 * items i
unfolding items_text items
length-items_text none = omega arith
length-items_text (host i) = omega (arith, length-items_text i)
length-items_text (router g i) =
    omega (arith, length-append (items_text g) (41 ∷ items_text i), length-items_text g, length-items_text i)

pub length-plan_text : (plan : Items) → length (plan_text plan) ≤ 3 * nodes plan
unfolding plan_text nodes
length-plan_text plan = omega (arith, length-append (items_text plan) (41 ∷ []), length-items_text plan)

-- ---- the items that fit a node

-- none of them is refused with 3
abbrev NoneLong : List Given → Type 0
NoneLong given = Memᴰ 3 (map refusal_of given) → ⊥

-- a child of a kind, where it is short enough
module _ {n : Node} (kind : Kind) (inner : Inner n) (short : bit_length (address_in n) + count kind n + 1 ≤ longest) where
  may : MayGive n kind
  may = record {
    good = inner.good;
    inner = inner.no_host;
    below = below-no_cap n inner.good inner.address kind (inner.free kind);
    short = omega (arith, length-child_bits n kind, short);
  }

  given : (child_of n kind).refusal ≡ 0
  given = ap refusal_of (child_of-given may)

  child-length : bit_length (child_in (child_of n kind)) ≡ bit_length (address_in n) + count kind n + 1
  unfolding bit_length child_bits
  child-length = ap length (gives-children.is_child n kind inner.address.fits given).spells ∙ length-child_bits n kind

  count_next : count kind (child_of n kind).node ≡ count kind n + 1
  count_next = ap (λ (g : Given). count kind g.node) (child_of-given may) ∙ count-raised kind n

  length-next : bit_length (address_in (child_of n kind).node) ≡ bit_length (address_in n)
  length-next = ap bit_length (gives-children.keeps_address n kind)

hosts_fit : (k : ℕ) (n : Node) → Inner n → bit_length (address_in n) + count Host n + k ≤ longest → NoneLong (answers n (hosts k))
unfolding answers hosts
hosts_fit zero n inner h m = Memᴰ.not-nil m
hosts_fit (suc k) n inner h m =
    let short : bit_length (address_in n) + count Host n + 1 ≤ longest = omega (arith, h) in
    ⊎_elim
    (λ e. omega (arith, e, given Host inner short))
    (hosts_fit k (child_of n Host).node (inner-next Host inner)
    (omega (arith, h, count_next Host inner short, length-next Host inner short)))
    (Memᴰ.cases_cons m)

-- items that fit every new router of at most so many bits
abbrev Fit : ℕ → Items → Type 0
Fit most i = (a : ℕ) → Inner (fresh a) → bit_length a ≤ most → NoneLong (answers (fresh a) i)

-- a router more is no host more
kept-hosts : (n : Node) → count Host (raised Router n) ≡ count Host n
unfolding raised with_counts count
kept-hosts n = refl

-- behind so many routers stand others, which ask the node with as many hosts as before
module _ (most : ℕ) (g : Items) (fit : Fit most g) (within : most ≤ longest) (behind : Items) where
  abbrev BehindFits : Node → Type 0
  BehindFits n = (m : Node) → Inner m → address_in m ≡ address_in n → count Host m ≡ count Host n → NoneLong (answers m behind)

  routers_fit : (k : ℕ) (n : Node) → Inner n → bit_length (address_in n) + count Router n + k ≤ most → BehindFits n
      → NoneLong (answers n (routers k g behind))
  unfolding answers routers
  routers_fit zero n inner h rest m = rest n inner refl refl m
  routers_fit (suc k) n inner h rest m =
      let short : bit_length (address_in n) + count Router n + 1 ≤ longest = omega (arith, h, within) in
      let own = child_in (child_of n Router) in
      let next = (child_of n Router).node in
      let same_hosts : count Host next ≡ count Host n =
      ap (λ (g : Given). count Host g.node) (child_of-given (may Router inner short)) ∙ kept-hosts n in
      ⊎_elim
      (λ e. omega (arith, e, given Router inner short))
      (λ e.
      ⊎_elim
      (fit own (inner-child Router inner (given Router inner short) refl) (omega (arith, h, child-length Router inner short)))
      (routers_fit k next (inner-next Router inner)
      (omega (arith, h, count_next Router inner short, length-next Router inner short))
      (λ m inner same hosts. rest m inner (same ∙ gives-children.keeps_address n Router) (hosts ∙ same_hosts)))
      (Memᴰ.append_cases (map refusal_of (answers (fresh own) g))
      (rw (map-append refusal_of (answers (fresh own) g) (answers next (routers k g behind))) at e)))
      (Memᴰ.cases_cons m)

-- ---- the largest plan

groups_hosts : (k : ℕ) → groups_open (hosts k) ≡ 0
unfolding hosts groups_open
groups_hosts zero = refl
groups_hosts (suc k) = groups_hosts k

groups_routers : (k : ℕ) (g behind : Items) → groups_open (routers k g behind) ≤ suc (groups_open g) + groups_open behind
unfolding routers groups_open
groups_routers zero g behind = omega arith
groups_routers (suc k) g behind = omega (arith, groups_routers k g behind)

pub hosts-spelled : (k : ℕ) → Spells (plan_text (hosts k)) (hosts k)
hosts-spelled k = record { spelled = refl; within = omega (arith, groups_hosts k) }

-- behind no router or one host
module _ (behind : Items) (no_group : groups_open behind ≡ 0) where
  largest_groups : groups_open (largest_with behind) ≤ 2
  unfolding largest_with
  largest_groups =
      let none_open : groups_open none ≡ 0 = unfold groups_open in refl in
      omega (
        arith,
        no_group,
        none_open,
        groups_routers 15 (routers 16 (hosts 16) none) behind,
        groups_routers 16 (hosts 16) none,
        groups_hosts 16,
      )

  largest-spelled : Spells (plan_text (largest_with behind)) (largest_with behind)
  largest-spelled = record { spelled = refl; within = omega (arith, largest_groups) }

largest-nodes : nodes largest ≡ most_nodes
unfolding nodes items largest_with routers hosts
largest-nodes = refl

more_nodes : nodes too_large ≡ suc most_nodes
unfolding nodes items largest_with routers hosts
more_nodes = refl

-- a new router has given nothing yet
fresh-length : (a : ℕ) (kind : Kind) (k most : ℕ) → bit_length a + k ≤ most → bit_length (address_in (fresh a)) + count kind (fresh a) + k ≤ most
fresh-length a kind k most h = omega (arith, h, ap bit_length (address_in-fresh a), count-fresh kind a)

sixteen-hosts : Fit 48 (hosts 16)
sixteen-hosts a inner h = hosts_fit 16 (fresh a) inner (fresh-length a Host 16 longest (omega (arith, h)))

none-fits : (n : Node) → NoneLong (answers n none)
unfolding answers
none-fits n m = Memᴰ.not-nil m

sixteen-routers : Fit 32 (routers 16 (hosts 16) none)
sixteen-routers a inner h =
    routers_fit 48 (hosts 16) sixteen-hosts (omega arith) none 16 (fresh a) inner (fresh-length a Router 16 48 (omega (arith, h)))
    (λ m is same hosts. none-fits m)

root-length : bit_length root ≡ 1
unfolding bit_length bits bits_in last_bit
root-length = refl

largest-fits : (behind : Items) → BehindFits 32 (routers 16 (hosts 16) none) sixteen-routers (omega arith) behind (fresh root)
    → SomeTooLong (largest_with behind) → ⊥
unfolding largest_with
largest-fits behind =
    routers_fit 32 (routers 16 (hosts 16) none) sixteen-routers (omega arith) behind 15 (fresh root) inner-root
    (fresh-length root Router 15 32 (omega (arith, root-length)))

none-long : SomeTooLong largest → ⊥
none-long = largest-fits none (λ m inner same hosts. none-fits m)

more_long : SomeTooLong too_large → ⊥
unfolding hosts
more_long =
    largest-fits (host none) (λ m inner same count.
    hosts_fit 1 m inner
    (omega (arith, ap bit_length (same ∙ address_in-fresh root), root-length, count, count-fresh Host root)))

largest-length : length (hall largest) ≡ most_nodes
largest-length = length-hall largest ∙ largest-nodes

short : (plan : Items) → nodes plan ≤ 4097 → length (plan_text plan) ≤ most_bytes
short plan h = omega (arith, h, length-plan_text plan)

largest_all : missing (hall largest) ≤ 0
largest_all = go (ltb 0 (missing (hall largest))) refl
  where
    go : (b : Bool) → ltb 0 (missing (hall largest)) ≡ b → missing (hall largest) ≤ 0
    go true e = absurd (none-long ((too_long_lem largest).1 (ltb-true 0 (missing (hall largest)) e)))
    go false e = ltb-false 0 (missing (hall largest)) e

spelled : Spells (plan_text largest) largest
unfolding groups_open
spelled = largest-spelled none refl

more_spelled_lem : Spells (plan_text too_large) too_large
unfolding groups_open
more_spelled_lem = largest-spelled (host none) refl

module _ (words : List ℕ) where
  few : length (hall largest) ≤ most_nodes
  few = omega (arith, largest-length)

  read_whole : reading (plan_text largest) ≡ whole (hall largest)
  read_whole = reading-spells (plan_text largest) largest spelled

  within-bytes : length (plan_text largest) ≤ most_bytes
  within-bytes = short largest (omega (arith, largest-nodes))

  largest-read : most_nodes ≤ length words
      → planning (plan_text largest) words
      ≡ record { answer = record { refusal = 0; nodes = most_nodes; place = 0 }; words = hall largest ++ drop most_nodes words }
  largest-read room =
      planning-done (plan_text largest) words within-bytes read_whole few largest_all (omega (arith, room, largest-length)) ∙ rw largest-length refl

  largest-room : length words < most_nodes → planning (plan_text largest) words ≡ refuse_plan 10 0 words
  largest-room h = planning-room (plan_text largest) words within-bytes read_whole few largest_all (omega (arith, h, largest-length))

  largest_more : planning (plan_text too_large) words ≡ refuse_plan 14 0 words
  largest_more =
      planning-nodes (plan_text too_large) words (short too_large (omega (arith, more_nodes)))
      (reading-spells (plan_text too_large) too_large more_spelled_lem) (omega (arith, length-hall too_large, more_nodes))

pub largest-plan : LargestPlan
largest-plan = record {
  spelled = spelled;
  counted = largest-nodes;
  none_too_long = none-long;
  read = largest-read;
  no_room = largest-room;
  one_more = largest_more;
  more_spelled = more_spelled_lem;
  more_counted = more_nodes;
  more_none_too_long = more_long;
}

-- ---- as many bytes as are allowed

module _ (text words : List ℕ) (long : 3 * most_nodes < length text) where
  -- what it spells has too many nodes
  many : (plan : Items) → Spells text plan → most_nodes < nodes plan
  many plan s = omega (arith, long, ap length s.spelled, length-plan_text plan)

  end-never-read : {e : PlanEffect} → End text words e → (e.answer.refusal ≡ 13) ⊎ (e.answer.refusal ≡ 14)
  unfolding refuse_plan
  end-never-read (many_bytes over) = inr refl
  end-never-read (outside below p s) = inl refl
  end-never-read (many_nodes below plan s more) = inr refl
  end-never-read (too_long below plan s most some) = absurd (omega (arith, most, many plan s))
  end-never-read (no_room below plan s most fit full) = absurd (omega (arith, most, many plan s))
  end-never-read (fits below plan s most fit room) = absurd (omega (arith, most, many plan s))

  never-read : ((planning text words).answer.refusal ≡ 13) ⊎ ((planning text words).answer.refusal ≡ 14)
  never-read = end-never-read (planning-end text words)

-- a text that begins with a host stops at once
pub nonsense-stops : (s : List ℕ) → reading (letter_h ∷ s) ≡ fault_at 0
unfolding reading move
nonsense-stops s = read_from-fault 0 start letter_h s refl

pub long_texts : LongTexts
long_texts = record {
  bytes = length-plan_text;
  never_read = never-read;
  nonsense = λ words.
      planning-stops (replicate most_bytes letter_h) words (omega (arith, length-replicate most_bytes letter_h)) (nonsense-stops (replicate 32767 letter_h));
  nonsense_over = λ words.
      planning-bytes (replicate (suc most_bytes) letter_h) words (omega (arith, length-replicate (suc most_bytes) letter_h));
}
