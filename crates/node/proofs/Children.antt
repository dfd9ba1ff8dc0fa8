-- What a child and the record handed back are: the child's address is one step more than the node's, so the node is its parent, and the
-- record with one count more is good, since where the child fits the count is below the room, and below its limit.
use mathlib.Core.Path.{◌≡◌, refl, sym, ap, subst, ◌∙◌}
use mathlib.Core.Bool.{Bool, true, false, and-eq-true_iff}
use mathlib.Core.Logic.{◌⊎◌, inl, inr, ⊎_elim}
use mathlib.Core.List.{◌∷◌}
use Prim.Native.Nat.{ℕ, suc, ◌+◌, ◌-◌, ◌^◌, ◌≤◌, ◌<◌}
use native.Mathlib.Decide.{ℕ_discrete}
use native.Mathlib.Omega.{arith}
use lib.ListN.{length}
use lib.Dec.{eqb, leb, ltb}
use borrow.Author.Tests.{eq-eqb, eqb-true, leb-true, ltb-true, ltb-false, ne_eqb, le-leb}
use Rattle.address.specs.Bits.{number, longest}
use Rattle.address.specs.Steps.{child, steps, address_of, spelled}
use Rattle.address.specs.Address.{bit_length, is_host, parent}
use Rattle.address.specs.Numbers.{IsAddress}
use Rattle.address.specs.declared.Kind.{Kind}
use Rattle.address.specs.declared.Kind.TheVariants.{Router, Host}
use Rattle.address.proofs.Numbers.{bit_length-pos}
use Rattle.address.proofs.Steps.{spelled-steps, address_of-steps, length-spelled, address-address_of, steps-address_of, parent-address_of}
use Rattle.address.proofs.Ancestors.{number-child, routers-steps}
use Rattle.node.specs.Node.{Node, Given, address_in, address_at, no_cap, fresh, with_counts, count, raised, limit, fits_address, is_good}
use Rattle.node.specs.Node.{child_bits, refuse_child, child_of}
use Rattle.node.specs.Refusals.{FitsLimits}
use Rattle.node.proofs.ChildLaws.{room, some_good, fits-good, limit_most, count_kept, good_of, fits_address-host, fits_address-hosts}
use Rattle.node.proofs.ChildLaws.{length-child_bits, child_of-bad, child_of-host, child_of-limit, child_of-long, child_of-done}

-- records

pub address_in-fresh : (a : ℕ) → address_in (fresh a) ≡ a
unfolding fresh
address_in-fresh a = refl

pub count-fresh : (kind : Kind) (a : ℕ) → count kind (fresh a) ≡ 0
unfolding count fresh
count-fresh Router a = refl
count-fresh Host a = refl

pub limit-fresh : (kind : Kind) (a : ℕ) → limit kind (fresh a) ≡ no_cap
unfolding limit fresh
limit-fresh Router a = refl
limit-fresh Host a = refl

pub address_in-raised : (kind : Kind) (n : Node) → address_in (raised kind n) ≡ address_in n
unfolding raised with_counts
address_in-raised Router n = refl
address_in-raised Host n = refl

pub count-raised : (kind : Kind) (n : Node) → count kind (raised kind n) ≡ count kind n + 1
unfolding count raised with_counts
count-raised Router n = refl
count-raised Host n = refl

pub limit-raised : (kind other : Kind) (n : Node) → limit other (raised kind n) ≡ limit other n
unfolding limit raised with_counts
limit-raised Router Router n = refl
limit-raised Router Host n = refl
limit-raised Host Router n = refl
limit-raised Host Host n = refl

pub count-raised_other : (kind other : Kind) (n : Node) → (kind ≡ other → ⊥) → count other (raised kind n) ≡ count other n
unfolding count raised with_counts
count-raised_other Router Router n ne = absurd (ne refl)
count-raised_other Router Host n ne = refl
count-raised_other Host Router n ne = refl
count-raised_other Host Host n ne = absurd (ne refl)

-- good records

module _ (n : Node) (good : is_good n ≡ true) where
  pub address-good : address_in n < 2 ^ longest → IsAddress (address_in n)
  address-good fits = record { some = some_good n good; fits = fits }

  some : address_in n ≡ 0 → ⊥
  some z = omega (arith, some_good n good)

  pub count-host : is_host (address_in n) ≡ true → (kind : Kind) → count kind n ≡ 0
  unfolding count fits_address
  count-host h kind = go kind ((and-eq-true_iff (eqb n.routers 0) (eqb n.hosts 0)).0 (rw (ne_eqb (address_in n) 0 some, h) at (fits-good n good)))
    where
      go : (kind : Kind) → (eqb n.routers 0 ≡ true) × (eqb n.hosts 0 ≡ true) → count kind n ≡ 0
      go Router (r, h) = unfold count in eqb-true n.routers 0 r
      go Host (r, h) = unfold count in eqb-true n.hosts 0 h

  pub count-le : is_host (address_in n) ≡ false → (kind : Kind) → count kind n ≤ room n
  unfolding fits_address
  count-le h kind =
      go kind ((and-eq-true_iff (leb n.routers (room n)) (leb n.hosts (room n))).0 (rw (ne_eqb (address_in n) 0 some, h) at (fits-good n good)))
    where
      go : (kind : Kind) → (leb n.routers (room n) ≡ true) × (leb n.hosts (room n) ≡ true) → count kind n ≤ room n
      go Router (r, h) = unfold count in leb-true n.routers (room n) r
      go Host (r, h) = unfold count in leb-true n.hosts (room n) h

-- "64 meaning no cap": no count comes so far
pub below-no_cap : (n : Node) → is_good n ≡ true → IsAddress (address_in n) → (kind : Kind) → limit kind n ≡ no_cap → count kind n ≡ limit kind n → ⊥
below-no_cap n good a kind free e = go (is_host (address_in n)) refl
  where
    go : (h : Bool) → is_host (address_in n) ≡ h → ⊥
    go true h = omega (arith, count-host n good h kind)
    go false h = omega (arith, count-le n good h kind, bit_length-pos a)

pub is_good-host : (n : Node) → FitsLimits n → (address_in n ≡ 0 → ⊥) → is_host (address_in n) ≡ true → ((kind : Kind) → count kind n ≡ 0) → is_good n ≡ true
unfolding count
is_good-host n k some h none =
    good_of n k.most k.kept ∙ fits_address-host n some h (none Router) ∙ eq-eqb n.hosts 0 (none Host)

pub is_good-counts : (n : Node) → FitsLimits n → (address_in n ≡ 0 → ⊥) → is_host (address_in n) ≡ false → ((kind : Kind) → count kind n ≤ room n) → is_good n ≡ true
unfolding count
is_good-counts n k some h le =
    good_of n k.most k.kept ∙ fits_address-hosts n some h (le Router) ∙ le-leb n.hosts (room n) (le Host)

pub is_good-fresh : {a : ℕ} → IsAddress a → is_good (fresh a) ≡ true
unfolding fresh
is_good-fresh {a} i = go (is_host a) refl
  where
    within : FitsLimits (fresh a)
    within = record {
      most = λ kind. omega (arith, limit-fresh kind a);
      kept = λ kind. omega (arith, limit-fresh kind a, count-fresh kind a);
    }

    go : (h : Bool) → is_host a ≡ h → is_good (fresh a) ≡ true
    go true h = unfold fresh in is_good-host (fresh a) within (λ z. omega (arith, i.some)) h (λ kind. count-fresh kind a)
    go false h = unfold fresh in is_good-counts (fresh a) within (λ z. omega (arith, i.some)) h (λ kind. omega (arith, count-fresh kind a))

-- a count that is below something, raised, is not above it

raised-le : (most : Kind → ℕ) (kind other : Kind) (n : Node) → count kind n + 1 ≤ most kind → count other n ≤ most other
    → count other (raised kind n) ≤ most other
unfolding count raised with_counts
raised-le most Router Router n more le = more
raised-le most Router Host n more le = le
raised-le most Host Router n more le = le
raised-le most Host Host n more le = more

pub count-le-raised : (kind other : Kind) (n : Node) → count other n ≤ count other (raised kind n)
unfolding count raised with_counts
count-le-raised Router Router n = omega arith
count-le-raised Router Host n = omega arith
count-le-raised Host Router n = omega arith
count-le-raised Host Host n = omega arith

last-or-less : (kind : Kind) (j i : ℕ) → j < i + 1 → (j < i) ⊎ (child kind j ≡ child kind i)
last-or-less kind j i l = go (ℕ_discrete j i)
  where
    go : Dec (j ≡ i) → (j < i) ⊎ (child kind j ≡ child kind i)
    go (yes e) = inr (ap (λ (k : ℕ). child kind k) e)
    go (no ne) = inl (omega arith)

-- a child that a count raised speaks of is one that the old count spoke of, or the one given
pub lt-raised : (kind other : Kind) (n : Node) (j : ℕ) → j < count other (raised kind n)
    → (j < count other n) ⊎ (child other j ≡ child kind (count kind n))
unfolding count raised with_counts
lt-raised Router Router n j l = last-or-less Router j n.routers l
lt-raised Router Host n j l = inl l
lt-raised Host Router n j l = inl l
lt-raised Host Host n j l = last-or-less Host j n.hosts l

-- the request for a child

-- nothing speaks against a child: a good record, no host's, not at its limit, and room for it
pub record MayGive (n : Node) (kind : Kind) : Type 0 where
  pub good : is_good n ≡ true
  pub inner : is_host (address_in n) ≡ false
  pub below : count kind n ≡ limit kind n → ⊥
  pub short : length (child_bits n kind) ≤ longest

-- a request is answered with a child or refused
pub child_of-cases : (n : Node) (kind : Kind) → MayGive n kind ⊎ ((number : ℕ) × (child_of n kind ≡ refuse_child (suc number) n))
child_of-cases n kind = go (is_good n) (is_host (address_in n)) (ℕ_discrete (count kind n) (limit kind n)) (ltb longest (length (child_bits n kind))) refl refl refl
  where
    go : (g h : Bool) → Dec (count kind n ≡ limit kind n) → (l : Bool) → is_good n ≡ g → is_host (address_in n) ≡ h → ltb longest (length (child_bits n kind)) ≡ l
        → MayGive n kind ⊎ ((number : ℕ) × (child_of n kind ≡ refuse_child (suc number) n))
    go false h at l eg eh el = inr (0, child_of-bad n kind eg)
    go true true at l eg eh el = inr (1, child_of-host n kind eg eh)
    go true false (yes e) l eg eh el = inr (14, child_of-limit n kind eg eh e)
    go true false (no below) true eg eh el =
        inr (2, child_of-long n kind eg eh below (omega (arith, ltb-true longest (length (child_bits n kind)) el, length-child_bits n kind)))
    go true false (no below) false eg eh el =
        inl (record { good = eg; inner = eh; below = below; short = ltb-false longest (length (child_bits n kind)) el })

pub may_give : (n : Node) (kind : Kind) → (child_of n kind).refusal ≡ 0 → MayGive n kind
unfolding refuse_child
may_give n kind e = ⊎_elim (λ m. m) (λ r. absurd (omega (arith, ap (λ (g : Given). g.refusal) r.1))) (child_of-cases n kind)

module _ {n : Node} {kind : Kind} (may : MayGive n kind) where
  pub child_of-given : child_of n kind ≡ record { node = raised kind n; child = address_at (number (child_bits n kind)); refusal = 0 }
  child_of-given = child_of-done n kind may.good may.inner may.below (omega (arith, may.short, length-child_bits n kind))

  -- below its limit
  count-lt : count kind n + 1 ≤ limit kind n
  count-lt = let other = may.below in omega (arith, count_kept n may.good kind)

  kept-raised : FitsLimits (raised kind n)
  kept-raised = record {
    most = λ other. omega (arith, limit-raised kind other n, limit_most n may.good other);
    kept = λ other.
        rw (limit-raised kind other n) (raised-le (λ (k : Kind). limit k n) kind other n count-lt (count_kept n may.good other));
  }

  pub is_good-raised : is_good (raised kind n) ≡ true
  is_good-raised =
      is_good-counts (raised kind n) kept-raised (λ z. some n may.good (sym (address_in-raised kind n) ∙ z)) (rw (address_in-raised kind n) may.inner)
      (λ other.
      subst (λ (a : ℕ). count other (raised kind n) ≤ longest - bit_length a) (sym (address_in-raised kind n))
      (raised-le (λ (k : Kind). room n) kind other n (omega (arith, length-child_bits n kind, may.short)) (count-le n may.good may.inner other)))

  module _ (a : IsAddress (address_in n)) where
    number-given : number (child_bits n kind) ≡ address_of (child kind (count kind n) ∷ steps (address_in n))
    unfolding child_bits
    number-given = number-child a (child kind (count kind n))

    short-given : length (spelled (child kind (count kind n) ∷ steps (address_in n))) ≤ longest
    unfolding bit_length
    short-given = omega (arith, length-spelled kind (count kind n) (steps (address_in n)), ap length (spelled-steps a), length-child_bits n kind, may.short)

    -- the child's address is the node's and exactly one step more
    pub steps-child : steps (number (child_bits n kind)) ≡ child kind (count kind n) ∷ steps (address_in n)
    steps-child = rw number-given (steps-address_of (child kind (count kind n) ∷ steps (address_in n)) short-given (routers-steps a may.inner))

    pub address-child : IsAddress (number (child_bits n kind))
    address-child = rw number-given (address-address_of (child kind (count kind n) ∷ steps (address_in n)) short-given)

    pub parent-child : parent (number (child_bits n kind)) ≡ address_in n
    parent-child =
        rw number-given
        (parent-address_of (child kind (count kind n)) (steps (address_in n)) short-given (routers-steps a may.inner) ∙ address_of-steps a)
