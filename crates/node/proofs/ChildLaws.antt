-- What `is_good`, `child_of` and `set_limit` come to, one law for each answer: the tests that passed on the way, and the one that decides. A child's
-- number is that of one step more.
use mathlib.Core.Path.{◌≡◌, refl, sym, ap₂, ◌∙◌}
use mathlib.Core.Logic.{⊎_elim}
use mathlib.Core.Bool.{Bool, true, false, ◌&&◌, and-eq-true_iff}
use Prim.Native.Nat.{ℕ, ◌+◌, ◌*◌, ◌-◌, ◌%◌, ◌^◌, ◌≤◌, ◌<◌}
use native.Mathlib.Nat.{eq-zero-or-pos, one-mul, add-mul, mul-le-mul_right, mod-eq_of_lt}
use native.Mathlib.Omega.{arith}
use lib.ListN.{length, length-append, length-replicate}
use lib.Pow.{pow-lt, pow_pos, pow-add, pow_mono}
use lib.Dec.{eqb, leb}
use borrow.Author.Tests.{eq-eqb, ne_eqb, lt-ltb, le-ltb, le-leb, leb-true}
use Rattle.address.specs.Bits.{digit, number, longest}
use Rattle.address.specs.Steps.{child, step_bits, last_of}
use Rattle.address.specs.declared.Kind.{Kind}
use Rattle.address.specs.declared.Kind.TheVariants.{Router, Host}
use Rattle.address.specs.Address.{bit_length, is_host}
use Rattle.address.specs.Numbers.{IsAddress}
use Rattle.address.specs.declared.Address.{Address}
use Rattle.address.proofs.Numbers.{lt-bit_length, bit_length-le, digit_lt}
use Rattle.address.proofs.Steps.{address_of-steps, address_of-child}
use Rattle.address.proofs.Ancestors.{number-child}
use Rattle.node.specs.Node.{Node, address_in, address_at, no_cap, count, raised, limit, with_limit, fits_address, fits_limit, is_good}
use Rattle.node.specs.Node.{child_bits, refuse_child, child_of, refuse_setting, set_limit}

-- the children of each kind that a node has room for
abbrev pub room : Node → ℕ
room n = longest - bit_length (address_in n)

-- no address is longer than the longest
pub ruleset bit_length_bound = (bit_length-le)

-- the counts fit the address

module _ (n : Node) where
  pub fits_address-zero : address_in n ≡ 0 → fits_address n ≡ false
  unfolding fits_address
  fits_address-zero z = rw (eq-eqb (address_in n) 0 z)

  module _ (some : address_in n ≡ 0 → ⊥) where
    pub fits_address-host : is_host (address_in n) ≡ true → n.routers ≡ 0 → fits_address n ≡ eqb n.hosts 0
    unfolding fits_address
    fits_address-host h r = rw (ne_eqb (address_in n) 0 some, h, eq-eqb n.routers 0 r)

    pub fits_address-hosts : is_host (address_in n) ≡ false → n.routers ≤ room n → fits_address n ≡ leb n.hosts (room n)
    unfolding fits_address
    fits_address-hosts h r = rw (ne_eqb (address_in n) 0 some, h, le-leb n.routers (room n) r)

-- the counts keep to the limits

module _ (kind : Kind) (n : Node) where
  pub fits_limit-count : limit kind n ≤ no_cap → fits_limit kind n ≡ leb (count kind n) (limit kind n)
  unfolding fits_limit
  fits_limit-count l = rw (le-leb (limit kind n) no_cap l)

  fits_limit-parts : fits_limit kind n ≡ true → (limit kind n ≤ no_cap) × (count kind n ≤ limit kind n)
  unfolding fits_limit
  fits_limit-parts e =
      let (most, kept) = (and-eq-true_iff (leb (limit kind n) no_cap) (leb (count kind n) (limit kind n))).0 e in
      (leb-true (limit kind n) no_cap most, leb-true (count kind n) (limit kind n) kept)

-- good records

and_false : (t : Bool) → t && false ≡ false
and_false true = refl
and_false false = refl

module _ (n : Node) where
  pub is_good-kept : fits_limit Router n ≡ true → fits_limit Host n ≡ true → is_good n ≡ fits_address n
  unfolding is_good
  is_good-kept r h = rw (r, h)

  pub is_good-zero : address_in n ≡ 0 → is_good n ≡ false
  unfolding is_good
  is_good-zero z = rw (fits_address-zero n z) (and_false (fits_limit Router n && fits_limit Host n))

  module _ (good : is_good n ≡ true) where
    parts : (fits_limit Router n && fits_limit Host n ≡ true) × (fits_address n ≡ true)
    unfolding is_good
    parts = (and-eq-true_iff (fits_limit Router n && fits_limit Host n) (fits_address n)).0 good

    pub fits-good : fits_address n ≡ true
    fits-good = parts.1

    kept-good : (kind : Kind) → fits_limit kind n ≡ true
    kept-good Router = ((and-eq-true_iff (fits_limit Router n) (fits_limit Host n)).0 parts.0).0
    kept-good Host = ((and-eq-true_iff (fits_limit Router n) (fits_limit Host n)).0 parts.0).1

    pub limit_most : (kind : Kind) → limit kind n ≤ no_cap
    limit_most kind = (fits_limit-parts kind n (kept-good kind)).0

    pub count_kept : (kind : Kind) → count kind n ≤ limit kind n
    count_kept kind = (fits_limit-parts kind n (kept-good kind)).1

    pub some_good : 0 < address_in n
    some_good = ⊎_elim (λ z. let e = fits_address-zero n z in let f : ◌≡◌ {A = ℕ} 0 1 = cc fits-good in absurd (omega arith)) (λ p. p) (eq-zero-or-pos (address_in n))

  -- a good record, from its parts
  pub good_of : ((kind : Kind) → limit kind n ≤ no_cap) → ((kind : Kind) → count kind n ≤ limit kind n) → is_good n ≡ fits_address n
  good_of most kept = is_good-kept (go Router) (go Host)
    where
      go : (kind : Kind) → fits_limit kind n ≡ true
      go kind = fits_limit-count kind n (most kind) ∙ le-leb (count kind n) (limit kind n) (kept kind)

module _ (n : Node) (kind : Kind) where
  pub length-child_bits : length (child_bits n kind) ≡ bit_length (address_in n) + count kind n + 1
  unfolding child_bits step_bits bit_length
  length-child_bits = rw (length-append, length-append, length-replicate) (omega arith)

  pub number-child_bits : IsAddress (address_in n)
      → number (child_bits n kind) ≡ (address_in n * 2 ^ count kind n + (2 ^ count kind n - 1)) * 2 + digit (last_of kind)
  unfolding child_bits
  number-child_bits a =
      number-child a (child kind (count kind n)) ∙ address_of-child kind (count kind n) _ ∙ rw (address_of-steps a)

  pub child_of-bad : is_good n ≡ false → child_of n kind ≡ refuse_child 1 n
  unfolding child_of
  child_of-bad g = rw g

  module _ (good : is_good n ≡ true) where
    pub child_of-host : is_host (address_in n) ≡ true → child_of n kind ≡ refuse_child 2 n
    unfolding child_of
    child_of-host h = rw (good, h)

    module _ (inner : is_host (address_in n) ≡ false) where
      pub child_of-limit : count kind n ≡ limit kind n → child_of n kind ≡ refuse_child 15 n
      unfolding child_of
      child_of-limit e = rw (good, inner, eq-eqb (count kind n) (limit kind n) e)

      module _ (below : count kind n ≡ limit kind n → ⊥) where
        pub child_of-long : longest < bit_length (address_in n) + count kind n + 1 → child_of n kind ≡ refuse_child 3 n
        unfolding child_of
        child_of-long l =
            rw (good, inner, ne_eqb (count kind n) (limit kind n) below, length-child_bits, lt-ltb longest (bit_length (address_in n) + count kind n + 1) l)

        pub child_of-done : bit_length (address_in n) + count kind n + 1 ≤ longest
            → child_of n kind ≡ record { node = raised kind n; child = address_at (number (child_bits n kind)); refusal = 0 }
        unfolding child_of
        child_of-done l =
            rw (good, inner, ne_eqb (count kind n) (limit kind n) below, length-child_bits, le-ltb longest (bit_length (address_in n) + count kind n + 1) l)

-- the setting of a limit

module _ (n : Node) (kind : Kind) (k : ℕ) where
  pub set_limit-bad : is_good n ≡ false → set_limit n kind k ≡ refuse_setting 1 n
  unfolding set_limit
  set_limit-bad g = rw g

  module _ (good : is_good n ≡ true) where
    pub set_limit-over : no_cap < k → set_limit n kind k ≡ refuse_setting 1 n
    unfolding set_limit
    set_limit-over l = rw (good, lt-ltb no_cap k l)

    module _ (most : k ≤ no_cap) where
      pub set_limit-below : k < count kind n → set_limit n kind k ≡ refuse_setting 1 n
      unfolding set_limit
      set_limit-below l = rw (good, le-ltb no_cap k most, lt-ltb k (count kind n) l)

      pub set_limit-done : count kind n ≤ k → set_limit n kind k ≡ record { node = with_limit kind k n; refusal = 0 }
      unfolding set_limit
      set_limit-done l = rw (good, le-ltb no_cap k most, le-ltb k (count kind n) l)

-- what the code makes: the power of two by a shift

abbrev pub shifted : ℕ → ℕ
shifted i = 1 * 2 ^ i % 2 ^ longest

shifted-pow : (i : ℕ) → i < longest → shifted i ≡ 2 ^ i
shifted-pow i h = rw one-mul (mod-eq_of_lt (pow-lt {i = i} {j = longest} h))

-- the child's bits but the last fit 63 bits
pub stem_lt : (a i : ℕ) {l : ℕ} → a < 2 ^ longest → l ≡ bit_length a → l + i + 1 ≤ longest
    → (0 < shifted i) × (a * shifted i + (shifted i - 1) < 2 ^ 63)
stem_lt a i h e short =
    rw (shifted-pow i (omega arith)) (
      pow_pos i,
      omega (
        arith,
        pow_pos i,
        pow-add 2 (bit_length a) i,
        add-mul a 1 (2 ^ i),
        mul-le-mul_right {m = a + 1} {n = 2 ^ bit_length a} (2 ^ i) (omega (arith, lt-bit_length h)),
        pow_mono {i = bit_length a + i} {j = 63} (omega arith),
      ),
    )

-- a child's length, and the numbers on the way to its own
pub ruleset child_room = (length-child_bits, bit_length-le, stem_lt, digit_lt)

module _ (n : Node) (kind : Kind) (good : is_good n ≡ true) (inner : is_host (address_in n) ≡ false) (below : count kind n ≡ limit kind n → ⊥) where
  pub child_of-made : address_in n < 2 ^ longest
      → {i l : ℕ} → i ≡ count kind n → l ≡ bit_length (address_in n) → l + i + 1 ≤ longest
      → {handed : Node} → handed ≡ raised kind n
      → {a : Address} {last : ℕ} → a.number ≡ (address_in n * shifted i + (shifted i - 1)) * 2 + last → last ≡ digit (last_of kind)
      → record { node = handed; child = a; refusal = 0 } ≡ child_of n kind
  child_of-made fits {i} {l} ones long short node {a} {last} made end =
      let made_of : a.number ≡ number (child_bits n kind) =
      made ∙ rw (shifted-pow i (omega arith), ones, end) (sym (number-child_bits n kind (record { some = some_good n good; fits = fits }))) in
      ap₂ (λ (m : Node) (k : ℕ). record { node = m; child = address_at k; refusal = 0 }) node made_of ∙ sym (child_of-done n kind good inner below (omega arith))
