-- What reading a field answers, case by case. Assumes nothing.
use mathlib.Core.Path.{◌≡◌, ap, ◌∙◌}
use mathlib.Core.List.{List, ◌++◌}
use Prim.Native.Nat.{ℕ, ◌+◌, ◌*◌, ◌-◌, ◌^◌, ◌≤◌, ◌<◌}
use native.Mathlib.Omega.{arith}
use borrow.Author.Tests.{eq-eqb, ne_eqb, lt-ltb, le-ltb}
use lib.ListN.{length, take, drop, get_or, length-append}
use lib.Seq.{take_at, drop-append_seam}
use Rattle.octets.specs.Octets.{value}
use Rattle.nsa.specs.Fields.{Field, field, refused_field, number_reading, length_reading, counted_reading, address_reading}

-- a field's refusal
abbrev pub refusal : Field → ℕ
refusal f = f.refusal

-- ---- the number behind the first octets

-- some octets behind others, with more behind them, are there, and are what is cut out
pub cut_out : (front os behind : List ℕ) (count : ℕ) → length os ≡ count
    → (length front + count ≤ length (front ++ (os ++ behind))) × (take count (drop (length front) (front ++ (os ++ behind))) ≡ os)
cut_out front os behind count many = (
  omega (arith, length-append front (os ++ behind), length-append os behind),
  ap (take count) (drop-append_seam front (os ++ behind)) ∙ take_at os behind count many,
)

module _ (before count least added : ℕ) (p : List ℕ) where
  pub number_reading-missing : length p < before + count → number_reading before count least added p ≡ refused_field 4
  unfolding number_reading
  number_reading-missing h = rw (lt-ltb (length p) (before + count) h)

  module _ (whole : before + count ≤ length p) where
    pub number_reading-low : value (take count (drop before p)) < least → number_reading before count least added p ≡ refused_field 6
    unfolding number_reading
    number_reading-low h = rw (le-ltb (length p) (before + count) whole, lt-ltb (value (take count (drop before p))) least h)

    pub number_reading-found : least ≤ value (take count (drop before p))
        → number_reading before count least added p ≡ field (value (take count (drop before p)) + added) (before + count)
    unfolding number_reading
    number_reading-found h = rw (le-ltb (length p) (before + count) whole, le-ltb (value (take count (drop before p))) least h)

-- ---- a payload length

module _ (p : List ℕ) where
  pub length_reading-absent : length p < 1 → length_reading p ≡ refused_field 4
  unfolding length_reading
  length_reading-absent h = rw (lt-ltb (length p) 1 h)

  module _ (some : 1 ≤ length p) where
    pub length_reading_alone : get_or p 0 0 < 253 → length_reading p ≡ field (get_or p 0 0) 1
    unfolding length_reading
    length_reading_alone h = rw (le-ltb (length p) 1 some, lt-ltb (get_or p 0 0) 253 h)

    pub length_reading-one : get_or p 0 0 ≡ 253 → length_reading p ≡ number_reading 1 1 1 252 p
    unfolding length_reading
    length_reading-one e = let l : 253 ≤ get_or p 0 0 = omega arith in rw (le-ltb (length p) 1 some, le-ltb (get_or p 0 0) 253 l, eq-eqb (get_or p 0 0) 253 e)

    pub length_reading_two : get_or p 0 0 ≡ 254 → length_reading p ≡ number_reading 1 2 256 252 p
    unfolding length_reading
    length_reading_two e =
        let l : 253 ≤ get_or p 0 0 = omega arith in
        rw (le-ltb (length p) 1 some, le-ltb (get_or p 0 0) 253 l, ne_eqb (get_or p 0 0) 253 (λ z. omega arith), eq-eqb (get_or p 0 0) 254 e)

    pub length_reading_reserved : 254 < get_or p 0 0 → length_reading p ≡ refused_field 6
    unfolding length_reading
    length_reading_reserved h =
        let l : 253 ≤ get_or p 0 0 = omega arith in
        rw (le-ltb (length p) 1 some, le-ltb (get_or p 0 0) 253 l, ne_eqb (get_or p 0 0) 253 (λ z. omega arith), ne_eqb (get_or p 0 0) 254 (λ z. omega arith))

  -- ---- an address

  pub counted_reading-absent : length p < 2 → counted_reading p ≡ refused_field 4
  unfolding counted_reading
  counted_reading-absent h = rw (lt-ltb (length p) 2 h)

  module _ (both : 2 ≤ length p) where
    pub counted_reading-few : get_or p 1 0 < 5 → counted_reading p ≡ refused_field 6
    unfolding counted_reading
    counted_reading-few h = rw (le-ltb (length p) 2 both, lt-ltb (get_or p 1 0) 5 h)

    pub counted_reading-many : 8 < get_or p 1 0 → counted_reading p ≡ refused_field 6
    unfolding counted_reading
    counted_reading-many h = let l : 5 ≤ get_or p 1 0 = omega arith in rw (le-ltb (length p) 2 both, le-ltb (get_or p 1 0) 5 l, lt-ltb 8 (get_or p 1 0) h)

    pub counted_reading-right : 5 ≤ get_or p 1 0 → get_or p 1 0 ≤ 8 → counted_reading p ≡ number_reading 2 (get_or p 1 0) (2 ^ (8 * (get_or p 1 0 - 1))) 0 p
    unfolding counted_reading
    counted_reading-right l h = rw (le-ltb (length p) 2 both, le-ltb (get_or p 1 0) 5 l, le-ltb 8 (get_or p 1 0) h)

  pub address_reading-absent : length p < 1 → address_reading p ≡ refused_field 4
  unfolding address_reading
  address_reading-absent h = rw (lt-ltb (length p) 1 h)

  module _ (some : 1 ≤ length p) where
    pub address_reading-zero : get_or p 0 0 ≡ 0 → address_reading p ≡ refused_field 9
    unfolding address_reading
    address_reading-zero e = rw (le-ltb (length p) 1 some, eq-eqb (get_or p 0 0) 0 e)

    pub address_reading_alone : (get_or p 0 0 ≡ 0 → ⊥) → get_or p 0 0 < 253 → address_reading p ≡ field (get_or p 0 0) 1
    unfolding address_reading
    address_reading_alone n h = rw (le-ltb (length p) 1 some, ne_eqb (get_or p 0 0) 0 n, lt-ltb (get_or p 0 0) 253 h)

    pub address_reading_two : get_or p 0 0 ≡ 253 → address_reading p ≡ number_reading 1 2 253 0 p
    unfolding address_reading
    address_reading_two e =
        let l : 253 ≤ get_or p 0 0 = omega arith in
        rw (le-ltb (length p) 1 some, ne_eqb (get_or p 0 0) 0 (λ z. omega arith), le-ltb (get_or p 0 0) 253 l, eq-eqb (get_or p 0 0) 253 e)

    pub address_reading_four : get_or p 0 0 ≡ 254 → address_reading p ≡ number_reading 1 4 (256 ^ 2) 0 p
    unfolding address_reading
    address_reading_four e =
        let l : 253 ≤ get_or p 0 0 = omega arith in
        rw (le-ltb (length p) 1 some, ne_eqb (get_or p 0 0) 0 (λ z. omega arith), le-ltb (get_or p 0 0) 253 l, ne_eqb (get_or p 0 0) 253 (λ z. omega arith), eq-eqb (get_or p 0 0) 254 e)

    pub address_reading-counted : 254 < get_or p 0 0 → address_reading p ≡ counted_reading p
    unfolding address_reading
    address_reading-counted h =
        let l : 253 ≤ get_or p 0 0 = omega arith in
        rw (le-ltb (length p) 1 some, ne_eqb (get_or p 0 0) 0 (λ z. omega arith), le-ltb (get_or p 0 0) 253 l, ne_eqb (get_or p 0 0) 253 (λ z. omega arith), ne_eqb (get_or p 0 0) 254 (λ z. omega arith))

-- ---- the cases of each, for the functions that read them

pub ruleset number_cases = (number_reading-missing, number_reading-low, number_reading-found)

pub ruleset length_cases = (length_reading-absent, length_reading_alone, length_reading-one, length_reading_two, length_reading_reserved)

pub ruleset counted_cases = (counted_reading-absent, counted_reading-few, counted_reading-many, counted_reading-right)

pub ruleset address_cases = (address_reading-absent, address_reading-zero, address_reading_alone, address_reading_two, address_reading_four, address_reading-counted)
