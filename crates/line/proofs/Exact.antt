-- An input is read as two addresses exactly if it is their line: digits that are written are read again as they were, and what is read is
-- the digits, the space and the newline of the input. The longest output has a line of 9 octets and 126 of at most 65. Assumes nothing.
use mathlib.Core.Path.{◌≡◌, refl, sym, ap, ap₂, ◌∙◌, subst}
use mathlib.Core.Bool.{Bool, true, false, ◌&&◌, and-eq-true_iff}
use mathlib.Core.List.{List, [], ◌∷◌, ◌++◌, map, append_assoc}
use Prim.Native.Nat.{ℕ, ◌≤◌}
use native.Mathlib.Omega.{arith}
use borrow.Author.Tests.{eqb-true}
use lib.ListN.{length, drop, length-map}
use lib.Seq.{drop_at}
use lib.Dec.{eqb}
use Rattle.std.specs.Prelude.{if◌then◌else◌}
use Rattle.address.specs.Bits.{Bit, O, I, bits, number}
use Rattle.octets.specs.Octets.{same}
use Rattle.address.specs.Numbers.{IsAddressString, IsAddress}
use Rattle.address.proofs.Numbers.{bits-string, bits-number, number-bits, number-address}
use Rattle.octets.proofs.SameLaws.{same_refl, same_true}
use Rattle.route.specs.Path.{path}
use Rattle.route.proofs.Length.{at_most_126}
use Rattle.line.specs.Line.{digit_zero, digit_one, space, newline, is_digit, digits_of, after_digits, are_address, after_space, Parsed, between, unreadable, parsed, digit_text, address_text, refused_text, text_for, output_text}
use Rattle.line.specs.Exactly.{line_of, ExactlyTheLine, OutputFits}
use Rattle.line.proofs.Texts.{length-path_text-le}
use Rattle.line.proofs.Parsed.{are_address-string, string-are_address}

-- ---- what is written is read

module _ (o : ℕ) (os : List ℕ) (e : is_digit o ≡ false) where
  digits_of-digits : (bs : List Bit) → digits_of (map digit_text bs ++ (o ∷ os)) ≡ bs
  unfolding digits_of digit_text
  digits_of-digits [] = rw e
  digits_of-digits (O ∷ bs) = ap (λ (r : List Bit). O ∷ r) (digits_of-digits bs)
  digits_of-digits (I ∷ bs) = ap (λ (r : List Bit). I ∷ r) (digits_of-digits bs)

  after_digits-digits : (bs : List Bit) → after_digits (map digit_text bs ++ (o ∷ os)) ≡ o ∷ os
  unfolding after_digits
  after_digits-digits bs = rw (digits_of-digits bs) (drop_at (map digit_text bs) (o ∷ os) (length bs) (length-map bs digit_text))

parsed-digits : (bs cs : List Bit) → IsAddressString bs → IsAddressString cs
    → parsed (map digit_text bs ++ (space ∷ (map digit_text cs ++ (newline ∷ [])))) ≡ between (number bs) (number cs)
unfolding parsed after_space
parsed-digits bs cs s t =
    let rest = map digit_text cs ++ (newline ∷ []) in
    rw (
      digits_of-digits space rest refl bs,
      after_digits-digits space rest refl bs,
      digits_of-digits newline [] refl cs,
      after_digits-digits newline [] refl cs,
      string-are_address bs s,
      string-are_address cs t,
      same_refl (newline ∷ []),
    )

-- ---- what is read is written

digit-octet : (o : ℕ) (u : Bool) → eqb o digit_one ≡ u → is_digit o ≡ true → digit_text (if u then I else O) ≡ o
unfolding digit_text
digit-octet o true e d = sym (eqb-true o digit_one e)
digit-octet o false e d = go (eqb o digit_zero) refl
  where
    go : (z : Bool) → eqb o digit_zero ≡ z → digit_zero ≡ o
    go true f = sym (eqb-true o digit_zero f)
    go false f = let g : false ≡ true = rw (f, e) at d in cc

digits-after_digits : (os : List ℕ) → os ≡ map digit_text (digits_of os) ++ after_digits os
unfolding digits_of after_digits
digits-after_digits [] = refl
digits-after_digits (o ∷ os) = go (is_digit o) refl (digits-after_digits os)
  where
    all : Bool → List Bit
    all t = if t then (if eqb o digit_one then I else O) ∷ digits_of os else []

    go : (t : Bool) → is_digit o ≡ t → os ≡ map digit_text (digits_of os) ++ drop (length (digits_of os)) os → o ∷ os ≡ map digit_text (all t) ++ drop (length (all t)) (o ∷ os)
    go true e rest = ap₂ (λ (x : ℕ) (r : List ℕ). x ∷ r) (sym (digit-octet o (eqb o digit_one) refl e)) rest
    go false e rest = refl

after_space-some : (os : List ℕ) → are_address (digits_of (after_space os)) ≡ true → os ≡ space ∷ after_space os
unfolding digits_of are_address after_space
after_space-some [] a = cc
after_space-some (o ∷ os) a = go (eqb o space) refl a
  where
    go : (t : Bool) → eqb o space ≡ t → are_address (digits_of (if t then os else [])) ≡ true → o ∷ os ≡ space ∷ (if t then os else [])
    go true e b = ap (λ (x : ℕ). x ∷ os) (eqb-true o space e)
    go false e b = cc

-- the tests that an input passes which is read
record Read (input : List ℕ) (a d : ℕ) : Type 0 where
  first : are_address (digits_of input) ≡ true
  second : are_address (digits_of (after_space (after_digits input))) ≡ true
  end : after_digits (after_space (after_digits input)) ≡ newline ∷ []
  from : number (digits_of input) ≡ a
  to : number (digits_of (after_space (after_digits input))) ≡ d

module _ (input : List ℕ) (a d : ℕ) where
  abbrev behind : List ℕ
  behind = after_space (after_digits input)

  abbrev tests : Bool
  tests = are_address (digits_of input) && are_address (digits_of behind) && same (after_digits behind) (newline ∷ [])

  tests-read : (t : Bool) → tests ≡ t → (if t then between (number (digits_of input)) (number (digits_of behind)) else unreadable) ≡ between a d → Read input a d
  tests-read true p q =
      let all = (and-eq-true_iff (are_address (digits_of input) && are_address (digits_of behind)) (same (after_digits behind) (newline ∷ []))).0 p in
      let both = (and-eq-true_iff (are_address (digits_of input)) (are_address (digits_of behind))).0 all.0 in
      record { first = both.0; second = both.1; end = same_true (after_digits behind) (newline ∷ []) all.1; from = cc; to = cc }
  tests-read false p q = let z : ◌≡◌ {A = ℕ} 0 1 = cc in absurd (omega arith)

  parsed-read : parsed input ≡ between a d → Read input a d
  unfolding parsed
  parsed-read e = tests-read tests refl e

  module _ (r : Read input a d) where
    read-line : input ≡ line_of a d
    unfolding line_of address_text
    read-line =
        let one = bits-number (are_address-string (digits_of input) r.first) in
        let two = bits-number (are_address-string (digits_of behind) r.second) in
        digits-after_digits input
        ∙ ap (λ (l : List ℕ). map digit_text (digits_of input) ++ l) (after_space-some (after_digits input) r.second)
        ∙ ap (λ (l : List ℕ). map digit_text (digits_of input) ++ (space ∷ l)) (digits-after_digits behind)
        ∙ rw (r.end, ← r.from, ← r.to, one, two) (simp append_assoc)

    read_first : IsAddress a
    read_first = subst IsAddress r.from (number-address (are_address-string (digits_of input) r.first))

    read-second : IsAddress d
    read-second = subst IsAddress r.to (number-address (are_address-string (digits_of behind) r.second))

parsed-line : (a d : ℕ) → IsAddress a → IsAddress d → parsed (line_of a d) ≡ between a d
unfolding line_of address_text
parsed-line a d h l =
    simp append_assoc (parsed-digits (bits a) (bits d) (bits-string h) (bits-string l) ∙ ap₂ between (number-bits h.fits) (number-bits l.fits))

pub exactly_the_line : ExactlyTheLine
exactly_the_line = record {
  reads = parsed-line;
  only = λ input a d e. let r = parsed-read input a d e in (read_first input a d r, read-second input a d r, read-line input a d r);
}

pub output_fits : OutputFits
unfolding output_text text_for refused_text
output_fits input = go (parsed input) refl
  where
    go : (q : Parsed) → parsed input ≡ q → length (text_for q) ≤ 8200
    go (between a d) e =
        let ends = exactly_the_line.only input a d e in
        length-path_text-le (path a d) (at_most_126 a d ends.0 ends.1)
    go unreadable e = omega arith
