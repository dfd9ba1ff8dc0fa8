-- What an input asks for, test by test, in terms of what the reader finds. Assumes nothing.
use mathlib.Core.Path.{◌≡◌, refl, sym, ap, ◌∙◌}
use mathlib.Core.Logic.{◌⊎◌, inl, inr}
use mathlib.Core.Bool.{Bool, true, false, not, ◌||◌, and-false}
use mathlib.Core.List.{List, [], ◌∷◌}
use Prim.Native.Nat.{ℕ, suc, ◌-◌, ◌≤◌, ◌<◌}
use native.Mathlib.Nat.{mod-eq_of_lt}
use native.Mathlib.Omega.{arith}
use borrow.Author.Tests.{eqb-true, eq-eqb, ne_eqb, le-leb, lt-leb, leb-true}
use lib.ListN.{length, get_or, take, drop, length-drop}
use lib.Seq.{take_all}
use lib.Dec.{eqb}
use lib.Pointwise.{pointwise, bytes_decides}
use Rattle.std.specs.Prelude.{if◌then◌else◌}
use Rattle.std.specs.List.{fold, prefix_len}
use Rattle.address.specs.Bits.{Bit, O, I, number, longest}
use Rattle.address.specs.Numbers.{IsAddressString}
use Rattle.address.proofs.Numbers.{number-address}
use Rattle.octets.proofs.SameLaws.{same_refl, same_ne}
use Rattle.line.specs.Line.{digit_one, digit_zero, space, newline, is_digit, digits_of, after_digits, are_address, after_space, parsed, between, unreadable}
use Rattle.line.proofs.Digits.{length-digits_of, pushed, fold-digits}

-- ---- digits that are an address

pub are_address-string : (ds : List Bit) → are_address ds ≡ true → IsAddressString ds
unfolding are_address
are_address-string [] e = let z : ◌≡◌ {A = ℕ} 0 1 = cc in absurd (omega arith)
are_address-string (O ∷ ds) e = let z : ◌≡◌ {A = ℕ} 0 1 = cc in absurd (omega arith)
are_address-string (I ∷ ds) e = record { first = (ds, refl); short = leb-true (suc (length ds)) longest e }

pub string-are_address : (ds : List Bit) → IsAddressString ds → are_address ds ≡ true
unfolding are_address
string-are_address [] s = let e = s.first.1 in cc
string-are_address (O ∷ ds) s = let e = s.first.1 in cc
string-are_address (I ∷ ds) s = le-leb (suc (length ds)) longest s.short

are_address-long : (ds : List Bit) → longest < length ds → are_address ds ≡ false
unfolding are_address
are_address-long [] h = refl
are_address-long (O ∷ ds) h = refl
are_address-long (I ∷ ds) h = lt-leb (suc (length ds)) longest h

are_address-none : (ds : List Bit) → length ds ≡ 0 → are_address ds ≡ false
unfolding are_address
are_address-none [] e = refl
are_address-none (b ∷ ds) e = absurd (omega arith)

digits_of-one : (o : ℕ) (os : List ℕ) → o ≡ digit_one → digits_of (o ∷ os) ≡ I ∷ digits_of os
unfolding digits_of
digits_of-one o os e = rw e

are_address_other : (o : ℕ) (os : List ℕ) → (o ≡ digit_one → ⊥) → are_address (digits_of (o ∷ os)) ≡ false
unfolding digits_of are_address
are_address_other o os h = rw (ne_eqb o digit_one h) (go (eqb o digit_zero))
  where
    go : (t : Bool) → are_address (if t || false then O ∷ digits_of os else []) ≡ false
    go true = refl
    go false = refl

-- the digits in front of a text

pub found_other : (text : List ℕ) → (get_or text 0 0 ≡ digit_one → ⊥) → are_address (digits_of text) ≡ false
found_other [] h = unfold digits_of are_address in refl
found_other (o ∷ os) h = are_address_other o os h

module _ (text : List ℕ) {k : ℕ} (e : k ≡ prefix_len is_digit text) where
  pub found_none : (k ≡ 0) ⊎ ((k ≡ 0 → ⊥) × longest < k) → are_address (digits_of text) ≡ false
  found_none (inl z) = are_address-none (digits_of text) (omega (arith, length-digits_of text))
  found_none (inr h) = are_address-long (digits_of text) (omega (arith, h.1, length-digits_of text))

  pub found : (k ≡ 0 → ⊥) → k ≤ longest → get_or text 0 0 ≡ digit_one
      → (are_address (digits_of text) ≡ true)
      × (fold pushed 0 (take k text) ≡ number (digits_of text))
      × (take (length text - k) (drop k text) ≡ after_digits text)
  unfolding after_digits number
  found some l one =
      let count = length-digits_of text in
      let string : IsAddressString (digits_of text) = record { first = go text one (omega arith); short = omega arith } in (
        string-are_address (digits_of text) string,
        ap (λ (n : ℕ). fold pushed 0 (take n text)) e ∙ fold-digits text 0 0 refl ∙ mod-eq_of_lt (number-address string).fits,
        take_all (length text - k) (drop k text) (omega (arith, length-drop k text)) ∙ ap (λ (n : ℕ). drop n text) (omega arith),
      )
    where
      go : (os : List ℕ) → get_or os 0 0 ≡ digit_one → 0 < length (digits_of os) → (ds : List Bit) × (digits_of os ≡ I ∷ ds)
      go [] o h = absurd (omega (arith, length-digits_of []))
      go (o ∷ os) f h = (digits_of os, digits_of-one o os f)

-- what stands behind one space

pub after_space_none : (os : List ℕ) → pointwise eqb (take 1 os) (space ∷ []) ≡ false → after_space os ≡ []
unfolding after_space
after_space_none [] e = refl
after_space_none (o ∷ os) e = go (eqb o space) refl
  where
    go : (t : Bool) → eqb o space ≡ t → (if t then os else []) ≡ []
    go true f =
        let first : o ∷ [] ≡ space ∷ [] = rw (eqb-true o space f) in
        let same = (bytes_decides (o ∷ []) (space ∷ [])).1 first in
        cc
    go false f = refl

pub after_space-some : (os : List ℕ) → pointwise eqb (take 1 os) (space ∷ []) ≡ true → after_space os ≡ drop 1 os
unfolding after_space
after_space-some [] e = refl
after_space-some (o ∷ os) e =
    let first = (bytes_decides (o ∷ []) (space ∷ [])).0 e in
    let is : o ≡ space = cc in
    rw (eq-eqb o space is)

not-false : (t : Bool) → not t ≡ false → t ≡ true
not-false true e = refl
not-false false e = cc

-- ---- the input, test by test

module _ (input : List ℕ) where
  pub parsed-first : are_address (digits_of input) ≡ false → parsed input ≡ unreadable
  unfolding parsed
  parsed-first e = rw e

  module _ {rest : List ℕ} (r : rest ≡ after_digits input) where
    parsed-second : {behind : List ℕ} → behind ≡ after_space rest → are_address (digits_of behind) ≡ false → parsed input ≡ unreadable
    unfolding parsed
    parsed-second b e = rw (← r, ← b, e, and-false)

    pub parsed_unspaced : pointwise eqb (take 1 rest) (space ∷ []) ≡ false → parsed input ≡ unreadable
    parsed_unspaced e = parsed-second (sym (after_space_none rest e)) (unfold digits_of are_address in refl)

    module _ {behind : List ℕ} (p : pointwise eqb (take 1 rest) (space ∷ []) ≡ true) (b : behind ≡ drop 1 rest) where
      behind_is : behind ≡ after_space rest
      behind_is = b ∙ sym (after_space-some rest p)

      pub parsed_no_second : are_address (digits_of behind) ≡ false → parsed input ≡ unreadable
      parsed_no_second = parsed-second behind_is

      module _ {last : List ℕ} (l : last ≡ after_digits behind) where
        pub parsed_unended : true ≡ not (pointwise eqb last (newline ∷ [])) → parsed input ≡ unreadable
        unfolding parsed
        parsed_unended e = rw (← r, ← behind_is, ← l, same_ne last (newline ∷ []) (λ f. let t = (bytes_decides last (newline ∷ [])).1 f in let u = rw t at e in cc), and-false)

        pub parsed-both : false ≡ not (pointwise eqb last (newline ∷ []))
            → are_address (digits_of input) ≡ true → are_address (digits_of behind) ≡ true
            → parsed input ≡ between (number (digits_of input)) (number (digits_of behind))
        unfolding parsed
        parsed-both e a d =
            let t : pointwise eqb last (newline ∷ []) ≡ true = cc (not-false _ (sym e)) in
            let end = (bytes_decides last (newline ∷ [])).0 t in
            rw (← r, ← behind_is, ← l, a, d, end, same_refl (newline ∷ []))
