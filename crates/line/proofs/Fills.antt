-- What stands in lent octets while they are being filled: a number's digits from the back, and lines from the front. Assumes nothing.
use mathlib.Core.Path.{◌≡◌, refl, sym, ap, ◌∙◌}
use mathlib.Core.Logic.{◌⊎◌, inl, inr}
use mathlib.Core.List.{List, [], ◌∷◌, ◌++◌, append_assoc, append-nil}
use Prim.Native.Nat.{ℕ, zero, suc, ◌+◌, ◌-◌, ◌/◌, ◌%◌, ◌^◌, ◌≤◌, ◌<◌}
use native.Mathlib.Nat.{eq-zero-or-pos}
use native.Mathlib.Omega.{arith}
pub use borrow.Rule.Slice.PartMut.{put_mid}
use lib.ListN.{length, get_or, take, drop, set, length-set, length-append, length-drop, take-append-drop}
use lib.Seq.{take_all, set_split, drop_at, length-take-le}
use Rattle.std.specs.List.{sum_by}
use Rattle.std.proofs.lemmas.List.{take_more, take_more_set}
use Rattle.std.proofs.lemmas.List.Sums.{sum_by-cons}
use Rattle.std.proofs.lemmas.Slice.{take-put_mid}
use Rattle.address.specs.Bits.{longest}
use Rattle.line.specs.Line.{digit_zero, newline, address_text, decimal, digits_in, lines, hops_text}
use Rattle.line.proofs.Texts.{address_text-half, address_text-zero, decimal-one, decimal_two, decimal_three}
use Rattle.line.proofs.DecimalLaws.{one, two, three, size}

-- ---- digits, the last one first: those before place i are still to be written

drop-set : (out : List ℕ) (a i : ℕ) → i < length out → drop i (set out i a) ≡ a ∷ drop (suc i) out
drop-set out a i h = rw (set_split out i a h) (drop_at (take i out) (a ∷ drop (suc i) out) i (length-take-le i out (omega arith)))

pub digits-next : {all : List ℕ} (out : List ℕ) (base rest i : ℕ) → 0 < i → i ≤ length out → all ≡ digits_in base i rest ++ drop i out
    → all ≡ digits_in base (i - 1) (rest / base) ++ drop (i - 1) (set out (i - 1) (digit_zero + rest % base))
unfolding digits_in
digits-next out base rest zero p h e = absurd (omega arith)
digits-next out base rest (suc i) p h e =
    let before : suc i - 1 ≡ i = omega arith in
    rw (before, drop-set out (digit_zero + rest % base) i h) (e ∙ rw append_assoc)

pub digits-end : {all out : List ℕ} (base rest i : ℕ) → i ≤ 0 → all ≡ digits_in base i rest ++ drop i out → all ≡ out
unfolding digits_in
digits-end base rest zero h e = e
digits-end base rest (suc i) h e = absurd (omega arith)

-- ---- they are the texts

empty : (xs : List ℕ) → 0 ≡ length xs → [] ≡ xs
empty [] e = refl
empty (x ∷ xs) e = absurd (omega arith)

pub digits-address : (k n : ℕ) → n < 2 ^ longest → k ≡ length (address_text n) → digits_in 2 k n ≡ address_text n
unfolding digits_in
digits-address zero n h e = empty (address_text n) e
digits-address (suc k) n h e = go (eq-zero-or-pos n) (digits-address k (n / 2))
  where
    go : (n ≡ 0) ⊎ (0 < n) → (n / 2 < 2 ^ longest → k ≡ length (address_text (n / 2)) → digits_in 2 k (n / 2) ≡ address_text (n / 2))
        → digits_in 2 k (n / 2) ++ ((digit_zero + n % 2) ∷ []) ≡ address_text n
    go (inl z) rest = absurd (omega (arith, ap (λ (m : ℕ). length (address_text m)) z, ap length address_text-zero))
    go (inr p) rest =
        let half = address_text-half n p h in
        let less : k ≡ length (address_text (n / 2)) = omega (arith, ap length half, length-append (address_text (n / 2)) ((digit_zero + n % 2) ∷ [])) in
        rw half (ap (λ (ds : List ℕ). ds ++ ((digit_zero + n % 2) ∷ [])) (rest (omega arith) less))

pub digits-decimal : (k n : ℕ) → n < 1000 → k ≡ length (decimal n) → digits_in 10 k n ≡ decimal n
unfolding digits_in
digits-decimal k n h e =
    rw e
    (elim (size n) [
      | one l ↦ let e : n % 10 ≡ n = omega arith in rw (decimal-one n l, e)
      | two g l ↦ let e : n / 10 % 10 ≡ n / 10 = omega arith in rw (decimal_two n g l, e)
      | three g ↦ let e : n / 10 / 10 % 10 ≡ n / 100 = omega arith in rw (decimal_three n g, e)
    ])

-- ---- one octet behind a text

pub last-octet : (out : List ℕ) {text : List ℕ} (n a : ℕ) → length out ≡ n + 1 → take n out ≡ text → set out n a ≡ text ++ (a ∷ [])
last-octet out n a h e = sym (take_all (n + 1) (set out n a) (rw length-set (omega arith))) ∙ take_more_set out n a (omega arith) ∙ rw e

-- the line of the hops: the word in front, the digits behind it, and the newline
pub hops-line : (out digits : List ℕ) → length out ≡ length digits + 6
    → set (put_mid 5 (length out - 1 - 5) (hops_text ++ drop 5 out) digits) (length out - 1) newline ≡ hops_text ++ digits ++ (newline ∷ [])
unfolding hops_text
hops-line out digits e =
    let front : length (hops_text ++ drop 5 out) ≡ length out = omega (arith, length-append hops_text (drop 5 out), length-drop 5 out) in
    let end = length out - 1 in
    last-octet (put_mid 5 (end - 5) (hops_text ++ drop 5 out) digits) end newline
    (simp (length-append, length-drop) (omega (arith, front)))
    (take-put_mid 5 (end - 5) (hops_text ++ drop 5 out) digits end (omega arith) (omega (arith, front)))

-- ---- lines, the first one first: those of the addresses before place i are written

lines_append : (p q : List ℕ) → lines (p ++ q) ≡ lines p ++ lines q
unfolding lines
lines_append [] q = refl
lines_append (a ∷ p) q = rw (lines_append p q) (sym (append_assoc (address_text a ++ (newline ∷ [])) (lines p) (lines q)))

-- how many octets a line has
pub sum-lines : (p : List ℕ) → sum_by (λ a. length (address_text a) + 1) p ≡ length (lines p)
unfolding lines
sum-lines [] = refl
sum-lines (a ∷ p) =
    let line = address_text a ++ (newline ∷ []) in
    omega (arith, sum_by-cons (λ b. length (address_text b) + 1) a p, sum-lines p, length-append line (lines p), length-append (address_text a) (newline ∷ []))

module _ (addresses : List ℕ) (i : ℕ) (h : i < length addresses) where
  lines-next : lines (take (i + 1) addresses) ≡ lines (take i addresses) ++ address_text (get_or addresses i 0) ++ (newline ∷ [])
  unfolding lines
  lines-next =
      rw (take_more addresses i 0 h, lines_append, append-nil)
      (sym (append_assoc (lines (take i addresses)) (address_text (get_or addresses i 0)) (newline ∷ [])))

  pub line-next : length (lines (take (i + 1) addresses)) ≡ length (lines (take i addresses)) + length (address_text (get_or addresses i 0)) + 1
  line-next = ap length lines-next ∙ simp length-append (omega arith)

  pub line-room : length (lines (take i addresses)) + length (address_text (get_or addresses i 0)) + 1 ≤ length (lines addresses)
  line-room =
      let whole = ap (λ (p : List ℕ). length (lines p)) (take-append-drop (i + 1) addresses) in
      omega (arith, line-next, whole, ap length (lines_append (take (i + 1) addresses) (drop (i + 1) addresses)), length-append (lines (take (i + 1) addresses)) (lines (drop (i + 1) addresses)))

  pub line-stored : (out text : List ℕ) {at end : ℕ} → take at out ≡ lines (take i addresses) → text ≡ address_text (get_or addresses i 0)
      → end ≡ at + length text → at ≤ length out → end < length (put_mid at (end - at) out text)
      → take (end + 1) (set (put_mid at (end - at) out text) end newline) ≡ lines (take (i + 1) addresses)
  line-stored out text {at} {end} e t p r l =
      take_more_set (put_mid at (end - at) out text) end newline l
      ∙ rw (take-put_mid at (end - at) out text end p r, e, t, lines-next)
