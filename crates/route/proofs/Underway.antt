-- An address and its ancestors while they are being listed: what is listed upwards stands before place i, what is listed downwards from
-- place i on, and the rest goes on from the parent. Assumes nothing.
use mathlib.Core.Path.{◌≡◌, sym, ◌∙◌}
use mathlib.Core.List.{List, ◌∷◌, ◌++◌, append_assoc, append-nil, reverse, reverse-cons}
use Prim.Native.Nat.{ℕ, zero, suc, ◌+◌, ◌-◌, ◌≤◌, ◌<◌}
use native.Mathlib.Numerals.{add-one}
use native.Mathlib.Omega.{arith}
use lib.ListN.{length, take, drop, set, length-set}
use lib.Seq.{take-suc-set, take_all, set_split, drop_at, drop-length, length-take-le}
use Rattle.address.specs.Address.{parent}
use Rattle.route.specs.Counting.{upwards}

-- The addresses from the first one on, and the words: those before place i are listed, and a comes next.
pub record Up (first : ℕ) (words : List ℕ) (a i : ℕ) : Type 0 where
  pub within : i ≤ length words
  pub split : upwards (length words) first ≡ take i words ++ upwards (length words - i) a

pub up_start : (words : List ℕ) (a : ℕ) → Up a words a 0
up_start words a = let e : length words - 0 ≡ length words = omega arith in record { within = omega arith; split = rw e }

module _ {first : ℕ} {words : List ℕ} {a i : ℕ} (u : Up first words a i) where
  pub up_next : i < length words → Up first (set words i a) (parent a) (i + 1)
  unfolding upwards
  up_next h =
      let e : length words - i ≡ suc (length words - (i + 1)) = omega arith in
      record {
        within = rw length-set (omega arith);
        split = rw length-set (u.split ∙ rw (e, add-one i, take-suc-set words i a h, append_assoc));
      }

  pub up_end : length words ≤ i → words ≡ upwards (length words) first
  unfolding upwards
  up_end h =
      let e : length words - i ≡ 0 = omega arith in
      sym (u.split ∙ rw (e, take_all i words h, append-nil))

-- The addresses up to the last one, and the words: those from place i on are listed, and a comes before them.
pub record Down (last : ℕ) (words : List ℕ) (a i : ℕ) : Type 0 where
  pub within : i ≤ length words
  pub split : reverse (upwards (length words) last) ≡ reverse (upwards i a) ++ drop i words

pub down-start : (words : List ℕ) (a : ℕ) → Down a words a (length words)
down-start words a = record { within = omega arith; split = rw (drop-length words, append-nil) }

drop-set : (words : List ℕ) (a i : ℕ) → i < length words → drop i (set words i a) ≡ a ∷ drop (suc i) words
drop-set words a i h = rw (set_split words i a h) (drop_at (take i words) (a ∷ drop (suc i) words) i (length-take-le i words (omega arith)))

pub down-next : {last : ℕ} {words : List ℕ} {a i : ℕ} → Down last words a i → 0 < i → Down last (set words (i - 1) a) (parent a) (i - 1)
unfolding upwards
down-next {i = zero} d p = absurd (omega arith)
down-next {last} {words} {a} {i = suc i} d p =
    let e : suc i - 1 ≡ i = omega arith in
    rw e
    (record {
      within = rw length-set (omega (arith, d.within));
      split = rw length-set (d.split ∙ rw (reverse-cons a (upwards i (parent a)), append_assoc, drop-set words a i d.within));
    })

pub down-end : {last : ℕ} {words : List ℕ} {a i : ℕ} → Down last words a i → i ≤ 0 → words ≡ reverse (upwards (length words) last)
unfolding upwards
down-end {i = zero} d h = sym d.split
down-end {i = suc i} d h = absurd (omega arith)
