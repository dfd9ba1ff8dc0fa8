-- What the call for many destinations leaves, one destination at a time: with the first n answers in front, storing the next one at n gives
-- the first n + 1. Assumes nothing.
use Rattle.std.specs.Prelude.{if◌then◌else◌}
use mathlib.Core.Path.{◌≡◌, refl, sym, ap, ◌∙◌}
use mathlib.Core.Bool.{Bool, true, false}
use mathlib.Core.List.{List, ◌++◌, map}
use Prim.Native.Nat.{ℕ, suc, ◌+◌, ◌<◌, min}
use native.Mathlib.Nat.{zero-add, le_of_lt, min-eq_left, min-eq_right}
use native.Mathlib.Numerals.{add-one}
use native.Mathlib.Omega.{arith}
use borrow.Author.Tests.{leb-true, leb-false}
use lib.Dec.{leb}
use lib.ListN.{length, take, drop, get_or, set, length-map, get_or-map}
use lib.Seq.{paste, paste-suc}
use Rattle.batch.specs.Batch.{least, shortest, front}

-- the shorter of two is the smaller number
least_min : (a b : ℕ) → least a b ≡ min a b
unfolding least
least_min a b = go (leb a b) refl
  where
    go : (t : Bool) → leb a b ≡ t → (if t then a else b) ≡ min a b
    go true e = sym (min-eq_left (leb-true a b e))
    go false e = sym (min-eq_right (le_of_lt (leb-false a b e)))

pub shortest_min : (ds nodes actions refusals : List ℕ)
    → shortest ds nodes actions refusals ≡ min (min (length ds) (length nodes)) (min (length actions) (length refusals))
unfolding shortest
shortest_min ds nodes actions refusals = simp least_min

front_paste : (n : ℕ) (numbers words : List ℕ) → front n numbers words ≡ paste words 0 numbers n
unfolding front
front_paste n numbers words = ap (λ (k : ℕ). take n numbers ++ drop k words) (sym (zero-add n))

pub front-zero : (numbers words : List ℕ) → front 0 numbers words ≡ words
unfolding front
front-zero numbers words = refl

pub front-next : (f : ℕ → ℕ) (n : ℕ) (ds words : List ℕ) → n < length ds → n < length words
    → set (front n (map f ds) words) n (f (get_or ds n 0)) ≡ front (n + 1) (map f ds) words
front-next f n ds words h k =
    ap (λ (x : ℕ). set (front n (map f ds) words) n x) (sym (get_or-map f ds n 0))
    ∙ ap (λ (l : List ℕ). set l n (get_or (map f ds) n (f 0))) (front_paste n (map f ds) words)
    ∙ ap (λ (k : ℕ). set (paste words 0 (map f ds) n) k (get_or (map f ds) n (f 0))) (sym (zero-add n))
    ∙ paste-suc words 0 (map f ds) n (f 0) (omega arith) (omega (arith, length-map ds f))
    ∙ sym (front_paste (suc n) (map f ds) words)
    ∙ ap (λ (k : ℕ). front k (map f ds) words) (sym (add-one n))
