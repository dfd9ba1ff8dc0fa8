-- A number looked for word by word: what is found so far, and what stands from a place on. Assumes nothing.
use Prim.Native.Nat.{ℕ, suc, ◌≤◌, ◌<◌}
use mathlib.Core.Path.{◌≡◌, refl, sym, ap, ◌∙◌}
use mathlib.Core.Bool.{Bool, ◌||◌, or_assoc, or-false}
use mathlib.Core.List.{List, [], ◌∷◌, ◌++◌}
use lib.Dec.{eqb}
use lib.ListN.{length, drop, get_or, drop_of_length-le}
use lib.Seq.{drop-cons}
use Rattle.journal.specs.Replay.{among}

-- one word more is looked at
pub among-turn : (a : ℕ) (xs : List ℕ) (i : ℕ) (found : Bool) → i < length xs → (found || among a (drop i xs)) ≡ (found || eqb (get_or xs i 0) a || among a (drop (suc i) xs))
unfolding among
among-turn a xs i found h = rw (drop-cons xs i 0 h) (sym (or_assoc found (eqb (get_or xs i 0) a) (among a (drop (suc i) xs))))

-- none is left
pub among-end : (a : ℕ) (xs : List ℕ) (i : ℕ) (found : Bool) → length xs ≤ i → (found || among a (drop i xs)) ≡ found
unfolding among
among-end a xs i found h = rw (drop_of_length-le xs h) (or-false found)

-- ---- all of a list

pub among_snoc : (a : ℕ) (xs : List ℕ) (x : ℕ) → among a (xs ++ (x ∷ [])) ≡ (among a xs || eqb x a)
unfolding among
among_snoc a [] x = or-false (eqb x a)
among_snoc a (y ∷ xs) x = ap (λ (b : Bool). eqb y a || b) (among_snoc a xs x) ∙ sym (or_assoc (eqb y a) (among a xs) (eqb x a))

-- a number stands in two lists behind each other if it stands in either
pub among_append : (a : ℕ) (xs ys : List ℕ) → among a (xs ++ ys) ≡ (among a xs || among a ys)
unfolding among
among_append a [] ys = refl
among_append a (x ∷ xs) ys = ap (λ (b : Bool). eqb x a || b) (among_append a xs ys) ∙ sym (or_assoc (eqb x a) (among a xs) (among a ys))
