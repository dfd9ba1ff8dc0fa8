-- Addresses taken one after the other: a fault stays, and each exit of the code is a way through the tests of `taken`. Assumes nothing.
use Prim.Native.Nat.{ℕ, ◌≤◌, ◌<◌}
use mathlib.Core.Path.{◌≡◌, refl, ap, ◌∙◌}
use mathlib.Core.Bool.{true, false}
use mathlib.Core.List.{List, [], ◌∷◌, ◌++◌}
use borrow.Author.Tests.{le-leb, lt-leb}
use lib.ListN.{length}
use Rattle.journal.specs.Limits.{most_nodes}
use Rattle.journal.specs.Replay.{Replay, known, fault, is_next, taken, next, follow}

pub follow-fault : (n : ℕ) (xs : List ℕ) → follow (fault n) xs ≡ fault n
unfolding follow next
follow-fault n [] = refl
follow-fault n (x ∷ xs) = follow-fault n xs

pub follow-append : (r : Replay) (xs ys : List ℕ) → follow r (xs ++ ys) ≡ follow (follow r xs) ys
unfolding follow
follow-append r [] ys = refl
follow-append r (x ∷ xs) ys = follow-append (next r x) xs ys

-- the rest, where a fault is met at an address
pub follow-stops : (r : Replay) (xs : List ℕ) (a : ℕ) (rest : List ℕ) (n : ℕ) → next (follow r xs) a ≡ fault n
    → follow r (xs ++ (a ∷ rest)) ≡ fault n
unfolding follow
follow-stops r xs a rest n e =
    follow-append r xs (a ∷ rest) ∙ ap (λ (s : Replay). follow s rest) e ∙ follow-fault n rest

pub taken_other : (xs : List ℕ) (a : ℕ) → is_next xs a ≡ false → taken xs a ≡ fault 17
unfolding taken
taken_other xs a e = rw e refl

pub taken-full : (xs : List ℕ) (a : ℕ) → is_next xs a ≡ true → most_nodes ≤ length xs → taken xs a ≡ fault 14
unfolding taken
taken-full xs a e h = rw (e, le-leb most_nodes (length xs) h) refl

pub taken-known : (xs : List ℕ) (a : ℕ) → is_next xs a ≡ true → length xs < most_nodes → taken xs a ≡ known (xs ++ (a ∷ []))
unfolding taken
taken-known xs a e h = rw (e, lt-leb most_nodes (length xs) h) refl
