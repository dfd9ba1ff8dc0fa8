-- A text, read from a place on, by the byte at that place: it goes on as the byte says, or stops there, or the text has ended. "R(" is read at
-- once. Assumes nothing.
use mathlib.Core.Path.{◌≡◌, refl, ap, ◌∙◌}
use mathlib.Core.Bool.{Bool, true, false}
use mathlib.Core.Logic.{◌⊎◌, inl, inr}
use mathlib.Core.List.{List, [], ◌∷◌}
use Prim.Native.Nat.{ℕ, suc, ◌+◌, ◌≤◌, ◌<◌}
use native.Mathlib.Nat.{add-zero}
use native.Mathlib.Numerals.{add-one}
use native.Mathlib.Omega.{arith}
use lib.ListN.{length, drop, get_or, drop_of_length-le}
use lib.Seq.{drop-cons}
use lib.Dec.{eqb}
use borrow.Author.Tests.{eqb-true, eqb-false}
use Rattle.node.specs.declared.Node.{Node}
use Rattle.plan.specs.Grammar.{letter_r, opening}
use Rattle.plan.specs.Reading.{Expected, group, inside, to, fault, move, fault_at, behind, ended, read_from}
use Rattle.plan.specs.Progress.{matched, matched_second}
use Rattle.plan.proofs.MoveLaws.{opens, moved_move, fault-group, read_from_to, read_from-fault, behind-nil}

-- the byte at a place

module _ (text : List ℕ) (p : ℕ) (e : Expected) where
  pub place_to : p < length text → {given : List ℕ} {next : Expected} → move e (get_or text p 0) ≡ to given next
      → read_from p e (drop p text) ≡ behind given (read_from (p + 1) next (drop (p + 1) text))
  place_to h m = rw (drop-cons text p 0 h, add-one) (read_from_to p e (get_or text p 0) (drop (suc p) text) m)

  pub place-fault : p < length text → move e (get_or text p 0) ≡ fault → read_from p e (drop p text) ≡ fault_at p
  place-fault h m = rw (drop-cons text p 0 h) (read_from-fault p e (get_or text p 0) (drop (suc p) text) m)

  pub place_end : length text ≤ p → read_from p e (drop p text) ≡ ended p e
  unfolding read_from
  place_end h = rw (drop_of_length-le text h)

-- "R("

-- with the "(" or without it
module _ (p : ℕ) (up : List Node) where
  abbrev Second : List ℕ → Type 0
  Second text =
      ((matched_second text ≡ 1) × (read_from p (group up) text ≡ read_from (suc p) (inside up) (drop 1 text)))
      ⊎ ((matched_second text ≡ 0) × (read_from p (group up) text ≡ fault_at p))

  second : (text : List ℕ) → Second text
  unfolding matched_second read_from ended
  second [] = inr (refl, refl)
  second (o ∷ text) = go (eqb o opening) refl
    where
      go : (t : Bool) → eqb o opening ≡ t → Second (o ∷ text)
      go true t = unfold matched_second in
          inl (
            rw t,
            read_from_to p (group up) o text (moved_move (opens up (eqb-true o opening t))) ∙ behind-nil (read_from (suc p) (inside up) text),
          )
      go false t = unfold matched_second in inr (rw t, read_from-fault p (group up) o text (fault-group up o (eqb-false o opening t)))

-- what may be opened by an R, and goes on with nothing else
pub record Opens (e : Expected) (text : List ℕ) (given : List ℕ) (up : List Node) : Type 0 where
  pub named : move e letter_r ≡ to given (group up)
  pub other : (o : ℕ) (others : List ℕ) → text ≡ o ∷ others → (o ≡ letter_r → ⊥) → move e o ≡ fault
  pub ends : (p : ℕ) → ended p e ≡ fault_at p

-- "R(" or not
abbrev Both : ℕ → Expected → List ℕ → List ℕ → List Node → Type 0
Both p e text given up =
    ((matched text ≡ 2) × (read_from p e text ≡ behind given (read_from (suc (suc p)) (inside up) (drop 2 text))))
    ⊎ ((matched text < 2) × (read_from p e text ≡ fault_at (p + matched text)))

module _ (p : ℕ) {e : Expected} {given : List ℕ} {up : List Node} where
  both : (text : List ℕ) → Opens e text given up → Both p e text given up
  unfolding matched read_from
  both [] h = inr (omega arith, rw add-zero (h.ends p))
  both (o ∷ text) h = go (eqb o letter_r) refl (second (suc p) up text)
    where
      first : eqb o letter_r ≡ true → read_from p e (o ∷ text) ≡ behind given (read_from (suc p) (group up) text)
      first t = read_from_to p e o text (ap (move e) (eqb-true o letter_r t) ∙ h.named)

      go : (t : Bool) → eqb o letter_r ≡ t → Second (suc p) up text → Both p e (o ∷ text) given up
      go true t (inl (m, r)) = unfold matched in inl (rw (t, m), first t ∙ ap (behind given) r)
      go true t (inr (m, r)) = unfold matched behind in inr (rw (t, m) (omega arith), rw (t, m, add-one) (first t ∙ ap (behind given) r))
      go false t s = unfold matched in
          inr (rw t (omega arith), rw (t, add-zero) (read_from-fault p e o text (h.other o text refl (eqb-false o letter_r t))))

  pub read_from-opened : (text : List ℕ) → Opens e text given up → 2 ≤ matched text
      → read_from p e text ≡ behind given (read_from (suc (suc p)) (inside up) (drop 2 text))
  read_from-opened text h m = go (both text h)
    where
      go : Both p e text given up → read_from p e text ≡ behind given (read_from (suc (suc p)) (inside up) (drop 2 text))
      go (inl (two, r)) = r
      go (inr (less, r)) = absurd (omega arith)

  pub read_from_unopened : (text : List ℕ) → Opens e text given up → matched text < 2 → read_from p e text ≡ fault_at (p + matched text)
  read_from_unopened text h m = go (both text h)
    where
      go : Both p e text given up → read_from p e text ≡ fault_at (p + matched text)
      go (inl (two, r)) = absurd (omega arith)
      go (inr (less, r)) = r
