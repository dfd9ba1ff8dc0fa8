-- Two look-ups decide: a number stands in a list exactly if the look-up finds it, so the next address is known by what the list holds. Assumes
-- nothing.
use mathlib.Core.Path.{◌≡◌, refl, sym}
use mathlib.Core.Bool.{Bool, true, false, not, ◌&&◌, ◌||◌, true≢false, false≢true}
use mathlib.Core.Logic.{⊎_elim}
use mathlib.Core.List.Memᴰ
use mathlib.Core.List.{List, [], ◌∷◌, Memᴰ}
use Prim.Native.Nat.{ℕ}
use lib.Dec.{eqb}
use borrow.Author.Tests.{eqb-true, eqb-false}
use Rattle.journal.specs.Replay.{among, before, is_next}

pub among_true : (a : ℕ) (bs : List ℕ) → among a bs ≡ true → Memᴰ a bs
unfolding among
among_true a [] e = absurd (false≢true e)
among_true a (b ∷ bs) e = go (eqb b a) refl e (among_true a bs)
  where
    go : (t : Bool) → eqb b a ≡ t → t || among a bs ≡ true → (among a bs ≡ true → Memᴰ a bs) → Memᴰ a (b ∷ bs)
    go true q f rest = Memᴰ.head (sym (eqb-true b a q))
    go false q f rest = Memᴰ.tail (rest f)

pub among_false : (a : ℕ) (bs : List ℕ) → among a bs ≡ false → Memᴰ a bs → ⊥
unfolding among
among_false a [] e i = Memᴰ.not-nil i
among_false a (b ∷ bs) e i = go (eqb b a) refl e (among_false a bs)
  where
    go : (t : Bool) → eqb b a ≡ t → t || among a bs ≡ false → (among a bs ≡ false → Memᴰ a bs → ⊥) → ⊥
    go true q f rest = true≢false f
    go false q f rest = ⊎_elim (λ z. eqb-false b a q (sym z)) (rest f) (Memᴰ.cases_cons i)

module _ (a : ℕ) (bs : List ℕ) where
  pub among_mem : Memᴰ a bs → among a bs ≡ true
  among_mem i = go (among a bs) refl
    where
      go : (t : Bool) → among a bs ≡ t → t ≡ true
      go true e = refl
      go false e = absurd (among_false a bs e i)

  pub among-not : (Memᴰ a bs → ⊥) → among a bs ≡ false
  among-not out = go (among a bs) refl
    where
      go : (t : Bool) → among a bs ≡ t → t ≡ false
      go true e = absurd (out (among_true a bs e))
      go false e = refl

-- the test for the next address, by the list

module _ (a : ℕ) (bs : List ℕ) where
  pub is_next_true : is_next bs a ≡ true → Memᴰ (before a) bs × (Memᴰ a bs → ⊥)
  unfolding is_next
  is_next_true e = go (among (before a) bs) refl (among a bs) refl e
    where
      go : (p : Bool) → among (before a) bs ≡ p → (q : Bool) → among a bs ≡ q → p && not q ≡ true → Memᴰ (before a) bs × (Memᴰ a bs → ⊥)
      go true p false q e = (among_true (before a) bs p, among_false a bs q)
      go true p true q e = absurd (false≢true e)
      go false p q r e = absurd (false≢true e)

  pub is_next-known : Memᴰ (before a) bs → (Memᴰ a bs → ⊥) → is_next bs a ≡ true
  unfolding is_next
  is_next-known i out = rw (among_mem (before a) bs i, among-not a bs out)
