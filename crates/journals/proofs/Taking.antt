-- One address more, in a tree that is sound: it is no next child, or the nodes are all that there may be, or it is put behind them; and the
-- answer says which. Assumes nothing.
use Rattle.std.specs.Prelude.{if◌then◌else◌}
use mathlib.Core.Path.{◌≡◌, refl, sym, ◌∙◌}
use mathlib.Core.Bool.{Bool, true, false, not, false≢true}
use mathlib.Core.Logic.{◌⊎◌, inl, inr, ◌↔◌}
use mathlib.Core.List.{List, [], ◌∷◌, ◌++◌}
use Prim.Native.Nat.{ℕ, ◌^◌, ◌<◌, ◌≤◌}
use native.Mathlib.Omega.{arith}
use lib.Dec.{leb}
use lib.ListN.{length}
use borrow.Author.Tests.{leb-true, leb-false}
use Rattle.address.specs.Bits.{longest}
use Rattle.tree.specs.Tree.{Tree, addresses}
use Rattle.tree.proofs.Sound.{Sound}
use Rattle.journal.specs.Limits.{most_nodes}
use Rattle.journal.specs.Replay.{is_next, Replay, known, fault, taken, next}
use Rattle.journals.specs.Replays.{IsNextChild}
use Rattle.journals.proofs.NextChild.{is_next-sound}

-- what is answered, and why
pub data Taken (t : Tree) (a : ℕ) (r : Replay) : Type 0 where
  no_child : r ≡ fault 17 → (IsNextChild t a → ⊥) → Taken t a r
  too_many : r ≡ fault 14 → IsNextChild t a → most_nodes ≤ length (addresses t) → Taken t a r
  one_more : r ≡ known (addresses t ++ (a ∷ [])) → IsNextChild t a → length (addresses t) < most_nodes → Taken t a r

known-fault : (bs : List ℕ) (n : ℕ) → known bs ≡ fault n → ⊥
known-fault bs n e = let z : ◌≡◌ {A = ℕ} 0 1 = cc in omega arith

module _ (t : Tree) (s : Sound t) (a : ℕ) (fits : a < 2 ^ longest) where
  pub taken-sound : Taken t a (taken (addresses t) a)
  unfolding taken
  taken-sound = go (is_next (addresses t) a) refl (leb most_nodes (length (addresses t))) refl
    where
      go : (n : Bool) → is_next (addresses t) a ≡ n → (m : Bool) → leb most_nodes (length (addresses t)) ≡ m
          → Taken t a (if not n then fault 17 else if m then fault 14 else known (addresses t ++ (a ∷ [])))
      go false n m l = no_child refl (λ c. false≢true (sym n ∙ (is_next-sound t s a fits).1 c))
      go true n true l = too_many refl ((is_next-sound t s a fits).0 n) (leb-true most_nodes (length (addresses t)) l)
      go true n false l = one_more refl ((is_next-sound t s a fits).0 n) (leb-false most_nodes (length (addresses t)) l)

  pub next-sound : Taken t a (next (known (addresses t)) a)
  unfolding next
  next-sound = taken-sound

  pub next-no_child : (next (known (addresses t)) a ≡ fault 17) ↔ (IsNextChild t a → ⊥)
  next-no_child = go next-sound
    where
      go : {r : Replay} → Taken t a r → (r ≡ fault 17) ↔ (IsNextChild t a → ⊥)
      go (no_child e out) = (λ f. out, λ f. e)
      go (too_many e c m) = (λ f. let z : ◌≡◌ {A = ℕ} 14 17 = cc in absurd (omega arith), λ f. absurd (f c))
      go (one_more e c l) = (λ f. absurd (known-fault (addresses t ++ (a ∷ [])) 17 (sym e ∙ f)), λ f. absurd (f c))

  pub next-too_many : (next (known (addresses t)) a ≡ fault 14) ↔ (IsNextChild t a × (most_nodes ≤ length (addresses t)))
  next-too_many = go next-sound
    where
      go : {r : Replay} → Taken t a r → (r ≡ fault 14) ↔ (IsNextChild t a × (most_nodes ≤ length (addresses t)))
      go (no_child e out) = (λ f. let z : ◌≡◌ {A = ℕ} 14 17 = cc in absurd (omega arith), λ f. absurd (out f.0))
      go (too_many e c m) = (λ f. (c, m), λ f. e)
      go (one_more e c l) = (λ f. absurd (known-fault (addresses t ++ (a ∷ [])) 14 (sym e ∙ f)), λ f. absurd (omega (arith, f.1)))

  pub next-fault : (n : ℕ) → next (known (addresses t)) a ≡ fault n → (n ≡ 17) ⊎ (n ≡ 14)
  next-fault n = go next-sound
    where
      go : {r : Replay} → Taken t a r → r ≡ fault n → (n ≡ 17) ⊎ (n ≡ 14)
      go (no_child e out) f = inl (cc)
      go (too_many e c m) f = inr (cc)
      go (one_more e c l) f = absurd (known-fault (addresses t ++ (a ∷ [])) n (sym e ∙ f))

  -- a next child is put behind the others, where the nodes suffice
  pub next-one_more : IsNextChild t a → length (addresses t) < most_nodes → next (known (addresses t)) a ≡ known (addresses t ++ (a ∷ []))
  next-one_more c l = go next-sound
    where
      go : {r : Replay} → Taken t a r → r ≡ known (addresses t ++ (a ∷ []))
      go (no_child e out) = absurd (out c)
      go (too_many e d m) = absurd (omega arith)
      go (one_more e d m) = e
