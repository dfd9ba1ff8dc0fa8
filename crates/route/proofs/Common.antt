-- The turning point by bits. The bits that two strings begin with cut the same routers from both, and the steps behind these differ, so the
-- turning point of two addresses that differ has as many steps as their common first bits have zeros. Assumes nothing.
use Rattle.std.specs.Prelude.{if◌then◌else◌}
use mathlib.Core.Path.{◌≡◌, refl, sym, ap, ◌∙◌}
use mathlib.Core.List.{List, [], ◌∷◌, ◌++◌}
use Prim.Native.Nat.{ℕ, zero, suc, ◌+◌, ◌≤◌, ◌<◌}
use native.Mathlib.Nat.{lt_of_not-le, le_refl}
use native.Mathlib.Numerals.{add-one}
use native.Mathlib.Omega.{arith}
use lib.ListN.{length, drop}
use lib.Seq.{drop-nil}
use Rattle.address.specs.Bits.{Bit, O, I, bits, number}
use Rattle.address.specs.Steps.{Step, child, last_step, cut, steps_of, steps}
use Rattle.address.specs.declared.Kind.TheVariants.{Router as router, Host as host}
use Rattle.address.specs.Address.{depth}
use Rattle.address.specs.Numbers.{IsAddress}
use Rattle.address.specs.Cuts.{AllRouters}
use Rattle.address.specs.Ancestors.{AncestorOrSelf}
use Rattle.address.proofs.Numbers.{number-bits, bits-string}
use Rattle.address.proofs.Answers.{host_last, host_last-routers, is_host-steps}
use Rattle.route.specs.Path.{turn}
use Rattle.route.specs.Counting.{zeros, steps_behind, opposite, turned_over, marks}
use Rattle.route.proofs.Turning.{ancestor_or_self_refl, ancestor_or_self_tail, ancestor_or_self_le, ancestor_or_self_unique, turn_on, turn_unique, turn_comm}

-- how many bits two strings begin with in common
unfoldable pub same : List Bit → List Bit → ℕ
same [] vs = 0
same (u ∷ us) [] = 0
same (O ∷ us) (O ∷ vs) = suc (same us vs)
same (O ∷ us) (I ∷ vs) = 0
same (I ∷ us) (O ∷ vs) = 0
same (I ∷ us) (I ∷ vs) = suc (same us vs)

pub same_comm : (us vs : List Bit) → same us vs ≡ same vs us
unfolding same
same_comm [] [] = refl
same_comm [] (O ∷ vs) = refl
same_comm [] (I ∷ vs) = refl
same_comm (O ∷ us) [] = refl
same_comm (I ∷ us) [] = refl
same_comm (O ∷ us) (O ∷ vs) = ap suc (same_comm us vs)
same_comm (O ∷ us) (I ∷ vs) = refl
same_comm (I ∷ us) (O ∷ vs) = refl
same_comm (I ∷ us) (I ∷ vs) = ap suc (same_comm us vs)

-- the steps that a string is cut into stand in front of those that are done

cut-append : (k : ℕ) (ss done : List Step) (bs : List Bit) → cut k (ss ++ done) bs ≡ cut k ss bs ++ done
unfolding cut last_step
cut-append zero ss done [] = refl
cut-append (suc k) ss done [] = refl
cut-append k ss done (O ∷ bs) = cut-append 0 (child router k ∷ ss) done bs
cut-append k ss done (I ∷ bs) = cut-append (suc k) ss done bs

cut-done : (k : ℕ) (done : List Step) (bs : List Bit) → AncestorOrSelf done (cut k done bs)
cut-done k done bs = (cut k [] bs, cut-append k [] done bs)

-- the first of them, where more than k ones have been read

abbrev Beyond : ℕ → Step → Type 0
Beyond k (child router i) = k < i
Beyond k (child host i) = k ≤ i

beyond_suc : (k : ℕ) (s : Step) → Beyond (suc k) s → Beyond k s
beyond_suc k (child router i) h = omega arith
beyond_suc k (child host i) h = omega arith

cut_beyond : (k : ℕ) (done : List Step) (bs : List Bit) → (s : Step) × AncestorOrSelf (s ∷ done) (cut (suc k) done bs) × Beyond k s
unfolding cut last_step
cut_beyond k done [] = (child host k, ancestor_or_self_refl (child host k ∷ done), le_refl k)
cut_beyond k done (O ∷ bs) = (child router (suc k), cut-done 0 (child router (suc k) ∷ done) bs, omega arith)
cut_beyond k done (I ∷ bs) = let next = cut_beyond (suc k) done bs in (next.0, next.1, beyond_suc k next.0 next.2)

beyond_router : (k : ℕ) (s : Step) → Beyond k s → child router k ≡ s → ⊥
beyond_router k (child router i) h e = let f : k ≡ i = cc in omega arith
beyond_router k (child host i) h e = let z : ◌≡◌ {A = ℕ} 0 1 = cc in omega arith

beyond_host : (k : ℕ) (s : Step) → Beyond (suc k) s → child host k ≡ s → ⊥
beyond_host k (child router i) h e = let z : ◌≡◌ {A = ℕ} 0 1 = cc in omega arith
beyond_host k (child host i) h e = let f : k ≡ i = cc in omega arith

-- two ways part where the next steps differ
turn-apart : (done ss ts : List Step) (s t : Step) → AncestorOrSelf (s ∷ done) ss → AncestorOrSelf (t ∷ done) ts → (s ≡ t → ⊥) → turn ss ts ≡ done
turn-apart done ss ts s t v w differ =
    turn_unique ss ts done (record { of_first = ancestor_or_self_tail s done ss v; of_second = ancestor_or_self_tail t done ts w; deepest = deepest })
  where
    further : (y : List Step) → AncestorOrSelf y ss → AncestorOrSelf y ts → length (s ∷ done) ≤ length y → ⊥
    further y p q h =
        let e : s ∷ done ≡ t ∷ done = ancestor_or_self_unique (s ∷ done) (t ∷ done) y (ancestor_or_self_le (s ∷ done) y ss v p h) (ancestor_or_self_le (t ∷ done) y ts w q h) refl in
        differ (cc)

    deepest : (y : List Step) → AncestorOrSelf y ss → AncestorOrSelf y ts → length y ≤ length done
    deepest y p q = let h : length y < length (s ∷ done) = lt_of_not-le (further y p q) in omega arith

turn_shorter : (k : ℕ) (done : List Step) (b : Bit) (bs : List Bit) → turn (cut k done []) (cut k done (b ∷ bs)) ≡ done
unfolding cut last_step
turn_shorter zero done b bs = turn_on done (cut 0 done (b ∷ bs)) (cut-done 0 done (b ∷ bs))
turn_shorter (suc k) done O bs =
    turn-apart done _ _ (child host k) (child router (suc k)) (ancestor_or_self_refl (child host k ∷ done)) (cut-done 0 (child router (suc k) ∷ done) bs)
    (λ e. let z : ◌≡◌ {A = ℕ} 0 1 = cc in omega arith)
turn_shorter (suc k) done I bs =
    let next = cut_beyond (suc k) done bs in
    turn-apart done _ _ (child host k) next.0 (ancestor_or_self_refl (child host k ∷ done)) next.1 (beyond_host k next.0 next.2)

turn-parts : (k : ℕ) (done : List Step) (us vs : List Bit) → turn (cut k done (O ∷ us)) (cut k done (I ∷ vs)) ≡ done
unfolding cut
turn-parts k done us vs =
    let next = cut_beyond k done vs in
    turn-apart done _ _ (child router k) next.0 (cut-done 0 (child router k ∷ done) us) next.1 (beyond_router k next.0 next.2)

-- the zeros behind the common bits: where the bits of the shorter string are turned over, what stands behind them are zeros, so that no more
-- than ones of the longer string are taken for common bits

zeros_past : (m n : ℕ) (bs : List Bit) → zeros (drop (same (turned_over m bs) (turned_over n [])) bs) ≡ zeros bs
unfolding zeros same turned_over opposite
zeros_past m n [] = rw (drop-nil (same (turned_over m []) (turned_over n [])))
zeros_past m zero (O ∷ bs) = refl
zeros_past m zero (I ∷ bs) = refl
zeros_past m (suc n) (O ∷ bs) = refl
zeros_past m (suc n) (I ∷ bs) = zeros_past m n bs

turn-cut : (k m n : ℕ) (done : List Step) (us vs : List Bit) → (us ≡ vs → ⊥)
    → length (turn (cut k done us) (cut k done vs)) + zeros (drop (same (turned_over m us) (turned_over n vs)) us) ≡ length done + zeros us
unfolding cut zeros same turned_over opposite
turn-cut k m n done [] [] differ = absurd (differ refl)
turn-cut k m n done [] (v ∷ vs) differ = rw (drop-nil (same (turned_over m []) (turned_over n (v ∷ vs))), turn_shorter k done v vs)
turn-cut k m n done (u ∷ us) [] differ =
    rw (turn_comm (cut k done (u ∷ us)) (cut k done []), turn_shorter k done u us, zeros_past m n (u ∷ us))
turn-cut k m n done (O ∷ us) (O ∷ vs) differ =
    omega (arith, turn-cut 0 m n (child router k ∷ done) us vs (λ e. differ (ap (λ (bs : List Bit). O ∷ bs) e)))
turn-cut k m n done (O ∷ us) (I ∷ vs) differ = rw (turn-parts k done us vs)
turn-cut k m n done (I ∷ us) (O ∷ vs) differ = rw (turn_comm (cut k done (I ∷ us)) (cut k done (O ∷ vs)), turn-parts k done vs us)
turn-cut k m n done (I ∷ us) (I ∷ vs) differ = turn-cut (suc k) m n done us vs (λ e. differ (ap (λ (bs : List Bit). I ∷ bs) e))

-- all steps: a zero each, and one more for a host
length_cut : (k : ℕ) (done : List Step) (bs : List Bit) → AllRouters done
    → length (cut k done bs) ≡ length done + zeros bs + (if host_last (cut k done bs) then 1 else 0)
unfolding cut last_step zeros
length_cut zero done [] r = rw (host_last-routers done r) (omega arith)
length_cut (suc k) done [] r = omega arith
length_cut k done (O ∷ bs) r = length_cut 0 (child router k ∷ done) bs r ∙ omega arith
length_cut k done (I ∷ bs) r = length_cut (suc k) done bs r

-- two addresses that differ

behind-cut : (m n : ℕ) (us vs : List Bit) → (us ≡ vs → ⊥)
    → length (turn (cut 0 [] us) (cut 0 [] vs))
    + (zeros (drop (same (turned_over m us) (turned_over n vs) + 1) (I ∷ us)) + (if host_last (cut 0 [] us) then 1 else 0))
    ≡ length (cut 0 [] us)
behind-cut m n us vs differ = rw add-one (omega (arith, turn-cut 0 m n [] us vs differ, length_cut 0 [] us tt))

module _ {a d : ℕ} (h : IsAddress a) (l : IsAddress d) (differ : a ≡ d → ⊥) where
  pub turn-behind : length (turn (steps a) (steps d)) + steps_behind (same (marks (bits a)) (marks (bits d))) a ≡ depth a
  unfolding depth steps steps_of marks
  turn-behind =
      let us = (bits-string h).first in
      let vs = (bits-string l).first in
      rw (is_host-steps h, us.1, vs.1)
      (behind-cut _ _ us.0 vs.0
      (λ e. differ (sym (number-bits h.fits) ∙ ap number (us.1 ∙ ap (λ (bs : List Bit). I ∷ bs) e ∙ sym vs.1) ∙ number-bits l.fits)))

-- `turn-behind` from the other side
pub turn-behind_comm : {a d : ℕ} → IsAddress a → IsAddress d → (a ≡ d → ⊥)
    → length (turn (steps a) (steps d)) + steps_behind (same (marks (bits a)) (marks (bits d))) d ≡ depth d
turn-behind_comm {a} {d} h l differ =
    rw (turn_comm (steps a) (steps d), same_comm (marks (bits a)) (marks (bits d))) (turn-behind l h (λ e. differ (sym e)))
