-- What the header's own octets read as, case by case, and which case an answer came from. Assumes nothing.
use mathlib.Core.Path.{◌≡◌, refl, sym, ap, ◌∙◌}
use mathlib.Core.Logic.{◌⊎◌, inl, inr}
use mathlib.Core.List.{List}
use Prim.Native.Nat.{ℕ, zero, suc, ◌+◌, ◌<◌}
use native.Mathlib.Omega.{arith}
use borrow.Author.Tests.{eq-eqb, ne_eqb}
use Rattle.octets.specs.Octets.{value}
use Rattle.header.specs.Header.{HeaderAnswer, octets_reading, refused_header, found, start_fault, address_fault, size_told, address_octets, fixed_octets}
use Rattle.header.proofs.Start.{start_fault_most}
use Rattle.header.proofs.Parts.{address_fault_most}

module _ (p : List ℕ) where
  pub octets_reading-start : {n : ℕ} → n ≡ start_fault p → (n ≡ 0 → ⊥) → refused_header n ≡ octets_reading p
  unfolding octets_reading
  octets_reading-start e h = rw (ne_eqb (start_fault p) 0 (λ z. h (e ∙ z))) (ap refused_header e)

  pub octets_reading-address : {n : ℕ} → start_fault p ≡ 0 → n ≡ address_fault (size_told p) p → (n ≡ 0 → ⊥) → refused_header n ≡ octets_reading p
  unfolding octets_reading
  octets_reading-address s e h = rw (eq-eqb (start_fault p) 0 s, ne_eqb (address_fault (size_told p) p) 0 (λ z. h (e ∙ z))) (ap refused_header e)

  pub octets_reading-found : start_fault p ≡ 0 → address_fault (size_told p) p ≡ 0 → octets_reading p ≡ found (value (address_octets (size_told p) p)) (fixed_octets + size_told p)
  unfolding octets_reading
  octets_reading-found s e = rw (eq-eqb (start_fault p) 0 s, eq-eqb (address_fault (size_told p) p) 0 e)

-- either a check found a fault, whose number is at most 9, or none did
pub octets_reading-cases : (p : List ℕ) → ((n : ℕ) × (n < 9) × (octets_reading p ≡ refused_header (suc n))) ⊎ ((start_fault p ≡ 0) × (address_fault (size_told p) p ≡ 0))
octets_reading-cases p = go (start_fault p) refl (address_fault (size_told p) p) refl
  where
    go : (m : ℕ) → start_fault p ≡ m → (n : ℕ) → address_fault (size_told p) p ≡ n
        → ((n : ℕ) × (n < 9) × (octets_reading p ≡ refused_header (suc n))) ⊎ ((start_fault p ≡ 0) × (address_fault (size_told p) p ≡ 0))
    go zero s zero f = inr (s, f)
    go zero s (suc n) f = inl (n, omega (arith, address_fault_most (size_told p) p), sym (octets_reading-address p s (sym f) (λ z. omega arith)))
    go (suc m) s n f = inl (m, omega (arith, start_fault_most p), sym (octets_reading-start p (sym s) (λ z. omega arith)))

-- an address was found: no check had found a fault, and it is the one read
pub octets_reading_inverse : (p : List ℕ) (a k : ℕ) → octets_reading p ≡ found a k
    → (start_fault p ≡ 0) × (address_fault (size_told p) p ≡ 0) × (value (address_octets (size_told p) p) ≡ a) × (fixed_octets + size_told p ≡ k)
octets_reading_inverse p a k e = go (octets_reading-cases p)
  where
    go : ((n : ℕ) × (n < 9) × (octets_reading p ≡ refused_header (suc n))) ⊎ ((start_fault p ≡ 0) × (address_fault (size_told p) p ≡ 0))
        → (start_fault p ≡ 0) × (address_fault (size_told p) p ≡ 0) × (value (address_octets (size_told p) p) ≡ a) × (fixed_octets + size_told p ≡ k)
    go (inl (n, small, q)) = absurd (omega (arith, ap (λ (x : HeaderAnswer). x.refusal) (sym q ∙ e)))
    go (inr (s, f)) =
        let same = sym (octets_reading-found p s f) ∙ e in
        (s, f, ap (λ (x : HeaderAnswer). x.address) same, ap (λ (x : HeaderAnswer). x.place) same)
