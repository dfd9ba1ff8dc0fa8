-- Addresses as octets, eight each, and octets as addresses: one undoes the other, by the laws of octets. Assumes nothing.
use mathlib.Core.Path.{◌≡◌, refl, sym, ap, ap₂, ◌∙◌}
use mathlib.Core.List.{List, [], ◌∷◌, ◌++◌, append_assoc}
use Prim.Native.Nat.{ℕ, zero, suc, ◌+◌, ◌*◌, ◌≤◌, ◌<◌}
use native.Mathlib.Nat.{not-suc-le-zero, le_of_suc-le-suc}
use native.Mathlib.Omega.{arith}
use lib.ListN.{length, take, drop, get_or, length-append, length-take, length-drop}
use lib.Seq.{take_at, drop_at, drop-append-add, take-add, length-take-le}
use Rattle.octets.specs.Octets.{octets, value, AreOctets}
use Rattle.octets.proofs.OctetLaws.{length-octets, octets-octets, take-octets, drop-octets, append-octets, value-fits}
use Rattle.octets.proofs.Correspondence.{octets-one_to_one}
use Rattle.block.specs.Block.{address_bytes, spread, gathered}
use Rattle.block.specs.Blocks.{AreWords}

pub length-address : (a : ℕ) → length (octets address_bytes a) ≡ address_bytes
length-address a = length-octets address_bytes a

pub length-spread : (xs : List ℕ) → length (spread xs) ≡ address_bytes * length xs
unfolding spread
length-spread [] = refl
length-spread (a ∷ xs) = omega (arith, length-append (octets address_bytes a) (spread xs), length-address a, length-spread xs)

pub spread-octets : (xs : List ℕ) → AreOctets (spread xs)
unfolding spread
spread-octets [] = tt
spread-octets (a ∷ xs) = append-octets (octets address_bytes a) (spread xs) (octets-octets address_bytes a) (spread-octets xs)

-- the octets of the address at i
pub part-spread : (xs : List ℕ) (i : ℕ) → i < length xs
    → take address_bytes (drop (address_bytes * i) (spread xs)) ≡ octets address_bytes (get_or xs i 0)
unfolding spread
part-spread [] i h = absurd (not-suc-le-zero h)
part-spread (a ∷ xs) zero h = take_at (octets address_bytes a) (spread xs) address_bytes (length-address a)
part-spread (a ∷ xs) (suc i) h =
    let next : address_bytes * suc i ≡ length (octets address_bytes a) + address_bytes * i = omega (arith, length-address a) in
    let behind = drop-append-add (octets address_bytes a) (spread xs) (address_bytes * i) in
    rw next (ap (take address_bytes) behind ∙ part-spread xs i (le_of_suc-le-suc h))

-- ---- octets as addresses

pub length-gathered : (k : ℕ) (os : List ℕ) → length (gathered k os) ≡ k
unfolding gathered
length-gathered zero os = refl
length-gathered (suc k) os = ap suc (length-gathered k (drop address_bytes os))

pub gathered-words : (k : ℕ) (os : List ℕ) → AreOctets os → AreWords (gathered k os)
unfolding gathered
gathered-words zero os all = tt
gathered-words (suc k) os all = (
  value-fits (take address_bytes os) (take-octets address_bytes os all) (simp length-take (omega arith)),
  gathered-words k (drop address_bytes os) (drop-octets address_bytes os all),
)

-- ---- there and back

pub gathered-spread : (xs rest : List ℕ) → AreWords xs → gathered (length xs) (spread xs ++ rest) ≡ xs
unfolding gathered spread
gathered-spread [] rest words = refl
gathered-spread (a ∷ xs) rest (word, words) =
    let split = append_assoc (octets address_bytes a) (spread xs) rest in
    ap₂ (λ (y : ℕ) (ys : List ℕ). y ∷ ys)
    (
    ap value (ap (take address_bytes) split ∙ take_at (octets address_bytes a) (spread xs ++ rest) address_bytes (length-address a))
    ∙ (octets-one_to_one.held address_bytes a word).2
    )
    (
    ap (gathered (length xs)) (ap (drop address_bytes) split ∙ drop_at (octets address_bytes a) (spread xs ++ rest) address_bytes (length-address a))
    ∙ gathered-spread xs rest words
    )

pub spread-gathered : (k : ℕ) (os : List ℕ) → AreOctets os → address_bytes * k ≤ length os → spread (gathered k os) ≡ take (address_bytes * k) os
unfolding gathered spread
spread-gathered zero os all h = refl
spread-gathered (suc k) os all h =
    let next : address_bytes * suc k ≡ address_bytes + address_bytes * k = omega arith in
    let front = take address_bytes os in
    let eight : length front ≡ address_bytes = length-take-le address_bytes os (omega arith) in
    rw next
    (
    ap₂ (λ (l r : List ℕ). l ++ r)
    (ap (λ (n : ℕ). octets n (value front)) (sym eight) ∙ (octets-one_to_one.shown front (take-octets address_bytes os all)).1)
    (spread-gathered k (drop address_bytes os) (drop-octets address_bytes os all) (simp length-drop (omega arith)))
    ∙ sym (take-add address_bytes (address_bytes * k) os)
    )
