-- A slot that passes the tests is the block of its addresses, part by part: two bytes, the addresses' octets, zeros, the CRC and the last byte.
-- Assumes nothing.
use mathlib.Core.Path.{◌≡◌, refl, sym, ap, ap₂, ◌∙◌}
use mathlib.Core.List.{List, [], ◌∷◌, ◌++◌}
use Prim.Native.Nat.{ℕ, ◌+◌, ◌-◌, ◌*◌, ◌≤◌}
use native.Mathlib.Omega.{arith}
use lib.ListN.{length, take, drop, get_or, replicate, length-take, length-drop, take-append-drop, drop_of_length-le}
use lib.Seq.{take-add, drop-drop, drop-cons}
use Rattle.octets.specs.Octets.{octets, AreOctets}
use Rattle.octets.proofs.OctetLaws.{take-octets, drop-octets}
use Rattle.octets.proofs.Correspondence.{octets-one_to_one}
use Rattle.block.specs.Block.{checked, addresses_at, address_bytes, addresses_end, spread, content, block, count_in, addresses_in, zeros_in}
use Rattle.block.proofs.Zeros.{all_are_true}
use Rattle.block.proofs.Cases.{Right}
use Rattle.block.proofs.Spread.{spread-gathered}
use Rattle.block.proofs.Parts.{zeros_of, tail}
use Rattle.block.proofs.Laws.{length-addresses_in}

take_two : (l : List ℕ) → 2 ≤ length l → take 2 l ≡ get_or l 0 0 ∷ get_or l 1 0 ∷ []
take_two [] h = absurd (omega arith)
take_two (a ∷ []) h = absurd (omega arith)
take_two (a ∷ b ∷ l) h = refl

module _ (slot : List ℕ) (all : AreOctets slot) (right : Right slot) where
  take-addresses : take (address_bytes * count_in slot) (drop addresses_at slot) ≡ spread (addresses_in slot)
  unfolding addresses_in
  take-addresses =
      let room : address_bytes * count_in slot ≤ length (drop addresses_at slot) = simp length-drop (omega (arith, right.size, right.count.1)) in
      sym (spread-gathered (count_in slot) (drop addresses_at slot) (drop-octets addresses_at slot all) room)

  take-zeros : zeros_in slot ≡ zeros_of (count_in slot)
  take-zeros =
      let many : length (zeros_in slot) ≡ checked - addresses_end (count_in slot) =
      simp (length-take, length-drop) (omega (arith, right.size, right.count.1)) in
      all_are_true 0 (zeros_in slot) right.zeros ∙ ap (λ (k : ℕ). replicate k 0) many

  take-content : take checked slot ≡ content (addresses_in slot)
  unfolding content
  take-content =
      let n = count_in slot in
      let k = checked - addresses_end n in
      let parts : checked ≡ addresses_at + (address_bytes * n + k) = omega (arith, right.count.1) in
      ap (λ (m : ℕ). take m slot) parts
      ∙ take-add addresses_at (address_bytes * n + k) slot
      ∙ ap₂ (λ (l r : List ℕ). l ++ r)
      (take_two slot (omega (arith, right.size)) ∙ ap₂ (λ (x y : ℕ). x ∷ y ∷ []) right.first (sym (length-addresses_in slot)))
      (
      take-add (address_bytes * n) k (drop addresses_at slot)
      ∙ ap₂ (λ (l r : List ℕ). l ++ r) take-addresses
      (ap (take k) (drop-drop (address_bytes * n) addresses_at slot) ∙ take-zeros ∙ ap zeros_of (sym (length-addresses_in slot)))
      )

  drop-content : drop checked slot ≡ tail (take checked slot)
  drop-content =
      let told = take 2 (drop checked slot) in
      let two : length told ≡ 2 = simp (length-take, length-drop) (omega (arith, right.size)) in
      sym (take-append-drop 2 (drop checked slot))
      ∙ ap₂ (λ (l r : List ℕ). l ++ r)
      (sym (octets-one_to_one.shown told (take-octets 2 (drop checked slot) (drop-octets checked slot all))).1 ∙ ap₂ octets two right.check)
      (
      drop-drop 2 checked slot
      ∙ drop-cons slot 511 0 (omega (arith, right.size))
      ∙ ap₂ (λ (x : ℕ) (l : List ℕ). x ∷ l) right.last (drop_of_length-le slot {i = 512} (omega (arith, right.size)))
      )

  pub right-block : slot ≡ block (addresses_in slot)
  unfolding block
  right-block =
      sym (take-append-drop checked slot)
      ∙ ap (λ (l : List ℕ). take checked slot ++ l) drop-content
      ∙ ap (λ (l : List ℕ). l ++ tail l) take-content
