-- What each store and each call of the writer leaves: the beginning of the block, further with each, and the block at the end. Assumes nothing.
use mathlib.Core.Path.{◌≡◌, refl, sym, ap, ◌∙◌}
use mathlib.Core.List.{List, [], append-nil}
use Prim.Native.Nat.{ℕ, ◌-◌, ◌≤◌}
use native.Mathlib.Omega.{arith}
use borrow.Rule.Slice.PartMut.{put_mid}
use lib.ListN.{length, take, drop, set, length-set, length-replicate}
use lib.Seq.{take_all}
use Rattle.octets.specs.Octets.{octets}
use Rattle.octets.proofs.OctetLaws.{length-octets}
use Rattle.crc.specs.Crc.{crc}
use Rattle.block.specs.Block.{slot_bytes, most_addresses, first_byte, last_byte, checked, addresses_at, addresses_end, spread, content, block}
use Rattle.block.proofs.Spread.{length-spread}
use Rattle.block.proofs.Parts.{zeros_of, length-content, part-addresses, part-zeros, length-block, take-block, told-block, get_d_last}
use Rattle.block.proofs.Filling.{filled_more, filled_part, length_filled_part, filled_all}

module _ (xs : List ℕ) (few : length xs ≤ most_addresses) where
  -- ---- bytes 0 to 508

  pub begun-content : (out : List ℕ) → length out ≡ checked
      → take addresses_at (set (set out 0 first_byte) 1 (length xs)) ≡ take addresses_at (content xs)
  unfolding content
  begun-content out room =
      let same : length out ≡ length (content xs) = room ∙ sym (length-content xs few) in
      let first = filled_more out (content xs) 0 first_byte same (omega arith) refl refl in
      let long = length-set out 0 first_byte in
      filled_more (set out 0 first_byte) (content xs) 1 (length xs) (long ∙ same) (omega arith) first refl

  pub addresses-content : (out part : List ℕ) → length out ≡ checked → take addresses_at out ≡ take addresses_at (content xs) → part ≡ spread xs
      → take (addresses_end (length xs)) (put_mid addresses_at (addresses_end (length xs) - addresses_at) out part)
      ≡ take (addresses_end (length xs)) (content xs)
  addresses-content out part room begun e =
      let many : length part ≡ addresses_end (length xs) - addresses_at = omega (arith, ap length e, length-spread xs) in
      filled_part out (content xs) part addresses_at (addresses_end (length xs)) (omega arith) (omega arith) many begun
      (e ∙ sym (part-addresses xs))

  pub zeros-content : (out part : List ℕ) → length out ≡ checked
      → take (addresses_end (length xs)) out ≡ take (addresses_end (length xs)) (content xs)
      → part ≡ zeros_of (length xs)
      → put_mid (addresses_end (length xs)) (checked - addresses_end (length xs)) out part ≡ content xs
  zeros-content out part room begun e =
      let end = addresses_end (length xs) in
      let many : length part ≡ checked - end = ap length e ∙ length-replicate (checked - end) 0 in
      let fits : end ≤ checked = omega arith in
      let whole : checked ≤ length out = omega arith in
      let long = length_filled_part out part end checked fits whole many in
      let rest : part ≡ take (checked - end) (drop end (content xs)) =
      e ∙ sym (ap (λ (l : List ℕ). take (checked - end) (drop end l)) (sym (append-nil (content xs))) ∙ part-zeros xs []) in
      filled_all (put_mid end (checked - end) out part) (content xs) checked (long ∙ room ∙ sym (length-content xs few)) (omega arith)
      (filled_part out (content xs) part end checked fits whole many begun rest)

  -- ---- the whole block

  pub content-block : (slot part : List ℕ) → length slot ≡ slot_bytes → part ≡ content xs
      → take checked (put_mid 0 checked slot part) ≡ content xs
  content-block slot part size e =
      filled_part slot (content xs) part 0 checked (omega arith) (omega arith) (omega (arith, ap length e, length-content xs few)) refl
      (e ∙ sym (take_all checked (content xs) (omega (arith, length-content xs few))))
      ∙ take_all checked (content xs) (omega (arith, length-content xs few))

  pub tail-block : (slot told : List ℕ) → length slot ≡ slot_bytes → take checked slot ≡ content xs → told ≡ octets 2 (crc (content xs))
      → set (put_mid checked 2 slot told) 511 last_byte ≡ block xs
  tail-block slot told size begun e =
      let two : length told ≡ 2 = ap length e ∙ length-octets 2 (crc (content xs)) in
      let same : length slot ≡ length (block xs) = size ∙ sym (length-block xs few) in
      let long₁ = length_filled_part slot told checked 511 (omega arith) (omega arith) two in
      let long₂ = length-set (put_mid checked 2 slot told) 511 last_byte in
      let step₁ =
      filled_part slot (block xs) told checked 511 (omega arith) (omega arith) two (begun ∙ sym (take-block xs few)) (e ∙ sym (told-block xs few)) in
      let step₂ = filled_more (put_mid checked 2 slot told) (block xs) 511 last_byte (long₁ ∙ same) (omega arith) step₁ (sym (get_d_last xs few)) in
      filled_all (set (put_mid checked 2 slot told) 511 last_byte) (block xs) 512 (long₂ ∙ long₁ ∙ same) (omega arith) step₂
