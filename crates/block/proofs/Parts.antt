-- The parts of a block, each where the format says: the content's addresses and zeros, and behind the content the CRC's two bytes and the last
-- byte. Assumes nothing.
use mathlib.Core.Path.{◌≡◌, sym, ap, ◌∙◌, subst}
use mathlib.Core.List.{List, [], ◌∷◌, ◌++◌, append_assoc}
use Prim.Native.Nat.{ℕ, ◌+◌, ◌-◌, ◌*◌, ◌≤◌}
use native.Mathlib.Nat.{add-sub_cancel_left}
use native.Mathlib.Omega.{arith}
use lib.ListN.{length, take, drop, get_or, replicate, length-append, length-replicate}
use lib.Seq.{take_at, drop_at, get_or-append-add}
use Rattle.octets.specs.Octets.{octets}
use Rattle.octets.proofs.OctetLaws.{length-octets}
use Rattle.crc.specs.Crc.{crc}
use Rattle.block.specs.Block.{slot_bytes, most_addresses, first_byte, last_byte, checked, addresses_at, address_bytes, addresses_end}
use Rattle.block.specs.Block.{spread, content, block}
use Rattle.block.proofs.Spread.{length-spread}

-- the zeros of so many addresses
abbrev pub zeros_of : ℕ → List ℕ
zeros_of n = replicate (checked - addresses_end n) 0

-- what stands behind a content
abbrev pub tail : List ℕ → List ℕ
tail body = octets 2 (crc body) ++ (last_byte ∷ [])

module _ (xs : List ℕ) where
  front : List ℕ
  front = first_byte ∷ length xs ∷ spread xs

  length_front : length front ≡ addresses_end (length xs)
  unfolding front
  length_front = omega (arith, length-spread xs)

  front-content : (rest : List ℕ) → content xs ++ rest ≡ front ++ (zeros_of (length xs) ++ rest)
  unfolding front content
  front-content rest = ap (λ (l : List ℕ). first_byte ∷ length xs ∷ l) (append_assoc (spread xs) (zeros_of (length xs)) rest)

  drop-addresses : (rest : List ℕ) → drop (addresses_end (length xs)) (content xs ++ rest) ≡ zeros_of (length xs) ++ rest
  drop-addresses rest =
      ap (drop (addresses_end (length xs))) (front-content rest)
      ∙ drop_at front (zeros_of (length xs) ++ rest) (addresses_end (length xs)) length_front

  pub part-zeros : (rest : List ℕ)
      → take (checked - addresses_end (length xs)) (drop (addresses_end (length xs)) (content xs ++ rest)) ≡ zeros_of (length xs)
  part-zeros rest =
      let k = checked - addresses_end (length xs) in
      ap (take k) (drop-addresses rest) ∙ take_at (zeros_of (length xs)) rest k (length-replicate k 0)

  pub part-addresses : take (addresses_end (length xs) - addresses_at) (drop addresses_at (content xs)) ≡ spread xs
  unfolding content
  part-addresses =
      take_at (spread xs) (zeros_of (length xs)) (addresses_end (length xs) - addresses_at)
      (length-spread xs ∙ sym (add-sub_cancel_left addresses_at (address_bytes * length xs)))

  module _ (few : length xs ≤ most_addresses) where
    pub length-content : length (content xs) ≡ checked
    unfolding content
    length-content =
        let zeros = length-replicate {A = ℕ} (checked - addresses_end (length xs)) 0 in
        omega (arith, length-append (spread xs) (zeros_of (length xs)), length-spread xs)

    pub length-block : length (block xs) ≡ slot_bytes
    unfolding block octets
    length-block = omega (arith, length-append (content xs) (tail (content xs)), length-content)

    pub take-block : take checked (block xs) ≡ content xs
    unfolding block
    take-block = take_at (content xs) (tail (content xs)) checked length-content

    pub drop_block : drop checked (block xs) ≡ tail (content xs)
    unfolding block
    drop_block = drop_at (content xs) (tail (content xs)) checked length-content

    behind : (i : ℕ) → get_or (block xs) (checked + i) 0 ≡ get_or (tail (content xs)) i 0
    unfolding block
    behind i =
        subst (λ (n : ℕ). get_or (content xs ++ tail (content xs)) (n + i) 0 ≡ get_or (tail (content xs)) i 0) length-content
        (get_or-append-add (content xs) (tail (content xs)) i 0)

    -- the CRC's two octets, and the last byte
    pub told-block : take 2 (drop checked (block xs)) ≡ octets 2 (crc (content xs))
    told-block =
        ap (take 2) drop_block ∙ take_at (octets 2 (crc (content xs))) (last_byte ∷ []) 2 (length-octets 2 (crc (content xs)))

    pub get_d_last : get_or (block xs) 511 0 ≡ last_byte
    unfolding octets
    get_d_last = behind 2
