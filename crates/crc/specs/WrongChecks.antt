-- Wrong checks, each the right one with one part exchanged, and the statement that the known value of "123456789" excludes them all.
use Rattle.std.specs.Prelude.{ℕ, zero, suc, ◌/◌, ◌%◌, ◌≡◌, List, [], ◌∷◌, eqb, if◌then◌else◌}
use Rattle.std.specs.Int.Bits.{bit_xor}
use Rattle.crc.specs.Crc.{start, bit, moved_up, shift_in, shift_bits, shift_octet, crc_from, crc}
use Rattle.crc.specs.Known.{nine}

-- ---- "start 0xFFFF"

-- the register is 0 at first
unfoldable pub starting_at_zero : List ℕ → ℕ
starting_at_zero os = crc_from 0 os

-- ---- "polynomial 0x1021"

-- `shift_in` and `shift_bits` with 0x8005, the polynomial of another CRC-16
unfoldable pub shift_in8005 : ℕ → ℕ → ℕ
shift_in8005 register b = if eqb (bit 15 register) b then moved_up register else bit_xor (moved_up register) 0x8005

unfoldable pub shift_bits8005 : ℕ → ℕ → ℕ → ℕ
shift_bits8005 zero register n = register
shift_bits8005 (suc k) register n = shift_bits8005 k (shift_in8005 register (bit k n)) n

-- `crc_from`, where an octet goes in by this rule
unfoldable pub crc_from_by : (ℕ → ℕ → ℕ) → ℕ → List ℕ → ℕ
crc_from_by rule register [] = register
crc_from_by rule register (o ∷ os) = crc_from_by rule (rule register o) os

unfoldable pub of_polynomial8005 : List ℕ → ℕ
of_polynomial8005 os = crc_from_by (shift_bits8005 8) start os

-- ---- "high bit first"

-- `shift_bits`, low bit first
unfoldable pub shift_bits_low : ℕ → ℕ → ℕ → ℕ
shift_bits_low zero register n = register
shift_bits_low (suc k) register n = shift_bits_low k (shift_in register (n % 2)) (n / 2)

unfoldable pub low_bit_first : List ℕ → ℕ
low_bit_first os = crc_from_by (shift_bits_low 8) start os

-- the bits of each half high bit first, but the low half first
unfoldable pub low_half_first : List ℕ → ℕ
low_half_first os = crc_from_by (λ register o. shift_bits 4 (shift_bits 4 register (o % 16)) (o / 16)) start os

-- ---- "nothing reversed or added at the end"

unfoldable pub inverted_at_end : List ℕ → ℕ
inverted_at_end os = bit_xor (crc os) 0xFFFF

-- ---- to the end

-- of the last octet only the high half goes in
unfoldable pub last_half_out : ℕ → List ℕ → ℕ
last_half_out register [] = register
last_half_out register (o ∷ []) = shift_bits 4 register (o / 16)
last_half_out register (o ∷ (p ∷ os)) = last_half_out (shift_octet register o) (p ∷ os)

unfoldable pub without_last_half : List ℕ → ℕ
without_last_half os = last_half_out start os

-- ---- none has the known value

pub record WrongChecksExcluded : Type 0 where
  pub zero_start : starting_at_zero nine ≡ 0x29B1 → ⊥
  pub other_polynomial : of_polynomial8005 nine ≡ 0x29B1 → ⊥
  pub low_bit : low_bit_first nine ≡ 0x29B1 → ⊥
  pub low_half : low_half_first nine ≡ 0x29B1 → ⊥
  pub inverted : inverted_at_end nine ≡ 0x29B1 → ⊥
  pub last_half : without_last_half nine ≡ 0x29B1 → ⊥
