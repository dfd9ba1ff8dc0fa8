-- What holds of every check, and the rule of the table by which the code computes it: the statements alone.
use Rattle.std.specs.Prelude.{ℕ, ◌*◌, ◌^◌, ◌<◌, ◌≡◌, List, [], ◌∷◌, length, get_or}
use Rattle.crc.specs.Crc.{shift_bits, crc}

-- "a CRC-16": whatever the numbers of the list are, octets or not
abbrev pub CrcFits : Type 0
CrcFits = (os : List ℕ) → crc os < 2 ^ 16

-- what is left of a half octet that stood at the top of the register, once four zero bits have gone in behind it
unfoldable pub remainder : ℕ → ℕ
remainder half = shift_bits 4 (half * 2 ^ 12) 0

-- "the check uses a table of sixteen entries, one for each half octet"
abbrev pub remainders : List ℕ
remainders =
    0x0000
    ∷ 0x1021
    ∷ 0x2042
    ∷ 0x3063
    ∷ 0x4084
    ∷ 0x50A5
    ∷ 0x60C6
    ∷ 0x70E7
    ∷ 0x8108
    ∷ 0x9129
    ∷ 0xA14A
    ∷ 0xB16B
    ∷ 0xC18C
    ∷ 0xD1AD
    ∷ 0xE1CE
    ∷ 0xF1EF
    ∷ []

pub record TableRule : Type 0 where
  pub sixteen : length remainders ≡ 16
  pub each : (half : ℕ) → half < 16 → get_or remainders half 0 ≡ remainder half
