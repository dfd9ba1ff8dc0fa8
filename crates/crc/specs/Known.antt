-- Known values of the check, which any CRC-16 of this polynomial and this start has: the statements alone.
use Rattle.std.specs.Prelude.{ℕ, ◌≡◌, List, [], ◌∷◌, replicate}
use Rattle.crc.specs.Crc.{crc}

-- "123456789", the text at which the catalogues of CRCs give their check values
abbrev pub nine : List ℕ
nine = 49 ∷ 50 ∷ 51 ∷ 52 ∷ 53 ∷ 54 ∷ 55 ∷ 56 ∷ 57 ∷ []

pub record KnownChecks : Type 0 where
  pub of_nine : crc nine ≡ 0x29B1
  pub of_none : crc [] ≡ 0xFFFF
  pub of_zero : crc (0x00 ∷ []) ≡ 0xE1F0
  pub of_ones : crc (0xFF ∷ []) ≡ 0xFF00
  -- the start's own bits go in, and nothing is left
  pub of_start : crc (0xFF ∷ 0xFF ∷ []) ≡ 0x0000
  -- as many octets as a block has before its check, "bytes 0 to 508"
  pub of_block : crc (replicate 509 0x00) ≡ 0x523E
