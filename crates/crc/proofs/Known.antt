-- The known values, by computing the definition. Assumes nothing.
use mathlib.Core.Path.{refl}
use Rattle.crc.specs.Crc.{bit, moved_up, shift_in, shift_bits, shift_octet, crc_from, crc}
use Rattle.crc.specs.Known.{KnownChecks}

pub known_checks : KnownChecks
unfolding crc crc_from shift_octet shift_bits shift_in moved_up bit
known_checks = record { of_nine = refl; of_none = refl; of_zero = refl; of_ones = refl; of_start = refl; of_block = refl }
