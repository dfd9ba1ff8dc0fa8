-- Each wrong check is computed at "123456789", and gives another number. Assumes nothing.
use native.Mathlib.Omega.{arith}
use Rattle.crc.specs.Crc.{bit, moved_up, shift_in, shift_bits, shift_octet, crc_from, crc}
use Rattle.crc.specs.WrongChecks.{starting_at_zero, shift_in8005, shift_bits8005, crc_from_by, of_polynomial8005, shift_bits_low, low_bit_first}
use Rattle.crc.specs.WrongChecks.{low_half_first, inverted_at_end, last_half_out, without_last_half, WrongChecksExcluded}

-- whoever unfolds this unfolds all that the checks are computed by
opened : Unit {0}
unfolding crc crc_from shift_octet shift_bits shift_in moved_up bit starting_at_zero shift_in8005 shift_bits8005 crc_from_by of_polynomial8005 shift_bits_low
opened = tt

pub wrong_checks : WrongChecksExcluded
unfolding opened low_bit_first low_half_first inverted_at_end last_half_out without_last_half
wrong_checks = record {
  zero_start = λ e. omega arith;
  other_polynomial = λ e. omega arith;
  low_bit = λ e. omega arith;
  low_half = λ e. omega arith;
  inverted = λ e. omega arith;
  last_half = λ e. omega arith;
}
