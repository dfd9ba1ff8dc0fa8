-- The check of a block: "a CRC-16 of bytes 0 to 508 (polynomial 0x1021, start 0xFFFF, high bit first, nothing reversed or added at the end)". It
-- is defined here bit by bit, from the polynomial, for any octets; specs/Checks.antt has the table of the code, and that four bits at once go by it.
use Rattle.std.specs.Prelude.{ℕ, zero, suc, ◌*◌, ◌/◌, ◌%◌, ◌^◌, List, [], ◌∷◌, eqb, if◌then◌else◌}
use Rattle.std.specs.Int.Bits.{bit_xor}

-- "polynomial 0x1021": x ^ 12 + x ^ 5 + 1, and x ^ 16, which is the bit that leaves the register
abbrev pub polynomial : ℕ
polynomial = 0x1021

-- "start 0xFFFF"
abbrev pub start : ℕ
start = 0xFFFF

-- bit k of a number, its last bit being bit 0
unfoldable pub bit : ℕ → ℕ → ℕ
bit k n = n / 2 ^ k % 2

-- a register of 16 bits moved up by one bit: its top bit leaves
unfoldable pub moved_up : ℕ → ℕ
moved_up register = register * 2 % 2 ^ 16

-- One message bit goes in: where the bit that leaves at the top is another than the message bit, the polynomial is taken off.
unfoldable pub shift_in : ℕ → ℕ → ℕ
shift_in register b = if eqb (bit 15 register) b then moved_up register else bit_xor (moved_up register) polynomial

-- the last k bits of a number go in, "high bit first"
unfoldable pub shift_bits : ℕ → ℕ → ℕ → ℕ
shift_bits zero register n = register
shift_bits (suc k) register n = shift_bits k (shift_in register (bit k n)) n

-- an octet's eight bits go in
unfoldable pub shift_octet : ℕ → ℕ → ℕ
shift_octet register octet = shift_bits 8 register octet

-- the octets go in, one after the other
unfoldable pub crc_from : ℕ → List ℕ → ℕ
crc_from register [] = register
crc_from register (o ∷ os) = crc_from (shift_octet register o) os

-- "nothing reversed or added at the end": the register that is left
unfoldable pub crc : List ℕ → ℕ
crc os = crc_from start os
