-- The IPv6 form of an address. "IPv6: prefix of 8 octets, then the address in 8 octets padded with leading zeros (003, 6.3). Back: the first
-- 8 octets must equal the prefix; the other 8 are the address."
use Rattle.std.specs.Prelude.{ℕ, not, ◌&&◌, List, ◌++◌, length, take, drop, eqb, ltb, if◌then◌else◌}
use Rattle.address.specs.Address.{AddressAnswer, valid_address, refused_address}
use Rattle.octets.specs.Octets.{octets, value, same, WriteEffect, refuse_writing, write}

-- a prefix's octets, the address's octets behind them, and both
abbrev pub half : ℕ
half = 8

abbrev pub whole : ℕ
whole = 16

unfoldable pub form : List ℕ → ℕ → List ℕ
form prefix a = prefix ++ octets half a

-- "For IPv6 out 12, 9, 10.": the prefix isn't 8 octets; the address is zero; the lent output is too short
unfoldable pub form_writing : List ℕ → ℕ → List ℕ → WriteEffect
form_writing prefix a buffer =
    if not (eqb (length prefix) half) then refuse_writing 12 buffer
    else if eqb a 0 then refuse_writing 9 buffer
    else if ltb (length buffer) whole then refuse_writing 10 buffer
    else write (form prefix a) buffer

-- "For IPv6 back 12, 8, 9.": the IPv6 address isn't 16 octets, or the prefix isn't 8; the prefix differs; the address is zero
unfoldable pub form_reading : List ℕ → List ℕ → AddressAnswer
form_reading prefix ipv6 =
    if not (eqb (length prefix) half && eqb (length ipv6) whole) then refused_address 12
    else if not (same (take half ipv6) prefix) then refused_address 8
    else if eqb (value (drop half ipv6)) 0 then refused_address 9
    else valid_address (value (drop half ipv6))
