-- A block, and a slot that holds one. "A block: 0x50; a count n of 1 to 63; n addresses of 8 octets, high octet first, in the order given; zeros up
-- to byte 508; in bytes 509 and 510, high first, a CRC-16 of bytes 0 to 508 ..; 0xA5 in byte 511."
use Rattle.std.specs.Prelude.{ℕ, zero, suc, ◌+◌, ◌*◌, ◌-◌, Bool, true, ◌&&◌, List, [], ◌∷◌, ◌++◌, length, take, drop, get_or, replicate, eqb, leb, if◌then◌else◌}
use Rattle.octets.specs.Octets.{octets, value}
use Rattle.crc.specs.Crc.{crc}

-- "slots of 512 bytes"
abbrev pub slot_bytes : ℕ
slot_bytes = 512

-- "a count n of 1 to 63"
abbrev pub most_addresses : ℕ
most_addresses = 63

-- the first byte and the last
abbrev pub first_byte : ℕ
first_byte = 0x50

abbrev pub last_byte : ℕ
last_byte = 0xA5

-- how many bytes the CRC is taken of, and how many an address has
abbrev pub checked : ℕ
checked = 509

abbrev pub address_bytes : ℕ
address_bytes = 8

-- where the addresses begin, and where so many of them end
abbrev pub addresses_at : ℕ
addresses_at = 2

abbrev pub addresses_end : ℕ → ℕ
addresses_end count = addresses_at + address_bytes * count

-- ---- written

unfoldable pub spread : List ℕ → List ℕ
spread [] = []
spread (a ∷ xs) = octets address_bytes a ++ spread xs

-- bytes 0 to 508
unfoldable pub content : List ℕ → List ℕ
content xs = first_byte ∷ length xs ∷ (spread xs ++ replicate (checked - addresses_end (length xs)) 0)

unfoldable pub block : List ℕ → List ℕ
block xs = content xs ++ (octets 2 (crc (content xs)) ++ (last_byte ∷ []))

-- "a count n of 1 to 63"
unfoldable pub is_count : ℕ → Bool
is_count n = leb 1 n && leb n most_addresses

-- a lent slot with the block in it; anything but a whole slot, and a count outside 1 to 63, is left as it is
unfoldable pub block_put : List ℕ → List ℕ → List ℕ
block_put xs slot = if eqb (length slot) slot_bytes && is_count (length xs) then block xs else slot

-- ---- read

unfoldable pub all_are : ℕ → List ℕ → Bool
all_are o [] = true
all_are o (b ∷ bs) = eqb b o && all_are o bs

-- so many addresses from the front of some octets
unfoldable pub gathered : ℕ → List ℕ → List ℕ
gathered zero os = []
gathered (suc k) os = value (take address_bytes os) ∷ gathered k (drop address_bytes os)

-- the count that a slot says, and the addresses
abbrev pub count_in : List ℕ → ℕ
count_in slot = get_or slot 1 0

unfoldable pub addresses_in : List ℕ → List ℕ
addresses_in slot = gathered (count_in slot) (drop addresses_at slot)

-- the bytes between the addresses and the CRC, the CRC that a slot says, and that of its first bytes
abbrev pub zeros_in : List ℕ → List ℕ
zeros_in slot = take (checked - addresses_end (count_in slot)) (drop (addresses_end (count_in slot)) slot)

abbrev pub told_in : List ℕ → ℕ
told_in slot = value (take 2 (drop checked slot))

abbrev pub crc_in : List ℕ → ℕ
crc_in slot = crc (take checked slot)

-- "a right block"
unfoldable pub is_block : List ℕ → Bool
is_block slot =
    eqb (length slot) slot_bytes
    && eqb (get_or slot 0 0) first_byte
    && is_count (count_in slot)
    && all_are 0 (zeros_in slot)
    && eqb (told_in slot) (crc_in slot)
    && eqb (get_or slot 511 0) last_byte
