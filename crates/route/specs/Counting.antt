-- What the functions inside the path call come to: the addresses of a way, by their parents, and its steps, by the zeros of its bits.
use Rattle.std.specs.Prelude.{ℕ, zero, suc, ◌+◌, ◌-◌, List, [], ◌∷◌, ◌++◌, map, length, drop, replicate, if◌then◌else◌}
use Rattle.address.specs.Bits.{Bit, O, I, bits, longest}
use Rattle.address.specs.Address.{is_host, parent}

-- an address and its ancestors, upwards, n in all
unfoldable pub upwards : ℕ → ℕ → List ℕ
upwards zero a = []
upwards (suc n) a = a ∷ upwards n (parent a)

unfoldable pub zeros : List Bit → ℕ
zeros [] = 0
zeros (O ∷ bs) = suc (zeros bs)
zeros (I ∷ bs) = zeros bs

-- an address's steps behind its first bit and n more: one for each 0, and one for the ones at a host's end
abbrev pub steps_behind : ℕ → ℕ → ℕ
steps_behind n a = zeros (drop (n + 1) (bits a)) + (if is_host a then 1 else 0)

unfoldable pub opposite : Bit → Bit
opposite O = I
opposite I = O

-- some bits turned over, each 0 a 1 and each 1 a 0, with n zeros behind them
unfoldable pub turned_over : ℕ → List Bit → List Bit
turned_over n bs = map opposite bs ++ replicate n O

-- the bits behind an address's first, turned over, in as many places as the longest address has behind its first
unfoldable pub marks : List Bit → List Bit
marks bs = turned_over (longest - length bs) (drop 1 bs)
