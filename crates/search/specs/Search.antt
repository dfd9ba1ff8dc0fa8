-- The search for the next child on the way to an address. "C is a proper prefix of D: look at D's bits after C one at a time and stop at the
-- first 0 or at D's last bit. C with these bits is the child (000, 5.1 step 6)."
use Rattle.std.specs.Prelude.{ℕ, ◌+◌, ◌-◌, Bool, true, false, ◌&&◌, List, [], ◌∷◌, length, take, drop, if◌then◌else◌}
use Rattle.address.specs.Bits.{Bit, O, I, bits, number}
use Rattle.address.specs.declared.Kind.{Kind}
use Rattle.address.specs.declared.Kind.TheVariants.{Router as router, Host as host}
use Rattle.address.specs.Address.{ends_in_one}

-- the bits looked at: up to the first 0, or all of them
unfoldable pub looked_at : List Bit → List Bit
looked_at [] = []
looked_at (O ∷ bs) = O ∷ []
looked_at (I ∷ bs) = I ∷ looked_at bs

-- where the child's bits end in those of d, of which the first n are the node's
unfoldable pub child_end : ℕ → List Bit → ℕ
child_end n d = n + length (looked_at (drop n d))

-- the address of an address's first n bits
unfoldable pub first_bits : ℕ → ℕ → ℕ
first_bits n a = number (take n (bits a))

unfoldable pub same_bit : Bit → Bit → Bool
same_bit O O = true
same_bit O I = false
same_bit I O = false
same_bit I I = true

-- one bit string begins another, or is it
unfoldable pub is_prefix : List Bit → List Bit → Bool
is_prefix [] ds = true
is_prefix (c ∷ cs) [] = false
is_prefix (c ∷ cs) (d ∷ ds) = same_bit c d && is_prefix cs ds

-- the kind of the child that some bits lead to: "0 for a router or 1 for a host"
unfoldable pub kind_looked : List Bit → Kind
kind_looked bs = if ends_in_one bs then host else router

-- its index: the ones before its last bit
unfoldable pub index_looked : List Bit → ℕ
index_looked bs = length bs - 1
