-- An address as steps. "After the first 1, the string is cut into steps: a run of k ones and then a 0 is 'router child k'. If ones remain
-- at the end, m of them (m at least 1) are 'host child m-1'."
-- Steps are held LAST STEP FIRST: the parent is the tail, a child is one more in front, and the ancestors are the tails.
use Rattle.std.specs.Prelude.{ℕ, zero, suc, List, [], ◌∷◌, ◌++◌, replicate}
use Rattle.address.specs.Bits.{Bit, O, I, bits, number}
pub use Rattle.address.specs.declared.Kind.{Kind}
pub use Rattle.address.specs.declared.Kind.TheVariants.{Router as router, Host as host}

pub data Step : Type 0 where
  child : Kind → ℕ → Step

-- the end of the string, where k ones have been read since the last 0
unfoldable pub last_step : ℕ → List Step → List Step
last_step zero done = done
last_step (suc m) done = child host m ∷ done

-- the bits that are left, where k ones have been read since the last 0 and the steps before those are done
unfoldable pub cut : ℕ → List Step → List Bit → List Step
cut k done [] = last_step k done
cut k done (O ∷ bs) = cut 0 (child router k ∷ done) bs
cut k done (I ∷ bs) = cut (suc k) done bs

-- the steps of a bit string: of what stands behind its first bit
unfoldable pub steps_of : List Bit → List Step
steps_of [] = []
steps_of (b ∷ bs) = cut 0 [] bs

-- the steps of the address that a number holds
unfoldable pub steps : ℕ → List Step
steps n = steps_of (bits n)

-- a step's last bit: "0 for a router or 1 for a host"
unfoldable pub last_of : Kind → Bit
last_of router = O
last_of host = I

-- a step's bits: "as many ones as the old count of that kind, then 0 for a router or 1 for a host"
unfoldable pub step_bits : Step → List Bit
step_bits (child kind i) = replicate i I ++ (last_of kind ∷ [])

-- the bit string of some steps: the root's, and behind it each step's bits
unfoldable pub spelled : List Step → List Bit
spelled [] = I ∷ []
spelled (s ∷ up) = spelled up ++ step_bits s

-- the number that holds the address of some steps
unfoldable pub address_of : List Step → ℕ
address_of ss = number (spelled ss)
