-- "Now the address takes the fewest octets, 1 to 8." (document 02, Three)
use Rattle.std.specs.Prelude.{ℕ, ◌^◌, ◌<◌, ◌≤◌}
use Rattle.address.specs.Numbers.{IsAddress}
use Rattle.header.specs.Header.{size, IsSize}

pub record IsFewest (a : ℕ) : Type 0 where
  pub allowed : IsSize (size a)
  pub holds : a < 256 ^ size a
  pub fewest : (s : ℕ) → a < 256 ^ s → size a ≤ s

abbrev pub FewestOctets : Type 0
FewestOctets = (a : ℕ) → IsAddress a → IsFewest a
