-- "Depth is the number of steps, 0 to 63.": the statement alone.
use Rattle.std.specs.Prelude.{◌≡◌, ℕ, ◌^◌, ◌≤◌}
use Rattle.address.specs.Bits.{root}
use Rattle.address.specs.Address.{depth}
use Rattle.address.specs.Numbers.{IsAddress}

-- no address has more, the root has none, and 1 with 63 zeros behind it has 63
pub record DepthRange : Type 0 where
  pub most : (n : ℕ) → IsAddress n → depth n ≤ 63
  pub least : depth root ≡ 0
  pub met : IsAddress (2 ^ 63) × (depth (2 ^ 63) ≡ 63)
