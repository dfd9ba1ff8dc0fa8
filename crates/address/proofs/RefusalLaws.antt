-- Making an address is refused exactly where the number is zero. Assumes nothing.
use Rattle.std.specs.Prelude.{if◌then◌else◌}
use mathlib.Core.Path.{◌≡◌, refl}
use mathlib.Core.Bool.{Bool, true, false}
use Prim.Native.Nat.{ℕ}
use native.Mathlib.Omega.{arith}
use borrow.Author.Tests.{eqb-true, eqb-false}
use lib.Dec.{eqb}
use Rattle.address.specs.Order.{done}
use Rattle.address.specs.Address.{AddressAnswer, valid_address, refused_address, made}
use Rattle.address.specs.Refusals.{address_order, AddressRefusals}
use Rattle.address.proofs.OrderLaws.{given-exactly, first-if}

pub address-refusals : AddressRefusals
unfolding made
address-refusals = record {
  given = λ n. given-exactly (address_order n)
      (first-if (λ (r : AddressAnswer). r.refusal) (eqb n 0) (refused_address 9) (valid_address n) done refl (eqb-true n 0) (λ e. (eqb-false n 0 e, refl)));
  beside = λ n. refused n (eqb n 0);
  without = λ n. valid n (eqb n 0);
}
  where
    refused : (n : ℕ) (t : Bool) → ((if t then refused_address 9 else valid_address n).refusal ≡ 0 → ⊥) → (if t then refused_address 9 else valid_address n).address ≡ 0
    refused n true h = refl
    refused n false h = absurd (h refl)

    valid : (n : ℕ) (t : Bool) → (if t then refused_address 9 else valid_address n).refusal ≡ 0 → (if t then refused_address 9 else valid_address n).address ≡ n
    valid n true e = absurd (omega arith)
    valid n false e = refl
