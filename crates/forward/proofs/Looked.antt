-- What the search finds below a node: the bits looked at are those of the destination's next step, so they are at least one, they end at the
-- place that the search answers, and the last of them is the child's last bit. Assumes nothing.
use Rattle.std.specs.Prelude.{if◌then◌else◌}
use mathlib.Core.Path.{◌≡◌, refl, sym, ap, ◌∙◌}
use mathlib.Core.Bool.{true, false}
use mathlib.Core.List.{List, [], ◌∷◌, ◌++◌}
use Prim.Native.Nat.{ℕ, ◌+◌, ◌%◌, ◌<◌}
use native.Mathlib.Omega.{arith}
use lib.Dec.{eqb}
use lib.ListN.{length, drop, replicate, length-append}
use Rattle.address.specs.declared.Kind.{Kind}
use Rattle.address.specs.declared.Kind.TheVariants.{Router, Host}
use Rattle.address.specs.Bits.{Bit, I, bits, number, digit}
use Rattle.address.specs.Steps.{Step, child, steps, address_of, step_bits, last_of}
use Rattle.address.specs.Address.{bit_length, is_host}
use Rattle.address.specs.Numbers.{IsAddress}
use Rattle.search.specs.Search.{looked_at, child_end, first_bits, is_prefix, kind_looked}
use Rattle.address.proofs.Steps.{address_of-child}
use Rattle.address.proofs.Ancestors.{number-child}
use Rattle.search.proofs.Prefixes.{looked_at-step, first_bits-child_end, kind_looked-step_bits, is_prefix_ancestor_or_self}
use Rattle.forward.proofs.Hops.{next-step}

-- the last bit of a child's address tells its kind
kind-child : (kind : Kind) (i : ℕ) (up : List Step) → (if eqb (address_of (child kind i ∷ up) % 2) 0 then Router else Host) ≡ kind
unfolding digit last_of
kind-child Router i up =
    let even : address_of (child Router i ∷ up) % 2 ≡ 0 = omega (arith, address_of-child Router i up) in rw even
kind-child Host i up =
    let odd : address_of (child Host i ∷ up) % 2 ≡ 1 = omega (arith, address_of-child Host i up) in rw odd

length-step_bits : (s : Step) → 0 < length (step_bits s)
unfolding step_bits
length-step_bits (child kind i) = rw (length-append (replicate i I) (last_of kind ∷ [])) (omega arith)

module _ {c d : ℕ} (a : IsAddress c) (b : IsAddress d) (h : is_host c ≡ false) (p : is_prefix (bits c) (bits d) ≡ true) (other : d ≡ c → ⊥) where
  abbrev looked : List Bit
  looked = looked_at (drop (bit_length c) (bits d))

  step : (s : Step) × (more : List Step) × (steps d ≡ more ++ (s ∷ steps c))
  step = next-step a b (is_prefix_ancestor_or_self a b h p) other

  looked-step : looked ≡ step_bits step.0
  looked-step = looked_at-step a b step.1 step.0 step.2

  pub looked-some : 0 < length looked
  looked-some = rw looked-step (length-step_bits step.0)

  pub child_end-looked : child_end (bit_length c) (bits d) ≡ bit_length c + length looked
  unfolding child_end
  child_end-looked = refl

  first_bits-step : first_bits (child_end (bit_length c) (bits d)) d ≡ address_of (step.0 ∷ steps c)
  first_bits-step = first_bits-child_end a b step.1 step.0 step.2

  pub first_bits-looked : first_bits (child_end (bit_length c) (bits d)) d ≡ number (bits c ++ looked)
  first_bits-looked = first_bits-step ∙ sym (number-child a step.0) ∙ ap (λ (bs : List Bit). number (bits c ++ bs)) (sym looked-step)

  pub kind-looked : (if eqb (first_bits (child_end (bit_length c) (bits d)) d % 2) 0 then Router else Host) ≡ kind_looked looked
  kind-looked = rw (first_bits-step, looked-step) (go step.0)
    where
      go : (s : Step) → (if eqb (address_of (s ∷ steps c) % 2) 0 then Router else Host) ≡ kind_looked (step_bits s)
      go (child kind i) = kind-child kind i (steps c) ∙ sym (kind_looked-step_bits kind i)
