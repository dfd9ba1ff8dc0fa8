-- Cutting a bit string into steps undoes spelling the steps, and the other way round. Both are proved for a string that is partly read:
-- `cut k done bs` spells `done`, the k ones and bs, and cutting what routers spell ends with these routers done.
use mathlib.Core.Path.{◌≡◌, refl, sym, ◌∙◌}
use mathlib.Core.List.{List, [], ◌∷◌, ◌++◌, append_assoc, append-nil}
use Prim.Native.Nat.{ℕ, zero, suc, ◌+◌, ◌*◌, ◌-◌, ◌^◌, ◌<◌, ◌≤◌}
use native.Mathlib.Nat.{add-zero, zero-add, add-suc, suc-add}
use native.Mathlib.Omega.{arith}
use lib.ListN.{length, replicate, length-append, length-replicate}
use Rattle.address.specs.Bits.{Bit, O, I, bits, bits_in, last_bit, digit, number_from, number, longest, root}
use Rattle.address.specs.Steps.{Kind, router, host, Step, child, last_step, cut, steps_of, steps, last_of, step_bits, spelled, address_of}
use Rattle.address.specs.Address.{bit_length, depth, above, parent}
use Rattle.address.specs.Numbers.{IsAddressString, IsAddress}
use Rattle.address.specs.Cuts.{AllRouters, AreSteps, ExactlyOneCut}
use Rattle.address.specs.Depths.{DepthRange}
use Rattle.address.proofs.Numbers.{bits-number, number-bits, number-address, bits-string, bit_length-le, number_from-append, number_from-ones}

-- spelling what was cut

replicate_snoc : {A : Type 0} (k : ℕ) (a : A) (l : List A) → replicate k a ++ (a ∷ l) ≡ replicate (suc k) a ++ l
replicate_snoc zero a l = refl
replicate_snoc (suc k) a l = rw (replicate_snoc k a l)

spelled-cut : (k : ℕ) (done : List Step) (bs : List Bit) → spelled (cut k done bs) ≡ spelled done ++ (replicate k I ++ bs)
unfolding cut last_step spelled step_bits last_of
spelled-cut zero done [] = sym (append-nil (spelled done))
spelled-cut (suc k) done [] = rw (replicate_snoc k I [])
spelled-cut k done (O ∷ bs) = spelled-cut 0 (child router k ∷ done) bs ∙ simp append_assoc
spelled-cut k done (I ∷ bs) = spelled-cut (suc k) done bs ∙ rw (replicate_snoc k I bs)

pub are_steps_routers : (ss : List Step) → AllRouters ss → AreSteps ss
are_steps_routers [] r = r
are_steps_routers (child router i ∷ up) r = r
are_steps_routers (child host i ∷ up) r = absurd r

are_steps_cut : (k : ℕ) (done : List Step) (bs : List Bit) → AllRouters done → AreSteps (cut k done bs)
unfolding cut last_step
are_steps_cut zero done [] r = are_steps_routers done r
are_steps_cut (suc k) done [] r = r
are_steps_cut k done (O ∷ bs) r = are_steps_cut 0 (child router k ∷ done) bs r
are_steps_cut k done (I ∷ bs) r = are_steps_cut (suc k) done bs r

pub are_steps_steps : (n : ℕ) → AreSteps (steps n)
unfolding steps steps_of
are_steps_steps n = go (bits n)
  where
    go : (bs : List Bit) → AreSteps (steps_of bs)
    go [] = tt
    go (b ∷ bs) = are_steps_cut 0 [] bs tt

pub spelled-steps : {n : ℕ} → IsAddress n → spelled (steps n) ≡ bits n
unfolding steps steps_of spelled
spelled-steps a = rw (bits-string a).first.1 (spelled-cut 0 [] (bits-string a).first.0)

pub address_of-steps : {n : ℕ} → IsAddress n → address_of (steps n) ≡ n
unfolding address_of
address_of-steps a = rw (spelled-steps a) (number-bits a.fits)

-- cutting what was spelled

cut_ones : (k i : ℕ) (done : List Step) (bs : List Bit) → cut k done (replicate i I ++ bs) ≡ cut (k + i) done bs
unfolding cut
cut_ones k zero done bs = rw add-zero
cut_ones k (suc i) done bs = cut_ones (suc k) i done bs ∙ rw (suc-add, add-suc)

cut_step : (kind : Kind) (i : ℕ) (done : List Step) → cut 0 done (step_bits (child kind i)) ≡ child kind i ∷ done
unfolding cut last_step step_bits last_of
cut_step router i done = cut_ones 0 i done (O ∷ []) ∙ rw zero-add
cut_step host i done = cut_ones 0 i done (I ∷ []) ∙ rw zero-add

pub steps_of-routers : (ss : List Step) (bs : List Bit) → AllRouters ss → steps_of (spelled ss ++ bs) ≡ cut 0 ss bs
unfolding steps_of cut spelled step_bits last_of
steps_of-routers [] bs r = refl
steps_of-routers (child router i ∷ up) bs r =
    simp append_assoc (steps_of-routers up (replicate i I ++ (O ∷ bs)) r ∙ cut_ones 0 i up (O ∷ bs) ∙ rw zero-add)
steps_of-routers (child host i ∷ up) bs r = absurd r

pub steps_of-spelled : (ss : List Step) → AreSteps ss → steps_of (spelled ss) ≡ ss
unfolding steps_of cut spelled last_step
steps_of-spelled [] r = refl
steps_of-spelled (child kind i ∷ up) r = steps_of-routers up (step_bits (child kind i)) r ∙ cut_step kind i up

spelled-first : (ss : List Step) → (rest : List Bit) × (spelled ss ≡ I ∷ rest)
unfolding spelled
spelled-first [] = ([], refl)
spelled-first (s ∷ up) = ((spelled-first up).0 ++ step_bits s, rw (spelled-first up).1)

module _ (ss : List Step) (short : length (spelled ss) ≤ longest) where
  pub spelled-string : IsAddressString (spelled ss)
  spelled-string = record { first = spelled-first ss; short = short }

  pub bits-address_of : bits (address_of ss) ≡ spelled ss
  unfolding address_of
  bits-address_of = bits-number spelled-string

  pub address-address_of : IsAddress (address_of ss)
  unfolding address_of
  address-address_of = number-address spelled-string

  pub steps-address_of : AreSteps ss → steps (address_of ss) ≡ ss
  unfolding steps
  steps-address_of r = rw bits-address_of (steps_of-spelled ss r)

  pub depth-address_of : AreSteps ss → depth (address_of ss) ≡ length ss
  unfolding depth
  depth-address_of r = rw (steps-address_of r)

  pub bit_length-address_of : bit_length (address_of ss) ≡ length (spelled ss)
  unfolding bit_length
  bit_length-address_of = rw bits-address_of

pub parent-address_of : (s : Step) (up : List Step) → length (spelled (s ∷ up)) ≤ longest → AllRouters up
    → parent (address_of (s ∷ up)) ≡ address_of up
unfolding parent above
parent-address_of s up short r = rw (steps-address_of (s ∷ up) short r)

pub exactly-one-cut : ExactlyOneCut
unfolding steps
exactly-one-cut = record {
  has = λ n a. (are_steps_steps n, spelled-steps a);
  only = λ n ss a r e. rw (← e) (sym (steps_of-spelled ss r));
  back = λ ss r short. (address-address_of ss short, steps-address_of ss short r);
}

-- lengths and numbers of steps

pub length-spelled : (kind : Kind) (i : ℕ) (up : List Step) → length (spelled (child kind i ∷ up)) ≡ length (spelled up) + i + 1
unfolding spelled step_bits
length-spelled kind i up = rw (length-append, length-append, length-replicate) (omega arith)

-- a step has at least one bit
pub length-lt-spelled : (ss : List Step) → length ss < length (spelled ss)
unfolding spelled
length-lt-spelled [] = omega arith
length-lt-spelled (child kind i ∷ up) = omega (arith, length-lt-spelled up, length-spelled kind i up)

pub depth-lt-bit_length : {n : ℕ} → IsAddress n → depth n < bit_length n
unfolding depth bit_length
depth-lt-bit_length {n} a = rw (spelled-steps a) at (length-lt-spelled (steps n))

pub address_of-root : address_of [] ≡ root
unfolding address_of spelled number number_from digit
address_of-root = refl

pub address_of-child : (kind : Kind) (i : ℕ) (up : List Step)
    → address_of (child kind i ∷ up) ≡ (address_of up * 2 ^ i + (2 ^ i - 1)) * 2 + digit (last_of kind)
unfolding address_of spelled step_bits number number_from
address_of-child kind i up = rw (number_from-append, number_from-append, number_from-ones)

pub depth_range : DepthRange
unfolding depth steps steps_of cut last_step bits bits_in last_bit
depth_range = record {
  most = λ n a. omega (arith, depth-lt-bit_length a, bit_length-le a.fits);
  least = refl;
  met = (record { some = omega arith; fits = omega arith }, refl);
}
