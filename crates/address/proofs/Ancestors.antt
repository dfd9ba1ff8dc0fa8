-- The steps above an address's last are its ancestors' steps, and their bits stand first. Only the last step of a reading leads to a host, so
-- nothing stands below one. Assumes nothing.
use mathlib.Core.Path.{◌≡◌, sym, ap, ◌∙◌}
use mathlib.Core.Bool.{true, false}
use mathlib.Core.List.{List, [], ◌∷◌, ◌++◌, append_assoc, append-nil}
use Prim.Native.Nat.{ℕ, ◌≤◌}
use native.Mathlib.Omega.{arith}
use lib.ListN.{length, length-append}
use Rattle.address.specs.Bits.{Bit, bits, number, longest}
use Rattle.address.specs.Steps.{router, host, Step, child, steps, step_bits, spelled, address_of}
use Rattle.address.specs.Address.{bit_length, is_host}
use Rattle.address.specs.Numbers.{IsAddress}
use Rattle.address.specs.Cuts.{AllRouters, AreSteps}
use Rattle.address.specs.Ancestors.{AncestorOrSelf}
use Rattle.address.proofs.Numbers.{bit_length-le}
use Rattle.address.proofs.Steps.{are_steps_routers, are_steps_steps, spelled-steps, address_of-steps, address-address_of, steps-address_of}
use Rattle.address.proofs.Answers.{host_last, host_last-routers, is_host-steps}

-- the bits behind those of the first steps
unfoldable pub behind : List Step → List Bit
behind [] = []
behind (s ∷ more) = behind more ++ step_bits s

spelled-append : (more ss : List Step) → spelled (more ++ ss) ≡ spelled ss ++ behind more
unfolding spelled behind
spelled-append [] ss = sym (append-nil (spelled ss))
spelled-append (s ∷ more) ss = rw (spelled-append more ss, append_assoc)

-- what stands below another step leads to routers

pub routers-tail : (more ss : List Step) → AllRouters (more ++ ss) → AllRouters ss
routers-tail [] ss r = r
routers-tail (child router i ∷ more) ss r = routers-tail more ss r
routers-tail (child host i ∷ more) ss r = absurd r

are_steps_tail : (more ss : List Step) → AreSteps (more ++ ss) → AreSteps ss
are_steps_tail [] ss r = r
are_steps_tail (s ∷ more) ss r = are_steps_routers ss (routers-tail more ss r)

routers_are_steps : (ss : List Step) → AreSteps ss → host_last ss ≡ false → AllRouters ss
routers_are_steps [] r e = tt
routers_are_steps (child router i ∷ up) r e = r
routers_are_steps (child host i ∷ up) r e = let z : ◌≡◌ {A = ℕ} 0 1 = cc in absurd (omega arith)

pub routers-steps : {c : ℕ} → IsAddress c → is_host c ≡ false → AllRouters (steps c)
routers-steps {c} a h = routers_are_steps (steps c) (are_steps_steps c) (sym (is_host-steps a) ∙ h)

-- only the last step leads to a host
pub routers-above : (d : ℕ) (s : Step) (more ss : List Step) → steps d ≡ s ∷ (more ++ ss) → AllRouters ss
routers-above d s more ss e = routers-tail more ss (rw e at (are_steps_steps d))

-- the first steps of an address, as an address

module _ {d : ℕ} (b : IsAddress d) (more ss : List Step) (e : steps d ≡ more ++ ss) where
  pub bits-tail : bits d ≡ spelled ss ++ behind more
  bits-tail = rw (← spelled-steps b, e) (spelled-append more ss)

  pub length-tail : length (spelled ss) ≤ bit_length d
  unfolding bit_length
  length-tail = rw (bits-tail, length-append) (omega arith)

  short-tail : length (spelled ss) ≤ longest
  short-tail = omega (arith, length-tail, bit_length-le b.fits)

  pub address-tail : IsAddress (address_of ss)
  address-tail = address-address_of ss short-tail

  pub steps-tail : steps (address_of ss) ≡ ss
  steps-tail = steps-address_of ss short-tail (are_steps_tail more ss (rw e at (are_steps_steps d)))

pub number-child : {x : ℕ} → IsAddress x → (s : Step) → number (bits x ++ step_bits s) ≡ address_of (s ∷ steps x)
unfolding address_of spelled
number-child a s = rw (spelled-steps a)

-- two addresses

module _ {c d : ℕ} (a : IsAddress c) (b : IsAddress d) where
  pub steps_injective : steps c ≡ steps d → c ≡ d
  steps_injective e = sym (address_of-steps a) ∙ ap address_of e ∙ address_of-steps b

  -- no step follows one that leads to a host
  pub host_ancestor_or_self : is_host c ≡ true → AncestorOrSelf (steps c) (steps d) → c ≡ d
  host_ancestor_or_self h (more, e) = go more e
    where
      go : (more : List Step) → steps d ≡ more ++ steps c → c ≡ d
      go [] e = steps_injective (sym e)
      go (s ∷ more) e =
          let last = host_last-routers (steps c) (routers-tail more (steps c) (rw e at (are_steps_steps d))) in
          let z : ◌≡◌ {A = ℕ} 0 1 = cc (is_host-steps a) in
          absurd (omega arith)
