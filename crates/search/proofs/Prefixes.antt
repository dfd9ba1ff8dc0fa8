-- Prefixes of bits are ancestors by steps. Whatever spells more steps spells the ancestor's bits first, and cutting routers' bits leaves
-- these routers done, so the bits behind only add steps. A host has no step behind it, since only the last step of a reading leads to one.
use mathlib.Core.Path.{◌≡◌, refl, sym, ap, ap₂, ◌∙◌, subst}
use mathlib.Core.Bool.{Bool, true, false, and-eq-true_iff}
use mathlib.Core.List.{List, [], ◌∷◌, ◌++◌, append_assoc, append-nil}
use Prim.Native.Nat.{ℕ, zero, suc, ◌+◌, ◌<◌}
use native.Mathlib.Omega.{arith}
use lib.ListN.{length, take, drop, replicate, length-append, length-take, length-replicate, take-append-drop}
use lib.Seq.{append_snoc, take_at, drop_at}
use Rattle.address.specs.Bits.{Bit, O, I, bits, digit}
use Rattle.address.specs.declared.Kind.{Kind}
use Rattle.address.specs.declared.Kind.TheVariants.{Router as router, Host as host}
use Rattle.address.specs.Steps.{Step, child, last_step, cut, steps_of, steps, last_of, step_bits, spelled, address_of}
use Rattle.address.specs.Address.{bit_length, is_host}
use Rattle.address.specs.Numbers.{IsAddressString, IsAddress}
use Rattle.address.specs.Cuts.{AreSteps}
use Rattle.address.specs.Ancestors.{AncestorOrSelf}
use Rattle.search.specs.Search.{looked_at, child_end, first_bits, same_bit, is_prefix, kind_looked, index_looked}
use Rattle.address.proofs.Numbers.{number-bits, bits-number, bits-string, bit_length-pos}
use Rattle.address.proofs.Steps.{are_steps_steps, spelled-steps, steps_of-routers}
use Rattle.address.proofs.Answers.{ends_in_one-snoc}
use Rattle.address.proofs.Ancestors.{behind, routers-tail, routers-steps, bits-tail}

-- one string begins another where something behind it makes the other

pub is_prefix-append : (cs rest : List Bit) → is_prefix cs (cs ++ rest) ≡ true
unfolding is_prefix same_bit
is_prefix-append [] rest = refl
is_prefix-append (O ∷ cs) rest = is_prefix-append cs rest
is_prefix-append (I ∷ cs) rest = is_prefix-append cs rest

pub same_bit_true : (c d : Bit) → same_bit c d ≡ true → c ≡ d
unfolding same_bit
same_bit_true O O e = refl
same_bit_true O I e = cc
same_bit_true I O e = cc
same_bit_true I I e = refl

pub is_prefix_true : (cs ds : List Bit) → is_prefix cs ds ≡ true → (rest : List Bit) × (ds ≡ cs ++ rest)
unfolding is_prefix
is_prefix_true [] ds e = (ds, refl)
is_prefix_true (c ∷ cs) [] e = absurd cc
is_prefix_true (c ∷ cs) (d ∷ ds) e =
    let both = (and-eq-true_iff (same_bit c d) (is_prefix cs ds)).0 e in
    let more = is_prefix_true cs ds both.1 in
    (more.0, ap₂ (λ (b : Bit) (bs : List Bit). b ∷ bs) (sym (same_bit_true c d both.0)) more.1)

cut_ancestor_or_self : (k : ℕ) (done : List Step) (bs : List Bit) → AncestorOrSelf done (cut k done bs)
unfolding cut last_step
cut_ancestor_or_self zero done [] = ([], refl)
cut_ancestor_or_self (suc k) done [] = (child host k ∷ [], refl)
cut_ancestor_or_self k done (O ∷ bs) =
    let more = cut_ancestor_or_self 0 (child router k ∷ done) bs in
    (more.0 ++ (child router k ∷ []), more.1 ∙ sym (append_snoc more.0 (child router k) done))
cut_ancestor_or_self k done (I ∷ bs) = cut_ancestor_or_self (suc k) done bs

module _ {d : ℕ} (b : IsAddress d) (more ss : List Step) (e : steps d ≡ more ++ ss) where
  pub first_bits-tail : first_bits (length (spelled ss)) d ≡ address_of ss
  unfolding first_bits address_of
  first_bits-tail = rw (bits-tail b more ss e, take_at (spelled ss) (behind more) (length (spelled ss)) refl)

-- the next step on the way to an address

-- what is looked at is a run of ones, and what is looked at behind it
looked_at-ones : (i : ℕ) (bs : List Bit) → looked_at (replicate i I ++ bs) ≡ replicate i I ++ looked_at bs
unfolding looked_at
looked_at-ones zero bs = refl
looked_at-ones (suc i) bs = rw (looked_at-ones i bs)

looked_at-behind : (s : Step) (more up : List Step) → AreSteps (more ++ s ∷ up) → looked_at (step_bits s ++ behind more) ≡ step_bits s
unfolding looked_at step_bits last_of behind
looked_at-behind (child router i) more up r = rw append_assoc (looked_at-ones i (O ∷ behind more))
looked_at-behind (child host i) [] up r = rw append-nil (looked_at-ones i (I ∷ []))
looked_at-behind (child host i) (s ∷ more) up r = absurd (routers-tail more (child host i ∷ up) r)

module _ {x d : ℕ} (a : IsAddress x) (b : IsAddress d) (more : List Step) (s : Step) (e : steps d ≡ more ++ s ∷ steps x) where
  pub looked_at-step : looked_at (drop (bit_length x) (bits d)) ≡ step_bits s
  unfolding bit_length spelled
  looked_at-step =
      let split : bits d ≡ bits x ++ (step_bits s ++ behind more) =
      bits-tail b more (s ∷ steps x) e ∙ rw (spelled-steps a, append_assoc) in
      rw (split, drop_at (bits x) (step_bits s ++ behind more) (length (bits x)) refl)
      (looked_at-behind s more (steps x) (rw e at (are_steps_steps d)))

  pub first_bits-child_end : first_bits (child_end (bit_length x) (bits d)) d ≡ address_of (s ∷ steps x)
  unfolding child_end spelled bit_length
  first_bits-child_end =
      let long : length (spelled (s ∷ steps x)) ≡ bit_length x + length (step_bits s) =
      length-append (spelled (steps x)) (step_bits s) ∙ rw (spelled-steps a) in
      rw (looked_at-step, ← long) (first_bits-tail b more (s ∷ steps x) e)

pub kind_looked-step_bits : (kind : Kind) (i : ℕ) → kind_looked (step_bits (child kind i)) ≡ kind
unfolding kind_looked step_bits last_of digit
kind_looked-step_bits router i = rw (ends_in_one-snoc (replicate i I) O)
kind_looked-step_bits host i = rw (ends_in_one-snoc (replicate i I) I)

pub index_looked-step_bits : (kind : Kind) (i : ℕ) → index_looked (step_bits (child kind i)) ≡ i
unfolding index_looked step_bits
index_looked-step_bits kind i = rw (length-append, length-replicate) (omega arith)

string-take : {bs : List Bit} → IsAddressString bs → (k : ℕ) → 0 < k → IsAddressString (take k bs)
string-take s zero p = absurd (omega arith)
string-take {bs} s (suc k) p = record {
  first = (take k s.first.0, rw s.first.1);
  short = rw length-take (omega (arith, s.short));
}

-- two addresses: the first on the way to the second, or not

module _ {c d : ℕ} (a : IsAddress c) (b : IsAddress d) where
  pub ancestor_or_self_prefix : AncestorOrSelf (steps c) (steps d) → is_prefix (bits c) (bits d) ≡ true
  ancestor_or_self_prefix (more, e) = rw (bits-tail b more (steps c) e, ← spelled-steps a) (is_prefix-append (spelled (steps c)) (behind more))

  pub is_prefix_ancestor_or_self : is_host c ≡ false → is_prefix (bits c) (bits d) ≡ true → AncestorOrSelf (steps c) (steps d)
  unfolding steps
  is_prefix_ancestor_or_self h p =
      let split = is_prefix_true (bits c) (bits d) p in
      let cutting : steps d ≡ cut 0 (steps c) split.0 =
      ap steps_of (split.1 ∙ ap (λ (bs : List Bit). bs ++ split.0) (sym (spelled-steps a))) ∙ steps_of-routers (steps c) split.0 (routers-steps a h) in
      let more = cut_ancestor_or_self 0 (steps c) split.0 in
      (more.0, cutting ∙ more.1)

  -- the prefix as the code compares it

  pub first_bits-eq : is_prefix (bits c) (bits d) ≡ true → first_bits (bit_length c) d ≡ c
  unfolding first_bits bit_length
  first_bits-eq p =
      let split = is_prefix_true (bits c) (bits d) p in
      rw (split.1, take_at (bits c) split.0 (length (bits c)) refl) (number-bits a.fits)

  pub no_prefix : (first_bits (bit_length c) d ≡ c → ⊥) → is_prefix (bits c) (bits d) ≡ false
  no_prefix other = go (is_prefix (bits c) (bits d)) refl
    where
      go : (t : Bool) → is_prefix (bits c) (bits d) ≡ t → t ≡ false
      go true e = absurd (other (first_bits-eq e))
      go false e = refl

  pub first_bits-is_prefix : first_bits (bit_length c) d ≡ c → is_prefix (bits c) (bits d) ≡ true
  unfolding first_bits
  first_bits-is_prefix e =
      let same : bits c ≡ take (bit_length c) (bits d) =
      ap bits (sym e) ∙ bits-number (string-take (bits-string b) (bit_length c) (bit_length-pos a)) in
      rw same
      (subst (λ (ds : List Bit). is_prefix (take (bit_length c) (bits d)) ds ≡ true) (take-append-drop (bit_length c) (bits d))
      (is_prefix-append (take (bit_length c) (bits d)) (drop (bit_length c) (bits d))))
