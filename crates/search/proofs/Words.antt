-- The words of the search mean what the statements say, by the laws of each. Assumes nothing.
use mathlib.Core.Path.{◌≡◌, refl, sym, ap, subst}
use mathlib.Core.Bool.{Bool, true, false}
use mathlib.Core.Logic.{◌⊎◌, inl, inr}
use mathlib.Core.List.{List, [], ◌∷◌, ◌++◌}
use Prim.Native.Nat.{ℕ, suc}
use lib.ListN.{replicate}
use Rattle.address.specs.Bits.{Bit, O, I}
use Rattle.address.specs.Address.{is_host}
use Rattle.address.specs.Kinds.{IsRoot, IsRouter}
use Rattle.address.proofs.KindLaws.{kinds, is_host_true}
use Rattle.search.specs.Search.{looked_at, same_bit, is_prefix}
use Rattle.search.specs.Exactly.{Stops, SearchWords}
use Rattle.search.proofs.Prefixes.{same_bit_true, is_prefix-append, is_prefix_true, ancestor_or_self_prefix, is_prefix_ancestor_or_self}

same_bit_refl : (b : Bit) → same_bit b b ≡ true
unfolding same_bit
same_bit_refl O = refl
same_bit_refl I = refl

stops : (bs : List Bit) → Stops bs
unfolding looked_at
stops [] = record { ones = 0; rest = []; beginning = refl; stop = inr (refl, refl) }
stops (O ∷ bs) = record { ones = 0; rest = bs; beginning = refl; stop = inl refl }
stops (I ∷ bs) =
    let more = stops bs in
    record { ones = suc more.ones; rest = more.rest; beginning = ap (λ (l : List Bit). I ∷ l) more.beginning; stop = go more.ones more.stop }
  where
    go : (k : ℕ) {looked rest : List Bit} → (looked ≡ replicate k I ++ (O ∷ [])) ⊎ ((looked ≡ replicate k I) × (rest ≡ []))
        → (I ∷ looked ≡ replicate (suc k) I ++ (O ∷ [])) ⊎ ((I ∷ looked ≡ replicate (suc k) I) × (rest ≡ []))
    go k (inl e) = inl (ap (λ (l : List Bit). I ∷ l) e)
    go k (inr e) = inr (ap (λ (l : List Bit). I ∷ l) e.0, e.1)

no_host_lem : (c : ℕ) → IsRoot c ⊎ IsRouter c → is_host c ≡ false
no_host_lem c k = go (is_host c) refl k
  where
    go : (t : Bool) → is_host c ≡ t → IsRoot c ⊎ IsRouter c → t ≡ false
    go false h k = refl
    go true h (inl r) = absurd (kinds.root_no_host (rw r at (is_host_true c h)))
    go true h (inr r) = absurd (kinds.router_no_host c r (is_host_true c h))

pub search_words : SearchWords
search_words = record {
  same = λ b c. (same_bit_true b c, λ e. subst (λ (x : Bit). same_bit b x ≡ true) e (same_bit_refl b));
  begins = λ cs ds. (is_prefix_true cs ds, λ split. subst (λ (l : List Bit). is_prefix cs l ≡ true) (sym split.1) (is_prefix-append cs split.0));
  looked = stops;
  by_steps = λ c d a b k. (is_prefix_ancestor_or_self a b (no_host_lem c k), ancestor_or_self_prefix a b);
}
