-- What listing comes to, case by case, and the path by parents: an address's ancestors above the turning point are its parents, one after the
-- other, and so are those down to the second address, from its end. Assumes nothing.
use mathlib.Core.Path.{◌≡◌, refl, sym, ap, ◌∙◌}
use mathlib.Core.Logic.{◌⊎◌, inl, inr}
use mathlib.Core.List.{List, [], ◌∷◌, ◌++◌, map, map-append, reverse, reverse-cons, reverse-append, append_assoc}
use Prim.Native.Nat.{ℕ, zero, suc, ◌+◌, ◌-◌, ◌≤◌, ◌<◌}
use native.Mathlib.Numerals.{add-one}
use native.Mathlib.Omega.{arith}
use borrow.Author.Tests.{eq-eqb, ne_eqb, lt-ltb, le-ltb}
use borrow.Rule.Slice.PartMut.{put_mid}
use lib.ListN.{length, drop}
use lib.Seq.{take_at, drop_at, drop-drop}
use Rattle.address.specs.Bits.{root}
use Rattle.address.specs.Steps.{Step, steps, address_of}
use Rattle.address.specs.Address.{depth, parent}
use Rattle.address.specs.Numbers.{IsAddress}
use Rattle.address.specs.Ancestors.{AncestorOrSelf}
use Rattle.address.proofs.Steps.{address_of-steps, depth_range}
use Rattle.route.specs.Path.{turn, deeper, path_of, path, hops, refuse_path, listing}
use Rattle.route.specs.Counting.{upwards}
use Rattle.route.specs.TurningPoint.{UpAndDown}
use Rattle.route.proofs.Turning.{ancestor_or_self_cases, ancestor_or_self_length, ancestor_or_self_same, turning_points, deeper-short, deeper-cons}
use Rattle.route.proofs.PathLaws.{depth-steps, address-parent, steps-parent, depth-parent, length-path}

module _ (a d : ℕ) (words : List ℕ) where
  pub listing-zero-first : a ≡ 0 → listing a d words ≡ refuse_path 9 words
  unfolding listing
  listing-zero-first e = rw (eq-eqb a 0 e)

  pub listing-zero-second : (a ≡ 0 → ⊥) → d ≡ 0 → listing a d words ≡ refuse_path 9 words
  unfolding listing
  listing-zero-second h e = rw (ne_eqb a 0 h, eq-eqb d 0 e)

  module _ (h : a ≡ 0 → ⊥) (l : d ≡ 0 → ⊥) where
    pub listing-short : length words < length (path a d) → listing a d words ≡ refuse_path 10 words
    unfolding listing
    listing-short s = rw (ne_eqb a 0 h, ne_eqb d 0 l, lt-ltb (length words) (length (path a d)) s)

    pub listing-done : length (path a d) ≤ length words
        → listing a d words ≡ record { answer = record { refusal = 0; hops = hops (path a d) }; words = path a d ++ drop (length (path a d)) words }
    unfolding listing
    listing-done r = rw (ne_eqb a 0 h, ne_eqb d 0 l, le-ltb (length words) (length (path a d)) r)

-- the parents of an address

module _ {a : ℕ} (h : IsAddress a) (p : 0 < depth a) where
  low : a ≡ root → ⊥
  low e = omega (arith, ap depth e, depth_range.least)

  address_above : IsAddress (parent a)
  address_above = address-parent h low

  depth-above : depth a ≡ depth (parent a) + 1
  depth-above = depth-parent h low

  deeper-above : (k : ℕ) → k < depth a → deeper k (steps a) ≡ steps a ∷ deeper k (steps (parent a))
  deeper-above k l =
      let (s, e) = steps-parent h low in
      ap (deeper k) e
      ∙ deeper-cons k s (steps (parent a)) (omega (arith, depth-above, depth-steps (parent a)))
      ∙ ap (λ (ss : List Step). ss ∷ deeper k (steps (parent a))) (sym e)

  ancestor_or_self_above : (x : List Step) → AncestorOrSelf x (steps a) → length x < depth a → AncestorOrSelf x (steps (parent a))
  ancestor_or_self_above x w l = let (s, e) = steps-parent h low in go s e (ancestor_or_self_cases x s (steps (parent a)) (rw e at w))
    where
      go : (s : Step) → steps a ≡ s ∷ steps (parent a) → (x ≡ s ∷ steps (parent a)) ⊎ AncestorOrSelf x (steps (parent a)) → AncestorOrSelf x (steps (parent a))
      go s e (inl f) = absurd (omega (arith, ap length (f ∙ sym e), depth-steps a))
      go s e (inr v) = v

upwards-deeper : (n k : ℕ) {a : ℕ} → IsAddress a → k + n ≡ depth a → upwards n a ≡ map address_of (deeper k (steps a))
unfolding upwards
upwards-deeper zero k {a} h e = rw (deeper-short k (steps a) (omega (arith, depth-steps a)))
upwards-deeper (suc n) k {a} h e =
    let p : 0 < depth a = omega arith in
    rw (deeper-above h p k (omega arith), address_of-steps h, upwards-deeper n k (address_above h p) (omega (arith, depth-above h p)))

upwards_snoc : (n : ℕ) {a : ℕ} (x : List Step) → IsAddress a → AncestorOrSelf x (steps a) → length x + n ≡ depth a
    → upwards (suc n) a ≡ upwards n a ++ (address_of x ∷ [])
unfolding upwards
upwards_snoc zero {a} x h w e = rw (ancestor_or_self_same x (steps a) w (omega (arith, depth-steps a)), address_of-steps h)
upwards_snoc (suc n) {a} x h w e =
    let p : 0 < depth a = omega arith in
    ap (λ (l : List ℕ). a ∷ l) (upwards_snoc n x (address_above h p) (ancestor_or_self_above h p x w (omega arith)) (omega (arith, depth-above h p)))

map-reverse : {A B : Type 0} (f : A → B) (l : List A) → map f (reverse l) ≡ reverse (map f l)
map-reverse f [] = refl
map-reverse f (x ∷ l) = ap (map f) (reverse-cons x l) ∙ rw (map-append, map-reverse f l, reverse-cons)

-- the path, by the hops up to its turning point and down from it
module _ {a d : ℕ} (up down : ℕ) (h : IsAddress a) (l : IsAddress d) (e : length (turn (steps a) (steps d)) + up ≡ depth a)
    (f : length (turn (steps a) (steps d)) + down ≡ depth d) where
  pub length-path-ways : length (path a d) ≡ up + down + 1
  length-path-ways = omega (arith, length-path a d)

  pub path-upwards : path a d ≡ upwards up a ++ reverse (upwards (down + 1) d)
  unfolding path path_of
  path-upwards =
      let x = turn (steps a) (steps d) in
      rw (add-one down, upwards_snoc down x l (turning_points (steps a) (steps d)).of_second f, reverse-append, map-append, map-reverse address_of, upwards-deeper up (length x) h e, upwards-deeper down (length x) l f)

pub up_and_down_lem : UpAndDown
up_and_down_lem a d h l =
    let x = turn (steps a) (steps d) in
    let top : length x ≤ depth a = omega (arith, ancestor_or_self_length x (steps a) (turning_points (steps a) (steps d)).of_first, depth-steps a) in
    let end : length x ≤ depth d = omega (arith, ancestor_or_self_length x (steps d) (turning_points (steps a) (steps d)).of_second, depth-steps d) in
    let e : length x + (depth a - length x) ≡ depth a = omega arith in
    let f : length x + (depth d - length x) ≡ depth d = omega arith in
    record {
      up = depth a - length x;
      down = depth d - length x;
      up_to = e;
      down_from = f;
      listed = path-upwards (depth a - length x) (depth d - length x) h l e f;
    }

-- the words with the way up put in front, and the way down behind it
pub framed : (words us vs : List ℕ) (up end : ℕ) → length us ≡ up → up ≤ end
    → put_mid up (end - up) (us ++ drop up words) vs ≡ (us ++ vs) ++ drop end words
framed words us vs up end e h =
    let k : up + (end - up) ≡ end = omega arith in
    rw (take_at us (drop up words) up e, drop_at us (drop up words) up e, drop-drop (end - up) up words, k, append_assoc)
