-- The laws of the path between two addresses: those of the path by steps, since the addresses of an address's ancestors have the steps that
-- are left. Assumes nothing.
use mathlib.Core.Path.{◌≡◌, refl, sym, ap, ◌∙◌}
use mathlib.Core.Logic.{◌⊎◌, inl, inr, ⊎_elim}
use mathlib.Core.Bool.{Bool, true, false}
use mathlib.Core.List.Memᴰ
use mathlib.Core.List.{List, [], ◌∷◌, ◌++◌, map, map-append, Memᴰ}
use Prim.Native.Nat.{ℕ, ◌+◌, ◌*◌, ◌≤◌, ◌<◌}
use native.Mathlib.Omega.{arith}
use lib.ListN.{length, length-append, length-map}
use Rattle.address.specs.Bits.{longest, root}
use Rattle.address.specs.Steps.{Step, steps, spelled, address_of}
use Rattle.address.specs.Address.{depth, parent}
use Rattle.address.specs.Numbers.{IsAddress}
use Rattle.address.specs.Ancestors.{AncestorOrSelf}
use Rattle.address.proofs.Numbers.{bit_length-le}
use Rattle.address.proofs.Steps.{address_of-steps, address_of-root, parent-address_of, depth_range}
use Rattle.address.proofs.Ancestors.{routers-above, length-tail, address-tail, steps-tail, steps_injective}
use Rattle.route.specs.Path.{is_ancestor_or_self, turn, path_of, path, hops}
use Rattle.route.proofs.Turning.{ancestor_or_self_root, ancestor_or_self_next, is_ancestor_or_self_true, is_ancestor_or_self_false, path_of_self, path_of_up, path_of-down, path_of-first, path_of-last, length-path_of, length-path_of-cons, mem_path_of}

-- an ancestor-or-self, as an address

module _ {d : ℕ} (b : IsAddress d) (x : List Step) (w : AncestorOrSelf x (steps d)) where
  pub address_ancestor_or_self : IsAddress (address_of x)
  address_ancestor_or_self = address-tail b w.0 x w.1

  pub steps_ancestor_or_self : steps (address_of x) ≡ x
  steps_ancestor_or_self = steps-tail b w.0 x w.1

-- the parent of what is not the root

pub depth-steps : (a : ℕ) → depth a ≡ length (steps a)
unfolding depth
depth-steps a = refl

-- the root is on every way
pub off_root : (a d : ℕ) → (AncestorOrSelf (steps a) (steps d) → ⊥) → a ≡ root → ⊥
off_root a d off e = off (ancestor_or_self_none (steps a) (omega (arith, ap depth e, depth_range.least, depth-steps a)))
  where
    ancestor_or_self_none : (ss : List Step) → length ss ≡ 0 → AncestorOrSelf ss (steps d)
    ancestor_or_self_none [] z = ancestor_or_self_root (steps d)
    ancestor_or_self_none (s ∷ ss) z = absurd (omega arith)

module _ {a : ℕ} (h : IsAddress a) (deeper : a ≡ root → ⊥) where
  has-parent : (s : Step) × (up : List Step) × (steps a ≡ s ∷ up) × (parent a ≡ address_of up)
  has-parent = go (steps a) refl
    where
      go : (ss : List Step) → steps a ≡ ss → (s : Step) × (up : List Step) × (steps a ≡ s ∷ up) × (parent a ≡ address_of up)
      go [] e = absurd (deeper (sym (address_of-steps h) ∙ ap address_of e ∙ address_of-root))
      go (s ∷ up) e =
          let short : length (spelled (s ∷ up)) ≤ longest = omega (arith, length-tail h [] (s ∷ up) e, bit_length-le h.fits) in
          (s, up, e, ap parent (sym (address_of-steps h) ∙ ap address_of e) ∙ parent-address_of s up short (routers-above a s [] up e))

  pub address-parent : IsAddress (parent a)
  address-parent = let (s, up, e, p) = has-parent in rw p (address-tail h (s ∷ []) up e)

  pub steps-parent : (s : Step) × (steps a ≡ s ∷ steps (parent a))
  steps-parent = let (s, up, e, p) = has-parent in (s, rw (p, steps-tail h (s ∷ []) up e) e)

  pub depth-parent : depth a ≡ depth (parent a) + 1
  depth-parent = omega (arith, depth-steps a, depth-steps (parent a), ap length steps-parent.1)

  -- a link makes the path longer or shorter by one
  pub length-path-parent : (d : ℕ)
      → (length (path a d) ≡ length (path (parent a) d) + 1) ⊎ (length (path (parent a) d) ≡ length (path a d) + 1)
  unfolding path
  length-path-parent d =
      let (s, e) = steps-parent in rw (length-map, length-map, e) (length-path_of-cons s (steps (parent a)) (steps d))

-- the path

pub path_self : {a : ℕ} → IsAddress a → path a a ≡ a ∷ []
unfolding path
path_self {a} h = rw (path_of_self (steps a), address_of-steps h)

-- up from what is no ancestor-or-self of the other, and so not the root
pub path_up : {a : ℕ} → IsAddress a → (d : ℕ) → (AncestorOrSelf (steps a) (steps d) → ⊥) → path a d ≡ a ∷ path (parent a) d
unfolding path
path_up {a} h d off =
    let (s, e) = steps-parent h (off_root a d off) in
    rw (e, path_of_up s (steps (parent a)) (steps d) (rw e at off), ← e, address_of-steps h)

pub path-down : {x d : ℕ} → IsAddress x → IsAddress d → (more : List Step) (s : Step) → steps d ≡ more ++ (s ∷ steps x)
    → path x d ≡ x ∷ path (address_of (s ∷ steps x)) d
unfolding path
path-down {x} {d} h b more s e =
    rw (steps_ancestor_or_self b (s ∷ steps x) (more, e), e, path_of-down more s (steps x), address_of-steps h)

pub path-first : {a : ℕ} → IsAddress a → (d : ℕ) → (rest : List ℕ) × (path a d ≡ a ∷ rest)
unfolding path
path-first {a} h d =
    let first = path_of-first (steps a) (steps d) in
    (map address_of first.0, ap (map address_of) first.1 ∙ rw (address_of-steps h))

pub path-last : {d : ℕ} → IsAddress d → (a : ℕ) → (front : List ℕ) × (path a d ≡ front ++ (d ∷ []))
unfolding path
path-last {d} b a =
    let last = path_of-last (steps a) (steps d) in
    (map address_of last.0, ap (map address_of) last.1 ∙ rw (map-append, address_of-steps b))

-- lengths and hops

pub length-path : (a d : ℕ) → length (path a d) + 2 * length (turn (steps a) (steps d)) ≡ depth a + depth d + 1
unfolding path
length-path a d = rw (length-map, depth-steps, depth-steps) (length-path_of (steps a) (steps d))

pub length-path-pos : (a d : ℕ) → 0 < length (path a d)
unfolding path
length-path-pos a d = rw length-map (omega (arith, ap length (path_of-first (steps a) (steps d)).1))

-- "the count is the listed path's length less one"
pub hops-path : (a d : ℕ) → hops (path a d) + 1 ≡ length (path a d)
unfolding hops
hops-path a d = omega (arith, length-path-pos a d)

pub hops-depth : (a d : ℕ) → hops (path a d) + 2 * length (turn (steps a) (steps d)) ≡ depth a + depth d
hops-depth a d = omega (arith, hops-path a d, length-path a d)

pub hops_self : {a : ℕ} → IsAddress a → hops (path a a) ≡ 0
unfolding hops
hops_self h = rw (path_self h)

-- on from an address to the next one on the path
pub record Next (a b d : ℕ) : Type 0 where
  pub address : IsAddress b
  pub rest : path a d ≡ a ∷ path b d

module _ {a d : ℕ} (h : IsAddress a) (b : IsAddress d) where
  pub next_up : (AncestorOrSelf (steps a) (steps d) → ⊥) → Next a (parent a) d
  next_up off = record { address = address-parent h (off_root a d off); rest = path_up h d off }

  pub next_down : (more : List Step) (s : Step) → steps d ≡ more ++ (s ∷ steps a) → Next a (address_of (s ∷ steps a)) d
  next_down more s e = record { address = address_ancestor_or_self b (s ∷ steps a) (more, e); rest = path-down h b more s e }

  pub path-cases : (a ≡ d) ⊎ ((n : ℕ) × Next a n d)
  path-cases = go (is_ancestor_or_self (steps a) (steps d)) refl
    where
      down : (steps a ≡ steps d) ⊎ ((s : Step) × AncestorOrSelf (s ∷ steps a) (steps d)) → (a ≡ d) ⊎ ((n : ℕ) × Next a n d)
      down (inl e) = inl (steps_injective h b e)
      down (inr (s, (more, e))) = inr (address_of (s ∷ steps a), next_down more s e)

      go : (on : Bool) → is_ancestor_or_self (steps a) (steps d) ≡ on → (a ≡ d) ⊎ ((n : ℕ) × Next a n d)
      go true e = down (ancestor_or_self_next (steps a) (steps d) (is_ancestor_or_self_true (steps a) (steps d) e))
      go false e = inr (parent a, next_up (is_ancestor_or_self_false (steps a) (steps d) e))

-- from any address that it lists the path goes on as the path from there, so it lists none twice

pub path_suffix : {a d : ℕ} → IsAddress a → IsAddress d → (us : List ℕ) (x : ℕ) (vs : List ℕ) → path a d ≡ us ++ (x ∷ vs)
    → IsAddress x × (path x d ≡ x ∷ vs)
path_suffix {a} {d} h b [] x vs e =
    let same : a ≡ x = cc (path-first h d).1 in (rw (← same) h, ap (λ (n : ℕ). path n d) (sym same) ∙ e)
path_suffix {a} {d} h b (u ∷ us) x vs e = go (path-cases h b) (λ n k. path_suffix k b us x vs)
  where
    go : (a ≡ d) ⊎ ((n : ℕ) × Next a n d) → ((n : ℕ) → IsAddress n → path n d ≡ us ++ (x ∷ vs) → IsAddress x × (path x d ≡ x ∷ vs)) → IsAddress x × (path x d ≡ x ∷ vs)
    go (inl f) rest =
        let one : path a d ≡ a ∷ [] = rw (← f) (path_self h) in
        absurd (omega (arith, ap length e, ap length one, length-append us (x ∷ vs)))
    go (inr (n, next)) rest = rest n next.address (cc next.rest)

mem_split : {x : ℕ} (l : List ℕ) → Memᴰ x l → (ps : List ℕ) × (qs : List ℕ) × (l ≡ ps ++ (x ∷ qs))
mem_split [] m = absurd (Memᴰ.not-nil m)
mem_split {x} (y ∷ l) m = go (Memᴰ.cases_cons m) (mem_split l)
  where
    go : (x ≡ y) ⊎ Memᴰ x l → (Memᴰ x l → (ps : List ℕ) × (qs : List ℕ) × (l ≡ ps ++ (x ∷ qs))) → (ps : List ℕ) × (qs : List ℕ) × (y ∷ l ≡ ps ++ (x ∷ qs))
    go (inl e) rest = ([], l, rw e)
    go (inr n) rest = let (ps, qs, e) = rest n in (y ∷ ps, qs, ap (λ (r : List ℕ). y ∷ r) e)

pub path-once : {a d : ℕ} → IsAddress a → IsAddress d → (us : List ℕ) (x : ℕ) (vs : List ℕ) → path a d ≡ us ++ (x ∷ vs) → Memᴰ x vs → ⊥
path-once {a} {d} h b us x vs e m = go (mem_split vs m) (path_suffix h b us x vs e)
  where
    go : (ps : List ℕ) × (qs : List ℕ) × (vs ≡ ps ++ (x ∷ qs)) → IsAddress x × (path x d ≡ x ∷ vs) → ⊥
    go (ps, qs, f) (k, p) =
        let (l, q) = path_suffix k b (x ∷ ps) x qs (p ∙ ap (λ (r : List ℕ). x ∷ r) f) in
        omega (arith, ap length f, ap length p, ap length q, length-append ps (x ∷ qs))

-- every number listed is the address of an ancestor-or-self of one of the ends
pub mem_path : {a d n : ℕ} → IsAddress a → IsAddress d → Memᴰ n (path a d)
    → IsAddress n × (AncestorOrSelf (steps n) (steps a) ⊎ AncestorOrSelf (steps n) (steps d))
unfolding path
mem_path {a} {d} {n} h b m = go (Memᴰ.of_map address_of (path_of (steps a) (steps d)) m)
  where
    one : {c : ℕ} (x : List Step) → IsAddress c → address_of x ≡ n → AncestorOrSelf x (steps c) → IsAddress n × AncestorOrSelf (steps n) (steps c)
    one x k e w = (rw (← e) (address_ancestor_or_self k x w), rw (← e, steps_ancestor_or_self k x w) w)

    go : (x : List Step) × Memᴰ x (path_of (steps a) (steps d)) × (address_of x ≡ n) → IsAddress n × (AncestorOrSelf (steps n) (steps a) ⊎ AncestorOrSelf (steps n) (steps d))
    go (x, m, e) = ⊎_elim (λ w. let r = one x h e w in (r.0, inl r.1)) (λ w. let r = one x b e w in (r.0, inr r.1)) (mem_path_of (steps a) (steps d) x m)
