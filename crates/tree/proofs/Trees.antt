-- Looking up, replacing and appending records. A tree is searched from its first record on, so each law is an induction on the tree, with the
-- address of the first record the one sought or another.
use Prim.Native.Nat.{ℕ}
use mathlib.Core.Path.{◌≡◌, refl, sym, ap, ◌∙◌}
use mathlib.Core.Logic.{◌⊎◌, inl, inr, ⊎_elim}
use mathlib.Core.List.Memᴰ
use mathlib.Core.List.{List, [], ◌∷◌, ◌++◌, map-append, Memᴰ}
use native.Mathlib.Decide.{ℕ_discrete}
use native.Mathlib.Omega.{arith}
use borrow.Author.Tests.{eq-eqb, ne_eqb}
use Rattle.node.specs.Node.{address_in}
use Rattle.node.specs.declared.Node.{Node}
use Rattle.tree.specs.Tree.{Tree, Record, standing, absent, record_of, replaced, addresses, InTree, AllDiffer}

-- ---- one record more in front

module _ {a : ℕ} (n : Node) (t : Tree) where
  record_of_here : address_in n ≡ a → record_of a (n ∷ t) ≡ standing n
  unfolding record_of
  record_of_here e = rw (eq-eqb (address_in n) a e)

  record_of-further : (address_in n ≡ a → ⊥) → record_of a (n ∷ t) ≡ record_of a t
  unfolding record_of
  record_of-further ne = rw (ne_eqb (address_in n) a ne)

  replaced_here : (m : Node) → address_in n ≡ a → replaced a m (n ∷ t) ≡ m ∷ t
  unfolding replaced
  replaced_here m e = rw (eq-eqb (address_in n) a e)

  replaced-further : (m : Node) → (address_in n ≡ a → ⊥) → replaced a m (n ∷ t) ≡ n ∷ replaced a m t
  unfolding replaced
  replaced-further m ne = rw (ne_eqb (address_in n) a ne)

  in_tree_here : address_in n ≡ a → InTree a (n ∷ t)
  unfolding addresses
  in_tree_here e = Memᴰ.head (sym e)

  in_tree-further : InTree a t → InTree a (n ∷ t)
  unfolding addresses
  in_tree-further i = Memᴰ.tail i

  in_tree-cases : InTree a (n ∷ t) → (address_in n ≡ a) ⊎ InTree a t
  unfolding addresses
  in_tree-cases i = ⊎_elim (λ e. inl (sym e)) (λ i. inr i) (Memᴰ.cases_cons i)

in_tree-empty : {a : ℕ} → InTree a [] → ⊥
unfolding addresses
in_tree-empty i = Memᴰ.not-nil i

-- ---- the record of an address

pub in_tree-record_of : (a : ℕ) (n : Node) (t : Tree) → record_of a t ≡ standing n → InTree a t
in_tree-record_of a n [] e = unfold record_of in let z : ◌≡◌ {A = ℕ} 0 1 = cc in absurd (omega arith)
in_tree-record_of a n (m ∷ t) e = go (ℕ_discrete (address_in m) a) (in_tree-record_of a n t)
  where
    go : Dec (address_in m ≡ a) → (record_of a t ≡ standing n → InTree a t) → InTree a (m ∷ t)
    go (yes here) rest = in_tree_here m t here
    go (no further) rest = in_tree-further m t (rest (sym (record_of-further m t further) ∙ e))

pub address_in-record_of : (a : ℕ) (n : Node) (t : Tree) → record_of a t ≡ standing n → address_in n ≡ a
address_in-record_of a n [] e = unfold record_of in let z : ◌≡◌ {A = ℕ} 0 1 = cc in absurd (omega arith)
address_in-record_of a n (m ∷ t) e = go (ℕ_discrete (address_in m) a) (address_in-record_of a n t)
  where
    go : Dec (address_in m ≡ a) → (record_of a t ≡ standing n → address_in n ≡ a) → address_in n ≡ a
    go (yes here) rest = let same : n ≡ m = cc (record_of_here m t here) in ap (λ (k : Node). address_in k) same ∙ here
    go (no further) rest = rest (sym (record_of-further m t further) ∙ e)

pub record_of-in_tree : {a : ℕ} (t : Tree) → InTree a t → (n : Node) × (record_of a t ≡ standing n) × (address_in n ≡ a)
record_of-in_tree [] i = absurd (in_tree-empty i)
record_of-in_tree {a} (m ∷ t) i = go (ℕ_discrete (address_in m) a) (record_of-in_tree t)
  where
    go : Dec (address_in m ≡ a) → (InTree a t → (n : Node) × (record_of a t ≡ standing n) × (address_in n ≡ a))
        → (n : Node) × (record_of a (m ∷ t) ≡ standing n) × (address_in n ≡ a)
    go (yes here) rest = (m, record_of_here m t here, here)
    go (no further) rest =
        let found = rest (⊎_elim (λ e. absurd (further e)) (λ i. i) (in_tree-cases m t i)) in
        (found.0, record_of-further m t further ∙ found.1, found.2)

pub dec_in_tree : (a : ℕ) (t : Tree) → Dec (InTree a t)
dec_in_tree a [] = no in_tree-empty
dec_in_tree a (m ∷ t) = go (ℕ_discrete (address_in m) a) (dec_in_tree a t)
  where
    go : Dec (address_in m ≡ a) → Dec (InTree a t) → Dec (InTree a (m ∷ t))
    go (yes here) rest = yes (in_tree_here m t here)
    go (no further) (yes i) = yes (in_tree-further m t i)
    go (no further) (no out) = no (λ i. ⊎_elim further out (in_tree-cases m t i))

pub record_of-absent : (a : ℕ) (t : Tree) → (InTree a t → ⊥) → record_of a t ≡ absent
record_of-absent a t out = go (record_of a t) refl
  where
    go : (r : Record) → record_of a t ≡ r → r ≡ absent
    go (standing n) e = absurd (out (in_tree-record_of a n t e))
    go absent e = refl

-- ---- another record in the place of one

-- the record that stands there already changes nothing
pub replaced-record_of : (a : ℕ) (n : Node) (t : Tree) → record_of a t ≡ standing n → replaced a n t ≡ t
replaced-record_of a n [] e = unfold replaced in refl
replaced-record_of a n (m ∷ t) e = go (ℕ_discrete (address_in m) a) (replaced-record_of a n t)
  where
    go : Dec (address_in m ≡ a) → (record_of a t ≡ standing n → replaced a n t ≡ t) → replaced a n (m ∷ t) ≡ m ∷ t
    go (yes here) rest = replaced_here m t n here ∙ (let same : n ≡ m = cc (record_of_here m t here) in ap (λ (k : Node). k ∷ t) same)
    go (no further) rest = rw (replaced-further m t n further) (ap (λ (l : Tree). m ∷ l) (rest (sym (record_of-further m t further) ∙ e)))

module _ {a : ℕ} (m : Node) (same : address_in m ≡ a) where
  pub addresses-replaced : (t : Tree) → addresses (replaced a m t) ≡ addresses t
  addresses-replaced [] = unfold replaced in refl
  addresses-replaced (n ∷ t) = go (ℕ_discrete (address_in n) a) (addresses-replaced t)
    where
      go : Dec (address_in n ≡ a) → addresses (replaced a m t) ≡ addresses t → addresses (replaced a m (n ∷ t)) ≡ addresses (n ∷ t)
      go (yes here) rest = rw (replaced_here n t m here) (unfold addresses in ap (λ (k : ℕ). k ∷ addresses t) (same ∙ sym here))
      go (no further) rest = rw (replaced-further n t m further) (unfold addresses in ap (λ (l : List ℕ). address_in n ∷ l) rest)

  pub record_of-replaced : (t : Tree) → InTree a t → record_of a (replaced a m t) ≡ standing m
  record_of-replaced [] i = absurd (in_tree-empty i)
  record_of-replaced (n ∷ t) i = go (ℕ_discrete (address_in n) a) (record_of-replaced t)
    where
      go : Dec (address_in n ≡ a) → (InTree a t → record_of a (replaced a m t) ≡ standing m) → record_of a (replaced a m (n ∷ t)) ≡ standing m
      go (yes here) rest = rw (replaced_here n t m here) (record_of_here m t same)
      go (no further) rest =
          rw (replaced-further n t m further, record_of-further n (replaced a m t) further)
          (rest (⊎_elim (λ e. absurd (further e)) (λ i. i) (in_tree-cases n t i)))

  pub record_of-replaced_other : {b : ℕ} → (a ≡ b → ⊥) → (t : Tree) → record_of b (replaced a m t) ≡ record_of b t
  record_of-replaced_other other [] = unfold replaced in refl
  record_of-replaced_other {b} other (n ∷ t) = go (ℕ_discrete (address_in n) a) (ℕ_discrete (address_in n) b) (record_of-replaced_other other t)
    where
      go : Dec (address_in n ≡ a) → Dec (address_in n ≡ b) → record_of b (replaced a m t) ≡ record_of b t
          → record_of b (replaced a m (n ∷ t)) ≡ record_of b (n ∷ t)
      go (yes here) at rest =
          rw (replaced_here n t m here)
          (record_of-further m t (λ e. other (sym same ∙ e)) ∙ sym (record_of-further n t (λ e. other (sym here ∙ e))))
      go (no further) (yes here) rest =
          rw (replaced-further n t m further) (record_of_here n (replaced a m t) here ∙ sym (record_of_here n t here))
      go (no further) (no out) rest =
          rw (replaced-further n t m further) (record_of-further n (replaced a m t) out ∙ rest ∙ sym (record_of-further n t out))

-- the second of two records in one place
pub replaced-twice : {a : ℕ} (m o : Node) → address_in m ≡ a → (t : Tree) → replaced a o (replaced a m t) ≡ replaced a o t
replaced-twice m o same [] = unfold replaced in refl
replaced-twice {a} m o same (n ∷ t) = go (ℕ_discrete (address_in n) a) (replaced-twice m o same t)
  where
    go : Dec (address_in n ≡ a) → replaced a o (replaced a m t) ≡ replaced a o t → replaced a o (replaced a m (n ∷ t)) ≡ replaced a o (n ∷ t)
    go (yes here) rest = rw (replaced_here n t m here) (replaced_here m t o same ∙ sym (replaced_here n t o here))
    go (no further) rest =
        rw (replaced-further n t m further)
        (replaced-further n (replaced a m t) o further ∙ ap (λ (l : Tree). n ∷ l) rest ∙ sym (replaced-further n t o further))

-- ---- one record more at the end

pub addresses-append : (t s : Tree) → addresses (t ++ s) ≡ addresses t ++ addresses s
unfolding addresses
addresses-append t s = map-append address_in t s

module _ {a : ℕ} (t s : Tree) where
  pub in_tree-left : InTree a t → InTree a (t ++ s)
  in_tree-left i = rw addresses-append (Memᴰ.append_left (addresses s) i)

  pub in_tree-right : InTree a s → InTree a (t ++ s)
  in_tree-right i = rw addresses-append (Memᴰ.append_right (addresses t) i)

  pub in_tree-append : InTree a (t ++ s) → InTree a t ⊎ InTree a s
  in_tree-append i = Memᴰ.append_cases (addresses t) (rw addresses-append at i)

pub in_tree-single : {a : ℕ} (n : Node) → address_in n ≡ a → InTree a (n ∷ [])
in_tree-single n e = in_tree_here n [] e

pub in_tree-only : {a : ℕ} (n : Node) → InTree a (n ∷ []) → address_in n ≡ a
unfolding addresses
in_tree-only n i = sym (Memᴰ.eq_of_singleton i)

pub record_of-left : {a : ℕ} (t s : Tree) → InTree a t → record_of a (t ++ s) ≡ record_of a t
record_of-left [] s i = absurd (in_tree-empty i)
record_of-left {a} (n ∷ t) s i = go (ℕ_discrete (address_in n) a) (record_of-left t s)
  where
    go : Dec (address_in n ≡ a) → (InTree a t → record_of a (t ++ s) ≡ record_of a t) → record_of a ((n ∷ t) ++ s) ≡ record_of a (n ∷ t)
    go (yes here) rest = record_of_here n (t ++ s) here ∙ sym (record_of_here n t here)
    go (no further) rest =
        record_of-further n (t ++ s) further ∙ rest (⊎_elim (λ e. absurd (further e)) (λ i. i) (in_tree-cases n t i)) ∙ sym (record_of-further n t further)

pub record_of-right : {a : ℕ} (t s : Tree) → (InTree a t → ⊥) → record_of a (t ++ s) ≡ record_of a s
record_of-right [] s out = refl
record_of-right (n ∷ t) s out =
    record_of-further n (t ++ s) (λ e. out (in_tree_here n t e)) ∙ record_of-right t s (λ i. out (in_tree-further n t i))

pub record_of-single : {a : ℕ} (n : Node) → address_in n ≡ a → record_of a (n ∷ []) ≡ standing n
record_of-single n e = record_of_here n [] e

-- ---- all different

all_differ_snoc : (xs : List ℕ) (x : ℕ) → AllDiffer xs → (Memᴰ x xs → ⊥) → AllDiffer (xs ++ (x ∷ []))
all_differ_snoc [] x d new = (Memᴰ.not-nil, tt)
all_differ_snoc (y ∷ xs) x d new = (
  λ i. ⊎_elim d.0 (λ i. new (Memᴰ.head (sym (Memᴰ.eq_of_singleton i)))) (Memᴰ.append_cases xs i),
  all_differ_snoc xs x d.1 (λ i. new (Memᴰ.tail i)),
)

pub all_differ-append : (t : Tree) (n : Node) → AllDiffer (addresses t) → (InTree (address_in n) t → ⊥) → AllDiffer (addresses (t ++ (n ∷ [])))
all_differ-append t n d new = rw (addresses-append t (n ∷ [])) (unfold addresses in all_differ_snoc (addresses t) (address_in n) d new)
