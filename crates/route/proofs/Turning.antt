-- Turning points and paths, by steps. Whatever is on one way is told apart by its length alone (`ancestor_or_self_unique`), so the turning point is the
-- only deepest one, from either side; a path then loses its first address with each step up or down. Assumes nothing.
use Rattle.std.specs.Prelude.{if◌then◌else◌}
use mathlib.Core.Path.{◌≡◌, refl, sym, ap, ◌∙◌}
use mathlib.Core.Logic.{◌⊎◌, inl, inr, ⊎_elim}
use mathlib.Core.Bool.{Bool, true, false, ◌&&◌, ◌||◌, and-eq-true_iff, or-true}
use mathlib.Core.List.Memᴰ
use mathlib.Core.List.{List, [], ◌∷◌, ◌++◌, reverse, append-nil, append_assoc, reverse-append, reverse-cons, Memᴰ}
use Prim.Native.Nat.{ℕ, ◌+◌, ◌-◌, ◌*◌, ◌≤◌}
use native.Mathlib.Nat.{le_refl, le_antisymm}
use native.Mathlib.Omega.{arith}
use borrow.Author.Tests.{eq-eqb, eqb-true, lt-ltb, le-ltb, ltb-true, ltb-false}
use lib.Dec.{eqb, ltb}
use lib.ListN.{length, length-append, length-reverse}
use Rattle.address.specs.Steps.{Step, child}
use Rattle.address.specs.declared.Kind.{Kind}
use Rattle.address.specs.declared.Kind.TheVariants.{Router as router, Host as host}
use Rattle.address.specs.Ancestors.{AncestorOrSelf}
use Rattle.route.specs.Path.{same_kind, same_steps, is_ancestor_or_self, turn, deeper, path_of}
use Rattle.route.specs.TurningPoint.{IsTurningPoint, TurningPoints}

-- the same steps

pub same_kind_refl : (k : Kind) → same_kind k k ≡ true
unfolding same_kind
same_kind_refl router = refl
same_kind_refl host = refl

pub same_kind_true : (k l : Kind) → same_kind k l ≡ true → k ≡ l
unfolding same_kind
same_kind_true router router e = refl
same_kind_true router host e = cc
same_kind_true host router e = cc
same_kind_true host host e = refl

pub same_steps_refl : (ss : List Step) → same_steps ss ss ≡ true
unfolding same_steps
same_steps_refl [] = refl
same_steps_refl (child k i ∷ ss) = rw (same_kind_refl k, eq-eqb i i refl) (same_steps_refl ss)

pub same_steps_true : (ss ts : List Step) → same_steps ss ts ≡ true → ss ≡ ts
unfolding same_steps
same_steps_true [] [] e = refl
same_steps_true [] (t ∷ ts) e = cc
same_steps_true (s ∷ ss) [] e = cc
same_steps_true (child k i ∷ ss) (child l j ∷ ts) e =
    let all = (and-eq-true_iff (same_kind k l && eqb i j) (same_steps ss ts)).0 e in
    let first = (and-eq-true_iff (same_kind k l) (eqb i j)).0 all.0 in
    cc (same_kind_true k l first.0, eqb-true i j first.1, same_steps_true ss ts all.1)

-- on the way

pub ancestor_or_self_refl : (ss : List Step) → AncestorOrSelf ss ss
ancestor_or_self_refl ss = ([], refl)

pub ancestor_or_self_root : (ts : List Step) → AncestorOrSelf [] ts
ancestor_or_self_root ts = (ts, sym (append-nil ts))

pub ancestor_or_self_cons : (t : Step) (ss ts : List Step) → AncestorOrSelf ss ts → AncestorOrSelf ss (t ∷ ts)
ancestor_or_self_cons t ss ts (dropped, e) = (t ∷ dropped, ap (λ (l : List Step). t ∷ l) e)

pub ancestor_or_self_tail : (s : Step) (ss ts : List Step) → AncestorOrSelf (s ∷ ss) ts → AncestorOrSelf ss ts
ancestor_or_self_tail s ss ts (dropped, e) = (dropped ++ (s ∷ []), e ∙ sym (append_assoc dropped (s ∷ []) ss))

pub ancestor_or_self_length : (ss ts : List Step) → AncestorOrSelf ss ts → length ss ≤ length ts
ancestor_or_self_length ss ts (dropped, e) = omega (arith, ap length e, length-append dropped ss)

pub ancestor_or_self_cases : (ss : List Step) (t : Step) (ts : List Step) → AncestorOrSelf ss (t ∷ ts) → (ss ≡ t ∷ ts) ⊎ AncestorOrSelf ss ts
ancestor_or_self_cases ss t ts ([], e) = inl (sym e)
ancestor_or_self_cases ss t ts (d ∷ dropped, e) = inr (dropped, cc)

-- the next step down a way, if there is one
pub ancestor_or_self_next : (x ts : List Step) → AncestorOrSelf x ts → (x ≡ ts) ⊎ ((s : Step) × AncestorOrSelf (s ∷ x) ts)
ancestor_or_self_next x ts ([], e) = inl (sym e)
ancestor_or_self_next x ts (d ∷ dropped, e) = inr (⊎_elim this further (ancestor_or_self_next x (dropped ++ x) (dropped, refl)))
  where
    this : x ≡ dropped ++ x → (s : Step) × AncestorOrSelf (s ∷ x) ts
    this f = (d, ([], e ∙ ap (λ (l : List Step). d ∷ l) (sym f)))

    further : (s : Step) × AncestorOrSelf (s ∷ x) (dropped ++ x) → (s : Step) × AncestorOrSelf (s ∷ x) ts
    further (s, w) = (s, rw e (ancestor_or_self_cons d (s ∷ x) (dropped ++ x) w))

-- of two on one way the one with fewer steps is on the other's way
pub ancestor_or_self_le : (xs ys zs : List Step) → AncestorOrSelf xs zs → AncestorOrSelf ys zs → length xs ≤ length ys → AncestorOrSelf xs ys
ancestor_or_self_le [] ys [] v w h = ancestor_or_self_root ys
ancestor_or_self_le (x ∷ xs) ys [] v w h = absurd (omega (arith, ancestor_or_self_length (x ∷ xs) [] v))
ancestor_or_self_le xs ys (z ∷ zs) v w h = go (ancestor_or_self_cases xs z zs v) (ancestor_or_self_cases ys z zs w) (ancestor_or_self_le xs ys zs)
  where
    go : (xs ≡ z ∷ zs) ⊎ AncestorOrSelf xs zs → (ys ≡ z ∷ zs) ⊎ AncestorOrSelf ys zs → (AncestorOrSelf xs zs → AncestorOrSelf ys zs → length xs ≤ length ys → AncestorOrSelf xs ys) → AncestorOrSelf xs ys
    go a (inl e) rest = rw e v
    go (inl e) (inr b) rest = absurd (omega (arith, ap length e, ancestor_or_self_length ys zs b))
    go (inr a) (inr b) rest = rest a b h

pub ancestor_or_self_same : (xs ys : List Step) → AncestorOrSelf xs ys → length ys ≤ length xs → xs ≡ ys
ancestor_or_self_same xs ys ([], e) h = sym e
ancestor_or_self_same xs ys (d ∷ dropped, e) h = absurd (omega (arith, ap length e, length-append dropped xs))

pub ancestor_or_self_unique : (xs ys zs : List Step) → AncestorOrSelf xs zs → AncestorOrSelf ys zs → length xs ≡ length ys → xs ≡ ys
ancestor_or_self_unique xs ys zs v w e = ancestor_or_self_same xs ys (ancestor_or_self_le xs ys zs v w (omega arith)) (omega arith)

pub is_ancestor_or_self_true : (ss ts : List Step) → is_ancestor_or_self ss ts ≡ true → AncestorOrSelf ss ts
unfolding is_ancestor_or_self
is_ancestor_or_self_true ss [] e = ([], sym (same_steps_true ss [] e))
is_ancestor_or_self_true ss (t ∷ ts) e = go (same_steps ss (t ∷ ts)) refl e (is_ancestor_or_self_true ss ts)
  where
    go : (same : Bool) → same_steps ss (t ∷ ts) ≡ same → (same || is_ancestor_or_self ss ts) ≡ true → (is_ancestor_or_self ss ts ≡ true → AncestorOrSelf ss ts) → AncestorOrSelf ss (t ∷ ts)
    go true s e rest = ([], sym (same_steps_true ss (t ∷ ts) s))
    go false s e rest = ancestor_or_self_cons t ss ts (rest e)

pub is_ancestor_or_self-append : (dropped ss : List Step) → is_ancestor_or_self ss (dropped ++ ss) ≡ true
unfolding is_ancestor_or_self
is_ancestor_or_self-append [] [] = same_steps_refl []
is_ancestor_or_self-append [] (s ∷ ss) = rw (same_steps_refl (s ∷ ss))
is_ancestor_or_self-append (d ∷ dropped) ss = rw (is_ancestor_or_self-append dropped ss, or-true)

pub is_ancestor_or_self_ancestor_or_self : (ss ts : List Step) → AncestorOrSelf ss ts → is_ancestor_or_self ss ts ≡ true
is_ancestor_or_self_ancestor_or_self ss ts (dropped, e) = ap (is_ancestor_or_self ss) e ∙ is_ancestor_or_self-append dropped ss

pub is_ancestor_or_self_off : (ss ts : List Step) → (AncestorOrSelf ss ts → ⊥) → is_ancestor_or_self ss ts ≡ false
is_ancestor_or_self_off ss ts off = go (is_ancestor_or_self ss ts) refl
  where
    go : (t : Bool) → is_ancestor_or_self ss ts ≡ t → t ≡ false
    go true e = absurd (off (is_ancestor_or_self_true ss ts e))
    go false e = refl

pub is_ancestor_or_self_false : (ss ts : List Step) → is_ancestor_or_self ss ts ≡ false → AncestorOrSelf ss ts → ⊥
is_ancestor_or_self_false ss ts e w = let z : ◌≡◌ {A = ℕ} 0 1 = cc (is_ancestor_or_self_ancestor_or_self ss ts w) in omega arith

-- the turning point

pub turn_on : (ss ts : List Step) → AncestorOrSelf ss ts → turn ss ts ≡ ss
unfolding turn
turn_on [] ts w = refl
turn_on (s ∷ up) ts w = rw (is_ancestor_or_self_ancestor_or_self (s ∷ up) ts w)

pub turn_off : (s : Step) (up ts : List Step) → (AncestorOrSelf (s ∷ up) ts → ⊥) → turn (s ∷ up) ts ≡ turn up ts
unfolding turn
turn_off s up ts off = rw (is_ancestor_or_self_off (s ∷ up) ts off)

pub turning_points : TurningPoints
unfolding turn
turning_points [] ts = record { of_first = ancestor_or_self_refl []; of_second = ancestor_or_self_root ts; deepest = λ y v w. ancestor_or_self_length y [] v }
turning_points (s ∷ up) ts = go (is_ancestor_or_self (s ∷ up) ts) refl (turning_points up ts)
  where
    go : (on : Bool) → is_ancestor_or_self (s ∷ up) ts ≡ on → IsTurningPoint up ts (turn up ts) → IsTurningPoint (s ∷ up) ts (turn (s ∷ up) ts)
    go true e above =
        let w = is_ancestor_or_self_true (s ∷ up) ts e in
        rw (turn_on (s ∷ up) ts w) (record { of_first = ancestor_or_self_refl (s ∷ up); of_second = w; deepest = λ y v u. ancestor_or_self_length y (s ∷ up) v })
    go false e above =
        let off = is_ancestor_or_self_false (s ∷ up) ts e in
        rw (turn_off s up ts off) (record {
          of_first = ancestor_or_self_cons s (turn up ts) up above.of_first;
          of_second = above.of_second;
          deepest = λ y v u. ⊎_elim (λ e. absurd (off (rw e at u))) (λ v. above.deepest y v u) (ancestor_or_self_cases y s up v);
        })

-- there is one turning point only
pub turn_unique : (ss ts x : List Step) → IsTurningPoint ss ts x → turn ss ts ≡ x
turn_unique ss ts x p =
    let q = turning_points ss ts in
    ancestor_or_self_unique (turn ss ts) x ss q.of_first p.of_first
    (le_antisymm (p.deepest (turn ss ts) q.of_first q.of_second) (q.deepest x p.of_first p.of_second))

pub turn_comm : (ss ts : List Step) → turn ss ts ≡ turn ts ss
turn_comm ss ts =
    let p = turning_points ts ss in
    turn_unique ss ts (turn ts ss) (record { of_first = p.of_second; of_second = p.of_first; deepest = λ y v w. p.deepest y w v })

pub turn_self : (ss : List Step) → turn ss ss ≡ ss
turn_self ss = turn_on ss ss (ancestor_or_self_refl ss)

pub length-turn-first : (ss ts : List Step) → length (turn ss ts) ≤ length ss
length-turn-first ss ts = ancestor_or_self_length (turn ss ts) ss (turning_points ss ts).of_first

pub length-turn-second : (ss ts : List Step) → length (turn ss ts) ≤ length ts
length-turn-second ss ts = ancestor_or_self_length (turn ss ts) ts (turning_points ss ts).of_second

-- what has more than k steps

pub deeper-short : (k : ℕ) (ss : List Step) → length ss ≤ k → deeper k ss ≡ []
unfolding deeper
deeper-short k [] h = refl
deeper-short k (s ∷ up) h = rw (le-ltb k (length (s ∷ up)) h)

pub deeper-cons : (k : ℕ) (s : Step) (up : List Step) → k ≤ length up → deeper k (s ∷ up) ≡ (s ∷ up) ∷ deeper k up
unfolding deeper
deeper-cons k s up h = rw (lt-ltb k (length (s ∷ up)) (omega arith))

pub deeper_self : (ss : List Step) → deeper (length ss) ss ≡ []
deeper_self ss = deeper-short (length ss) ss (le_refl (length ss))

pub deeper-append : (s : Step) (dropped x : List Step)
    → deeper (length x) (s ∷ (dropped ++ x)) ≡ (s ∷ (dropped ++ x)) ∷ deeper (length x) (dropped ++ x)
deeper-append s dropped x = deeper-cons (length x) s (dropped ++ x) (omega (arith, length-append dropped x))

-- the last of them is one step below x
pub deeper_snoc : (more : List Step) (s : Step) (x : List Step)
    → deeper (length x) (more ++ (s ∷ x)) ≡ deeper (length (s ∷ x)) (more ++ (s ∷ x)) ++ ((s ∷ x) ∷ [])
deeper_snoc [] s x = deeper-cons (length x) s x (le_refl (length x)) ∙ rw (deeper_self x, deeper_self (s ∷ x))
deeper_snoc (m ∷ more) s x =
    let long = length-append more (s ∷ x) in
    deeper-cons (length x) m (more ++ (s ∷ x)) (omega arith)
    ∙ rw (deeper_snoc more s x, deeper-cons (length (s ∷ x)) m (more ++ (s ∷ x)) (omega arith))

pub length-deeper : (k : ℕ) (ss : List Step) → length (deeper k ss) ≡ length ss - k
unfolding deeper
length-deeper k [] = omega arith
length-deeper k (s ∷ up) = go (ltb k (length (s ∷ up))) refl (length-deeper k up)
  where
    go : (t : Bool) → ltb k (length (s ∷ up)) ≡ t → length (deeper k up) ≡ length up - k → length (if t then (s ∷ up) ∷ deeper k up else []) ≡ length (s ∷ up) - k
    go true e rest = let h = ltb-true k (length (s ∷ up)) e in omega arith
    go false e rest = let h = ltb-false k (length (s ∷ up)) e in omega arith

pub mem_deeper : (k : ℕ) (ss x : List Step) → Memᴰ x (deeper k ss) → AncestorOrSelf x ss
unfolding deeper
mem_deeper k [] x m = absurd (Memᴰ.not-nil m)
mem_deeper k (s ∷ up) x m = go (ltb k (length (s ∷ up))) m (mem_deeper k up x)
  where
    go : (t : Bool) → Memᴰ x (if t then (s ∷ up) ∷ deeper k up else []) → (Memᴰ x (deeper k up) → AncestorOrSelf x up) → AncestorOrSelf x (s ∷ up)
    go true m rest = ⊎_elim (λ e. ([], sym e)) (λ n. ancestor_or_self_cons s x up (rest n)) (Memᴰ.cases_cons m)
    go false m rest = absurd (Memᴰ.not-nil m)

-- the path

-- down from one that is on the way
pub path_of_on : (x ts : List Step) → AncestorOrSelf x ts → path_of x ts ≡ x ∷ reverse (deeper (length x) ts)
unfolding path_of
path_of_on x ts w = rw (turn_on x ts w, deeper_self x)

-- up, and from the turning point down
pub path_of-turn : (ss ts : List Step) → path_of ss ts ≡ deeper (length (turn ss ts)) ss ++ path_of (turn ss ts) ts
path_of-turn ss ts = rw (path_of_on (turn ss ts) ts (turning_points ss ts).of_second) (unfold path_of in refl)

pub path_of_self : (ss : List Step) → path_of ss ss ≡ ss ∷ []
path_of_self ss = path_of_on ss ss (ancestor_or_self_refl ss) ∙ rw (deeper_self ss)

pub path_of_up : (s : Step) (up ts : List Step) → (AncestorOrSelf (s ∷ up) ts → ⊥) → path_of (s ∷ up) ts ≡ (s ∷ up) ∷ path_of up ts
unfolding path_of
path_of_up s up ts off = rw (turn_off s up ts off, deeper-cons (length (turn up ts)) s up (length-turn-first up ts))

pub path_of-down : (more : List Step) (s : Step) (x : List Step) → path_of x (more ++ (s ∷ x)) ≡ x ∷ path_of (s ∷ x) (more ++ (s ∷ x))
path_of-down more s x =
    path_of_on x (more ++ (s ∷ x)) (ancestor_or_self_tail s x (more ++ (s ∷ x)) (more, refl))
    ∙ rw (deeper_snoc more s x, reverse-append, path_of_on (s ∷ x) (more ++ (s ∷ x)) (more, refl))

pub length-path_of : (ss ts : List Step) → length (path_of ss ts) + 2 * length (turn ss ts) ≡ length ss + length ts + 1
unfolding path_of
length-path_of ss ts =
    rw (length-append, length-reverse, length-deeper, length-deeper)
    (omega (arith, length-turn-first ss ts, length-turn-second ss ts))

-- one step further up or down makes the path longer or shorter by one
pub length-path_of-cons : (s : Step) (up ts : List Step)
    → (length (path_of (s ∷ up) ts) ≡ length (path_of up ts) + 1) ⊎ (length (path_of up ts) ≡ length (path_of (s ∷ up) ts) + 1)
length-path_of-cons s up ts = go (is_ancestor_or_self (s ∷ up) ts) refl
  where
    go : (on : Bool) → is_ancestor_or_self (s ∷ up) ts ≡ on
        → (length (path_of (s ∷ up) ts) ≡ length (path_of up ts) + 1) ⊎ (length (path_of up ts) ≡ length (path_of (s ∷ up) ts) + 1)
    go true e = let (more, f) = is_ancestor_or_self_true (s ∷ up) ts e in inr (omega (arith, ap length (rw (← f) at (path_of-down more s up))))
    go false e = inl (omega (arith, ap length (path_of_up s up ts (is_ancestor_or_self_false (s ∷ up) ts e))))

pub path_of-first : (ss ts : List Step) → (rest : List (List Step)) × (path_of ss ts ≡ ss ∷ rest)
path_of-first [] ts = (_, path_of_on [] ts (ancestor_or_self_root ts))
path_of-first (s ∷ up) ts = go (is_ancestor_or_self (s ∷ up) ts) refl
  where
    go : (on : Bool) → is_ancestor_or_self (s ∷ up) ts ≡ on → (rest : List (List Step)) × (path_of (s ∷ up) ts ≡ (s ∷ up) ∷ rest)
    go true e = (_, path_of_on (s ∷ up) ts (is_ancestor_or_self_true (s ∷ up) ts e))
    go false e = (_, path_of_up s up ts (is_ancestor_or_self_false (s ∷ up) ts e))

path_of-last_on : (dropped x : List Step) → (front : List (List Step)) × (path_of x (dropped ++ x) ≡ front ++ ((dropped ++ x) ∷ []))
path_of-last_on [] x = ([], path_of_self x)
path_of-last_on (d ∷ dropped) x =
    (x ∷ reverse (deeper (length x) (dropped ++ x)), path_of_on x (d ∷ (dropped ++ x)) (d ∷ dropped, refl) ∙ rw (deeper-append d dropped x, reverse-cons))

pub path_of-last : (ss ts : List Step) → (front : List (List Step)) × (path_of ss ts ≡ front ++ (ts ∷ []))
path_of-last ss ts = go (turn ss ts) (turning_points ss ts).of_second (path_of-turn ss ts)
  where
    go : (x : List Step) → AncestorOrSelf x ts → path_of ss ts ≡ deeper (length x) ss ++ path_of x ts → (front : List (List Step)) × (path_of ss ts ≡ front ++ (ts ∷ []))
    go x (dropped, e) split =
        let (front, down) = path_of-last_on dropped x in
        (deeper (length x) ss ++ front, split ∙ rw (e, down, append_assoc))

mem_reverse : {x : List Step} (l : List (List Step)) → Memᴰ x (reverse l) → Memᴰ x l
mem_reverse [] m = m
mem_reverse (a ∷ l) m =
    ⊎_elim
    (λ n. Memᴰ.tail (mem_reverse l n))
    (λ n. Memᴰ.head (Memᴰ.eq_of_singleton n))
    (Memᴰ.append_cases (reverse l) (rw (reverse-cons a l) at m))

-- every address of the path is an ancestor-or-self of one of its ends
pub mem_path_of : (ss ts x : List Step) → Memᴰ x (path_of ss ts) → AncestorOrSelf x ss ⊎ AncestorOrSelf x ts
unfolding path_of
mem_path_of ss ts x m =
    let k = length (turn ss ts) in
    ⊎_elim
    (λ n. inl (mem_deeper k ss x n))
    (λ n. inr (⊎_elim (λ e. rw e (turning_points ss ts).of_second) (λ l. mem_deeper k ts x (mem_reverse (deeper k ts) l)) (Memᴰ.cases_cons n)))
    (Memᴰ.append_cases (deeper k ss) m)
