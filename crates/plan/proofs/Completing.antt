-- What completes a text: of each group that is open, the innermost first, items and a ")", as far as groups may be open. A byte in front of
-- what completes is one of a move, and a move leads from what completes to what completes; so a text of the grammar is what completes nothing
-- read. Assumes nothing.
use Prim.Native.Nat.{ℕ, zero, suc, ◌+◌, ◌≤◌}
use mathlib.Core.Path.{◌≡◌, refl, sym, ap, ap₂, subst, ◌∙◌}
use mathlib.Core.Logic.{◌↔◌}
use mathlib.Core.List.{List, [], ◌∷◌, ◌++◌, nil≢cons, head-eq_of_cons-eq, tail-eq_of_cons-eq}
use native.Mathlib.Omega.{arith}
use lib.ListN.{length, replicate}
use Rattle.node.specs.declared.Node.{Node}
use Rattle.plan.specs.Limits.{most_groups}
use Rattle.plan.specs.Grammar.{letter_r, letter_h, opening, closing, Items, none, host, router, items_text, plan_text, groups_open, IsText}
use Rattle.plan.specs.Reading.{Expected, start, group, inside}
use Rattle.plan.proofs.MoveLaws.{Moved, starts, opens, closes, hosts, routers}
use Rattle.plan.proofs.Spelling.{items_text-router}

-- the rest of a text in which so many groups are open
pub data Closes : ℕ → List ℕ → Type 0 where
  nothing : Closes 0 []
  close : {k : ℕ} {s rest : List ℕ} (i : Items) → s ≡ items_text i ++ closing ∷ rest → suc k + groups_open i ≤ most_groups → Closes k rest
      → Closes (suc k) s

-- the rest of a text, by what is expected
abbrev pub Completes : Expected → List ℕ → Type 0
Completes start s = (rest : List ℕ) × (s ≡ letter_r ∷ opening ∷ rest) × Closes 1 rest
Completes (group up) s = (rest : List ℕ) × (s ≡ opening ∷ rest) × Closes (length up) rest
Completes (inside up) s = Closes (length up) s

-- no more groups are open than may be
abbrev pub Live : Expected → Type 0
Live start = Unit {0}
Live (group up) = length up ≤ most_groups
Live (inside up) = length up ≤ most_groups

pub live_moved : {e next : Expected} {o : ℕ} {given : List ℕ} → Live e → Moved e o given next → Live next
live_moved l (starts e) = omega arith
live_moved l (opens up e) = l
live_moved l (closes n up e) = omega arith
live_moved l (hosts n up e) = l
live_moved l (routers n up e room) = room

-- ---- a text that is completed

closes-some : (k : ℕ) → k ≤ most_groups → Closes k (replicate k closing)
unfolding items_text groups_open
closes-some zero l = nothing
closes-some (suc k) l = close {k = k} none refl (omega arith) (closes-some k (omega arith))

pub completed : (e : Expected) → Live e → (s : List ℕ) × Completes e s
completed start l = (letter_r ∷ opening ∷ closing ∷ [], (closing ∷ [], refl, closes-some 1 (omega arith)))
completed (group up) l = (opening ∷ replicate (length up) closing, (replicate (length up) closing, refl, closes-some (length up) l))
completed (inside up) l = (replicate (length up) closing, closes-some (length up) l)

-- ---- a byte more in front

module _ {k o : ℕ} {s : List ℕ} where
  closes-none : suc k ≤ most_groups → o ≡ closing → Closes k s → Closes (suc k) (o ∷ s)
  unfolding items_text groups_open
  closes-none l e c = close {k = k} none (ap (λ (x : ℕ). x ∷ s) e) (omega arith) c

  closes-host : o ≡ letter_h → Closes (suc k) s → Closes (suc k) (o ∷ s)
  unfolding items_text groups_open
  closes-host e (close i t l c) = close (host i) (ap₂ (λ (x : ℕ) (r : List ℕ). x ∷ r) e t) l c

  closes-router : {rest : List ℕ} → o ≡ letter_r → s ≡ opening ∷ rest → Closes (suc (suc k)) rest → Closes (suc k) (o ∷ s)
  unfolding groups_open
  closes-router e f (close i t l (close {rest = more} j u m c)) =
      close {k = k} (router i j)
      (ap₂ (λ (x : ℕ) (r : List ℕ). x ∷ r) e (f ∙ ap (λ (r : List ℕ). opening ∷ r) (t ∙ ap (λ (r : List ℕ). items_text i ++ closing ∷ r) u))
      ∙ sym (items_text-router i j (closing ∷ more)))
      (omega arith) c

pub completes_from : {e next : Expected} {o : ℕ} {given : List ℕ} (s : List ℕ) → Live e → Moved e o given next → Completes next s
    → Completes e (o ∷ s)
completes_from s l (starts e) (rest, f, c) = (rest, ap₂ (λ (x : ℕ) (r : List ℕ). x ∷ r) e f, c)
completes_from s l (opens up e) c = (s, ap (λ (x : ℕ). x ∷ s) e, c)
completes_from s l (closes n up e) c = closes-none l e c
completes_from s l (hosts n up e) c = closes-host e c
completes_from s l (routers n up e room) (rest, f, c) = closes-router e f c

-- ---- a byte less

-- what completes, a byte further
pub data Further (e : Expected) (o : ℕ) (s : List ℕ) : Type 0 where
  further : {given : List ℕ} {next : Expected} → Moved e o given next → Completes next s → Further e o s

module _ (n : Node) (up : List Node) (o : ℕ) (s rest : List ℕ) (c : Closes (length up) rest) where
  further-item : (i : Items) → o ∷ s ≡ items_text i ++ closing ∷ rest → length (n ∷ up) + groups_open i ≤ most_groups → Further (inside (n ∷ up)) o s
  unfolding items_text groups_open
  further-item none e l = further (closes n up (head-eq_of_cons-eq e)) (subst (Closes (length up)) (sym (tail-eq_of_cons-eq e)) c)
  further-item (host i) e l = further (hosts n up (head-eq_of_cons-eq e)) (close i (tail-eq_of_cons-eq e) l c)
  further-item (router g i) e l =
      let texts = e ∙ items_text-router g i (closing ∷ rest) in
      further (routers n up (head-eq_of_cons-eq texts) (omega arith)) (
        items_text g ++ closing ∷ (items_text i ++ closing ∷ rest),
        tail-eq_of_cons-eq texts,
        close {k = length (n ∷ up)} g refl (omega arith) (close {k = length up} i refl (omega arith) c),
      )

no_bytes : {o : ℕ} {s : List ℕ} → Closes 0 (o ∷ s) → ⊥
no_bytes c = elim c [ ]

pub completes_to : (e : Expected) (o : ℕ) (s : List ℕ) → Completes e (o ∷ s) → Further e o s
completes_to start o s (rest, e, c) =
    further (starts (head-eq_of_cons-eq e)) (rest, tail-eq_of_cons-eq e, c)
completes_to (group up) o s (rest, e, c) = further (opens up (head-eq_of_cons-eq e)) (subst (Closes (length up)) (sym (tail-eq_of_cons-eq e)) c)
completes_to (inside []) o s c = absurd (no_bytes c)
completes_to (inside (n ∷ up)) o s (close {rest = rest} i e l c) = further-item n up o s rest c i e l

-- ---- the end, and the whole text

no_end : {k : ℕ} → Closes (suc k) [] → ⊥
unfolding items_text
no_end (close none e l c) = nil≢cons e
no_end (close (host i) e l c) = nil≢cons e
no_end (close (router g i) e l c) = nil≢cons e

-- where a text ends no group is open
pub completes_end : (e : Expected) → Completes e [] → e ≡ inside []
completes_end start (rest, e, c) = absurd (nil≢cons e)
completes_end (group up) (rest, e, c) = absurd (nil≢cons e)
completes_end (inside []) c = refl
completes_end (inside (n ∷ up)) c = absurd (no_end c)

pub completes_text : (text : List ℕ) → Completes start text ↔ IsText text
unfolding plan_text
completes_text text = (spelled, completing)
  where
    spelled : Completes start text → IsText text
    spelled (rest, e, close i t l nothing) =
        (i, record { spelled = e ∙ ap (λ (r : List ℕ). letter_r ∷ opening ∷ r) t; within = omega arith })

    completing : IsText text → Completes start text
    completing (plan, s) = (items_text plan ++ closing ∷ [], s.spelled, close {k = 0} plan refl (omega (arith, s.within)) nothing)
