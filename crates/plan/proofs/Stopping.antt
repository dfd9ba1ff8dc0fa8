-- A reading is whole where the text completes what is expected, and otherwise stops where the text stops being the start of what completes it:
-- up to the fault each byte is one of a move, and what is expected there can be completed. Assumes nothing.
use Prim.Native.Nat.{ℕ, suc, ◌+◌, ◌<◌}
use mathlib.Core.Path.{◌≡◌, refl, sym, ap, subst, ◌∙◌}
use mathlib.Core.Logic.{◌⊎◌, inl, inr}
use mathlib.Core.List.{List, [], ◌∷◌, ◌++◌}
use native.Mathlib.Omega.{arith}
use lib.ListN.{length, take}
use Rattle.plan.specs.Reading.{Expected, start, group, inside, fault, move, whole, fault_at, ended, read_from}
use Rattle.plan.proofs.MoveLaws.{Moved, moved_move, Outcome, goes, stands, outcome, read_from_to, read_from-fault, behind-whole, behind-fault_at}
use Rattle.plan.proofs.Completing.{nothing, Completes, Live, live_moved, completed}
use Rattle.plan.proofs.Completing.{completes_from, Further, further, completes_to, completes_end}

no_whole : {place : ℕ} {given : List ℕ} {A : Type 0} → fault_at place ≡ whole given → A
no_whole e = let z : ◌≡◌ {A = ℕ} 0 1 = cc in absurd (omega arith)

-- ---- whole

-- where the text ends
ended-whole : (p : ℕ) (e : Expected) {given : List ℕ} → read_from p e [] ≡ whole given → Completes e []
unfolding read_from ended
ended-whole p start h = no_whole h
ended-whole p (group up) h = no_whole h
ended-whole p (inside []) h = nothing
ended-whole p (inside (n ∷ up)) h = no_whole h

pub read_from-whole : (s : List ℕ) (p : ℕ) (e : Expected) {given : List ℕ} → Live e → read_from p e s ≡ whole given → Completes e s
read_from-whole [] p e l h = ended-whole p e h
read_from-whole (o ∷ s) p e {given} l h = go (outcome e o) (λ next all m h. read_from-whole s (suc p) next m h)
  where
    go : Outcome e o → ((next : Expected) (all : List ℕ) → Live next → read_from (suc p) next s ≡ whole all → Completes next s)
        → Completes e (o ∷ s)
    go (goes {given = first} {next} m) rest =
        let others = behind-whole first (read_from (suc p) next s) (sym (read_from_to p e o s (moved_move m)) ∙ h) in
        completes_from s l m (rest next others.0 (live_moved l m) others.1)
    go (stands f) rest = no_whole (sym (read_from-fault p e o s f) ∙ h)

-- ---- at a fault

-- one byte more is no start of what completes, or there is none more
abbrev pub HaltsIn : Expected → List ℕ → ℕ → Type 0
HaltsIn e s k = ((k < length s) × ((t : List ℕ) → Completes e (take (suc k) s ++ t) → ⊥)) ⊎ ((k ≡ length s) × (Completes e s → ⊥))

-- so many bytes are the start of what completes, and no more
pub record StopsIn (e : Expected) (s : List ℕ) (k : ℕ) : Type 0 where
  pub rest : List ℕ
  pub begun : Completes e (take k s ++ rest)
  pub stops : HaltsIn e s k

-- a move further
further-moved : {e next : Expected} {o : ℕ} {given s : List ℕ} → Moved e o given next → Further e o s → Completes next s
further-moved {next = next} {s = s} m (further {next = other} n c) =
    let both = sym (moved_move n) ∙ moved_move m in
    let same : other ≡ next = cc in
    subst (λ (x : Expected). Completes x s) same c

completes_moved : {e next : Expected} {o : ℕ} {given : List ℕ} (s : List ℕ) → Moved e o given next → Completes e (o ∷ s) → Completes next s
completes_moved {e} {o = o} s m c = further-moved m (completes_to e o s c)

module _ {e next : Expected} {o : ℕ} {given s : List ℕ} (l : Live e) (m : Moved e o given next) (k : ℕ) where
  stops-moved : StopsIn next s k → StopsIn e (o ∷ s) (suc k)
  stops-moved h = record { rest = h.rest; begun = completes_from (take k s ++ h.rest) l m h.begun; stops = ends h.stops }
    where
      ends : HaltsIn next s k → HaltsIn e (o ∷ s) (suc k)
      ends (inl (short, none)) = inl (omega arith, λ t c. none t (completes_moved (take (suc k) s ++ t) m c))
      ends (inr (all, none)) = inr (omega arith, λ c. none (completes_moved s m c))

stops-fault : (e : Expected) (o : ℕ) (s : List ℕ) → Live e → move e o ≡ fault → StopsIn e (o ∷ s) 0
stops-fault e o s l f = record { rest = (completed e l).0; begun = (completed e l).1; stops = inl (omega arith, λ t c. never (completes_to e o t c)) }
  where
    never : {t : List ℕ} → Further e o t → ⊥
    never (further m c) = let both = sym (moved_move m) ∙ f in let z : ◌≡◌ {A = ℕ} 0 1 = cc in omega arith

stops_end : (e : Expected) (p : ℕ) {place : ℕ} → Live e → read_from p e [] ≡ fault_at place → StopsIn e [] 0
stops_end e p l h = record { rest = (completed e l).0; begun = (completed e l).1; stops = inr (refl, λ c. never (completes_end e c)) }
  where
    never : e ≡ inside [] → ⊥
    never i =
        unfold read_from ended in
        let both = sym (ap (λ (x : Expected). read_from p x []) i) ∙ h in
        let z : ◌≡◌ {A = ℕ} 0 1 = cc in
        omega arith

ended-place : (p : ℕ) (e : Expected) {place : ℕ} → read_from p e [] ≡ fault_at place → place ≡ p
unfolding read_from ended
ended-place p start h = cc
ended-place p (group up) h = cc
ended-place p (inside []) h = let z : ◌≡◌ {A = ℕ} 0 1 = cc in absurd (omega arith)
ended-place p (inside (n ∷ up)) h = cc

-- the place, counted from where the text begins
pub data Stopped (e : Expected) (s : List ℕ) (p place : ℕ) : Type 0 where
  stopped : (k : ℕ) → place ≡ p + k → StopsIn e s k → Stopped e s p place

pub read_from-fault_at : (s : List ℕ) (p : ℕ) (e : Expected) {place : ℕ} → Live e → read_from p e s ≡ fault_at place → Stopped e s p place
read_from-fault_at [] p e l h = let at = ended-place p e h in stopped 0 (omega arith) (stops_end e p l h)
read_from-fault_at (o ∷ s) p e {place} l h = go (outcome e o) (λ next m i. read_from-fault_at s (suc p) next m i)
  where
    one_more : {next : Expected} {given : List ℕ} → Moved e o given next → Stopped next s (suc p) place → Stopped e (o ∷ s) p place
    one_more m (stopped k at stops) = stopped (suc k) (omega arith) (stops-moved l m k stops)

    go : Outcome e o → ((next : Expected) → Live next → read_from (suc p) next s ≡ fault_at place → Stopped next s (suc p) place)
        → Stopped e (o ∷ s) p place
    go (goes {given = first} {next} m) rest =
        one_more m (rest next (live_moved l m) (behind-fault_at first (read_from (suc p) next s) (sym (read_from_to p e o s (moved_move m)) ∙ h)))
    go (stands f) rest =
        let both = sym (read_from-fault p e o s f) ∙ h in
        let at : place ≡ p = cc in
        stopped 0 (omega arith) (stops-fault e o s l f)
