-- What one byte comes to: the moves that there are, each with its byte and what is expected before it, and the reading of a byte and a text
-- behind it by the byte's move. Assumes nothing.
use Prim.Native.Nat.{ℕ, suc, ◌<◌}
use mathlib.Core.Path.{◌≡◌, refl, ap, ◌∙◌}
use mathlib.Core.Bool.{Bool, true, false, ◌&&◌, and-eq-true_iff}
use mathlib.Core.List.{List, [], ◌∷◌, ◌++◌, append_assoc}
use native.Mathlib.Omega.{arith}
use borrow.Author.Tests.{eqb-true, ltb-true, lt-ltb}
use lib.ListN.{length}
use lib.Dec.{eqb, ltb}
use Rattle.address.specs.Bits.{root}
use Rattle.address.specs.declared.Kind.TheVariants.{Router, Host}
use Rattle.node.specs.Node.{fresh, child_of}
use Rattle.node.specs.declared.Node.{Node}
use Rattle.plan.specs.Limits.{most_groups}
use Rattle.plan.specs.Grammar.{letter_r, letter_h, opening, closing}
use Rattle.plan.specs.Hall.{child_in}
use Rattle.plan.specs.Reading.{Expected, start, group, inside, Move, to, fault, move_item, move, Reading, whole, fault_at, behind, read_from}

-- ---- the moves

-- what a move that is no fault goes by
pub data Moved : Expected → ℕ → List ℕ → Expected → Type 0 where
  starts : {o : ℕ} → o ≡ letter_r → Moved start o (root ∷ []) (group (fresh root ∷ []))
  opens : {o : ℕ} (up : List Node) → o ≡ opening → Moved (group up) o [] (inside up)
  closes : {o : ℕ} (n : Node) (up : List Node) → o ≡ closing → Moved (inside (n ∷ up)) o [] (inside up)
  hosts : {o : ℕ} (n : Node) (up : List Node) → o ≡ letter_h
      → Moved (inside (n ∷ up)) o (child_in (child_of n Host) ∷ []) (inside ((child_of n Host).node ∷ up))
  routers : {o : ℕ} (n : Node) (up : List Node) → o ≡ letter_r → length (n ∷ up) < most_groups
      → Moved (inside (n ∷ up)) o (child_in (child_of n Router) ∷ []) (group (fresh (child_in (child_of n Router)) ∷ (child_of n Router).node ∷ up))

pub moved_move : {e next : Expected} {o : ℕ} {given : List ℕ} → Moved e o given next → move e o ≡ to given next
unfolding move move_item
moved_move (starts e) = rw e
moved_move (opens up e) = rw e
moved_move (closes n up e) = rw e
moved_move (hosts n up e) = rw e
moved_move (routers n up e room) = rw (e, lt-ltb (length (n ∷ up)) most_groups room)

-- a byte is one of a move, or a fault
pub data Outcome (e : Expected) (o : ℕ) : Type 0 where
  goes : {given : List ℕ} {next : Expected} → Moved e o given next → Outcome e o
  stands : move e o ≡ fault → Outcome e o

outcome-item : (n : Node) (up : List Node) (o : ℕ) (c h r : Bool) → eqb o closing ≡ c → eqb o letter_h ≡ h
    → (eqb o letter_r && ltb (length (n ∷ up)) most_groups) ≡ r → Outcome (inside (n ∷ up)) o
unfolding move move_item
outcome-item n up o true h r ec eh er = goes (closes n up (eqb-true o closing ec))
outcome-item n up o false true r ec eh er = goes (hosts n up (eqb-true o letter_h eh))
outcome-item n up o false false true ec eh er =
    let both = (and-eq-true_iff (eqb o letter_r) (ltb (length (n ∷ up)) most_groups)).0 er in
    goes (routers n up (eqb-true o letter_r both.0) (ltb-true (length (n ∷ up)) most_groups both.1))
outcome-item n up o false false false ec eh er = stands (rw (ec, eh, er))

pub outcome : (e : Expected) (o : ℕ) → Outcome e o
unfolding move
outcome start o = go (eqb o letter_r) refl
  where
    go : (t : Bool) → eqb o letter_r ≡ t → Outcome start o
    go true h = goes (starts (eqb-true o letter_r h))
    go false h = stands (unfold move in rw h)
outcome (group up) o = go (eqb o opening) refl
  where
    go : (t : Bool) → eqb o opening ≡ t → Outcome (group up) o
    go true h = goes (opens up (eqb-true o opening h))
    go false h = stands (unfold move in rw h)
outcome (inside []) o = stands refl
outcome (inside (n ∷ up)) o =
    outcome-item n up o (eqb o closing) (eqb o letter_h) (eqb o letter_r && ltb (length (n ∷ up)) most_groups) refl refl refl

-- the faults: bytes of no move

pub fault-start : (o : ℕ) → (o ≡ letter_r → ⊥) → move start o ≡ fault
fault-start o other = go (outcome start o)
  where
    go : Outcome start o → move start o ≡ fault
    go (goes (starts e)) = absurd (other e)
    go (stands f) = f

pub fault-group : (up : List Node) (o : ℕ) → (o ≡ opening → ⊥) → move (group up) o ≡ fault
fault-group up o other = go (outcome (group up) o)
  where
    go : Outcome (group up) o → move (group up) o ≡ fault
    go (goes (opens up e)) = absurd (other e)
    go (stands f) = f

pub fault-item : (n : Node) (up : List Node) (o : ℕ) → (o ≡ closing → ⊥) → (o ≡ letter_h → ⊥) → (o ≡ letter_r → length (n ∷ up) < most_groups → ⊥)
    → move (inside (n ∷ up)) o ≡ fault
fault-item n up o c h r = go (outcome (inside (n ∷ up)) o)
  where
    go : Outcome (inside (n ∷ up)) o → move (inside (n ∷ up)) o ≡ fault
    go (goes (closes n up e)) = absurd (c e)
    go (goes (hosts n up e)) = absurd (h e)
    go (goes (routers n up e room)) = absurd (r e room)
    go (stands f) = f

-- ---- the reading of a byte

by_move : ℕ → List ℕ → Move → Reading
by_move p s (to given next) = behind given (read_from (suc p) next s)
by_move p s fault = fault_at p

read_from-move : (p : ℕ) (e : Expected) (o : ℕ) (s : List ℕ) → read_from p e (o ∷ s) ≡ by_move p s (move e o)
unfolding read_from by_move
read_from-move p e o s = elim (move e o) as (λ (m : Move).
    elim m [
      | to given next ↦ behind given (read_from (suc p) next s)
      | fault ↦ fault_at p
    ] ≡ by_move p s m) [
      | to given next ↦ refl
      | fault ↦ refl
    ]

module _ (p : ℕ) (e : Expected) (o : ℕ) (s : List ℕ) where
  pub read_from_to : {given : List ℕ} {next : Expected} → move e o ≡ to given next → read_from p e (o ∷ s) ≡ behind given (read_from (suc p) next s)
  unfolding by_move
  read_from_to h = read_from-move p e o s ∙ ap (by_move p s) h

  pub read_from-fault : move e o ≡ fault → read_from p e (o ∷ s) ≡ fault_at p
  unfolding by_move
  read_from-fault h = read_from-move p e o s ∙ ap (by_move p s) h

-- ---- with addresses in front

pub behind-nil : (r : Reading) → behind [] r ≡ r
unfolding behind
behind-nil (whole others) = refl
behind-nil (fault_at place) = refl

pub behind-append : (a b : List ℕ) (r : Reading) → behind (a ++ b) r ≡ behind a (behind b r)
unfolding behind
behind-append a b (whole others) = ap whole (append_assoc a b others)
behind-append a b (fault_at place) = refl

-- addresses in front make no reading whole
pub behind-whole : (given : List ℕ) (r : Reading) {all : List ℕ} → behind given r ≡ whole all → (others : List ℕ) × (r ≡ whole others)
unfolding behind
behind-whole given (whole others) e = (others, refl)
behind-whole given (fault_at place) e = let z : ◌≡◌ {A = ℕ} 0 1 = cc in absurd (omega arith)

pub behind-fault_at : (given : List ℕ) (r : Reading) {place : ℕ} → behind given r ≡ fault_at place → r ≡ fault_at place
unfolding behind
behind-fault_at given (whole others) e = let z : ◌≡◌ {A = ℕ} 0 1 = cc in absurd (omega arith)
behind-fault_at given (fault_at place) e = e

-- ---- "R("

pub read_from_open : (p : ℕ) (e : Expected) (s : List ℕ) {given : List ℕ} {up : List Node} → move e letter_r ≡ to given (group up)
    → read_from p e (letter_r ∷ opening ∷ s) ≡ behind given (read_from (suc (suc p)) (inside up) s)
read_from_open p e s {given} {up} m =
    read_from_to p e letter_r (opening ∷ s) m
    ∙ ap (behind given)
    (read_from_to (suc p) (group up) opening s (moved_move (opens up refl)) ∙ behind-nil (read_from (suc (suc p)) (inside up) s))
