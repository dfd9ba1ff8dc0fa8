-- The path between two addresses. "A path, given two addresses and no records, is the list from the first up to the deepest common
-- ancestor-or-self and down to the second, both ends in it." It goes by steps, which are held last step first: an address's ancestors are
-- the tails of its steps.
use Rattle.std.specs.Prelude.{ℕ, ◌-◌, Bool, true, false, ◌&&◌, ◌||◌, List, [], ◌∷◌, ◌++◌, map, reverse, length, drop, eqb, ltb, if◌then◌else◌}
use Rattle.address.specs.Steps.{Step, child, steps, address_of}
use Rattle.address.specs.declared.Kind.{Kind}
use Rattle.address.specs.declared.Kind.TheVariants.{Router, Host}
use Rattle.std.specs.Prelude.{Result, Ok, Err}
use Rattle.refusal.specs.declared.Refusal.{Refusal}
use Rattle.refusal.specs.Refusal.{number_of}

unfoldable pub same_kind : Kind → Kind → Bool
same_kind Router Router = true
same_kind Router Host = false
same_kind Host Router = false
same_kind Host Host = true

unfoldable pub same_steps : List Step → List Step → Bool
same_steps [] [] = true
same_steps [] (t ∷ ts) = false
same_steps (s ∷ ss) [] = false
same_steps (child k i ∷ ss) (child l j ∷ ts) = same_kind k l && eqb i j && same_steps ss ts

-- whether an address, by its steps, is an ancestor of another, or that one itself
unfoldable pub is_ancestor_or_self : List Step → List Step → Bool
is_ancestor_or_self ss [] = same_steps ss []
is_ancestor_or_self ss (t ∷ ts) = same_steps ss (t ∷ ts) || is_ancestor_or_self ss ts

-- "the deepest common ancestor-or-self": the first of an address and its ancestors, upwards, that is an ancestor-or-self of the other
unfoldable pub turn : List Step → List Step → List Step
turn [] ts = []
turn (s ∷ up) ts = if is_ancestor_or_self (s ∷ up) ts then s ∷ up else turn up ts

-- an address and its ancestors, upwards, as long as they have more than k steps
unfoldable pub deeper : ℕ → List Step → List (List Step)
deeper k [] = []
deeper k (s ∷ up) = if ltb k (length (s ∷ up)) then (s ∷ up) ∷ deeper k up else []

-- up to the turning point, and down
unfoldable pub path_of : List Step → List Step → List (List Step)
path_of ss ts = deeper (length (turn ss ts)) ss ++ (turn ss ts ∷ reverse (deeper (length (turn ss ts)) ts))

unfoldable pub path : ℕ → ℕ → List ℕ
path a d = map address_of (path_of (steps a) (steps d))

-- "the count is the listed path's length less one"
unfoldable pub hops : List ℕ → ℕ
hops p = length p - 1

-- What the path call answers: a refusal's number, 0 where the path is listed, and its hops, one fewer than the addresses listed; 0 in a
-- refusal.
pub record Listed : Type 0 where
  pub refusal : ℕ
  pub hops : ℕ

-- the papers' numbers for each case of the answer
abbrev pub listed_answer : Result ℕ Refusal → Listed
listed_answer (Ok k) = record { refusal = 0; hops = k }
listed_answer (Err r) = record { refusal = number_of r; hops = 0 }

-- What the path call comes to: the answer, and what the lent words hold at the end.
pub record PathEffect : Type 0 where
  pub answer : Listed
  pub words : List ℕ

-- "With any refusal the .. hop count .. [is] 0 .. and no byte or word lent is changed."
unfoldable pub refuse_path : ℕ → List ℕ → PathEffect
refuse_path n words = record { answer = record { refusal = n; hops = 0 }; words = words }

-- "For a path 9, 10.": an address is zero; the lent output is too short. "On success only the words or octets named are written."
unfoldable pub listing : ℕ → ℕ → List ℕ → PathEffect
listing a d words =
    if eqb a 0 then refuse_path 9 words
    else if eqb d 0 then refuse_path 9 words
    else if ltb (length words) (length (path a d)) then refuse_path 10 words
    else record { answer = record { refusal = 0; hops = hops (path a d) }; words = path a d ++ drop (length (path a d)) words }
