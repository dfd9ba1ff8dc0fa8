-- What the functions inside recovery leave, exit by exit, and one address behind others. Assumes nothing.
use Prim.Native.Nat.{ℕ, zero, suc, ◌+◌, ◌-◌, ◌≤◌, ◌<◌}
use mathlib.Core.Path.{◌≡◌, refl, sym, ap, ap₂, ◌∙◌}
use mathlib.Core.Bool.{true}
use mathlib.Core.List.{List, [], ◌∷◌, ◌++◌, map-id}
use native.Mathlib.Omega.{arith}
use lib.ListN.{take-append-drop, length, take, drop, set, length-set}
use lib.Seq.{drop-cons, length-take-le, take-suc-set, drop-set-lt, drop-drop}
use Rattle.std.specs.Prelude.{Option, Some, None}
use Rattle.std.specs.Iterator.{Yields, AlwaysYields}
use Rattle.std.proofs.lemmas.Iterator.{YieldsList}
use Rattle.std.proofs.lemmas.Iterator.Consumers.{YieldsList-so_far, YieldsList-turn, YieldsList-end}
use Rattle.journal.specs.Limits.{most_nodes}
use Rattle.journal.specs.Replay.{Replay, known, fault, is_next, taken, next, follow}
use Rattle.journal.specs.Recovery.{Recovered}
use Rattle.journal.specs.Follows.{shown, Follows}
use Rattle.journal.proofs.ReplayLaws.{taken-known, follow-append, follow-stops}

-- nothing taken yet
pub follows-none : (nodes : ℕ) (words : List ℕ) → nodes ≤ most_nodes → Follows (known (take nodes words)) nodes words words (record { refusal = 0; nodes = nodes })
unfolding shown
follows-none nodes words h = record { same = refl; forth = λ _. omega arith; within = h; kept = λ _. refl; shows = refl }

-- a fault
pub follows-fault : (r : Replay) (n nodes : ℕ) (words : List ℕ) → r ≡ fault (suc n) → Follows r nodes words words (record { refusal = suc n; nodes = 0 })
unfolding shown
follows-fault r n nodes words e = record { same = refl; forth = λ z. omega (arith, z); within = omega arith; kept = λ z. absurd (omega (arith, z)); shows = e }

-- an address behind the nodes known
pub follows-taken : (a nodes : ℕ) (words : List ℕ) → nodes < most_nodes → most_nodes ≤ length words → is_next (take nodes words) a ≡ true
    → Follows (taken (take nodes words) a) nodes words (set words nodes a) (record { refusal = 0; nodes = nodes + 1 })
unfolding shown
follows-taken a nodes words less room e =
    let within : nodes < length words = omega (arith, less, room) in
    let long : length (take nodes words) ≡ nodes = length-take-le nodes words (omega (arith, within)) in
    let more : nodes + 1 ≡ suc nodes = omega arith in
    record {
      same = length-set words nodes a;
      forth = λ _. omega arith;
      within = omega (arith, less);
      kept = λ _. drop-set-lt (nodes + 1) words nodes a (omega arith);
      shows = taken-known (take nodes words) a e (omega (arith, long, less)) ∙ rw more (ap known (sym (take-suc-set words nodes a within)));
    }

-- an address behind others
pub follows_next : (r : Replay) (a nodes : ℕ) (words mid after : List ℕ) (before answer : Recovered) → Follows r nodes words mid before → before.refusal ≡ 0
    → Follows (taken (take before.nodes mid) a) before.nodes mid after answer → Follows (next r a) nodes words after answer
unfolding next shown
follows_next r a nodes words mid after before answer f z g = record {
  same = g.same ∙ f.same;
  forth = λ e. omega (arith, f.forth z, g.forth e);
  within = g.within;
  kept = λ e. g.kept e ∙ later answer.nodes (g.forth e);
  shows = ap (λ (s : Replay). next s a) (f.shows ∙ ap (λ (n : ℕ). shown n (take before.nodes mid)) z) ∙ g.shows;
}
  where
    later : (k : ℕ) → before.nodes ≤ k → drop k mid ≡ drop k words
    later k le =
        let rest : before.nodes + (k - before.nodes) ≡ k = omega (arith, le) in
        ap (λ (n : ℕ). drop n mid) (sym rest) ∙ sym (drop-drop (k - before.nodes) before.nodes mid)
        ∙ ap (drop (k - before.nodes)) (f.kept z)
        ∙ drop-drop (k - before.nodes) before.nodes words ∙ ap (λ (n : ℕ). drop n words) rest

-- ---- some addresses, one after the other

module _ (ys : List ℕ) (a nodes : ℕ) (words mid after : List ℕ) (before answer : Recovered) (z : before.refusal ≡ 0)
    (f : Follows (follow (known (take nodes words)) ys) nodes words mid before)
    (g : Follows (taken (take before.nodes mid) a) before.nodes mid after answer) where
  one : Follows (next (follow (known (take nodes words)) ys) a) nodes words after answer
  one = follows_next _ a nodes words mid after before answer f z g

  -- one address more
  pub follows-turn : Follows (follow (known (take nodes words)) (ys ++ (a ∷ []))) nodes words after answer
  unfolding follow
  follows-turn = rw (follow-append (known (take nodes words)) ys (a ∷ [])) one

  -- a fault at this address
  pub follows-stop : (xs rest : List ℕ) → xs ≡ ys ++ (a ∷ rest) → (answer.refusal ≡ 0 → ⊥)
      → Follows (follow (known (take nodes words)) xs) nodes words after answer
  follows-stop xs rest e ne = record {
    same = one.same;
    forth = one.forth;
    within = one.within;
    kept = one.kept;
    shows = stops answer.refusal ne one.shows;
  }
    where
      stops : (k : ℕ) → (k ≡ 0 → ⊥) → next (follow (known (take nodes words)) ys) a ≡ shown k (take answer.nodes after)
          → follow (known (take nodes words)) xs ≡ shown k (take answer.nodes after)
      stops zero some h = absurd (some refl)
      stops (suc k) some h = unfold shown in (ap (follow (known (take nodes words))) e ∙ follow-stops (known (take nodes words)) ys a rest (suc k) h)

-- ---- the addresses that an iterator gives

pub runs : {S A B : Type 0} {steps : S → Option A → S → Type 0} {v : A → B} {s : S} {ys : List B} → YieldsList steps v s ys → AlwaysYields steps v s ys
runs road = road.runs

module _ {S : Type 0} (steps : S → Option ℕ → S → Type 0) (s : S) (xs : List ℕ) (road : AlwaysYields steps (λ x. x) s xs) (ys : List ℕ) (t u : S)
    (y : Yields steps s ys t) where
  list : YieldsList steps (λ x. x) s xs
  list = record { runs = road }

  so_far : ys ≡ take (length ys) xs
  so_far = sym (map-id ys) ∙ YieldsList-so_far list ys t y

  -- those to come begin with this one
  pub ahead : (a : ℕ) → steps t (Some a) u → xs ≡ ys ++ (a ∷ drop (suc (length ys)) xs)
  ahead a e =
      let (within, here) = YieldsList-turn list ys t y (Some a) u a refl e in
      sym (take-append-drop (length ys) xs)
      ∙ ap₂ (λ (l r : List ℕ). l ++ r) (sym so_far)
      (drop-cons xs (length ys) a within ∙ ap (λ (x : ℕ). x ∷ drop (suc (length ys)) xs) (sym here))

  -- none is to come
  pub no_more : steps t None u → ys ≡ xs
  no_more e = sym (map-id ys) ∙ (YieldsList-end list ys t y None u refl e).0

pub follows_same : {r s : Replay} (nodes : ℕ) (words after : List ℕ) (answer : Recovered) → r ≡ s → Follows s nodes words after answer
    → Follows r nodes words after answer
follows_same nodes words after answer e f = rw e f
