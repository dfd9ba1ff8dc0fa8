-- Recovery, exit by exit. Assumes nothing.
use Rattle.std.specs.Prelude.{if◌then◌else◌, Option, Some, None, IfSome}
use Prim.Native.Nat.{ℕ, zero, suc, min, ◌*◌, ◌-◌, ◌/◌, ◌%◌, ◌≤◌, ◌<◌}
use mathlib.Core.Path.{◌≡◌, refl, sym, ap, ap₂, ◌∙◌}
use mathlib.Core.Bool.{Bool, true, false, not, ◌&&◌}
use mathlib.Core.List.{List, [], ◌++◌, append-nil}
use native.Mathlib.Omega.{arith}
use borrow.Author.Tests.{eq-eqb, ne_eqb, eqb-true, eqb-false, le-ltb, ltb-false, leb-true}
use lib.Dec.{eqb, leb, ltb}
use borrow.Rule.Slice.PartMut.{put_mid}
use lib.ListN.{length, take, drop, replicate, length-take, length-drop, drop_of_length-le}
use lib.Seq.{length-take-le}
use Rattle.std.proofs.lemmas.List.{take_min}
use Rattle.refusal.specs.declared.Refusal.{Refusal}
use Rattle.refusal.specs.Refusal.{number_of}
use Rattle.refusal.proofs.Numbers.{some}
use Rattle.block.specs.Block.{slot_bytes}
use Rattle.journal.specs.Limits.{most_slots, most_nodes}
use Rattle.journal.specs.Replay.{Replay}
use Rattle.journal.specs.Slots.{slot_count, replayed}
use Rattle.journal.specs.Recovery.{Recovered, is_length, unfit, RecoverEffect, refuse_recovery, restored, recovering}
use Rattle.journal.specs.Follows.{shown}
use Rattle.journal.specs.Reader.{Progress, State, run, begin, finished}
use Rattle.journal.proofs.EndLaws.{Ends, ends_so}

-- a journal of the right length has a slot
pub is_length-some : (bytes : ℕ) → is_length bytes ≡ true → 0 < bytes / slot_bytes
unfolding is_length
is_length-some bytes e = omega (arith, leb-true slot_bytes bytes (both (eqb (bytes % slot_bytes) 0) (leb slot_bytes bytes) (leb bytes (most_slots * slot_bytes)) e))
  where
    both : (a b c : Bool) → (a && b && c) ≡ true → b ≡ true
    both true true c h = refl
    both true false c h = h
    both false b c h = absurd (let z : ◌≡◌ {A = ℕ} 0 1 = cc in omega arith)

-- what the code answers and leaves is what the effect says
pub recovery_says : {r : Recovered} {ws : List ℕ} (e : RecoverEffect) → e ≡ record { answer = r; words = ws } → (r ≡ e.answer) × (ws ≡ e.words)
recovery_says e h = (ap (λ (x : RecoverEffect). x.answer) (sym h), ap (λ (x : RecoverEffect). x.words) (sym h))

pub finished-fault : (end : Progress) (words : List ℕ) → (end.refusal ≡ 0 → ⊥) → finished end words ≡ refuse_recovery end.refusal words
unfolding finished
finished-fault end words ne = rw (ne_eqb end.refusal 0 ne) refl

pub finished-known : (end : Progress) (words : List ℕ) → end.refusal ≡ 0 → finished end words ≡ record {
  answer = record { refusal = 0; nodes = end.nodes };
  words = take end.nodes words ++ replicate (length words - end.nodes) 0;
}
unfolding finished
finished-known end words z = rw (eq-eqb end.refusal 0 z) refl

-- the words from a place on are filled with zeros, where there are any
pub cleared : (words part : List ℕ) (nodes from : ℕ) → from ≡ min nodes (length words)
    → part ≡ replicate (length (take (length words - from) (drop from words))) 0
    → put_mid from (length words - from) words part ≡ take nodes words ++ replicate (length words - nodes) 0
cleared words part nodes from e f =
    let none : drop (length words - from) (drop from words) ≡ [] = drop_of_length-le (drop from words) (omega (arith, length-drop from words)) in
    let many : length (take (length words - from) (drop from words)) ≡ length words - nodes =
    omega (arith, e, length-take (length words - from) (drop from words), length-drop from words) in
    ap₂ (λ (k : ℕ) (l : List ℕ). take k words ++ (part ++ l)) e none
    ∙ ap₂ (λ (l r : List ℕ). l ++ r) (take_min nodes words) (append-nil part ∙ f ∙ ap (λ (k : ℕ). replicate k 0) many)

-- so many bytes and words are right
pub unfit-none : (bytes words : ℕ) → unfit bytes words ≡ 0 → (is_length bytes ≡ true) × (most_nodes ≤ words)
unfolding unfit
unfit-none bytes words e = go (is_length bytes) (ltb words most_nodes) refl refl e
  where
    go : (right few : Bool) → is_length bytes ≡ right → ltb words most_nodes ≡ few → ◌≡◌ {A = ℕ} (if not right then 12 else if few then 10 else 0) 0
        → (is_length bytes ≡ true) × (most_nodes ≤ words)
    go true true r f z = absurd (omega (arith, z))
    go true false r f z = (r, ltb-false words most_nodes f)
    go false few r f z = absurd (omega (arith, z))

module _ (journal words : List ℕ) where
  pub recovering-unfit : (unfit (length journal) (length words) ≡ 0 → ⊥)
      → recovering journal words ≡ refuse_recovery (unfit (length journal) (length words)) words
  unfolding recovering unfit
  recovering-unfit ne = go (is_length (length journal)) (ltb (length words) most_nodes) ne
    where
      go : (right few : Bool) → (◌≡◌ {A = ℕ} (if not right then 12 else if few then 10 else 0) 0 → ⊥)
          → (if not right then refuse_recovery 12 words else if few then refuse_recovery 10 words else restored (replayed journal) words)
          ≡ refuse_recovery (if not right then 12 else if few then 10 else 0) words
      go true true z = refl
      go true false z = absurd (z refl)
      go false few z = refl

  module _ (right : is_length (length journal) ≡ true) where
    recovering-restored : most_nodes ≤ length words → recovering journal words ≡ restored (replayed journal) words
    unfolding recovering
    recovering-restored h = rw (right, le-ltb (length words) most_nodes h) refl

    module _ (room : most_nodes ≤ length words) (written : ℕ) (s : State) (end : Ends words (replayed journal) written s) where
      shows : recovering journal words ≡ restored (shown s.progress.refusal (take s.progress.nodes s.words)) words
      shows = recovering-restored room ∙ ap (λ (r : Replay). restored r words) end.shows

      recovering-fault : (s.progress.refusal ≡ 0 → ⊥) → recovering journal words ≡ refuse_recovery s.progress.refusal s.words
      recovering-fault ne = shows ∙ go s.progress.refusal ne ∙ ap (refuse_recovery s.progress.refusal) (sym (end.zeros ne))
        where
          go : (n : ℕ) → (n ≡ 0 → ⊥) → restored (shown n (take s.progress.nodes s.words)) words ≡ refuse_recovery n (replicate (length words) 0)
          go zero z = absurd (z refl)
          go (suc n) z = unfold restored shown in refl

      recovering-known : s.progress.refusal ≡ 0 → recovering journal words ≡ record {
        answer = record { refusal = 0; nodes = s.progress.nodes };
        words = take s.progress.nodes s.words ++ replicate (length s.words - s.progress.nodes) 0;
      }
      unfolding restored shown
      recovering-known z =
          shows
          ∙ ap (λ (n : ℕ). restored (shown n (take s.progress.nodes s.words)) words) z
          ∙ ap₂ (λ (k l : ℕ). record {
            answer = record { refusal = 0; nodes = k };
            words = take s.progress.nodes s.words ++ replicate (l - k) 0;
          }) (length-take-le s.progress.nodes s.words (omega (arith, end.few, end.same, room))) (sym end.same)

      recovering-finished : recovering journal words ≡ finished s.progress s.words
      recovering-finished = go (eqb s.progress.refusal 0) refl
        where
          go : (b : Bool) → eqb s.progress.refusal 0 ≡ b → recovering journal words ≡ finished s.progress s.words
          go true e = let z = eqb-true s.progress.refusal 0 e in recovering-known z ∙ sym (finished-known s.progress s.words z)
          go false e = let ne = eqb-false s.progress.refusal 0 e in recovering-fault ne ∙ sym (finished-fault s.progress s.words ne)

  -- where nothing is wrong, the end of the run over the slots decides
  pub recovering-run : unfit (length journal) (length words) ≡ 0 → (at : Progress) (ws : List ℕ)
      → (at ≡ (run (slot_count journal) journal (begin words)).progress) × (ws ≡ (run (slot_count journal) journal (begin words)).words)
      → recovering journal words ≡ finished at ws
  recovering-run fit at ws e =
      let (right, room) = unfit-none (length journal) (length words) fit in
      let some = is_length-some (length journal) right in
      recovering-finished right room _ (record { progress = at; words = ws }) (ends_so journal words room some at ws e)

-- a fault that is a refusal has a number, not 0
pub fault-numbered : (o : Option Refusal) → IfSome o (λ r. number_of r ≡ 0 → ⊥)
fault-numbered None = tt
fault-numbered (Some r) = some r
