-- One slot taken, exit by exit. Assumes nothing.
use Prim.Native.Nat.{ℕ, zero, suc, ◌+◌, ◌≤◌, ◌<◌}
use mathlib.Core.Path.{◌≡◌, refl, sym, ap, ap₂, ◌∙◌}
use mathlib.Core.Bool.{true, false}
use mathlib.Core.List.{List, ◌++◌}
use native.Mathlib.Omega.{arith}
use borrow.Author.Tests.{lt-leb, le-ltb}
use lib.Dec.{leb, ltb}
use lib.ListN.{length, take, drop, replicate, take-append-drop}
use lib.Seq.{length-take-le}
use Rattle.journal.specs.Limits.{most_nodes}
use Rattle.journal.specs.Replay.{Replay, known}
use Rattle.journal.specs.Slots.{slot_count, is_erased, not_erased, slot_taken}
use Rattle.journal.specs.Recovery.{Recovered}
use Rattle.journal.specs.Follows.{shown, Follows}
use Rattle.journal.specs.Reader.{Progress, State, stops, slot_at, written_after, moved, took, step}

-- what the code answers and leaves is what the state says
pub step_says : {p : Progress} {ws : List ℕ} (s : State) → s ≡ record { progress = p; words = ws } → (p ≡ s.progress) × (ws ≡ s.words)
step_says s e = (ap (λ (t : State). t.progress) (sym e), ap (λ (t : State). t.words) (sym e))

module _ (journal : List ℕ) (slot written nodes : ℕ) (words : List ℕ) where
  module _ (within : slot < slot_count journal) (room : most_nodes ≤ length words) (few : nodes ≤ most_nodes) where
    -- ---- a slot is taken

    pub step-took : step journal slot written nodes words ≡ took journal slot written nodes words
    unfolding step stops
    step-took = rw (lt-leb (slot_count journal) slot within, le-ltb (length words) most_nodes room, le-ltb most_nodes nodes few) refl

    fits : length (take nodes words) ≡ nodes
    fits = length-take-le nodes words (omega (arith, few, room))

    took_by : (r : Replay) (bytes : List ℕ) → bytes ≡ slot_at journal slot → slot_taken (ltb written slot) (known (take nodes words)) bytes ≡ r
        → step journal slot written nodes words
        ≡ moved r (leb (slot_count journal) (slot + 1)) (slot + 1) (written_after slot written bytes) words
    unfolding took
    took_by r bytes same e =
        step-took
        ∙ ap₂ (λ (s : Replay) (b : List ℕ). moved s (leb (slot_count journal) (slot + 1)) (slot + 1) (written_after slot written b) words)
        (ap (slot_taken (ltb written slot) (known (take nodes words))) (sym same) ∙ e) (sym same)

    written-erased : (bytes : List ℕ) → is_erased bytes ≡ true → written_after slot written bytes ≡ written
    unfolding written_after
    written-erased bytes e = rw e refl

    written_other : (bytes : List ℕ) → is_erased bytes ≡ false → written_after slot written bytes ≡ slot + 1
    unfolding written_after
    written_other bytes e = rw e refl

    pub step-erased : (bytes : List ℕ) → bytes ≡ slot_at journal slot → is_erased bytes ≡ true
        → step journal slot written nodes words ≡ record {
          progress = record { slot = slot + 1; written = written; nodes = nodes; refusal = 0; done = leb (slot_count journal) (slot + 1) };
          words = words;
        }
    unfolding moved
    step-erased bytes same e =
        took_by (known (take nodes words)) bytes same (unfold slot_taken in rw e refl)
        ∙ ap (λ (w : ℕ). moved (known (take nodes words)) (leb (slot_count journal) (slot + 1)) (slot + 1) w words) (written-erased bytes e)
        ∙ ap (λ (k : ℕ). record {
          progress = record { slot = slot + 1; written = written; nodes = k; refusal = 0; done = leb (slot_count journal) (slot + 1) };
          words = take nodes words ++ drop k words;
        }) fits
        ∙ ap (λ (ws : List ℕ). record {
          progress = record { slot = slot + 1; written = written; nodes = nodes; refusal = 0; done = leb (slot_count journal) (slot + 1) };
          words = ws;
        }) (take-append-drop nodes words)

    module _ (bytes after : List ℕ) (answer : Recovered) (same : bytes ≡ slot_at journal slot) (some : is_erased bytes ≡ false)
        (f : Follows (not_erased (ltb written slot) (known (take nodes words)) bytes) nodes words after answer) where
      taken_by : slot_taken (ltb written slot) (known (take nodes words)) bytes ≡ shown answer.refusal (take answer.nodes after)
      unfolding slot_taken
      taken_by = rw some f.shows

      pub step-fault : (answer.refusal ≡ 0 → ⊥) → step journal slot written nodes words ≡ record {
        progress = record { slot = slot + 1; written = 0; nodes = 0; refusal = answer.refusal; done = true };
        words = replicate (length words) 0;
      }
      step-fault ne = took_by _ bytes same taken_by ∙ go answer.refusal ne
        where
          go : (n : ℕ) → (n ≡ 0 → ⊥)
              → moved (shown n (take answer.nodes after)) (leb (slot_count journal) (slot + 1)) (slot + 1) (written_after slot written bytes) words
              ≡ record { progress = record { slot = slot + 1; written = 0; nodes = 0; refusal = n; done = true }; words = replicate (length words) 0 }
          go zero z = absurd (z refl)
          go (suc n) z = unfold moved shown in refl

      pub step-known : answer.refusal ≡ 0 → step journal slot written nodes words ≡ record {
        progress = record { slot = slot + 1; written = slot + 1; nodes = answer.nodes; refusal = 0; done = leb (slot_count journal) (slot + 1) };
        words = after;
      }
      unfolding moved shown
      step-known z =
          took_by (known (take answer.nodes after)) bytes same (taken_by ∙ ap (λ (n : ℕ). shown n (take answer.nodes after)) z)
          ∙ ap (λ (w : ℕ). moved (known (take answer.nodes after)) (leb (slot_count journal) (slot + 1)) (slot + 1) w words) (written_other bytes some)
          ∙ ap (λ (k : ℕ). record {
            progress = record { slot = slot + 1; written = slot + 1; nodes = k; refusal = 0; done = leb (slot_count journal) (slot + 1) };
            words = take answer.nodes after ++ drop k words;
          }) (length-take-le answer.nodes after (omega (arith, f.same, f.within, room)))
          ∙ ap (λ (ws : List ℕ). record {
            progress = record { slot = slot + 1; written = slot + 1; nodes = answer.nodes; refusal = 0; done = leb (slot_count journal) (slot + 1) };
            words = take answer.nodes after ++ ws;
          }) (sym (f.kept z))
          ∙ ap (λ (ws : List ℕ). record {
            progress = record { slot = slot + 1; written = slot + 1; nodes = answer.nodes; refusal = 0; done = leb (slot_count journal) (slot + 1) };
            words = ws;
          }) (take-append-drop answer.nodes after)
