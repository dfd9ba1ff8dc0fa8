-- What the writer answers, exit by exit. Assumes nothing.
use Prim.Native.Nat.{ℕ, zero, suc, ◌≤◌, ◌<◌}
use mathlib.Core.Path.{◌≡◌, refl, sym, ap, ◌∙◌}
use mathlib.Core.Bool.{true}
use mathlib.Core.List.{List}
use borrow.Author.Tests.{le-leb, lt-leb}
use lib.ListN.{length, take}
use Rattle.block.specs.Block.{is_count}
use Rattle.journal.specs.Replay.{Replay, known, fault, follow}
use Rattle.journal.specs.Slots.{slot_count, slots_of, replayed, written_slots}
use Rattle.journal.specs.Recovery.{Recovered, is_length}
use Rattle.journal.specs.Follows.{shown, Follows}
use Rattle.journal.specs.Reader.{State}
use Rattle.journal.specs.Writing.{refuse_placing, placing, judged, judging}
use Rattle.journal.proofs.ReplayLaws.{follow-fault}
use Rattle.journal.proofs.EndLaws.{Ends}

-- a number that is none of 0 shows a fault
shown-fault : (n : ℕ) (xs : List ℕ) → (n ≡ 0 → ⊥) → shown n xs ≡ fault n
unfolding shown
shown-fault zero xs z = absurd (z refl)
shown-fault (suc n) xs z = refl

shown-known : (n : ℕ) (xs : List ℕ) → n ≡ 0 → shown n xs ≡ known xs
unfolding shown
shown-known n xs z = rw z refl

module _ (journal addresses : List ℕ) where
  module _ (right : is_length (length journal) ≡ true) where
    module _ (count : is_count (length addresses) ≡ true) where
      judging_by : (r : Replay) → follow (replayed journal) addresses ≡ r
          → judging journal addresses ≡ judged r (slot_count journal) (written_slots (slots_of journal))
      unfolding judging
      judging_by r e = rw (right, count) (ap (λ (q : Replay). judged q (slot_count journal) (written_slots (slots_of journal))) e)

      module _ (words : List ℕ) (s : State) (end : Ends words (replayed journal) (written_slots (slots_of journal)) s) where
        pub judging-fault : (s.progress.refusal ≡ 0 → ⊥) → judging journal addresses ≡ refuse_placing s.progress.refusal
        unfolding judged
        judging-fault ne =
            judging_by (fault s.progress.refusal)
            (ap (λ (r : Replay). follow r addresses) (end.shows ∙ shown-fault s.progress.refusal _ ne)
            ∙ follow-fault s.progress.refusal addresses)

        module _ (whole : s.progress.refusal ≡ 0) (nodes : ℕ) (after : List ℕ) (answer : Recovered)
            (f : Follows (follow (known (take s.progress.nodes s.words)) addresses) nodes s.words after answer) where
          followed : follow (replayed journal) addresses ≡ shown answer.refusal (take answer.nodes after)
          followed = ap (λ (r : Replay). follow r addresses) (end.shows ∙ shown-known s.progress.refusal _ whole) ∙ f.shows

          pub judging-addresses : (answer.refusal ≡ 0 → ⊥) → judging journal addresses ≡ refuse_placing answer.refusal
          unfolding judged
          judging-addresses ne = judging_by (fault answer.refusal) (followed ∙ shown-fault answer.refusal _ ne)

          judging-placing : answer.refusal ≡ 0 → judging journal addresses ≡ placing (slot_count journal) s.progress.written
          unfolding judged
          judging-placing z =
              judging_by (known (take answer.nodes after)) (followed ∙ shown-known answer.refusal _ z)
              ∙ ap (placing (slot_count journal)) (sym (end.counted whole))

          pub judging-full : answer.refusal ≡ 0 → slot_count journal ≤ s.progress.written → judging journal addresses ≡ refuse_placing 10
          unfolding placing
          judging-full z h = judging-placing z ∙ rw (le-leb (slot_count journal) s.progress.written h) refl

          pub judging-placed : answer.refusal ≡ 0 → s.progress.written < slot_count journal
              → judging journal addresses ≡ record { refusal = 0; slot = s.progress.written }
          unfolding placing
          judging-placed z h = judging-placing z ∙ rw (lt-leb (slot_count journal) s.progress.written h) refl
