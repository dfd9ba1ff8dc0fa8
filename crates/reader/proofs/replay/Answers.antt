-- `reader::replay` meets its contract: before each turn the reader holds the journal at the place that the progress names, and the state is one on
-- the way; what the reader answers is that state a slot further. Assumes nothing.
use Rattle.std.proofs.Common.{◌≡◌, ℕ, List, sym, ap, ap₂, ◌∙◌, arith}
use borrow.Author.Tests.{not-true, not-false}
use Rattle.journal.specs.Reader.{Progress, progress_answer, State, step}
use Rattle.journal.proofs.RunLaws.{stepped, turning-turn, turning-falls, turning-end}
use Rattle.reader.specs.Reader.{Reader, Taken, taken_answer, taken_at, words_at}
use Rattle.reader.proofs.replay.Goals as goal

-- what a reader answers that has come to a state: the journal still, the place of the next slot, and the state a slot further
turned : (journal : List ℕ) (r : Reader) (s : State) (t : Taken) (words : List ℕ) → r.journal.now ≡ journal → r.slot ≡ s.progress.slot
    → t ≡ taken_at r s.progress.written s.progress.nodes s.words
    → words ≡ words_at r s.progress.written s.progress.nodes s.words
    → (t.reader.journal.now ≡ journal) × (t.reader.slot ≡ t.progress.slot) × (stepped journal s ≡ record { progress = t.progress; words = words })
turned journal r s t words e f g h =
    let same : step r.journal.now r.slot s.progress.written s.progress.nodes s.words ≡ stepped journal s =
    ap₂ (λ (j : List ℕ) (k : ℕ). step j k s.progress.written s.progress.nodes s.words) e f in
    let taken = ap (λ (x : Taken). x.progress) g in (
      ap (λ (x : Taken). x.reader.journal.now) g ∙ e,
      ap (λ (x : Taken). x.reader.slot) g ∙ sym (ap (λ (p : Progress). p.slot) taken),
      sym (ap₂ (λ (p : Progress) (ws : List ℕ). record { progress = p; words = ws }) taken h ∙ same),
    )

pub loop-at-smaller : goal.loop-at-smaller
loop-at-smaller c =
    let journal = c.args.journal.now in
    let loop = c.loop-at in
    let state : State = record { progress = progress_answer loop.at; words = loop.words } in
    let next = turned journal loop.reader state (taken_answer c.next-taken.result) c.next-taken.new.words loop.invariant.0 loop.invariant.1
    c.next-taken.ensures.0 c.next-taken.ensures.1 in
    let falls = turning-falls journal c.args.words.now c.requires.1 state loop.invariant.2 (not-true _ c.loop-at-test.true) in
    omega (arith, falls, ap (λ (s : State). s.progress.slot) next.2)

pub loop-at-preserved : goal.loop-at-preserved
loop-at-preserved c =
    let journal = c.args.journal.now in
    let loop = c.loop-at in
    let state : State = record { progress = progress_answer loop.at; words = loop.words } in
    let next = turned journal loop.reader state (taken_answer c.next-taken.result) c.next-taken.new.words loop.invariant.0 loop.invariant.1
    c.next-taken.ensures.0 c.next-taken.ensures.1 in
    let turn = turning-turn journal c.args.words.now c.requires.1 state loop.invariant.2 (not-true _ c.loop-at-test.true) in
    (next.0, next.1, rw next.2 at turn)

pub returns : goal.returns
returns c =
    let loop = c.loop-at in
    let e = turning-end c.args.journal.now c.args.words.now (record { progress = progress_answer loop.at; words = loop.words }) loop.invariant.2
    (not-false _ c.loop-at-test.false) in
    (ap (λ (s : State). s.progress) e, ap (λ (s : State). s.words) e)
