-- What the functions of this crate promise, by their contracts as the code states them, is `reader_at`, `reading` and `recovering`: the definitions of
-- which the theorem is proved. None of them asks anything of its caller. The clauses of the functions over the reader are quoted.
use mathlib.Core.Path.{◌≡◌, refl}
use mathlib.Core.List.{List}
use Prim.Native.Nat.{ℕ}
use seplogic.Ra.Ura.{Ura}
use base.Logic.{SProp, emp}
use prog.Memory.{Memory}
use prog.Routine.{Routine}
use types.Logic.{Logic}
use contract.Lifetimes.{Lfts}
use contract.Monad.{Fun, fact}
use Rattle.std.specs.Borrow.{Bor, MutBor}
use denote.Triple.Clauses.{AtExit}
use Rattle.std.specs.Prelude.{Result}
use Rattle.refusal.specs.declared.Refusal.{Refusal}
use Rattle.journal.specs.Recovery.{recovered_answer, recovering}
use Rattle.reader.specs.declared.Taken.{Taken as TakenOfCode}
use Rattle.reader.specs.Reader.{Reader, taken_answer, reader_at}
use Rattle.reader.specs.SameAnswers.{reading}
use Rattle.reader.specs.contracts.Reader.start as start
use Rattle.reader.specs.contracts.Reader.next as next
use Rattle.reader.specs.contracts.Reader.place as place
use Rattle.reader.proofs.recover.Reads as recover-reads

-- a lent slice, and one that is lent to be written
abbrev Slice : Type 0
Slice = Bor (List ℕ)

abbrev MutSlice : Type 0
MutSlice = MutBor (List ℕ)

module _ {M : Type 1} {𝓤 : Ura M} (𝓛 : Logic 𝓤) (mem : Memory → SProp 𝓤) (run : Routine → Fun 𝓤) where
  pub start_promise : (κs : Lfts 1) (journal : Slice) (r : Reader) (end : AtExit start.ended κs)
      → (start.clauses 𝓛 mem run κs (journal, tt)).ensures tt r end ≡ fact 𝓤 (r ≡ reader_at journal 0)
  start_promise κs journal r end = refl

  pub start-asks-nothing : (κs : Lfts 1) (journal : Slice) → (start.clauses 𝓛 mem run κs (journal, tt)).requires tt ≡ emp 𝓤
  start-asks-nothing κs journal = refl

  module _ (κs : Lfts 2) (reader : Reader) (words : MutSlice) (written nodes : ℕ) where
    pub next_promise : (r : TakenOfCode) (end : AtExit next.ended κs)
        → (next.clauses 𝓛 mem run κs (reader, (words, (written, (nodes, tt))))).ensures tt r end
        ≡ fact 𝓤 ((taken_answer r ≡ (reading reader written nodes words.now).taken) × (end.1.0.now ≡ (reading reader written nodes words.now).words))
    next_promise r end = refl

    pub next-asks-nothing : (next.clauses 𝓛 mem run κs (reader, (words, (written, (nodes, tt))))).requires tt ≡ emp 𝓤
    next-asks-nothing = refl

  pub place_promise : (κs : Lfts 1) (reader : Reader) (n : ℕ) (end : AtExit place.ended κs)
      → (place.clauses 𝓛 mem run κs (reader, tt)).ensures tt n end ≡ fact 𝓤 (n ≡ reader.slot)
  place_promise κs reader n end = refl

  pub place-asks-nothing : (κs : Lfts 1) (reader : Reader) → (place.clauses 𝓛 mem run κs (reader, tt)).requires tt ≡ emp 𝓤
  place-asks-nothing κs reader = refl

module _ (κs : Lfts 2) (journal : Slice) (words : MutSlice) where
  pub recover_promise : (last : MutSlice) (r : Result ℕ Refusal) → recover-reads.Learnt κs (journal, (words, tt)) r (journal, (last, tt))
      → (recovered_answer r ≡ (recovering journal.now words.now).answer) × (last.now ≡ (recovering journal.now words.now).words)
  recover_promise last r h = h

  pub recover-asks-nothing : recover-reads.Asked κs (journal, (words, tt))
  recover-asks-nothing = tt
