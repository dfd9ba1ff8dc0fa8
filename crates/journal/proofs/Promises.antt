-- What the public functions promise, by their contracts as the code states them, is `recovering`, `writing` and `record_in`, and inside
-- recovery `unfit`, `step` and `finished`. None of them asks anything of its caller.
use Rattle.std.proofs.Common.{refl, sym, ap, ◌∙◌}
use Rattle.std.proofs.lemmas.Bool.{false≢true}
use Rattle.refusal.proofs.Numbers.{some, one}
use Rattle.refusal.proofs.Outcomes.{one-answer}
use mathlib.Core.Path.{◌≡◌, ap₂}
use mathlib.Core.List.{List, not-mem-nil}
use Prim.Native.Nat.{ℕ}
use contract.Lifetimes.{Lfts}
use Rattle.std.specs.Borrow.{Bor, MutBor}
use Rattle.address.specs.declared.Address.{Address}
use Rattle.std.specs.Prelude.{Result, Option, Some, None, Bool, IfSome}
use mir.Syntax.{Dict}
use Rattle.std.specs.declared.clone.Clone.{Ghosts}
use Rattle.refusal.specs.declared.Refusal.{Refusal}
use Rattle.refusal.specs.Refusal.{number_of}
use Rattle.refusal.specs.contracts.Refusal.{the_row}
use Rattle.refusal.proofs.Refusal.TheLaws.{the_row_laws, the_row_copy}
use Rattle.node.specs.declared.Node.{Node}
use Rattle.journal.specs.declared.Progress.{Progress as ProgressOfCode}
use Rattle.refusal.specs.Outcome.{outcome_number}
use Rattle.journal.specs.Recovery.{Recovered, recovered_by, recovered_answer, unfit, recovering}
use Rattle.journal.specs.Reader.{Progress, progress_by, fault_answer, progress_answer, step, finished}
use Rattle.journal.specs.AnyFault.{AnyFault}
use Rattle.journal.specs.Writing.{Placed, placed_answer, writing}
use Rattle.journal.specs.Record.{Record, record_answer, record_in}
use Rattle.journal.proofs.RecoverLaws.{fault-numbered}
use Rattle.journal.proofs.recover.Reads as recover-reads
use Rattle.journal.proofs.unfit.Reads as unfit-reads
use Rattle.journal.proofs.take_slot.Reads as take-slot-reads
use Rattle.journal.proofs.finish.Reads as finish-reads
use Rattle.journal.proofs.write.Reads as write-reads
use Rattle.journal.proofs.record_in.Reads as record-in-reads

pub recover_promise : (κs : Lfts 2) (journal : Bor (List ℕ)) (words last : MutBor (List ℕ)) (r : Result ℕ Refusal)
    → recover-reads.Learnt κs (journal, (words, tt)) r (journal, (last, tt))
    → record { answer = recovered_answer r; words = last.now } ≡ recovering journal.now words.now
recover_promise κs journal words last r h = ap₂ (λ (p : Recovered) (w : List ℕ). record { answer = p; words = w }) h.0 h.1

pub recover-asks-nothing : (κs : Lfts 2) (journal : Bor (List ℕ)) (words : MutBor (List ℕ)) → recover-reads.Asked κs (journal, (words, tt))
recover-asks-nothing κs journal words = tt

pub write_promise : (κs : Lfts 2) (journal : MutBor (List ℕ)) (addresses : Bor (List ℕ)) (last : MutBor (List ℕ)) (r : Result ℕ Refusal)
    → write-reads.Learnt κs (journal, (addresses, tt)) r (last, (addresses, tt))
    → record { answer = placed_answer r; journal = last.now } ≡ writing journal.now addresses.now
write_promise κs journal addresses last r h = ap₂ (λ (p : Placed) (j : List ℕ). record { answer = p; journal = j }) h.0 h.1

pub write-asks-nothing : (κs : Lfts 2) (journal : MutBor (List ℕ)) (addresses : Bor (List ℕ)) → write-reads.Asked κs (journal, (addresses, tt))
write-asks-nothing κs journal addresses = tt

pub record_in_promise : (κs : Lfts 1) (words : Bor (List ℕ)) (address : Address) (r : Option Node)
    → record-in-reads.Learnt κs (words, (address, tt)) r (words, (address, tt)) → record_answer r ≡ record_in words.now address.number
record_in_promise κs words address r h = h

pub record_in_asks-nothing : (κs : Lfts 1) (words : Bor (List ℕ)) (address : Address) → record-in-reads.Asked κs (words, (address, tt))
record_in_asks-nothing κs words address = tt

-- ---- the parts of recovery

pub unfit_promise : (bytes words : ℕ) (r : Result (Unit {0}) Refusal) → unfit-reads.Learnt tt (bytes, (words, tt)) r (bytes, (words, tt)) → outcome_number r ≡ unfit bytes words
unfit_promise bytes words r h = h

pub unfit-asks-nothing : (bytes words : ℕ) → unfit-reads.Asked tt (bytes, (words, tt))
unfit-asks-nothing bytes words = tt

pub take-slot_promise : (κs : Lfts 2) (journal : Bor (List ℕ)) (slot : ℕ) (words last : MutBor (List ℕ)) (written nodes : ℕ) (r : ProgressOfCode Refusal)
    → take-slot-reads.Learnt κs (journal, (slot, (words, (written, (nodes, tt))))) r (journal, (slot, (last, (written, (nodes, tt)))))
    → (progress_answer r ≡ (step journal.now slot written nodes words.now).progress) × (last.now ≡ (step journal.now slot written nodes words.now).words)
take-slot_promise κs journal slot words last written nodes r h = h

pub take-slot-asks-nothing : (κs : Lfts 2) (journal : Bor (List ℕ)) (slot : ℕ) (words : MutBor (List ℕ)) (written nodes : ℕ)
    → take-slot-reads.Asked κs (journal, (slot, (words, (written, (nodes, tt)))))
take-slot-asks-nothing κs journal slot words written nodes = tt

-- of whatever says which fault it is, by whatever numbers, but that the fault there has not 0, which says that there is none
module _ (F : AnyFault) (end : ProgressOfCode F.type_of.Denot) (words : MutBor (List ℕ)) where
  pub finish-any_promise : (κs : Lfts 2) (last : MutBor (List ℕ)) (r : Result ℕ F.type_of.Denot)
      → finish-reads.Learnt F.type_of F.laws F.copied F.cloned F.dict κs (end, (words, tt)) r (end, (last, tt))
      → (number : F.type_of.Denot → ℕ) → IfSome end.refusal (λ x. number x ≡ 0 → ⊥)
      → (recovered_by number r ≡ (finished (progress_by number end) words.now).answer) × (last.now ≡ (finished (progress_by number end) words.now).words)
  finish-any_promise κs last r h = h

  -- what the type borrows, if anything, lives as long as it does
  pub finish-any-asks-nothing : (κ : List ℕ) → finish-reads.Asked F.type_of F.laws F.copied F.cloned F.dict (κ, (F.type_of.lives, tt)) (end, (words, tt))
  finish-any-asks-nothing κ = λ a h. h

-- a refusal as what says which fault it is, however it is copied
abbrev pub of_refusals : Ghosts Refusal → Dict → AnyFault
of_refusals G D = record { type_of = the_row; laws = the_row_laws; copied = the_row_copy; cloned = G; dict = D }

-- of a refusal, by the papers' numbers
module _ (G : Ghosts Refusal) (D : Dict) (κs : Lfts 2) (end : ProgressOfCode Refusal) (words : MutBor (List ℕ)) where
  pub finish_promise : (last : MutBor (List ℕ)) (r : Result ℕ Refusal)
      → finish-reads.Learnt the_row the_row_laws the_row_copy G D κs (end, (words, tt)) r (end, (last, tt))
      → (recovered_answer r ≡ (finished (progress_answer end) words.now).answer) × (last.now ≡ (finished (progress_answer end) words.now).words)
  finish_promise last r h = finish-any_promise (of_refusals G D) end words κs last r h number_of (fault-numbered end.refusal)

  -- at any lifetimes, since a refusal borrows nothing
  pub finish-asks-nothing : finish-reads.Asked the_row the_row_laws the_row_copy G D κs (end, (words, tt))
  finish-asks-nothing = λ a none. absurd (not-mem-nil none)

-- the numbers leave one answer

pub one-recovered : (r s : Result ℕ Refusal) → recovered_answer r ≡ recovered_answer s → r ≡ s
one-recovered = one-answer recovered_answer (λ x. x.refusal) (λ x. x.nodes) (λ k. refl) (λ k. refl) (λ x. refl)

pub one-placed : (r s : Result ℕ Refusal) → placed_answer r ≡ placed_answer s → r ≡ s
one-placed = one-answer placed_answer (λ x. x.refusal) (λ x. x.slot) (λ k. refl) (λ k. refl) (λ x. refl)

pub one-found : (r s : Option Node) → record_answer r ≡ record_answer s → r ≡ s
one-found None None e = refl
one-found (Some m) (Some n) e = ap (λ (x : Record). Some x.node) e
one-found None (Some n) e = absurd (false≢true (ap (λ (x : Record). x.found) e))
one-found (Some m) None e = absurd (false≢true (ap (λ (x : Record). x.found) (sym e)))

one-fault : (r s : Option Refusal) → fault_answer r ≡ fault_answer s → r ≡ s
one-fault None None e = refl
one-fault (Some x) (Some y) e = ap Some (one x y e)
one-fault None (Some y) e = absurd (some y (sym e))
one-fault (Some x) None e = absurd (some x e)

progress : ℕ → ℕ → ℕ → Option Refusal → Bool → ProgressOfCode Refusal
progress slot written nodes refusal done = record { slot = slot; written = written; nodes = nodes; refusal = refusal; done = done }

pub one-progress : (r s : ProgressOfCode Refusal) → progress_answer r ≡ progress_answer s → r ≡ s
unfolding progress
one-progress r s e =
    ap (λ (k : ℕ). progress k r.written r.nodes r.refusal r.done) (ap (λ (p : Progress). p.slot) e)
    ∙ ap (λ (k : ℕ). progress s.slot k r.nodes r.refusal r.done) (ap (λ (p : Progress). p.written) e)
    ∙ ap (λ (k : ℕ). progress s.slot s.written k r.refusal r.done) (ap (λ (p : Progress). p.nodes) e)
    ∙ ap (λ (f : Option Refusal). progress s.slot s.written s.nodes f r.done) (one-fault r.refusal s.refusal (ap (λ (p : Progress). p.refusal) e))
    ∙ ap (λ (b : Bool). progress s.slot s.written s.nodes s.refusal b) (ap (λ (p : Progress). p.done) e)
