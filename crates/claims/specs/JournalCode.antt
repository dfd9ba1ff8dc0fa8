-- What the code of request Four promises is what the page Journals speaks of, each function by its own contract, and none asks anything; then the
-- exported structs and the exports.
use Rattle.std.specs.Prelude.{ℕ, suc, ◌-◌, ◌/◌, ◌≡◌, Bool, true, false, ◌↔◌, List, ◌++◌, length, take, replicate, set, Option, Some, None, IfSome, Result, Ok, Err}
use Rattle.refusal.specs.declared.Refusal.{Refusal}
use Rattle.refusal.specs.Refusal.{number_of}
use Rattle.refusal.specs.contracts.Refusal.{the_row}
use Rattle.refusal.proofs.Refusal.TheLaws.{the_row_laws, the_row_copy}
use Rattle.refusal.specs.Outcome.{outcome_number}
use seplogic.Ra.Ura.{Ura}
use base.Logic.{SProp, emp}
use prog.Memory.{Memory}
use prog.Routine.{Routine}
use types.Logic.{Logic}
use contract.Lifetimes.{Lfts}
use mir.Syntax.{Dict}
use Rattle.std.specs.declared.clone.Clone.{Ghosts}
use contract.Monad.{Fun, fact}
use Rattle.std.specs.Borrow.{Bor, MutBor}
use denote.Triple.Clauses.{AtExit}
use Rattle.address.specs.declared.Address.{Address}
use Rattle.node.specs.Node.{fresh, with_counts}
use Rattle.node.specs.declared.Node.{Node}
use Rattle.crc.specs.Crc.{crc}
use Rattle.block.specs.Block.{block_put, all_are, is_block}
use Rattle.journal.specs.Recovery.{Recovered, recovered_by, recovered_answer, unfit, recovering}
use Rattle.journal.specs.Reader.{Progress, progress_by, progress_answer, step, finished}
use Rattle.journal.specs.AnyFault.{AnyFault}
use Rattle.journal.specs.Writing.{Placed, placed_answer, writing}
use Rattle.journal.specs.Record.{Record, record_answer, record_in}
use Rattle.journal.specs.declared.Progress.{Progress as ProgressOfCode}
use Rattle.reader.specs.declared.Reader.{Reader}
use Rattle.reader.specs.Reader.{taken_answer}
use Rattle.reader.specs.declared.Taken.{Taken as TakenOfCode}
use Rattle.reader.specs.SameAnswers.{Answer, ReaderRule, reading, asked, asked_all, by_reader, SameAnswers}
use Rattle.reader.specs.contracts.Reader.start as start
use Rattle.reader.specs.contracts.Reader.next as next
use Rattle.reader.specs.contracts.Reader.place as place
use Rattle.pasa.specs.Children.{pasa_node}
use Rattle.pasa.specs.Journals.{pasa_block, pasa_recovered, pasa_record, bit}
use Rattle.pasa.specs.declared.children.PasaNode.{PasaNode}
use Rattle.pasa.specs.declared.journals.PasaBlock.{PasaBlock}
use Rattle.pasa.specs.declared.journals.PasaRecovered.{PasaRecovered}
use Rattle.pasa.specs.declared.journals.PasaRecord.{PasaRecord}
use Rattle.node.proofs.Node.with_counts.Reads as with-counts-reads
use Rattle.crc.proofs.crc.Reads as crc-reads
use Rattle.block.proofs.all_are.Reads as all-are-reads
use Rattle.block.proofs.is_block.Reads as is-block-reads
use Rattle.block.proofs.put.Reads as put_reads
use Rattle.journal.proofs.recover.Reads as recover-reads
use Rattle.journal.proofs.unfit.Reads as unfit-reads
use Rattle.journal.proofs.take_slot.Reads as take-slot-reads
use Rattle.journal.proofs.finish.Reads as finish-reads
use Rattle.journal.proofs.write.Reads as write-reads
use Rattle.reader.proofs.recover.Reads as reader-recover-reads
use Rattle.journal.proofs.record_in.Reads as record-in-reads
use Rattle.pasa.proofs.children.PasaNodeFromNode.from.Reads as pasa-node-reads
use Rattle.pasa.proofs.journals.pasa_journal_write.Reads as pasa-write-reads
use Rattle.pasa.proofs.journals.pasa_journal_recover.Reads as pasa-recover-reads
use Rattle.pasa.proofs.journals.pasa_journal_record.Reads as pasa-record-reads
use Rattle.pasa.proofs.journals.pasa_crc.Reads as pasa-crc-reads

-- a lent slice
abbrev pub Slice : Type 0
Slice = Bor (List ℕ)

-- what is lent to be written
abbrev pub SliceMut : Type 0
SliceMut = MutBor (List ℕ)

pub record JournalAsksNothing : Type 2 where
  pub node_with_counts : (n : Node) (routers hosts : ℕ) → with-counts-reads.Asked tt (n, (routers, (hosts, tt)))
  pub crc_of : (κs : Lfts 1) (os : Slice) → crc-reads.Asked κs (os, tt)
  pub block_all_are : (κs : Lfts 1) (byte : ℕ) (bytes : Slice) → all-are-reads.Asked κs (byte, (bytes, tt))
  pub block_is_block : (κs : Lfts 1) (slot : Slice) → is-block-reads.Asked κs (slot, tt)
  pub block_put_in : (κs : Lfts 2) (xs : Slice) (slot : SliceMut) → put_reads.Asked κs (xs, (slot, tt))
  pub journal_recover : (κs : Lfts 2) (journal : Slice) (words : SliceMut) → recover-reads.Asked κs (journal, (words, tt))
  pub journal_write : (κs : Lfts 2) (journal : SliceMut) (xs : Slice) → write-reads.Asked κs (journal, (xs, tt))
  pub journal_record : (κs : Lfts 1) (words : Slice) (a : Address) → record-in-reads.Asked κs (words, (a, tt))
  pub journal_unfit : (bytes words : ℕ) → unfit-reads.Asked tt (bytes, (words, tt))
  pub journal_take_slot : (κs : Lfts 2) (journal : Slice) (slot : ℕ) (words : SliceMut) (written nodes : ℕ)
      → take-slot-reads.Asked κs (journal, (slot, (words, (written, (nodes, tt)))))
  -- of a refusal, however it is copied, at any lifetimes, since it borrows nothing
  pub journal_finish : (G : Ghosts Refusal) (D : Dict) (κs : Lfts 2) (end : ProgressOfCode Refusal) (words : SliceMut)
      → finish-reads.Asked the_row the_row_laws the_row_copy G D κs (end, (words, tt))
  -- of whatever says which fault it is, where what that borrows outlives the call
  pub journal_finish_any : (F : AnyFault) (κ : List ℕ) (end : ProgressOfCode F.type_of.Denot) (words : SliceMut)
      → finish-reads.Asked F.type_of F.laws F.copied F.cloned F.dict (κ, (F.type_of.lives, tt)) (end, (words, tt))
  pub reader_recover : (κs : Lfts 2) (journal : Slice) (words : SliceMut) → reader-recover-reads.Asked κs (journal, (words, tt))
  pub pasa_node_to : (n : Node) → pasa-node-reads.Asked tt (n, tt)
  pub pasa_journal_write : (κs : Lfts 2) (journal : SliceMut) (xs : Slice) → pasa-write-reads.Asked κs (journal, (xs, tt))
  pub pasa_journal_recover : (κs : Lfts 2) (journal : Slice) (words : SliceMut) → pasa-recover-reads.Asked κs (journal, (words, tt))
  pub pasa_journal_record : (κs : Lfts 1) (words : Slice) (a : ℕ) → pasa-record-reads.Asked κs (words, (a, tt))
  pub pasa_crc : (κs : Lfts 1) (os : Slice) → pasa-crc-reads.Asked κs (os, tt)

pub record JournalAnswersAsDefined : Type 2 where
  pub node_with_counts : (n : Node) (routers hosts : ℕ) (r : Node) → with-counts-reads.Learnt tt (n, (routers, (hosts, tt))) r (n, (routers, (hosts, tt)))
      → r ≡ with_counts routers hosts n
  pub crc_of : (κs : Lfts 1) (os : Slice) (r : ℕ) → crc-reads.Learnt κs (os, tt) r (os, tt) → r ≡ crc os.now
  pub block_all_are : (κs : Lfts 1) (byte : ℕ) (bytes : Slice) (r : Bool) → all-are-reads.Learnt κs (byte, (bytes, tt)) r (byte, (bytes, tt))
      → r ≡ all_are byte bytes.now
  pub block_is_block : (κs : Lfts 1) (slot : Slice) (r : Bool) → is-block-reads.Learnt κs (slot, tt) r (slot, tt) → r ≡ is_block slot.now
  pub block_put_in : (κs : Lfts 2) (xs : Slice) (slot slot' : SliceMut) → put_reads.Learnt κs (xs, (slot, tt)) tt (xs, (slot', tt))
      → slot'.now ≡ block_put xs.now slot.now
  pub journal_recover : (κs : Lfts 2) (journal : Slice) (words words' : SliceMut) (r : Result ℕ Refusal)
      → recover-reads.Learnt κs (journal, (words, tt)) r (journal, (words', tt))
      → (recovered_answer r ≡ (recovering journal.now words.now).answer) × (words'.now ≡ (recovering journal.now words.now).words)
  pub journal_write : (κs : Lfts 2) (journal : SliceMut) (xs : Slice) (journal' : SliceMut) (r : Result ℕ Refusal)
      → write-reads.Learnt κs (journal, (xs, tt)) r (journal', (xs, tt))
      → (placed_answer r ≡ (writing journal.now xs.now).answer) × (journal'.now ≡ (writing journal.now xs.now).journal)
  pub journal_record : (κs : Lfts 1) (words : Slice) (a : Address) (r : Option Node)
      → record-in-reads.Learnt κs (words, (a, tt)) r (words, (a, tt)) → record_answer r ≡ record_in words.now a.number
  -- the parts of recovery, which the reader shares
  pub journal_refuse : (x : Refusal) → recovered_answer (Err x) ≡ record { refusal = number_of x; nodes = 0 }
  pub journal_refuse_by_number : (k : ℕ) → recovered_by (λ (n : ℕ). n) (Err k) ≡ record { refusal = k; nodes = 0 }
  pub journal_unfit : (bytes words : ℕ) (r : Result (Unit {0}) Refusal) → unfit-reads.Learnt tt (bytes, (words, tt)) r (bytes, (words, tt))
      → outcome_number r ≡ unfit bytes words
  pub journal_take_slot : (κs : Lfts 2) (journal : Slice) (slot : ℕ) (words words' : SliceMut) (written nodes : ℕ) (r : ProgressOfCode Refusal)
      → take-slot-reads.Learnt κs (journal, (slot, (words, (written, (nodes, tt))))) r (journal, (slot, (words', (written, (nodes, tt)))))
      → (progress_answer r ≡ (step journal.now slot written nodes words.now).progress) × (words'.now ≡ (step journal.now slot written nodes words.now).words)
  pub journal_finish : (G : Ghosts Refusal) (D : Dict) (κs : Lfts 2) (end : ProgressOfCode Refusal) (words words' : SliceMut) (r : Result ℕ Refusal)
      → finish-reads.Learnt the_row the_row_laws the_row_copy G D κs (end, (words, tt)) r (end, (words', tt))
      → (recovered_answer r ≡ (finished (progress_answer end) words.now).answer) × (words'.now ≡ (finished (progress_answer end) words.now).words)
  -- whatever says which fault it is, by whatever numbers it has, but that the fault there has not 0, which says that there is none
  pub journal_finish_any : (F : AnyFault) (κs : Lfts 2) (end : ProgressOfCode F.type_of.Denot) (words words' : SliceMut) (r : Result ℕ F.type_of.Denot)
      → finish-reads.Learnt F.type_of F.laws F.copied F.cloned F.dict κs (end, (words, tt)) r (end, (words', tt))
      → (number : F.type_of.Denot → ℕ) → IfSome end.refusal (λ x. number x ≡ 0 → ⊥)
      → (recovered_by number r ≡ (finished (progress_by number end) words.now).answer) × (words'.now ≡ (finished (progress_by number end) words.now).words)
  pub papers_numbers : (r : Result ℕ Refusal) → recovered_by number_of r ≡ recovered_answer r
  pub papers_progress : (p : ProgressOfCode Refusal) → (progress_by number_of p ≡ progress_answer p) × IfSome p.refusal (λ x. number_of x ≡ 0 → ⊥)
  -- recovery by a reader: the contract of recovery
  pub reader_recover : (κs : Lfts 2) (journal : Slice) (words words' : SliceMut) (r : Result ℕ Refusal)
      → reader-recover-reads.Learnt κs (journal, (words, tt)) r (journal, (words', tt))
      → (recovered_answer r ≡ (recovering journal.now words.now).answer) × (words'.now ≡ (recovering journal.now words.now).words)
  pub pasa_node_to : (n : Node) (r : PasaNode) → pasa-node-reads.Learnt tt (n, tt) r (n, tt) → r ≡ pasa_node n
  pub pasa_journal_write : (κs : Lfts 2) (journal : SliceMut) (xs : Slice) (journal' : SliceMut) (r : PasaBlock)
      → pasa-write-reads.Learnt κs (journal, (xs, tt)) r (journal', (xs, tt))
      → (r ≡ pasa_block (writing journal.now xs.now).answer) × (journal'.now ≡ (writing journal.now xs.now).journal)
  pub pasa_journal_recover : (κs : Lfts 2) (journal : Slice) (words words' : SliceMut) (r : PasaRecovered)
      → pasa-recover-reads.Learnt κs (journal, (words, tt)) r (journal, (words', tt))
      → (r ≡ pasa_recovered (recovering journal.now words.now).answer) × (words'.now ≡ (recovering journal.now words.now).words)
  pub pasa_journal_record : (κs : Lfts 1) (words : Slice) (a : ℕ) (r : PasaRecord)
      → pasa-record-reads.Learnt κs (words, (a, tt)) r (words, (a, tt)) → r ≡ pasa_record (record_in words.now a)
  pub pasa_crc : (κs : Lfts 1) (os : Slice) (r : ℕ) → pasa-crc-reads.Learnt κs (os, tt) r (os, tt) → r ≡ crc os.now

-- "a reader that keeps hold of the lent journal and its place .. which from the first slot on gives the same answers; what it answers from any other
-- state is left open": asked until it is done. The contracts of `start`, `next` and `place` are quoted clause by clause.
pub record TheReader : Type 2 where
  pub same_answers : SameAnswers reading
  -- what that says of any reader, field by field
  pub of_any_reader : (rule : ReaderRule)
      → SameAnswers rule
      ↔ (((r : Reader) (written nodes : ℕ) (words : List ℕ) → (rule r written nodes words).taken.reader.journal ≡ r.journal)
      × ((r : Reader) (written nodes : ℕ) (words : List ℕ)
      → (rule r written nodes words).taken.reader.slot ≡ (rule r written nodes words).taken.progress.slot)
      × ((journal : Slice) (words : List ℕ) → unfit (length journal.now) (length words) ≡ 0
      → (asked_all rule journal words).taken.progress.done ≡ true)
      × ((journal : Slice) (words : List ℕ) → by_reader rule journal words ≡ recovering journal.now words))
  -- recovery by a reader: `unfit` before it (Larger), then the reader as often as there are slots, from the first one on, and `finished` behind it
  pub unfit_first : (rule : ReaderRule) (journal : Slice) (words : List ℕ) → (unfit (length journal.now) (length words) ≡ 0 → ⊥)
      → by_reader rule journal words
      ≡ record { answer = record { refusal = unfit (length journal.now) (length words); nodes = 0 }; words = words }
  pub then_asked : (rule : ReaderRule) (journal : Slice) (words : List ℕ) → unfit (length journal.now) (length words) ≡ 0
      → by_reader rule journal words ≡ finished (asked_all rule journal words).taken.progress (asked_all rule journal words).words
  pub first_slot : (rule : ReaderRule) (journal : Slice) (words : List ℕ)
      → asked_all rule journal words
      ≡ asked rule (length journal.now / 512) (record {
        taken = record {
          reader = record { journal = journal; slot = 0 };
          progress = record { slot = 0; written = 0; nodes = 1; refusal = 0; done = false };
        };
        words = set words 0 1;
      })
  pub asked_none : (rule : ReaderRule) (a : Answer) → asked rule 0 a ≡ a
  pub asked_done : (rule : ReaderRule) (k : ℕ) (a : Answer) → a.taken.progress.done ≡ true → asked rule (suc k) a ≡ a
  pub asked_on : (rule : ReaderRule) (k : ℕ) (a : Answer) → a.taken.progress.done ≡ false
      → asked rule (suc k) a
      ≡ asked rule k (rule a.taken.reader a.taken.progress.written a.taken.progress.nodes a.words)
  pub finished_known : (end : Progress) (words : List ℕ) → end.refusal ≡ 0
      → finished end words
      ≡ record {
        answer = record { refusal = 0; nodes = end.nodes };
        words = take end.nodes words ++ replicate (length words - end.nodes) 0;
      }
  pub finished_fault : (end : Progress) (words : List ℕ) → (end.refusal ≡ 0 → ⊥)
      → finished end words ≡ record { answer = record { refusal = end.refusal; nodes = 0 }; words = words }
  pub starts : {M : Type 1} {𝓤 : Ura M} (𝓛 : Logic 𝓤) (mem : Memory → SProp 𝓤) (run : Routine → Fun 𝓤) (κs : Lfts 1) (journal : Slice)
      (r : Reader) (end : AtExit start.ended κs)
      → ((start.clauses 𝓛 mem run κs (journal, tt)).requires tt ≡ emp 𝓤)
      × ((start.clauses 𝓛 mem run κs (journal, tt)).ensures tt r end ≡ fact 𝓤 (r ≡ record { journal = journal; slot = 0 }))
  pub takes : {M : Type 1} {𝓤 : Ura M} (𝓛 : Logic 𝓤) (mem : Memory → SProp 𝓤) (run : Routine → Fun 𝓤) (κs : Lfts 2) (reader : Reader)
      (words : SliceMut) (written nodes : ℕ) (r : TakenOfCode) (end : AtExit next.ended κs)
      → ((next.clauses 𝓛 mem run κs (reader, (words, (written, (nodes, tt))))).requires tt ≡ emp 𝓤)
      × ((next.clauses 𝓛 mem run κs (reader, (words, (written, (nodes, tt))))).ensures tt r end
      ≡ fact 𝓤 ((taken_answer r ≡ (reading reader written nodes words.now).taken) × (end.1.0.now ≡ (reading reader written nodes words.now).words)))
  pub its_place : {M : Type 1} {𝓤 : Ura M} (𝓛 : Logic 𝓤) (mem : Memory → SProp 𝓤) (run : Routine → Fun 𝓤) (κs : Lfts 1) (reader : Reader)
      (n : ℕ) (end : AtExit place.ended κs)
      → ((place.clauses 𝓛 mem run κs (reader, tt)).requires tt ≡ emp 𝓤)
      × ((place.clauses 𝓛 mem run κs (reader, tt)).ensures tt n end ≡ fact 𝓤 (n ≡ reader.slot))

-- the same numbers in fields of the same names, and no field more; a node that is not found is all zeros
pub record JournalFields : Type 1 where
  -- any numbers for each case of an answer
  pub recovers_by : (R : Type 0) (number : R → ℕ) (k : ℕ) → recovered_by number (Ok k) ≡ record { refusal = 0; nodes = k }
  pub refuses_by : (R : Type 0) (number : R → ℕ) (x : R) → recovered_by number (Err x) ≡ record { refusal = number x; nodes = 0 }
  pub goes_on_by : (R : Type 0) (number : R → ℕ) (slot written nodes : ℕ) (done : Bool)
      → progress_by number (record { slot = slot; written = written; nodes = nodes; refusal = None; done = done })
      ≡ record { slot = slot; written = written; nodes = nodes; refusal = 0; done = done }
  pub is_at_fault_by : (R : Type 0) (number : R → ℕ) (slot written nodes : ℕ) (x : R) (done : Bool)
      → progress_by number (record { slot = slot; written = written; nodes = nodes; refusal = Some x; done = done })
      ≡ record { slot = slot; written = written; nodes = nodes; refusal = number x; done = done }
  -- the papers' numbers for each case of an answer, and they leave one answer; what a refused recovery comes to is `journal_refuse` above
  pub recovers : (k : ℕ) → recovered_answer (Ok k) ≡ record { refusal = 0; nodes = k }
  pub places : (k : ℕ) → placed_answer (Ok k) ≡ record { refusal = 0; slot = k }
  pub not_placed : (x : Refusal) → placed_answer (Err x) ≡ record { refusal = number_of x; slot = 0 }
  pub finds : (n : Node) → record_answer (Some n) ≡ record { node = n; found = true }
  pub finds_none : record_answer None ≡ record { node = fresh 0; found = false }
  pub goes_on : (slot written nodes : ℕ) (done : Bool)
      → progress_answer (record { slot = slot; written = written; nodes = nodes; refusal = None; done = done })
      ≡ record { slot = slot; written = written; nodes = nodes; refusal = 0; done = done }
  pub is_at_fault : (slot written nodes : ℕ) (x : Refusal) (done : Bool)
      → progress_answer (record { slot = slot; written = written; nodes = nodes; refusal = Some x; done = done })
      ≡ record { slot = slot; written = written; nodes = nodes; refusal = number_of x; done = done }
  pub one_recovery_answer : (r s : Result ℕ Refusal) → recovered_answer r ≡ recovered_answer s → r ≡ s
  pub one_block_answer : (r s : Result ℕ Refusal) → placed_answer r ≡ placed_answer s → r ≡ s
  pub one_record_answer : (r s : Option Node) → record_answer r ≡ record_answer s → r ≡ s
  pub one_progress : (r s : ProgressOfCode Refusal) → progress_answer r ≡ progress_answer s → r ≡ s
  pub block : (p : Placed) → pasa_block p ≡ record { slot = p.slot; refusal = p.refusal }
  pub recovered : (r : Recovered) → pasa_recovered r ≡ record { nodes = r.nodes; refusal = r.refusal }
  pub its_record : (r : Record) → r.found ≡ true → pasa_record r ≡ record { node = pasa_node r.node; found = 1 }
  -- no node: all zeros, the limits too
  pub no_record : (r : Record) → r.found ≡ false
      → pasa_record r
      ≡ record { node = record { address = 0; routers = 0; hosts = 0; router_limit = 0; host_limit = 0 }; found = 0 }
  pub counts : (routers hosts : ℕ) (n : Node) → with_counts routers hosts n ≡ record { address = n.address; routers = routers; hosts = hosts; limits = n.limits }
  pub yes_and_no : (bit true ≡ 1) × (bit false ≡ 0)
