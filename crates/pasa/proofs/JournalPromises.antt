-- What the exports about a journal promise, by their contracts as the code states them, is what the functions below them are defined to answer.
use mathlib.Core.Path.{◌≡◌}
use mathlib.Core.List.{List}
use Prim.Native.Nat.{ℕ}
use contract.Lifetimes.{Lfts}
use Rattle.std.specs.Borrow.{Bor, MutBor}
use Rattle.node.specs.declared.Node.{Node}
use Rattle.crc.specs.Crc.{crc}
use Rattle.journal.specs.Record.{record_in}
use Rattle.journal.specs.Recovery.{recovering}
use Rattle.journal.specs.Writing.{writing}
use Rattle.pasa.specs.Children.{PasaNode, pasa_node}
use Rattle.pasa.specs.Journals.{pasa_block, pasa_recovered, pasa_record}
use Rattle.pasa.specs.declared.journals.PasaBlock.{PasaBlock}
use Rattle.pasa.specs.declared.journals.PasaRecovered.{PasaRecovered}
use Rattle.pasa.specs.declared.journals.PasaRecord.{PasaRecord}
use Rattle.pasa.proofs.children.PasaNodeFromNode.from.Reads as node-reads
use Rattle.pasa.proofs.journals.pasa_journal_write.Reads as write-reads
use Rattle.pasa.proofs.journals.pasa_journal_recover.Reads as recover-reads
use Rattle.pasa.proofs.journals.pasa_journal_record.Reads as record-reads
use Rattle.pasa.proofs.journals.pasa_crc.Reads as crc-reads

-- a lent slice, to read and to write
abbrev Slice : Type 0
Slice = Bor (List ℕ)

abbrev SliceMut : Type 0
SliceMut = MutBor (List ℕ)

pub node_promise : (n : Node) (r : PasaNode) → node-reads.Learnt tt (n, tt) r (n, tt) → r ≡ pasa_node n
node_promise n r h = h

pub journal-write_promise : (κs : Lfts 2) (journal : SliceMut) (addresses : Slice) (last : SliceMut) (r : PasaBlock)
    → write-reads.Learnt κs (journal, (addresses, tt)) r (last, (addresses, tt))
    → (r ≡ pasa_block (writing journal.now addresses.now).answer) × (last.now ≡ (writing journal.now addresses.now).journal)
journal-write_promise κs journal addresses last r h = h

pub journal-recover_promise : (κs : Lfts 2) (journal : Slice) (words last : SliceMut) (r : PasaRecovered)
    → recover-reads.Learnt κs (journal, (words, tt)) r (journal, (last, tt))
    → (r ≡ pasa_recovered (recovering journal.now words.now).answer) × (last.now ≡ (recovering journal.now words.now).words)
journal-recover_promise κs journal words last r h = h

pub journal-record_promise : (κs : Lfts 1) (words : Slice) (a : ℕ) (r : PasaRecord)
    → record-reads.Learnt κs (words, (a, tt)) r (words, (a, tt)) → r ≡ pasa_record (record_in words.now a)
journal-record_promise κs words a r h = h

pub crc_promise : (κs : Lfts 1) (octets : Slice) (r : ℕ) → crc-reads.Learnt κs (octets, tt) r (octets, tt) → r ≡ crc octets.now
crc_promise κs octets r h = h

-- ---- none of them asks anything of its caller

pub node-asks-nothing : (n : Node) → node-reads.Asked tt (n, tt)
node-asks-nothing n = tt

pub journal-write-asks-nothing : (κs : Lfts 2) (journal : SliceMut) (addresses : Slice) → write-reads.Asked κs (journal, (addresses, tt))
journal-write-asks-nothing κs journal addresses = tt

pub journal-recover-asks-nothing : (κs : Lfts 2) (journal : Slice) (words : SliceMut) → recover-reads.Asked κs (journal, (words, tt))
journal-recover-asks-nothing κs journal words = tt

pub journal-record-asks-nothing : (κs : Lfts 1) (words : Slice) (a : ℕ) → record-reads.Asked κs (words, (a, tt))
journal-record-asks-nothing κs words a = tt

pub crc-asks-nothing : (κs : Lfts 1) (octets : Slice) → crc-reads.Asked κs (octets, tt)
crc-asks-nothing κs octets = tt
