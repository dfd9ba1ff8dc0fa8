-- What turns an answer into the struct that an export hands over: each conversion promises its definition, which Structs, JournalCode, Limits and Nsa
-- have field by field, and none asks anything. Those of a record, of a next hop and of a writing are lines of Code, JournalCode and Nsa; the last one
-- here makes a `Refusal` of a plan's.
use Rattle.std.specs.Prelude.{ℕ, ◌≡◌, Result, Err, Option}
use Rattle.refusal.specs.declared.Refusal.{Refusal}
use Rattle.refusal.specs.Refusal.{number_of}
use Rattle.address.specs.declared.Address.{Address}
use Rattle.address.specs.Address.{made_answer}
use Rattle.header.specs.declared.Header.{Header}
use Rattle.header.specs.Header.{header_answer}
use Rattle.nsa.specs.declared.Row.{Row}
use Rattle.nsa.specs.Fields.{fields_answer}
use Rattle.node.specs.declared.Node.{Node}
use Rattle.node.specs.declared.Handed.{Handed}
use Rattle.node.specs.Node.{given_answer, limited_answer}
use Rattle.route.specs.Path.{listed_answer}
use Rattle.plan.specs.declared.PlanRefusal.{PlanRefusal}
use Rattle.plan.specs.Plan.{planned_answer}
use Rattle.journal.specs.Recovery.{recovered_answer}
use Rattle.journal.specs.Writing.{placed_answer}
use Rattle.journal.specs.Record.{record_answer}
use Rattle.pasa.specs.Bytes.{pasa_read, pasa_address}
use Rattle.pasa.specs.Children.{pasa_child, pasa_limited}
use Rattle.pasa.specs.Fields.{pasa_nsa}
use Rattle.pasa.specs.Paths.{pasa_listed}
use Rattle.pasa.specs.Plans.{pasa_plan}
use Rattle.pasa.specs.Journals.{pasa_block, pasa_recovered, pasa_record}
use Rattle.pasa.specs.declared.bytes.PasaRead.{PasaRead}
use Rattle.pasa.specs.declared.bytes.PasaAddress.{PasaAddress}
use Rattle.pasa.specs.declared.children.PasaChild.{PasaChild}
use Rattle.pasa.specs.declared.children.PasaLimited.{PasaLimited}
use Rattle.pasa.specs.declared.fields.PasaNsa.{PasaNsa}
use Rattle.pasa.specs.declared.paths.PasaListed.{PasaListed}
use Rattle.pasa.specs.declared.plans.PasaPlan.{PasaPlan}
use Rattle.pasa.specs.declared.journals.PasaBlock.{PasaBlock}
use Rattle.pasa.specs.declared.journals.PasaRecovered.{PasaRecovered}
use Rattle.pasa.specs.declared.journals.PasaRecord.{PasaRecord}
use Rattle.pasa.proofs.bytes.PasaReadFromResultHeaderRefusal.from.Reads as read-reads
use Rattle.pasa.proofs.bytes.PasaAddressFromResultAddressRefusal.from.Reads as address-reads
use Rattle.pasa.proofs.children.PasaChildFromHandedAddress.from.Reads as child-reads
use Rattle.pasa.proofs.children.PasaLimitedFromHandedUnit.from.Reads as limited-reads
use Rattle.pasa.proofs.fields.PasaNsaFromResultRowRefusal.from.Reads as nsa-reads
use Rattle.pasa.proofs.paths.PasaListedFromResultU32Refusal.from.Reads as listed-reads
use Rattle.pasa.proofs.plans.PasaPlanFromResultUsizePlanRefusal.from.Reads as plan-reads
use Rattle.pasa.proofs.journals.PasaBlockFromResultUsizeRefusal.from.Reads as block-reads
use Rattle.pasa.proofs.journals.PasaRecoveredFromResultUsizeRefusal.from.Reads as recovered-reads
use Rattle.pasa.proofs.journals.PasaRecordFromOptionNode.from.Reads as record-reads
use Rattle.plan.proofs.RefusalFromPlanRefusal.from.Reads as plan-refusal-reads

pub record ConversionsAskNothing : Type 0 where
  pub to_read : (x : Result Header Refusal) → read-reads.Asked tt (x, tt)
  pub to_address : (x : Result Address Refusal) → address-reads.Asked tt (x, tt)
  pub to_child : (x : Handed Address) → child-reads.Asked tt (x, tt)
  pub to_limited : (x : Handed (Unit {0})) → limited-reads.Asked tt (x, tt)
  pub to_nsa : (x : Result Row Refusal) → nsa-reads.Asked tt (x, tt)
  pub to_listed : (x : Result ℕ Refusal) → listed-reads.Asked tt (x, tt)
  pub to_plan : (x : Result ℕ PlanRefusal) → plan-reads.Asked tt (x, tt)
  pub to_block : (x : Result ℕ Refusal) → block-reads.Asked tt (x, tt)
  pub to_recovered : (x : Result ℕ Refusal) → recovered-reads.Asked tt (x, tt)
  pub to_record : (x : Option Node) → record-reads.Asked tt (x, tt)
  pub to_refusal : (x : PlanRefusal) → plan-refusal-reads.Asked tt (x, tt)

pub record ConversionsAnswerAsDefined : Type 0 where
  pub to_read : (x : Result Header Refusal) (r : PasaRead) → read-reads.Learnt tt (x, tt) r (x, tt) → r ≡ pasa_read (header_answer x)
  pub to_address : (x : Result Address Refusal) (r : PasaAddress) → address-reads.Learnt tt (x, tt) r (x, tt) → r ≡ pasa_address (made_answer x)
  pub to_child : (x : Handed Address) (r : PasaChild) → child-reads.Learnt tt (x, tt) r (x, tt) → r ≡ pasa_child (given_answer x)
  pub to_limited : (x : Handed (Unit {0})) (r : PasaLimited) → limited-reads.Learnt tt (x, tt) r (x, tt) → r ≡ pasa_limited (limited_answer x)
  pub to_nsa : (x : Result Row Refusal) (r : PasaNsa) → nsa-reads.Learnt tt (x, tt) r (x, tt) → r ≡ pasa_nsa (fields_answer x)
  pub to_listed : (x : Result ℕ Refusal) (r : PasaListed) → listed-reads.Learnt tt (x, tt) r (x, tt) → r ≡ pasa_listed (listed_answer x)
  pub to_plan : (x : Result ℕ PlanRefusal) (r : PasaPlan) → plan-reads.Learnt tt (x, tt) r (x, tt) → r ≡ pasa_plan (planned_answer x)
  pub to_block : (x : Result ℕ Refusal) (r : PasaBlock) → block-reads.Learnt tt (x, tt) r (x, tt) → r ≡ pasa_block (placed_answer x)
  pub to_recovered : (x : Result ℕ Refusal) (r : PasaRecovered) → recovered-reads.Learnt tt (x, tt) r (x, tt) → r ≡ pasa_recovered (recovered_answer x)
  pub to_record : (x : Option Node) (r : PasaRecord) → record-reads.Learnt tt (x, tt) r (x, tt) → r ≡ pasa_record (record_answer x)
  pub to_refusal : (x : PlanRefusal) (r : Refusal) → plan-refusal-reads.Learnt tt (x, tt) r (x, tt) → number_of r ≡ (planned_answer (Err x)).refusal
