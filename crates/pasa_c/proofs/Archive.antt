-- What the archive libpasa_c.a promises: each of its 25 exports asks nothing, and answers what the function below it is defined to answer, as the function
-- of the same name in the crate pasa does. The front page (crate claims) says so of those functions, and cannot stand on a static library. `Asked` and
-- `Learnt` are read off the exports' own contracts: what a caller must show, and what it learns of the result and of all that was lent.
use Rattle.std.specs.Prelude.{ℕ, ◌^◌, ◌<◌, ◌≤◌, ◌≡◌, List, ◌++◌, length, take}
use contract.Lifetimes.{Lfts}
use Rattle.std.specs.Borrow.{Bor, MutBor}
use Rattle.address.specs.declared.Kind.TheVariants.{Router, Host}
use Rattle.address.specs.Address.{parent, depth, bit_length}
use Rattle.octets.specs.Octets.{AreOctets}
use Rattle.node.specs.Node.{fresh, child_of, set_limit}
use Rattle.header.specs.Header.{writing, reading}
use Rattle.ipv6.specs.Form.{form_writing, form_reading}
use Rattle.nsa.specs.Fields.{writing as fields_writing, reading as fields_reading}
use Rattle.forward.specs.Forward.{next_hop}
use Rattle.packet.specs.Packet.{packet_hop}
use Rattle.route.specs.Path.{listing}
use Rattle.plan.specs.Plan.{planning}
use Rattle.crc.specs.Crc.{crc}
use Rattle.journal.specs.Record.{record_in}
use Rattle.journal.specs.Recovery.{recovering}
use Rattle.journal.specs.Writing.{writing as journal_writing}
use Rattle.batch.specs.declared.PasaHop.{PasaHop}
use Rattle.batch.specs.Exported.{pasa_hop}
use Rattle.batch.specs.Batch.{BatchEffect, next_hops}
use Rattle.pasa.specs.declared.bytes.PasaWritten.{PasaWritten}
use Rattle.pasa.specs.declared.bytes.PasaRead.{PasaRead}
use Rattle.pasa.specs.declared.bytes.PasaAddress.{PasaAddress}
use Rattle.pasa.specs.declared.paths.PasaListed.{PasaListed}
use Rattle.pasa.specs.declared.plans.PasaPlan.{PasaPlan}
use Rattle.pasa.specs.declared.children.PasaNode.{PasaNode}
use Rattle.pasa.specs.declared.children.PasaChild.{PasaChild}
use Rattle.pasa.specs.declared.children.PasaLimited.{PasaLimited}
use Rattle.pasa.specs.declared.fields.PasaNsa.{PasaNsa}
use Rattle.pasa.specs.declared.journals.PasaBlock.{PasaBlock}
use Rattle.pasa.specs.declared.journals.PasaRecovered.{PasaRecovered}
use Rattle.pasa.specs.declared.journals.PasaRecord.{PasaRecord}
use Rattle.pasa.specs.Children.{node_of, pasa_node, pasa_child, pasa_limited}
use Rattle.pasa.specs.Bytes.{pasa_written, pasa_read, pasa_address}
use Rattle.pasa.specs.Paths.{pasa_listed}
use Rattle.pasa.specs.Plans.{pasa_plan}
use Rattle.pasa.specs.Addresses.{host_answer, interface}
use Rattle.pasa.specs.Fields.{pasa_nsa}
use Rattle.pasa.specs.Journals.{pasa_block, pasa_recovered, pasa_record}
use Rattle.pasa_c.proofs.children.pasa_fresh.Reads as fresh-reads
use Rattle.pasa_c.proofs.children.pasa_child_router.Reads as child-router-reads
use Rattle.pasa_c.proofs.children.pasa_child_host.Reads as child-host-reads
use Rattle.pasa_c.proofs.children.pasa_limit_routers.Reads as limit-routers-reads
use Rattle.pasa_c.proofs.children.pasa_limit_hosts.Reads as limit-hosts-reads
use Rattle.pasa_c.proofs.forwarding.pasa_next_hop.Reads as next-hop-reads
use Rattle.pasa_c.proofs.forwarding.pasa_packet_next_hop.Reads as packet-next-hop-reads
use Rattle.pasa_c.proofs.forwarding.pasa_next_hops.Reads as next-hops-reads
use Rattle.pasa_c.proofs.bytes.pasa_header_write.Reads as header-write-reads
use Rattle.pasa_c.proofs.bytes.pasa_header_read.Reads as header-read-reads
use Rattle.pasa_c.proofs.bytes.pasa_ipv6_write.Reads as ipv6-write-reads
use Rattle.pasa_c.proofs.bytes.pasa_ipv6_read.Reads as ipv6-read-reads
use Rattle.pasa_c.proofs.paths.pasa_path.Reads as path-reads
use Rattle.pasa_c.proofs.plans.pasa_plan_read.Reads as plan-read-reads
use Rattle.pasa_c.proofs.addresses.pasa_parent.Reads as parent-reads
use Rattle.pasa_c.proofs.addresses.pasa_depth.Reads as depth-reads
use Rattle.pasa_c.proofs.addresses.pasa_bit_length.Reads as bit-length-reads
use Rattle.pasa_c.proofs.addresses.pasa_is_host.Reads as is-host-reads
use Rattle.pasa_c.proofs.addresses.pasa_interface_2.Reads as interface-reads
use Rattle.pasa_c.proofs.fields.pasa_nsa_write.Reads as nsa-write-reads
use Rattle.pasa_c.proofs.fields.pasa_nsa_read.Reads as nsa-read-reads
use Rattle.pasa_c.proofs.journals.pasa_journal_write.Reads as journal-write-reads
use Rattle.pasa_c.proofs.journals.pasa_journal_recover.Reads as journal-recover-reads
use Rattle.pasa_c.proofs.journals.pasa_journal_record.Reads as journal-record-reads
use Rattle.pasa_c.proofs.journals.pasa_crc.Reads as crc-reads

-- what is lent: octets or words
abbrev pub Slice : Type 0
Slice = Bor (List ℕ)

-- what is lent to be written
abbrev pub SliceMut : Type 0
SliceMut = MutBor (List ℕ)

pub record ArchiveAsksNothing : Type 0 where
  pub pasa_fresh : (a : ℕ) → fresh-reads.Asked tt (a, tt)
  pub pasa_child_router : (n : PasaNode) → child-router-reads.Asked tt (n, tt)
  pub pasa_child_host : (n : PasaNode) → child-host-reads.Asked tt (n, tt)
  pub pasa_limit_routers : (n : PasaNode) (k : ℕ) → limit-routers-reads.Asked tt (n, (k, tt))
  pub pasa_limit_hosts : (n : PasaNode) (k : ℕ) → limit-hosts-reads.Asked tt (n, (k, tt))
  pub pasa_next_hop : (n : PasaNode) (d : ℕ) → next-hop-reads.Asked tt (n, (d, tt))
  pub pasa_packet_next_hop : (κs : Lfts 1) (n : PasaNode) (packet : Slice) → packet-next-hop-reads.Asked κs (n, (packet, tt))
  pub pasa_next_hops : (κs : Lfts 4) (n : PasaNode) (ds : Slice) (nodes actions refusals : SliceMut)
      → next-hops-reads.Asked κs (n, (ds, (nodes, (actions, (refusals, tt)))))
  pub pasa_header_write : (κs : Lfts 1) (a : ℕ) (out : SliceMut) → header-write-reads.Asked κs (a, (out, tt))
  pub pasa_header_read : (κs : Lfts 1) (packet : Slice) → header-read-reads.Asked κs (packet, tt)
  pub pasa_ipv6_write : (κs : Lfts 2) (prefix : Slice) (a : ℕ) (out : SliceMut) → ipv6-write-reads.Asked κs (prefix, (a, (out, tt)))
  pub pasa_ipv6_read : (κs : Lfts 2) (prefix ipv6 : Slice) → ipv6-read-reads.Asked κs (prefix, (ipv6, tt))
  pub pasa_path : (κs : Lfts 1) (a d : ℕ) (words : SliceMut) → path-reads.Asked κs (a, (d, (words, tt)))
  pub pasa_plan_read : (κs : Lfts 2) (text : Slice) (words : SliceMut) → plan-read-reads.Asked κs (text, (words, tt))
  pub pasa_parent : (a : ℕ) → parent-reads.Asked tt (a, tt)
  pub pasa_depth : (a : ℕ) → depth-reads.Asked tt (a, tt)
  pub pasa_bit_length : (a : ℕ) → bit-length-reads.Asked tt (a, tt)
  pub pasa_is_host : (a : ℕ) → is-host-reads.Asked tt (a, tt)
  pub pasa_interface : interface-reads.Asked tt tt
  pub pasa_nsa_write : (κs : Lfts 1) (l s d : ℕ) (out : SliceMut) → nsa-write-reads.Asked κs (l, (s, (d, (out, tt))))
  pub pasa_nsa_read : (κs : Lfts 1) (p : Slice) → nsa-read-reads.Asked κs (p, tt)
  pub pasa_journal_write : (κs : Lfts 2) (journal : SliceMut) (xs : Slice) → journal-write-reads.Asked κs (journal, (xs, tt))
  pub pasa_journal_recover : (κs : Lfts 2) (journal : Slice) (words : SliceMut) → journal-recover-reads.Asked κs (journal, (words, tt))
  pub pasa_journal_record : (κs : Lfts 1) (words : Slice) (a : ℕ) → journal-record-reads.Asked κs (words, (a, tt))
  pub pasa_crc : (κs : Lfts 1) (os : Slice) → crc-reads.Asked κs (os, tt)

-- the result, and what is lent to be written as it is at the end: `last`, or the name with a stroke
pub record ArchiveAnswersAsDefined : Type 0 where
  pub pasa_fresh : (a : ℕ) (r : PasaNode) → fresh-reads.Learnt tt (a, tt) r (a, tt) → r ≡ pasa_node (fresh a)
  pub pasa_child_router : (n : PasaNode) (r : PasaChild) → child-router-reads.Learnt tt (n, tt) r (n, tt) → r ≡ pasa_child (child_of (node_of n) Router)
  pub pasa_child_host : (n : PasaNode) (r : PasaChild) → child-host-reads.Learnt tt (n, tt) r (n, tt) → r ≡ pasa_child (child_of (node_of n) Host)
  pub pasa_limit_routers : (n : PasaNode) (k : ℕ) (r : PasaLimited) → limit-routers-reads.Learnt tt (n, (k, tt)) r (n, (k, tt))
      → r ≡ pasa_limited (set_limit (node_of n) Router k)
  pub pasa_limit_hosts : (n : PasaNode) (k : ℕ) (r : PasaLimited) → limit-hosts-reads.Learnt tt (n, (k, tt)) r (n, (k, tt))
      → r ≡ pasa_limited (set_limit (node_of n) Host k)
  pub pasa_next_hop : (n : PasaNode) (d : ℕ) (r : PasaHop) → next-hop-reads.Learnt tt (n, (d, tt)) r (n, (d, tt)) → r ≡ pasa_hop (next_hop (node_of n) d)
  pub pasa_packet_next_hop : (κs : Lfts 1) (n : PasaNode) (packet : Slice) (r : PasaHop)
      → packet-next-hop-reads.Learnt κs (n, (packet, tt)) r (n, (packet, tt))
      → r ≡ pasa_hop (packet_hop (node_of n) packet.now)
  pub pasa_next_hops : (κs : Lfts 4) (n : PasaNode) (ds : Slice) (nodes actions refusals nodes' actions' refusals' : SliceMut) (r : ℕ)
      → next-hops-reads.Learnt κs (n, (ds, (nodes, (actions, (refusals, tt))))) r (n, (ds, (nodes', (actions', (refusals', tt)))))
      → ◌≡◌ {A = BatchEffect} record { count = r; nodes = nodes'.now; actions = actions'.now; refusals = refusals'.now }
      (next_hops (node_of n) ds.now nodes.now actions.now refusals.now)
  pub pasa_header_write : (κs : Lfts 1) (a : ℕ) (out last : SliceMut) (r : PasaWritten)
      → header-write-reads.Learnt κs (a, (out, tt)) r (a, (last, tt))
      → (r ≡ pasa_written (writing a out.now).answer) × (last.now ≡ (writing a out.now).buffer)
  pub pasa_header_read : (κs : Lfts 1) (packet : Slice) (r : PasaRead)
      → header-read-reads.Learnt κs (packet, tt) r (packet, tt)
      → r ≡ pasa_read (reading packet.now)
  pub pasa_ipv6_write : (κs : Lfts 2) (prefix : Slice) (a : ℕ) (out last : SliceMut) (r : PasaWritten)
      → ipv6-write-reads.Learnt κs (prefix, (a, (out, tt))) r (prefix, (a, (last, tt)))
      → (r ≡ pasa_written (form_writing prefix.now a out.now).answer) × (last.now ≡ (form_writing prefix.now a out.now).buffer)
  pub pasa_ipv6_read : (κs : Lfts 2) (prefix ipv6 : Slice) (r : PasaAddress)
      → ipv6-read-reads.Learnt κs (prefix, (ipv6, tt)) r (prefix, (ipv6, tt))
      → r ≡ pasa_address (form_reading prefix.now ipv6.now)
  pub pasa_path : (κs : Lfts 1) (a d : ℕ) (words last : SliceMut) (r : PasaListed)
      → path-reads.Learnt κs (a, (d, (words, tt))) r (a, (d, (last, tt)))
      → (r ≡ pasa_listed (listing a d words.now).answer) × (last.now ≡ (listing a d words.now).words)
  pub pasa_plan_read : (κs : Lfts 2) (text : Slice) (words last : SliceMut) (r : PasaPlan)
      → plan-read-reads.Learnt κs (text, (words, tt)) r (text, (last, tt))
      → (r ≡ pasa_plan (planning text.now words.now).answer) × (last.now ≡ (planning text.now words.now).words)
  pub pasa_parent : (a r : ℕ) → parent-reads.Learnt tt (a, tt) r (a, tt) → r ≡ parent a
  pub pasa_depth : (a r : ℕ) → depth-reads.Learnt tt (a, tt) r (a, tt) → r ≡ depth a
  pub pasa_bit_length : (a r : ℕ) → bit-length-reads.Learnt tt (a, tt) r (a, tt) → r ≡ bit_length a
  pub pasa_is_host : (a r : ℕ) → is-host-reads.Learnt tt (a, tt) r (a, tt) → r ≡ host_answer a
  pub pasa_interface : (r : ℕ) → interface-reads.Learnt tt tt r tt → r ≡ interface
  pub pasa_nsa_write : (κs : Lfts 1) (l s d : ℕ) (out out' : SliceMut) (r : PasaWritten)
      → nsa-write-reads.Learnt κs (l, (s, (d, (out, tt)))) r (l, (s, (d, (out', tt))))
      → (r ≡ pasa_written (fields_writing l s d out.now).answer) × (out'.now ≡ (fields_writing l s d out.now).buffer) × (s < 2 ^ 64) × (d < 2 ^ 64)
  pub pasa_nsa_read : (κs : Lfts 1) (p : Slice) (r : PasaNsa) → nsa-read-reads.Learnt κs (p, tt) r (p, tt)
      → (r ≡ pasa_nsa (fields_reading p.now)) × AreOctets p.now
  pub pasa_journal_write : (κs : Lfts 2) (journal : SliceMut) (xs : Slice) (journal' : SliceMut) (r : PasaBlock)
      → journal-write-reads.Learnt κs (journal, (xs, tt)) r (journal', (xs, tt))
      → (r ≡ pasa_block (journal_writing journal.now xs.now).answer) × (journal'.now ≡ (journal_writing journal.now xs.now).journal)
  pub pasa_journal_recover : (κs : Lfts 2) (journal : Slice) (words words' : SliceMut) (r : PasaRecovered)
      → journal-recover-reads.Learnt κs (journal, (words, tt)) r (journal, (words', tt))
      → (r ≡ pasa_recovered (recovering journal.now words.now).answer) × (words'.now ≡ (recovering journal.now words.now).words)
  pub pasa_journal_record : (κs : Lfts 1) (words : Slice) (a : ℕ) (r : PasaRecord)
      → journal-record-reads.Learnt κs (words, (a, tt)) r (words, (a, tt)) → r ≡ pasa_record (record_in words.now a)
  pub pasa_crc : (κs : Lfts 1) (os : Slice) (r : ℕ) → crc-reads.Learnt κs (os, tt) r (os, tt) → r ≡ crc os.now

-- "Whatever is accepted is what we would write, and the reverse", at the archive's two exports of the older fields
pub record OlderInArchive : Type 0 where
  -- whatever `pasa_nsa_write` leaves in a buffer, done, `pasa_nsa_read` reads as what was handed in, with anything behind it
  pub reads_back : (κs κs' : Lfts 1) (l s d : ℕ) (out out' : SliceMut) (p : Slice) (behind : List ℕ) (w : PasaWritten) (r : PasaNsa)
      → nsa-write-reads.Learnt κs (l, (s, (d, (out, tt)))) w (l, (s, (d, (out', tt)))) → w.refusal ≡ 0 → p.now ≡ out'.now ++ behind
      → nsa-read-reads.Learnt κs' (p, tt) r (p, tt)
      → r ≡ record { length = l; source = s; destination = d; place = w.count; refusal = 0 }
  -- and whatever `pasa_nsa_read` accepts, `pasa_nsa_write` writes into a buffer that has room, octet for octet
  pub writes_back : (κs κs' : Lfts 1) (p : Slice) (out out' : SliceMut) (r : PasaNsa) (w : PasaWritten)
      → nsa-read-reads.Learnt κs (p, tt) r (p, tt) → r.refusal ≡ 0 → r.place ≤ length out.now
      → nsa-write-reads.Learnt κs' (r.length, (r.source, (r.destination, (out, tt)))) w (r.length, (r.source, (r.destination, (out', tt))))
      → (w ≡ record { count = r.place; refusal = 0 }) × (take r.place out'.now ≡ take r.place p.now)
