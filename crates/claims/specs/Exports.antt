-- What pasa's functions promise, each of which the archive exports once more (pasa_c, whose page Archive has these lines of the exports themselves):
-- each asks nothing, and answers what the function below it is defined to answer, in a struct of plain numbers with the same names
-- (crates/pasa/specs, and of the next hops crates/batch/specs); a record has its two limits flat. Those of Four, Five and Seven have pages of their own.
use Rattle.std.specs.Prelude.{◌≡◌, ℕ}
use contract.Lifetimes.{Lfts}
use Rattle.address.specs.declared.Kind.TheVariants.{Router, Host}
use Rattle.node.specs.Node.{fresh, child_of}
use Rattle.header.specs.Header.{writing, reading}
use Rattle.ipv6.specs.Form.{form_writing, form_reading}
use Rattle.forward.specs.Forward.{next_hop}
use Rattle.packet.specs.Packet.{packet_hop}
use Rattle.route.specs.Path.{listing}
use Rattle.plan.specs.Plan.{planning}
use Rattle.claims.specs.Code.{Slice, SliceMut}
use Rattle.pasa.specs.declared.bytes.PasaWritten.{PasaWritten}
use Rattle.pasa.specs.declared.bytes.PasaRead.{PasaRead}
use Rattle.pasa.specs.declared.bytes.PasaAddress.{PasaAddress}
use Rattle.pasa.specs.declared.paths.PasaListed.{PasaListed}
use Rattle.pasa.specs.declared.plans.PasaPlan.{PasaPlan}
use Rattle.pasa.specs.declared.children.PasaNode.{PasaNode}
use Rattle.pasa.specs.declared.children.PasaChild.{PasaChild}
use Rattle.pasa.specs.Children.{node_of, pasa_node, pasa_child}
use Rattle.batch.specs.declared.PasaHop.{PasaHop}
use Rattle.batch.specs.Exported.{pasa_hop}
use Rattle.batch.specs.Batch.{BatchEffect, next_hops}
use Rattle.pasa.specs.Bytes.{pasa_written, pasa_read, pasa_address}
use Rattle.pasa.specs.Paths.{pasa_listed}
use Rattle.pasa.specs.Plans.{pasa_plan}
use Rattle.pasa.proofs.children.pasa_fresh.Reads as fresh-reads
use Rattle.pasa.proofs.children.pasa_child_router.Reads as child-router-reads
use Rattle.pasa.proofs.children.pasa_child_host.Reads as child-host-reads
use Rattle.pasa.proofs.forwarding.pasa_next_hop.Reads as next-hop-reads
use Rattle.pasa.proofs.forwarding.pasa_packet_next_hop.Reads as packet-next-hop-reads
use Rattle.pasa.proofs.forwarding.pasa_next_hops.Reads as next-hops-reads
use Rattle.pasa.proofs.bytes.pasa_header_write.Reads as header-write-reads
use Rattle.pasa.proofs.bytes.pasa_header_read.Reads as header-read-reads
use Rattle.pasa.proofs.bytes.pasa_ipv6_write.Reads as ipv6-write-reads
use Rattle.pasa.proofs.bytes.pasa_ipv6_read.Reads as ipv6-read-reads
use Rattle.pasa.proofs.paths.pasa_path.Reads as path-reads
use Rattle.pasa.proofs.plans.pasa_plan_read.Reads as plan-read-reads
use Rattle.address.specs.Address.{parent, depth, bit_length}
use Rattle.pasa.specs.Addresses.{host_answer, interface}
use Rattle.pasa.proofs.addresses.pasa_parent.Reads as parent-reads
use Rattle.pasa.proofs.addresses.pasa_depth.Reads as depth-reads
use Rattle.pasa.proofs.addresses.pasa_bit_length.Reads as bit-length-reads
use Rattle.pasa.proofs.addresses.pasa_is_host.Reads as is-host-reads
use Rattle.pasa.proofs.addresses.pasa_interface_2.Reads as interface-reads

pub record ExportsAskNothing : Type 0 where
  pub pasa_fresh : (a : ℕ) → fresh-reads.Asked tt (a, tt)
  pub pasa_child_router : (n : PasaNode) → child-router-reads.Asked tt (n, tt)
  pub pasa_child_host : (n : PasaNode) → child-host-reads.Asked tt (n, tt)
  pub pasa_next_hop : (n : PasaNode) (d : ℕ) → next-hop-reads.Asked tt (n, (d, tt))
  pub pasa_packet_next_hop : (κs : Lfts 1) (n : PasaNode) (packet : Slice) → packet-next-hop-reads.Asked κs (n, (packet, tt))
  pub pasa_next_hops : (κs : Lfts 4) (n : PasaNode) (ds : Slice) (nodes actions refusals : SliceMut)
      → next-hops-reads.Asked κs (n, (ds, (nodes, (actions, (refusals, tt)))))
  pub pasa_header_write : (κs : Lfts 1) (a : ℕ) (out : SliceMut) → header-write-reads.Asked κs (a, (out, tt))
  pub pasa_header_read : (κs : Lfts 1) (packet : Slice) → header-read-reads.Asked κs (packet, tt)
  pub pasa_ipv6_write : (κs : Lfts 2) (prefix : Slice) (a : ℕ) (out : SliceMut) → ipv6-write-reads.Asked κs (prefix, (a, (out, tt)))
  pub pasa_ipv6_read : (κs : Lfts 2) (prefix ipv6 : Slice) → ipv6-read-reads.Asked κs (prefix, (ipv6, tt))
  pub pasa_path : (κs : Lfts 1) (a d : ℕ) (words : SliceMut) → path-reads.Asked κs (a, (d, (words, tt)))
  pub pasa_plan_read : (κs : Lfts 2) (text : Slice) (words : SliceMut) → plan-read-reads.Asked κs (text, (words, tt))
  pub pasa_parent : (a : ℕ) → parent-reads.Asked tt (a, tt)
  pub pasa_depth : (a : ℕ) → depth-reads.Asked tt (a, tt)
  pub pasa_bit_length : (a : ℕ) → bit-length-reads.Asked tt (a, tt)
  pub pasa_is_host : (a : ℕ) → is-host-reads.Asked tt (a, tt)
  pub pasa_interface : interface-reads.Asked tt tt

pub record ExportsAnswerAsDefined : Type 0 where
  pub pasa_fresh : (a : ℕ) (r : PasaNode) → fresh-reads.Learnt tt (a, tt) r (a, tt) → r ≡ pasa_node (fresh a)
  pub pasa_child_router : (n : PasaNode) (r : PasaChild) → child-router-reads.Learnt tt (n, tt) r (n, tt) → r ≡ pasa_child (child_of (node_of n) Router)
  pub pasa_child_host : (n : PasaNode) (r : PasaChild) → child-host-reads.Learnt tt (n, tt) r (n, tt) → r ≡ pasa_child (child_of (node_of n) Host)
  pub pasa_next_hop : (n : PasaNode) (d : ℕ) (r : PasaHop) → next-hop-reads.Learnt tt (n, (d, tt)) r (n, (d, tt)) → r ≡ pasa_hop (next_hop (node_of n) d)
  pub pasa_packet_next_hop : (κs : Lfts 1) (n : PasaNode) (packet : Slice) (r : PasaHop)
      → packet-next-hop-reads.Learnt κs (n, (packet, tt)) r (n, (packet, tt))
      → r ≡ pasa_hop (packet_hop (node_of n) packet.now)
  pub pasa_next_hops : (κs : Lfts 4) (n : PasaNode) (ds : Slice) (nodes actions refusals nodes' actions' refusals' : SliceMut) (r : ℕ)
      → next-hops-reads.Learnt κs (n, (ds, (nodes, (actions, (refusals, tt))))) r (n, (ds, (nodes', (actions', (refusals', tt)))))
      → ◌≡◌ {A = BatchEffect} record { count = r; nodes = nodes'.now; actions = actions'.now; refusals = refusals'.now }
      (next_hops (node_of n) ds.now nodes.now actions.now refusals.now)
  pub pasa_header_write : (κs : Lfts 1) (a : ℕ) (out last : SliceMut) (r : PasaWritten)
      → header-write-reads.Learnt κs (a, (out, tt)) r (a, (last, tt))
      → (r ≡ pasa_written (writing a out.now).answer) × (last.now ≡ (writing a out.now).buffer)
  pub pasa_header_read : (κs : Lfts 1) (packet : Slice) (r : PasaRead)
      → header-read-reads.Learnt κs (packet, tt) r (packet, tt)
      → r ≡ pasa_read (reading packet.now)
  pub pasa_ipv6_write : (κs : Lfts 2) (prefix : Slice) (a : ℕ) (out last : SliceMut) (r : PasaWritten)
      → ipv6-write-reads.Learnt κs (prefix, (a, (out, tt))) r (prefix, (a, (last, tt)))
      → (r ≡ pasa_written (form_writing prefix.now a out.now).answer) × (last.now ≡ (form_writing prefix.now a out.now).buffer)
  pub pasa_ipv6_read : (κs : Lfts 2) (prefix ipv6 : Slice) (r : PasaAddress)
      → ipv6-read-reads.Learnt κs (prefix, (ipv6, tt)) r (prefix, (ipv6, tt))
      → r ≡ pasa_address (form_reading prefix.now ipv6.now)
  pub pasa_path : (κs : Lfts 1) (a d : ℕ) (words last : SliceMut) (r : PasaListed)
      → path-reads.Learnt κs (a, (d, (words, tt))) r (a, (d, (last, tt)))
      → (r ≡ pasa_listed (listing a d words.now).answer) × (last.now ≡ (listing a d words.now).words)
  pub pasa_plan_read : (κs : Lfts 2) (text : Slice) (words last : SliceMut) (r : PasaPlan)
      → plan-read-reads.Learnt κs (text, (words, tt)) r (text, (last, tt))
      → (r ≡ pasa_plan (planning text.now words.now).answer) × (last.now ≡ (planning text.now words.now).words)
  pub pasa_parent : (a r : ℕ) → parent-reads.Learnt tt (a, tt) r (a, tt) → r ≡ parent a
  pub pasa_depth : (a r : ℕ) → depth-reads.Learnt tt (a, tt) r (a, tt) → r ≡ depth a
  pub pasa_bit_length : (a r : ℕ) → bit-length-reads.Learnt tt (a, tt) r (a, tt) → r ≡ bit_length a
  pub pasa_is_host : (a r : ℕ) → is-host-reads.Learnt tt (a, tt) r (a, tt) → r ≡ host_answer a
  pub pasa_interface : (r : ℕ) → interface-reads.Learnt tt tt r tt → r ≡ interface
