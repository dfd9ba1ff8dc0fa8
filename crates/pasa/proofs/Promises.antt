-- What the exports promise, by their contracts as the code states them, is what the functions below them are defined to answer, shown in the
-- exported structs.
use mathlib.Core.Path.{◌≡◌}
use mathlib.Core.List.{List}
use Prim.Native.Nat.{ℕ}
use contract.Lifetimes.{Lfts}
use Rattle.std.specs.Borrow.{Bor, MutBor}
use Rattle.address.specs.declared.Kind.TheVariants.{Router, Host}
use Rattle.node.specs.Node.{fresh, child_of, set_limit}
use Rattle.node.specs.declared.Node.{Node}
use Rattle.header.specs.Header.{writing, reading}
use Rattle.ipv6.specs.Form.{form_writing, form_reading}
use Rattle.forward.specs.Forward.{next_hop}
use Rattle.packet.specs.Packet.{packet_hop}
use Rattle.route.specs.Path.{listing}
use Rattle.plan.specs.Plan.{planning}
use Rattle.pasa.specs.declared.bytes.PasaWritten.{PasaWritten}
use Rattle.pasa.specs.declared.bytes.PasaRead.{PasaRead}
use Rattle.pasa.specs.declared.bytes.PasaAddress.{PasaAddress}
use Rattle.pasa.specs.declared.paths.PasaListed.{PasaListed}
use Rattle.pasa.specs.declared.plans.PasaPlan.{PasaPlan}
use Rattle.pasa.specs.Children.{PasaNode, PasaChild, PasaLimited, node_of, pasa_node, pasa_child, pasa_limited}
use Rattle.batch.specs.declared.PasaHop.{PasaHop}
use Rattle.batch.specs.Exported.{pasa_hop}
use Rattle.batch.specs.Batch.{BatchEffect, next_hops}
use Rattle.pasa.specs.Bytes.{pasa_written, pasa_read, pasa_address}
use Rattle.pasa.specs.Paths.{pasa_listed}
use Rattle.pasa.specs.Plans.{pasa_plan}
use Rattle.pasa.proofs.children.NodeFromPasaNode.from.Reads as node-of-reads
use Rattle.pasa.proofs.children.pasa_fresh.Reads as fresh-reads
use Rattle.pasa.proofs.children.pasa_child_router.Reads as child-router-reads
use Rattle.pasa.proofs.children.pasa_child_host.Reads as child-host-reads
use Rattle.pasa.proofs.children.pasa_limit_routers.Reads as limit-routers-reads
use Rattle.pasa.proofs.children.pasa_limit_hosts.Reads as limit-hosts-reads
use Rattle.pasa.proofs.forwarding.pasa_next_hop.Reads as next-hop-reads
use Rattle.pasa.proofs.forwarding.pasa_packet_next_hop.Reads as packet-next-hop-reads
use Rattle.pasa.proofs.forwarding.pasa_next_hops.Reads as next-hops-reads
use Rattle.pasa.proofs.bytes.pasa_header_write.Reads as header-write-reads
use Rattle.pasa.proofs.bytes.pasa_header_read.Reads as header-read-reads
use Rattle.pasa.proofs.bytes.pasa_ipv6_write.Reads as ipv6-write-reads
use Rattle.pasa.proofs.bytes.pasa_ipv6_read.Reads as ipv6-read-reads
use Rattle.pasa.proofs.paths.pasa_path.Reads as path-reads
use Rattle.pasa.proofs.plans.pasa_plan_read.Reads as plan-read-reads

-- a lent slice, to read and to write
abbrev Slice : Type 0
Slice = Bor (List ℕ)

abbrev SliceMut : Type 0
SliceMut = MutBor (List ℕ)

pub node_of_promise : (n : PasaNode) (r : Node) → node-of-reads.Learnt tt (n, tt) r (n, tt) → r ≡ node_of n
node_of_promise n r h = h

pub fresh_promise : (a : ℕ) (r : PasaNode) → fresh-reads.Learnt tt (a, tt) r (a, tt) → r ≡ pasa_node (fresh a)
fresh_promise a r h = h

pub child-router_promise : (n : PasaNode) (r : PasaChild) → child-router-reads.Learnt tt (n, tt) r (n, tt) → r ≡ pasa_child (child_of (node_of n) Router)
child-router_promise n r h = h

pub child-host_promise : (n : PasaNode) (r : PasaChild) → child-host-reads.Learnt tt (n, tt) r (n, tt) → r ≡ pasa_child (child_of (node_of n) Host)
child-host_promise n r h = h

pub limit-routers_promise : (n : PasaNode) (k : ℕ) (r : PasaLimited)
    → limit-routers-reads.Learnt tt (n, (k, tt)) r (n, (k, tt))
    → r ≡ pasa_limited (set_limit (node_of n) Router k)
limit-routers_promise n k r h = h

pub limit-hosts_promise : (n : PasaNode) (k : ℕ) (r : PasaLimited)
    → limit-hosts-reads.Learnt tt (n, (k, tt)) r (n, (k, tt))
    → r ≡ pasa_limited (set_limit (node_of n) Host k)
limit-hosts_promise n k r h = h

pub next-hop_promise : (n : PasaNode) (d : ℕ) (r : PasaHop) → next-hop-reads.Learnt tt (n, (d, tt)) r (n, (d, tt)) → r ≡ pasa_hop (next_hop (node_of n) d)
next-hop_promise n d r h = h

pub packet_next-hop_promise : (κs : Lfts 1) (n : PasaNode) (packet : Slice) (r : PasaHop)
    → packet-next-hop-reads.Learnt κs (n, (packet, tt)) r (n, (packet, tt))
    → r ≡ pasa_hop (packet_hop (node_of n) packet.now)
packet_next-hop_promise κs n packet r h = h

pub next-hops_promise : (κs : Lfts 4) (n : PasaNode) (ds : Slice) (nodes actions refusals nodes' actions' refusals' : SliceMut) (r : ℕ)
    → next-hops-reads.Learnt κs (n, (ds, (nodes, (actions, (refusals, tt))))) r (n, (ds, (nodes', (actions', (refusals', tt)))))
    → ◌≡◌ {A = BatchEffect} record { count = r; nodes = nodes'.now; actions = actions'.now; refusals = refusals'.now }
    (next_hops (node_of n) ds.now nodes.now actions.now refusals.now)
next-hops_promise κs n ds nodes actions refusals nodes' actions' refusals' r h = h

pub header-write_promise : (κs : Lfts 1) (a : ℕ) (out last : SliceMut) (r : PasaWritten)
    → header-write-reads.Learnt κs (a, (out, tt)) r (a, (last, tt))
    → (r ≡ pasa_written (writing a out.now).answer) × (last.now ≡ (writing a out.now).buffer)
header-write_promise κs a out last r h = h

pub header-read_promise : (κs : Lfts 1) (packet : Slice) (r : PasaRead)
    → header-read-reads.Learnt κs (packet, tt) r (packet, tt)
    → r ≡ pasa_read (reading packet.now)
header-read_promise κs packet r h = h

pub ipv6_write_promise : (κs : Lfts 2) (prefix : Slice) (a : ℕ) (out last : SliceMut) (r : PasaWritten)
    → ipv6-write-reads.Learnt κs (prefix, (a, (out, tt))) r (prefix, (a, (last, tt)))
    → (r ≡ pasa_written (form_writing prefix.now a out.now).answer) × (last.now ≡ (form_writing prefix.now a out.now).buffer)
ipv6_write_promise κs prefix a out last r h = h

pub ipv6_read_promise : (κs : Lfts 2) (prefix ipv6 : Slice) (r : PasaAddress)
    → ipv6-read-reads.Learnt κs (prefix, (ipv6, tt)) r (prefix, (ipv6, tt))
    → r ≡ pasa_address (form_reading prefix.now ipv6.now)
ipv6_read_promise κs prefix ipv6 r h = h

pub path_promise : (κs : Lfts 1) (a d : ℕ) (words last : SliceMut) (r : PasaListed)
    → path-reads.Learnt κs (a, (d, (words, tt))) r (a, (d, (last, tt)))
    → (r ≡ pasa_listed (listing a d words.now).answer) × (last.now ≡ (listing a d words.now).words)
path_promise κs a d words last r h = h

pub plan-read_promise : (κs : Lfts 2) (text : Slice) (words last : SliceMut) (r : PasaPlan)
    → plan-read-reads.Learnt κs (text, (words, tt)) r (text, (last, tt))
    → (r ≡ pasa_plan (planning text.now words.now).answer) × (last.now ≡ (planning text.now words.now).words)
plan-read_promise κs text words last r h = h

-- ---- no export asks anything of its caller

pub node_of_asks-nothing : (n : PasaNode) → node-of-reads.Asked tt (n, tt)
node_of_asks-nothing n = tt

pub fresh-asks-nothing : (a : ℕ) → fresh-reads.Asked tt (a, tt)
fresh-asks-nothing a = tt

pub child-router-asks-nothing : (n : PasaNode) → child-router-reads.Asked tt (n, tt)
child-router-asks-nothing n = tt

pub child-host-asks-nothing : (n : PasaNode) → child-host-reads.Asked tt (n, tt)
child-host-asks-nothing n = tt

pub limit-routers-asks-nothing : (n : PasaNode) (k : ℕ) → limit-routers-reads.Asked tt (n, (k, tt))
limit-routers-asks-nothing n k = tt

pub limit-hosts-asks-nothing : (n : PasaNode) (k : ℕ) → limit-hosts-reads.Asked tt (n, (k, tt))
limit-hosts-asks-nothing n k = tt

pub next-hop-asks-nothing : (n : PasaNode) (d : ℕ) → next-hop-reads.Asked tt (n, (d, tt))
next-hop-asks-nothing n d = tt

pub packet_next-hop-asks-nothing : (κs : Lfts 1) (n : PasaNode) (packet : Slice) → packet-next-hop-reads.Asked κs (n, (packet, tt))
packet_next-hop-asks-nothing κs n packet = tt

pub next-hops-asks-nothing : (κs : Lfts 4) (n : PasaNode) (ds : Slice) (nodes actions refusals : SliceMut)
    → next-hops-reads.Asked κs (n, (ds, (nodes, (actions, (refusals, tt)))))
next-hops-asks-nothing κs n ds nodes actions refusals = tt

pub header-write-asks-nothing : (κs : Lfts 1) (a : ℕ) (out : SliceMut) → header-write-reads.Asked κs (a, (out, tt))
header-write-asks-nothing κs a out = tt

pub header-read-asks-nothing : (κs : Lfts 1) (packet : Slice) → header-read-reads.Asked κs (packet, tt)
header-read-asks-nothing κs packet = tt

pub ipv6_write-asks-nothing : (κs : Lfts 2) (prefix : Slice) (a : ℕ) (out : SliceMut) → ipv6-write-reads.Asked κs (prefix, (a, (out, tt)))
ipv6_write-asks-nothing κs prefix a out = tt

pub ipv6_read-asks-nothing : (κs : Lfts 2) (prefix ipv6 : Slice) → ipv6-read-reads.Asked κs (prefix, (ipv6, tt))
ipv6_read-asks-nothing κs prefix ipv6 = tt

pub path-asks-nothing : (κs : Lfts 1) (a d : ℕ) (words : SliceMut) → path-reads.Asked κs (a, (d, (words, tt)))
path-asks-nothing κs a d words = tt

pub plan-read-asks-nothing : (κs : Lfts 2) (text : Slice) (words : SliceMut) → plan-read-reads.Asked κs (text, (words, tt))
plan-read-asks-nothing κs text words = tt
