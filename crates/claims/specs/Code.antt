-- What the code promises is what the claims speak of. `Asked` and `Learnt` are read off the functions' own contracts: what a caller must show, and
-- what it learns of the result and of all that was lent. Each
-- public function asks nothing, and what it answers is what its definition says; the exports, and the functions of Four, Five and Seven, have pages of their own.
use Rattle.std.specs.Prelude.{ℕ, ◌+◌, ◌-◌, ◌*◌, ◌/◌, ◌%◌, ◌^◌, ◌<◌, ◌≤◌, ◌≡◌, Bool, List, length, Result}
use Rattle.refusal.specs.declared.Refusal.{Refusal}
use Rattle.std.specs.Int.Count.{count_leading_zeros}
use contract.Lifetimes.{Lfts}
use Rattle.std.specs.Borrow.{Bor, MutBor}
use Rattle.address.specs.declared.Address.{Address}
use Rattle.address.specs.declared.Kind.{Kind}
use Rattle.address.specs.Bits.{bits}
use Rattle.address.specs.Address.{made_answer, made, bit_length, is_host, depth, parent}
use Rattle.octets.specs.Octets.{octets, value, written_answer}
use Rattle.search.specs.Search.{child_end, first_bits}
use Rattle.header.specs.declared.Header.{Header}
use Rattle.header.specs.Header.{header_answer, writing, reading}
use Rattle.ipv6.specs.Form.{form_writing, form_reading}
use Rattle.node.specs.declared.Node.{Node}
use Rattle.node.specs.declared.Handed.{Handed}
use Rattle.node.specs.Node.{fresh, count, is_good, child_of, given_answer}
use Rattle.forward.specs.declared.Hop.{Hop}
use Rattle.forward.specs.Forward.{hop_answer, next_hop}
use Rattle.packet.specs.Packet.{packet_hop}
use Rattle.route.specs.Path.{path, hops, listing, listed_answer}
use Rattle.plan.specs.declared.PlanRefusal.{PlanRefusal}
use Rattle.plan.specs.Plan.{planned_answer, planning}
use Rattle.line.specs.Line.{answering}
use Rattle.batch.specs.declared.PasaHop.{PasaHop}
use Rattle.batch.specs.Exported.{pasa_hop, numbered_answer}
use Rattle.batch.specs.Batch.{BatchEffect, next_hops}
use Rattle.pasa.specs.declared.children.PasaNode.{PasaNode}
use Rattle.pasa.specs.Children.{node_of}
use Rattle.address.proofs.Address.of.Reads as of-reads
use Rattle.address.proofs.Address.new.Reads as new-reads
use Rattle.address.proofs.Address.bit_length.Reads as bit-length-reads
use Rattle.address.proofs.Address.is_host.Reads as is-host-reads
use Rattle.address.proofs.Address.depth.Reads as depth-reads
use Rattle.address.proofs.Address.parent.Reads as parent-reads
use Rattle.octets.proofs.put.Reads as put_reads
use Rattle.octets.proofs.get.Reads as get-reads
use Rattle.search.proofs.child_end.Reads as child-end-reads
use Rattle.search.proofs.child_end_by_bits.Reads as child-end-by-bits-reads
use Rattle.search.proofs.first_bits.Reads as first-bits-reads
use Rattle.node.proofs.Node.count.Reads as count-reads
use Rattle.node.proofs.Node.is_good.Reads as is-good-reads
use Rattle.batch.proofs.PasaHopFromResultHopRefusal.from.Reads as pasa-hop-reads
use Rattle.batch.proofs.pasa_hop.Reads as numbered-reads
use Rattle.batch.proofs.next_hops.Reads as next-hops-reads
use Rattle.pasa.proofs.children.NodeFromPasaNode.from.Reads as node-of-reads
use Rattle.node.proofs.Node.fresh.Reads as fresh-reads
use Rattle.node.proofs.Node.child.Reads as child-reads
use Rattle.forward.proofs.next_hop.Reads as next-hop-reads
use Rattle.packet.proofs.next_hop.Reads as packet-next-hop-reads
use Rattle.header.proofs.write.Reads as header-write-reads
use Rattle.header.proofs.read.Reads as header-read-reads
use Rattle.ipv6.proofs.write.Reads as form-write-reads
use Rattle.ipv6.proofs.read.Reads as form-read-reads
use Rattle.route.proofs.path.Reads as path-reads
use Rattle.route.proofs.hops.Reads as hops-reads
use Rattle.line.proofs.answer.Reads as line_reads
use Rattle.plan.proofs.read.Reads as plan-reads

-- what is lent: octets or words
abbrev pub Slice : Type 0
Slice = Bor (List ℕ)

-- what is lent to be written
abbrev pub SliceMut : Type 0
SliceMut = MutBor (List ℕ)

pub record AsksNothing : Type 0 where
  pub address_of : (n : ℕ) → of-reads.Asked tt (n, tt)
  pub address_new : (n : ℕ) → new-reads.Asked tt (n, tt)
  pub address_bit_length : (a : Address) → bit-length-reads.Asked tt (a, tt)
  pub address_is_host : (a : Address) → is-host-reads.Asked tt (a, tt)
  pub address_depth : (a : Address) → depth-reads.Asked tt (a, tt)
  pub address_parent : (a : Address) → parent-reads.Asked tt (a, tt)
  pub octets_put : (κs : Lfts 1) (number : ℕ) (out : SliceMut) → put_reads.Asked κs (number, (out, tt))
  pub octets_get : (κs : Lfts 1) (from : Slice) → get-reads.Asked κs (from, tt)
  pub search_child_end : (a : Address) (from : ℕ) → child-end-reads.Asked tt (a, (from, tt))
  pub search_child_end_by_bits : (a : Address) (from : ℕ) → child-end-by-bits-reads.Asked tt (a, (from, tt))
  pub search_first_bits : (a : Address) (count : ℕ) → first-bits-reads.Asked tt (a, (count, tt))
  pub node_count : (n : Node) (kind : Kind) → count-reads.Asked tt (n, (kind, tt))
  pub node_is_good : (n : Node) → is-good-reads.Asked tt (n, tt)
  pub node_fresh : (a : Address) → fresh-reads.Asked tt (a, tt)
  pub node_child : (n : Node) (kind : Kind) → child-reads.Asked tt (n, (kind, tt))
  pub next_hop_of : (n : Node) (d : Address) → next-hop-reads.Asked tt (n, (d, tt))
  pub packet_hop_of : (κs : Lfts 1) (n : Node) (p : Slice) → packet-next-hop-reads.Asked κs (n, (p, tt))
  pub header_write : (κs : Lfts 1) (a : Address) (out : SliceMut) → header-write-reads.Asked κs (a, (out, tt))
  pub header_read : (κs : Lfts 1) (p : Slice) → header-read-reads.Asked κs (p, tt)
  pub form_write : (κs : Lfts 2) (prefix : Slice) (a : Address) (out : SliceMut) → form-write-reads.Asked κs (prefix, (a, (out, tt)))
  pub form_read : (κs : Lfts 2) (prefix ipv6 : Slice) → form-read-reads.Asked κs (prefix, (ipv6, tt))
  pub path_call : (κs : Lfts 1) (a d : Address) (words : SliceMut) → path-reads.Asked κs (a, (d, (words, tt)))
  pub route_hops : (a d : Address) → hops-reads.Asked tt (a, (d, tt))
  pub line_answer : (κs : Lfts 2) (input : Slice) (out : SliceMut) → line_reads.Asked κs (input, (out, tt))
  pub plan_read : (κs : Lfts 2) (text : Slice) (words : SliceMut) → plan-reads.Asked κs (text, (words, tt))
  pub batch_hop : (h : Result Hop Refusal) → pasa-hop-reads.Asked tt (h, tt)
  pub batch_numbered : (h : Result Hop ℕ) → numbered-reads.Asked tt (h, tt)
  pub batch_next_hops : (κs : Lfts 4) (n : Node) (ds : Slice) (nodes actions refusals : SliceMut)
      → next-hops-reads.Asked κs (n, (ds, (nodes, (actions, (refusals, tt)))))
  pub pasa_node_of : (n : PasaNode) → node-of-reads.Asked tt (n, tt)

-- `out'` and `words'` are what is lent, at the end
pub record AnswersAsDefined : Type 0 where
  pub address_of : (n : ℕ) (r : Address) → of-reads.Learnt tt (n, tt) r (n, tt) → r.number ≡ n
  pub address_bit_length : (a : Address) (r : ℕ) → bit-length-reads.Learnt tt (a, tt) r (a, tt) → r ≡ bit_length a.number
  pub address_is_host : (a : Address) (r : Bool) → is-host-reads.Learnt tt (a, tt) r (a, tt) → r ≡ is_host a.number
  pub address_depth : (a : Address) (r : ℕ) → depth-reads.Learnt tt (a, tt) r (a, tt) → r ≡ depth a.number
  pub address_parent : (a r : Address) → parent-reads.Learnt tt (a, tt) r (a, tt) → r.number ≡ parent a.number
  pub octets_put : (κs : Lfts 1) (number : ℕ) (out out' : SliceMut) (r : Unit {0}) → put_reads.Learnt κs (number, (out, tt)) r (number, (out', tt))
      → out'.now ≡ octets (length out.now) number
  pub octets_get : (κs : Lfts 1) (from : Slice) (r : ℕ) → get-reads.Learnt κs (from, tt) r (from, tt) → r ≡ value from.now % 2 ^ 64
  pub search_child_end : (a : Address) (from r : ℕ) → child-end-reads.Learnt tt (a, (from, tt)) r (a, (from, tt)) → r ≡ child_end from (bits a.number)
  pub search_child_end_by_bits : (a : Address) (from r : ℕ) → child-end-by-bits-reads.Learnt tt (a, (from, tt)) r (a, (from, tt))
      → r ≡ child_end from (bits a.number)
  pub search_first_bits : (a : Address) (count : ℕ) (r : Address) → first-bits-reads.Learnt tt (a, (count, tt)) r (a, (count, tt))
      → r.number ≡ first_bits count a.number
  pub node_count : (n : Node) (kind : Kind) (r : ℕ) → count-reads.Learnt tt (n, (kind, tt)) r (n, (kind, tt)) → r ≡ count kind n
  pub node_is_good : (n : Node) (r : Bool) → is-good-reads.Learnt tt (n, tt) r (n, tt) → r ≡ is_good n
  pub address_new : (n : ℕ) (r : Result Address Refusal) → new-reads.Learnt tt (n, tt) r (n, tt) → made_answer r ≡ made n
  pub node_fresh : (a : Address) (r : Node) → fresh-reads.Learnt tt (a, tt) r (a, tt) → r ≡ fresh a.number
  pub node_child : (n : Node) (kind : Kind) (r : Handed Address) → child-reads.Learnt tt (n, (kind, tt)) r (n, (kind, tt)) → given_answer r ≡ child_of n kind
  pub next_hop_of : (n : Node) (d : Address) (r : Result Hop Refusal) → next-hop-reads.Learnt tt (n, (d, tt)) r (n, (d, tt)) → hop_answer r ≡ next_hop n d.number
  pub packet_hop_of : (κs : Lfts 1) (n : Node) (p : Slice) (r : Result Hop Refusal) → packet-next-hop-reads.Learnt κs (n, (p, tt)) r (n, (p, tt))
      → hop_answer r ≡ packet_hop n p.now
  pub header_write : (κs : Lfts 1) (a : Address) (out out' : SliceMut) (r : Result ℕ Refusal) → header-write-reads.Learnt κs (a, (out, tt)) r (a, (out', tt))
      → (written_answer r ≡ (writing a.number out.now).answer) × (out'.now ≡ (writing a.number out.now).buffer)
  pub header_read : (κs : Lfts 1) (p : Slice) (r : Result Header Refusal) → header-read-reads.Learnt κs (p, tt) r (p, tt) → header_answer r ≡ reading p.now
  pub form_write : (κs : Lfts 2) (prefix : Slice) (a : Address) (out out' : SliceMut) (r : Result ℕ Refusal)
      → form-write-reads.Learnt κs (prefix, (a, (out, tt))) r (prefix, (a, (out', tt)))
      → (written_answer r ≡ (form_writing prefix.now a.number out.now).answer) × (out'.now ≡ (form_writing prefix.now a.number out.now).buffer)
  pub form_read : (κs : Lfts 2) (prefix ipv6 : Slice) (r : Result Address Refusal) → form-read-reads.Learnt κs (prefix, (ipv6, tt)) r (prefix, (ipv6, tt))
      → made_answer r ≡ form_reading prefix.now ipv6.now
  pub path_call : (κs : Lfts 1) (a d : Address) (words words' : SliceMut) (r : Result ℕ Refusal)
      → path-reads.Learnt κs (a, (d, (words, tt))) r (a, (d, (words', tt)))
      → (listed_answer r ≡ (listing a.number d.number words.now).answer) × (words'.now ≡ (listing a.number d.number words.now).words)
  pub route_hops : (a d : Address) (r : ℕ) → hops-reads.Learnt tt (a, (d, tt)) r (a, (d, tt)) → r ≡ hops (path a.number d.number)
  pub line_answer : (κs : Lfts 2) (input : Slice) (out out' : SliceMut) (r : Result ℕ Refusal) → line_reads.Learnt κs (input, (out, tt)) r (input, (out', tt))
      → (written_answer r ≡ (answering input.now out.now).answer) × (out'.now ≡ (answering input.now out.now).buffer)
  pub plan_read : (κs : Lfts 2) (text : Slice) (words words' : SliceMut) (r : Result ℕ PlanRefusal) → plan-reads.Learnt κs (text, (words, tt)) r (text, (words', tt))
      → (planned_answer r ≡ (planning text.now words.now).answer) × (words'.now ≡ (planning text.now words.now).words)
  pub batch_hop : (h : Result Hop Refusal) (r : PasaHop) → pasa-hop-reads.Learnt tt (h, tt) r (h, tt) → r ≡ pasa_hop (hop_answer h)
  -- whatever number the refusal has
  pub batch_numbered : (h : Result Hop ℕ) (r : PasaHop) → numbered-reads.Learnt tt (h, tt) r (h, tt) → r ≡ pasa_hop (numbered_answer h)
  pub batch_next_hops : (κs : Lfts 4) (n : Node) (ds : Slice) (nodes actions refusals nodes' actions' refusals' : SliceMut) (r : ℕ)
      → next-hops-reads.Learnt κs (n, (ds, (nodes, (actions, (refusals, tt))))) r (n, (ds, (nodes', (actions', (refusals', tt)))))
      → ◌≡◌ {A = BatchEffect} record { count = r; nodes = nodes'.now; actions = actions'.now; refusals = refusals'.now }
      (next_hops n ds.now nodes.now actions.now refusals.now)
  pub pasa_node_of : (n : PasaNode) (r : Node) → node-of-reads.Learnt tt (n, tt) r (n, tt) → r ≡ node_of n

-- request Two: "Count the run of ones in one operation. Answers and users of the search stay as they are." A contract speaks of answers alone: that
-- `child_end` goes by a count of leading zeros, and that its users are as they were, is seen by comparing the code. These lines say that such a count
-- gives the answer, and that the loop over bits gives the same.
pub record TheSearch : Type 0 where
  -- where a bit is behind the first `from` bits of a: set the last bit of a to 0, so that the count stops before it, shift a left until the first bit
  -- behind them is the word's highest and those before it are dropped, and make each 0 of the word a 1 and each 1 a 0. Its leading zeros are as
  -- many as the ones before the child's last bit, and that bit is the next, of a host as of a router
  pub by_leading_zeros : (a from : ℕ) → a < 2 ^ 64 → from < bit_length a
      → child_end from (bits a) ≡ from + count_leading_zeros 64 (2 ^ 64 - 1 - (a / 2 * 2 * 2 ^ (64 - (bit_length a - from))) % 2 ^ 64) + 1
  -- where none is, of which document 01 is silent, nothing is looked at
  pub nothing_behind : (a from : ℕ) → a < 2 ^ 64 → bit_length a ≤ from → child_end from (bits a) ≡ from
  -- `child_end` and `child_end_by_bits`, which looks "at D's bits after C one at a time", answer the same
  pub same_answers : (a : Address) (from r s : ℕ) → child-end-reads.Learnt tt (a, (from, tt)) r (a, (from, tt))
      → child-end-by-bits-reads.Learnt tt (a, (from, tt)) s (a, (from, tt)) → r ≡ s
