-- The statements about the archive, each line from the theorem that carries it. Assumes nothing.
use Prim.Native.Nat.{ℕ, ◌≤◌}
use mathlib.Core.Path.{◌≡◌, sym, ap, ◌∙◌, subst}
use mathlib.Core.List.{List, ◌++◌}
use lib.ListN.{length, take}
use Rattle.octets.specs.Octets.{Written}
use Rattle.octets.specs.Octets.{WriteEffect, wrote}
use Rattle.nsa.specs.Fields.{writing, FieldsAnswer, found, reading}
use Rattle.nsa.proofs.Demand2.{done-reads, fields_round_trip}
use Rattle.pasa.specs.declared.bytes.PasaWritten.{PasaWritten}
use Rattle.pasa.specs.declared.fields.PasaNsa.{PasaNsa}
use Rattle.pasa.specs.Bytes.{pasa_written}
use Rattle.pasa.specs.Fields.{pasa_nsa}
use Rattle.pasa_c.proofs.Archive.{ArchiveAsksNothing, ArchiveAnswersAsDefined, OlderInArchive}
use Rattle.pasa_c.proofs.Promises.{fresh_promise, fresh-asks-nothing, child-router_promise, child-router-asks-nothing}
use Rattle.pasa_c.proofs.Promises.{child-host_promise, child-host-asks-nothing, limit-routers_promise, limit-routers-asks-nothing}
use Rattle.pasa_c.proofs.Promises.{limit-hosts_promise, limit-hosts-asks-nothing, next-hop_promise, next-hop-asks-nothing}
use Rattle.pasa_c.proofs.Promises.{packet_next-hop_promise, packet_next-hop-asks-nothing, next-hops_promise, next-hops-asks-nothing}
use Rattle.pasa_c.proofs.Promises.{header-write_promise, header-write-asks-nothing, header-read_promise, header-read-asks-nothing}
use Rattle.pasa_c.proofs.Promises.{ipv6_write_promise, ipv6_write-asks-nothing, ipv6_read_promise, ipv6_read-asks-nothing}
use Rattle.pasa_c.proofs.Promises.{path_promise, path-asks-nothing, plan-read_promise, plan-read-asks-nothing}
use Rattle.pasa_c.proofs.AddressPromises.{parent_promise, parent-asks-nothing, depth_promise, depth-asks-nothing}
use Rattle.pasa_c.proofs.AddressPromises.{bit-length_promise, bit-length-asks-nothing, is_host_promise, is_host-asks-nothing}
use Rattle.pasa_c.proofs.AddressPromises.{interface_promise, interface-asks-nothing}
use Rattle.pasa_c.proofs.FieldPromises.{nsa_write_promise, nsa_write-asks-nothing, nsa_read_promise, nsa_read-asks-nothing}
use Rattle.pasa_c.proofs.JournalPromises.{journal-write_promise, journal-write-asks-nothing, journal-recover_promise, journal-recover-asks-nothing}
use Rattle.pasa_c.proofs.JournalPromises.{journal-record_promise, journal-record-asks-nothing, crc_promise, crc-asks-nothing}

pub archive_asks_nothing : ArchiveAsksNothing
archive_asks_nothing = record {
  pasa_fresh = fresh-asks-nothing;
  pasa_child_router = child-router-asks-nothing;
  pasa_child_host = child-host-asks-nothing;
  pasa_limit_routers = limit-routers-asks-nothing;
  pasa_limit_hosts = limit-hosts-asks-nothing;
  pasa_next_hop = next-hop-asks-nothing;
  pasa_packet_next_hop = packet_next-hop-asks-nothing;
  pasa_next_hops = next-hops-asks-nothing;
  pasa_header_write = header-write-asks-nothing;
  pasa_header_read = header-read-asks-nothing;
  pasa_ipv6_write = ipv6_write-asks-nothing;
  pasa_ipv6_read = ipv6_read-asks-nothing;
  pasa_path = path-asks-nothing;
  pasa_plan_read = plan-read-asks-nothing;
  pasa_parent = parent-asks-nothing;
  pasa_depth = depth-asks-nothing;
  pasa_bit_length = bit-length-asks-nothing;
  pasa_is_host = is_host-asks-nothing;
  pasa_interface = interface-asks-nothing;
  pasa_nsa_write = nsa_write-asks-nothing;
  pasa_nsa_read = nsa_read-asks-nothing;
  pasa_journal_write = journal-write-asks-nothing;
  pasa_journal_recover = journal-recover-asks-nothing;
  pasa_journal_record = journal-record-asks-nothing;
  pasa_crc = crc-asks-nothing;
}

pub archive_answers_as_defined : ArchiveAnswersAsDefined
archive_answers_as_defined = record {
  pasa_fresh = fresh_promise;
  pasa_child_router = child-router_promise;
  pasa_child_host = child-host_promise;
  pasa_limit_routers = limit-routers_promise;
  pasa_limit_hosts = limit-hosts_promise;
  pasa_next_hop = next-hop_promise;
  pasa_packet_next_hop = packet_next-hop_promise;
  pasa_next_hops = next-hops_promise;
  pasa_header_write = header-write_promise;
  pasa_header_read = header-read_promise;
  pasa_ipv6_write = ipv6_write_promise;
  pasa_ipv6_read = ipv6_read_promise;
  pasa_path = path_promise;
  pasa_plan_read = plan-read_promise;
  pasa_parent = parent_promise;
  pasa_depth = depth_promise;
  pasa_bit_length = bit-length_promise;
  pasa_is_host = is_host_promise;
  pasa_interface = interface_promise;
  pasa_nsa_write = nsa_write_promise;
  pasa_nsa_read = nsa_read_promise;
  pasa_journal_write = journal-write_promise;
  pasa_journal_recover = journal-recover_promise;
  pasa_journal_record = journal-record_promise;
  pasa_crc = crc_promise;
}

-- an answer without a refusal
done-answer : (w : Written) → w.refusal ≡ 0 → w ≡ wrote w.count
done-answer w e = λ i. record { refusal = e i; count = w.count }

found-answer : (x : FieldsAnswer) → x.refusal ≡ 0 → x ≡ found x.length x.source x.destination x.place
found-answer x e = λ i. record { refusal = e i; length = x.length; source = x.source; destination = x.destination; place = x.place }

pub older_in_archive : OlderInArchive
unfolding pasa_written pasa_nsa
older_in_archive = record {
  reads_back = λ κs κs' l s d out out' p behind w r wrote z same read.
      let (answer, buffer, s_fits, d_fits) = nsa_write_promise κs l s d out out' w wrote in
      let count = ap (λ (x : PasaWritten). x.count) answer in
      let done = done-answer (writing l s d out.now).answer (sym (ap (λ (x : PasaWritten). x.refusal) answer) ∙ z) in
      (nsa_read_promise κs' p r read).0
      ∙ ap (λ (os : List ℕ). pasa_nsa (reading os)) (same ∙ ap (λ (os : List ℕ). os ++ behind) buffer)
      ∙ ap pasa_nsa (done-reads l s d out.now behind (writing l s d out.now).answer.count s_fits d_fits done)
      ∙ ap (λ (k : ℕ). record { length = l; source = s; destination = d; place = k; refusal = 0 }) (sym count);
  writes_back = λ κs κs' p out out' r w read z room wrote.
      let (answer, all) = nsa_read_promise κs p r read in
      let x = reading p.now in
      let found = found-answer x (sym (ap (λ (y : PasaNsa). y.refusal) answer) ∙ z) in
      let k = ap (λ (y : PasaNsa). y.place) answer in
      let (answered, taken) = (fields_round_trip.written_so p.now x.length x.source x.destination x.place all found).4 out.now
      (subst (λ (n : ℕ). n ≤ length out.now) k room) in
      let (written, buffer, s_fits, d_fits) = nsa_write_promise κs' r.length r.source r.destination out out' w wrote in
      let three = ap (λ (y : PasaNsa). writing y.length y.source y.destination out.now) answer in (
        written
            ∙ ap (λ (e : WriteEffect). pasa_written e.answer) three
            ∙ ap pasa_written answered
            ∙ ap (λ (n : ℕ). record { count = n; refusal = 0 }) (sym k),
        ap (take r.place) (buffer ∙ ap (λ (e : WriteEffect). e.buffer) three)
            ∙ ap (λ (n : ℕ). take n (writing x.length x.source x.destination out.now).buffer) k
            ∙ taken
            ∙ ap (λ (n : ℕ). take n p.now) (sym k),
      );
}
