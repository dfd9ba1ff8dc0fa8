-- The front page's lines on the code of request Four, each quoted from the function's own contract. Assumes nothing.
use mathlib.Core.Path.{refl}
use lib.ListN.{length}
use borrow.Author.Tests.{eq-eqb, ne_eqb}
use Rattle.node.specs.Node.{with_counts}
use Rattle.node.proofs.Promises.{with_counts_promise, with_counts-asks-nothing}
use Rattle.crc.proofs.Promises.{crc_promise, crc-asks-nothing}
use Rattle.block.proofs.Promises.{all_are_promise, all_are-asks-nothing, is_block_promise, is_block-asks-nothing, put_promise, put-asks-nothing}
use Rattle.journal.specs.Recovery.{unfit, refuse_recovery}
use Rattle.journal.specs.Reader.{begin}
use Rattle.journal.proofs.RecoverLaws.{finished-known, finished-fault, fault-numbered}
use Rattle.journal.proofs.Promises.{one-recovered, one-placed, one-found, one-progress, unfit_promise, unfit-asks-nothing, take-slot_promise}
use Rattle.journal.proofs.Promises.{take-slot-asks-nothing, finish_promise, finish-asks-nothing, finish-any_promise, finish-any-asks-nothing}
use Rattle.reader.specs.SameAnswers.{asked, asked_all, by_reader}
use Rattle.reader.proofs.Promises.{start_promise, start-asks-nothing, next_promise, next-asks-nothing, place_promise, place-asks-nothing}
use Rattle.reader.proofs.Promises.{recover-asks-nothing as reader-recover-asks-nothing}
use Rattle.reader.proofs.Theorem.{same_answers_lem}
use Rattle.journal.proofs.Promises.{recover-asks-nothing, write-asks-nothing, record_in_promise, record_in_asks-nothing}
use Rattle.pasa.specs.Journals.{node_in, nobody, pasa_block, pasa_recovered, pasa_record, bit}
use Rattle.pasa.proofs.JournalPromises.{node_promise, node-asks-nothing, journal-write_promise, journal-write-asks-nothing}
use Rattle.pasa.proofs.JournalPromises.{journal-recover_promise, journal-recover-asks-nothing, journal-record_promise, journal-record-asks-nothing}
use Rattle.pasa.proofs.JournalPromises.{crc_promise as pasa-crc-promise, crc-asks-nothing as pasa-crc-asks-nothing}
use Rattle.claims.specs.JournalCode.{JournalAsksNothing, JournalAnswersAsDefined, TheReader, JournalFields}

pub journal-asks-nothing : JournalAsksNothing
journal-asks-nothing = record {
  node_with_counts = with_counts-asks-nothing;
  crc_of = crc-asks-nothing;
  block_all_are = all_are-asks-nothing;
  block_is_block = is_block-asks-nothing;
  block_put_in = put-asks-nothing;
  journal_recover = recover-asks-nothing;
  journal_write = write-asks-nothing;
  journal_record = record_in_asks-nothing;
  journal_unfit = unfit-asks-nothing;
  journal_take_slot = take-slot-asks-nothing;
  journal_finish = finish-asks-nothing;
  journal_finish_any = λ F κ end words. finish-any-asks-nothing F end words κ;
  reader_recover = reader-recover-asks-nothing;
  pasa_node_to = node-asks-nothing;
  pasa_journal_write = journal-write-asks-nothing;
  pasa_journal_recover = journal-recover-asks-nothing;
  pasa_journal_record = journal-record-asks-nothing;
  pasa_crc = pasa-crc-asks-nothing;
}

pub journal-answers_as_defined : JournalAnswersAsDefined
journal-answers_as_defined = record {
  node_with_counts = with_counts_promise;
  crc_of = crc_promise;
  block_all_are = all_are_promise;
  block_is_block = is_block_promise;
  block_put_in = put_promise;
  journal_recover = λ κs journal words words' r h. h;
  journal_write = λ κs journal xs journal' r h. h;
  journal_record = record_in_promise;
  journal_refuse = λ x. refl;
  journal_refuse_by_number = λ k. refl;
  journal_unfit = unfit_promise;
  journal_take_slot = take-slot_promise;
  journal_finish = finish_promise;
  journal_finish_any = λ F κs end words words' r h. finish-any_promise F end words κs words' r h;
  papers_numbers = λ r. refl;
  papers_progress = λ p. (refl, fault-numbered p.refusal);
  reader_recover = λ κs journal words words' r h. h;
  pasa_node_to = node_promise;
  pasa_journal_write = journal-write_promise;
  pasa_journal_recover = journal-recover_promise;
  pasa_journal_record = journal-record_promise;
  pasa_crc = pasa-crc-promise;
}

pub the_reader : TheReader
unfolding asked asked_all by_reader begin refuse_recovery
the_reader = record {
  same_answers = same_answers_lem;
  of_any_reader = λ rule. (λ s. (s.keeps, s.place, s.ends, s.same), λ h. record { keeps = h.0; place = h.1; ends = h.2; same = h.3 });
  unfit_first = λ rule journal words ne. rw (ne_eqb (unfit (length journal.now) (length words)) 0 ne) refl;
  then_asked = λ rule journal words z. rw (eq-eqb (unfit (length journal.now) (length words)) 0 z) refl;
  first_slot = λ rule journal words. refl;
  asked_none = λ rule a. refl;
  asked_done = λ rule k a e. rw e refl;
  asked_on = λ rule k a e. rw e refl;
  finished_known = finished-known;
  finished_fault = finished-fault;
  starts = λ 𝓛 mem run κs journal r end. (start-asks-nothing 𝓛 mem run κs journal, start_promise 𝓛 mem run κs journal r end);
  takes = λ 𝓛 mem run κs reader words written nodes r end. (
    next-asks-nothing 𝓛 mem run κs reader words written nodes,
    next_promise 𝓛 mem run κs reader words written nodes r end,
  );
  its_place = λ 𝓛 mem run κs reader n end. (place-asks-nothing 𝓛 mem run κs reader, place_promise 𝓛 mem run κs reader n end);
}

pub journal-fields : JournalFields
unfolding with_counts pasa_block pasa_recovered pasa_record bit node_in nobody
journal-fields = record {
  recovers_by = λ R number k. refl;
  refuses_by = λ R number x. refl;
  goes_on_by = λ R number slot written nodes done. refl;
  is_at_fault_by = λ R number slot written nodes x done. refl;
  recovers = λ k. refl;
  places = λ k. refl;
  not_placed = λ x. refl;
  finds = λ n. refl;
  finds_none = refl;
  goes_on = λ slot written nodes done. refl;
  is_at_fault = λ slot written nodes x done. refl;
  one_recovery_answer = one-recovered;
  one_block_answer = one-placed;
  one_record_answer = one-found;
  one_progress = one-progress;
  block = λ p. refl;
  recovered = λ r. refl;
  its_record = λ r e. rw e;
  no_record = λ r e. rw e;
  counts = λ routers hosts n. refl;
  yes_and_no = (refl, refl);
}
