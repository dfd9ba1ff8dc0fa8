-- The lines of request Seven, each taken from the record that carries it. Assumes nothing.
use Prim.Native.Nat.{ℕ, ◌+◌, ◌^◌, ◌≤◌, ◌<◌}
use mathlib.Core.Path.{◌≡◌, refl, sym, ap, ◌∙◌, subst}
use mathlib.Core.Logic.{◌⊎◌, inl, inr}
use mathlib.Core.List.{List, [], ◌∷◌, ◌++◌}
use native.Mathlib.Omega.{arith}
use borrow.Author.Tests.{lt-ltb}
use lib.Dec.{lit<}
use lib.ListN.{length, take, get_or, replicate}
use Rattle.octets.specs.Octets.{Written}
use Rattle.octets.specs.Octets.{AreOctets, octets, value, joined, WriteEffect, wrote, refuse_writing, write}
use Rattle.nsa.specs.Fields.{length_field, long_octets, address_field, fields, writing, number_reading, length_reading, counted_reading, address_reading, source_reading, destination_reading, FieldsAnswer, found, reading}
use Rattle.nsa.specs.Forms.{LengthForm, length_alone, length_one, length_two, AddressForm, address_alone, address_two, address_four, address_counted}
use Rattle.nsa.proofs.Writing.{length_field_alone, length_field-one, length_field_two, address_field_alone, address_field_two, address_field_four, address_field-counted, long_octets_five, long_octets_six, long_octets_seven, long_octets_eight, writing-long}
use Rattle.octets.proofs.Correspondence.{octets-one_to_one}
use Rattle.nsa.specs.Refusals.{AcceptedFields}
use Rattle.nsa.proofs.Shortest.{otherwise_six}
use Rattle.nsa.proofs.Forms.{shortest-lengths, shortest-addresses, at_most_23}
use Rattle.nsa.proofs.WriteRefusals.{fields-write-refusals}
use Rattle.nsa.proofs.ReadRefusals.{fields-read-refusals}
use Rattle.nsa.proofs.Demand2.{wrote-fields, done-reads, done_spares, fields_round_trip}
use Rattle.nsa.proofs.OneRule.{one_writer_lem, one_reader_lem}
use Rattle.nsa.proofs.WrongWriters.{silent-fields_writer_refuted, refusing-fields_writer_refuted, roomless_fields_writer_refuted, spoiling-fields_writer_refuted, longer-fields_writer_refuted, unadded_fields_writer_refuted, zero-first-fields_writer_refuted, room-first-fields_writer_refuted, exchanging_fields_writer_refuted}
use Rattle.nsa.proofs.WrongReaders.{longer-fields-reader_refuted, unadded_fields-reader_refuted, late_length-fields-reader_refuted, long-zeros_nine_fields-reader_refuted, late_reserved_fields-reader_refuted, destination-first-fields-reader_refuted, exchanging_fields-reader_refuted}
use Rattle.nsa.proofs.Promises.{write-asks-nothing, write_promise, read-asks-nothing, read_promise, one-reading}
use Rattle.pasa.specs.declared.bytes.PasaWritten.{PasaWritten}
use Rattle.pasa.specs.declared.fields.PasaNsa.{PasaNsa}
use Rattle.pasa.specs.Bytes.{pasa_written}
use Rattle.pasa.specs.Fields.{pasa_nsa}
use Rattle.pasa.proofs.FieldPromises.{nsa_write-asks-nothing, nsa_write_promise, nsa_read-asks-nothing, nsa_read_promise, written-asks-nothing, written_promise, written-numbers-asks-nothing, written-numbers_promise}
use Rattle.claims.specs.Nsa.{OlderFields, ShortestForms, OlderRefusals, ThreeForms, OlderReadsBack, ValuesOfSeven, OlderCode, OlderInCode, OlderOfAny, WrongOlder}

pub older_fields : OlderFields
unfolding fields
older_fields = record {
  length_in_one = λ n h. length_field_alone n (omega arith);
  length_in_two = λ n l h. length_field-one n l (omega arith);
  length_in_three = λ n l h. length_field_two n l;
  address_in_one = λ a h. address_field_alone a (omega arith);
  address_in_three = λ a l h. address_field_two a l (omega arith);
  address_in_five = λ a l h. address_field_four a l h;
  address_in_seven = λ a l h. counted a 5 l (long_octets_five a h);
  address_in_eight = λ a l h. counted a 6 (omega arith) (long_octets_six a l h);
  address_in_nine = λ a l h. counted a 7 (omega arith) (long_octets_seven a l h);
  address_in_ten = λ a l h. counted a 8 (omega arith) (long_octets_eight a l);
  high_first = octets-one_to_one.most_first;
  octets_hold = octets-one_to_one.held;
  in_arow = λ l s d. refl;
  at_most23 = at_most_23;
}
  where
    counted : (a k : ℕ) → 256 ^ 4 ≤ a → long_octets a ≡ k → address_field a ≡ 255 ∷ k ∷ octets k a
    counted a k l e = address_field-counted a l ∙ ap (λ (j : ℕ). 255 ∷ j ∷ octets j a) e

pub shortest-forms : ShortestForms
shortest-forms = record {
  length_forms = λ os n. (of_length os n, to_length os n);
  address_forms = λ os a. (of_address os a, to_address os a);
  length_is_one = shortest-lengths.a_form;
  length_is_shortest = shortest-lengths.shortest;
  length_none_above = shortest-lengths.none_above;
  address_is_one = shortest-addresses.a_form;
  address_is_shortest = shortest-addresses.shortest;
  address_only_one = shortest-addresses.only_one;
  other_length = otherwise_six.a_length;
  other_source = otherwise_six.a_source;
  other_destination = otherwise_six.a_destination;
}
  where
    Alone : List ℕ → ℕ → Type 0
    Alone os n = (n ≤ 252) × (os ≡ n ∷ [])

    -- so many octets behind a mark, and so much added
    Marked : ℕ → ℕ → List ℕ → ℕ → Type 0
    Marked mark count os n = (rest : List ℕ) × AreOctets rest × ((length rest ≡ count) × (os ≡ mark ∷ rest) × (n ≡ value rest + 252))

    Plain : ℕ → ℕ → List ℕ → ℕ → Type 0
    Plain mark count os n = (rest : List ℕ) × AreOctets rest × ((length rest ≡ count) × (os ≡ mark ∷ rest) × (n ≡ value rest))

    Counted : List ℕ → ℕ → Type 0
    Counted os n = (rest : List ℕ) × AreOctets rest × ((length rest < 256) × (os ≡ 255 ∷ length rest ∷ rest) × (n ≡ value rest))

    of_length : (os : List ℕ) (n : ℕ) → LengthForm os n → Alone os n ⊎ (Marked 253 1 os n ⊎ Marked 254 2 os n)
    of_length os n (length_alone h e) = inl (h, e)
    of_length os n (length_one rest are many e number) = inr (inl (rest, are, (many, e, number)))
    of_length os n (length_two rest are many e number) = inr (inr (rest, are, (many, e, number)))

    to_length : (os : List ℕ) (n : ℕ) → Alone os n ⊎ (Marked 253 1 os n ⊎ Marked 254 2 os n) → LengthForm os n
    to_length os n (inl (h, e)) = length_alone h e
    to_length os n (inr (inl (rest, are, (many, e, number)))) = length_one rest are many e number
    to_length os n (inr (inr (rest, are, (many, e, number)))) = length_two rest are many e number

    of_address : (os : List ℕ) (a : ℕ) → AddressForm os a → Alone os a ⊎ (Plain 253 2 os a ⊎ (Plain 254 4 os a ⊎ Counted os a))
    of_address os a (address_alone h e) = inl (h, e)
    of_address os a (address_two rest are many e number) = inr (inl (rest, are, (many, e, number)))
    of_address os a (address_four rest are many e number) = inr (inr (inl (rest, are, (many, e, number))))
    of_address os a (address_counted rest are many e number) = inr (inr (inr (rest, are, (many, e, number))))

    to_address : (os : List ℕ) (a : ℕ) → Alone os a ⊎ (Plain 253 2 os a ⊎ (Plain 254 4 os a ⊎ Counted os a)) → AddressForm os a
    to_address os a (inl (h, e)) = address_alone h e
    to_address os a (inr (inl (rest, are, (many, e, number)))) = address_two rest are many e number
    to_address os a (inr (inr (inl (rest, are, (many, e, number))))) = address_four rest are many e number
    to_address os a (inr (inr (inr (rest, are, (many, e, number))))) = address_counted rest are many e number

pub older_refusals : OlderRefusals
older_refusals = record {
  to_write = fields-write-refusals.given;
  to_read = fields-read-refusals.given;
  behind_alength = λ p. refl;
  behind_asource = λ p. refl;
  length_ends = λ p. (λ h. rw (lt-ltb (get_or p 0 0) 253 (omega arith)) refl, λ e. rw e refl, λ e. rw e refl);
  address_ends = λ p. (λ h. rw (lt-ltb (get_or p 0 0) 253 (omega arith)) refl, λ e. rw e refl, λ e. rw e refl, λ e. rw e refl);
  nothing_written = fields-write-refusals.beside;
  nothing_read = fields-read-refusals.beside;
}

-- the three forms, as the page has them
three_forms : {p : List ℕ} {l s d k : ℕ} → AcceptedFields p l s d k → ThreeForms p l s d k
three_forms x = (x.in_length, x.in_source, x.in_destination, x.behind, x.laid, (x.length-told, x.source_told, x.destination-told, x.after))

forms_three : {p : List ℕ} {l s d k : ℕ} → ThreeForms p l s d k → AcceptedFields p l s d k
forms_three (in_length, in_source, in_destination, behind, laid, (length-told, source_told, destination-told, after)) = record {
  in_length = in_length;
  in_source = in_source;
  in_destination = in_destination;
  behind = behind;
  laid = laid;
  length-told = length-told;
  source_told = source_told;
  destination-told = destination-told;
  after = after;
}

pub older_reads-back : OlderReadsBack
older_reads-back = record {
  answers_found = λ l s d k. refl;
  answers_refused = λ n. refl;
  written = wrote-fields;
  reads_back = done-reads;
  spares_the_rest = done_spares;
  accepts_numbers = λ p l s d k all e. let (short, source, destination, within, written) = fields_round_trip.written_so p l s d k all e in (short, source, destination, within);
  accepts_the_written = λ p l s d k all e. (fields_round_trip.written_so p l s d k all e).4;
  accepts_so = λ p all z. three_forms (fields-read-refusals.without p all z);
}

pub values_of_seven : ValuesOfSeven
unfolding writing write refuse_writing length_field long_octets address_field fields octets reading length_reading source_reading destination_reading address_reading number_reading counted_reading value joined
values_of_seven = record {
  length0 = refl;
  length252 = refl;
  length253 = refl;
  length507 = refl;
  length508 = refl;
  length65787 = refl;
  length65788 = λ s d buffer. writing-long 65788 s d buffer (omega arith);
  address1 = refl;
  address252 = refl;
  address253 = refl;
  address65535 = refl;
  address65536 = refl;
  address_below32 = refl;
  address_of33 = refl;
  address_below40 = refl;
  address_of41 = refl;
  address_below48 = refl;
  address_of49 = refl;
  address_below56 = refl;
  address_of57 = refl;
  address_below64 = refl;
  four_differ = refl;
  five_differ = refl;
  eight_differ = refl;
  the23 = refl;
  fd00 = refl;
  fd_cut = refl;
  fe_cut = refl;
  fe00ff = refl;
  ff_alone = refl;
  ff_before = refl;
  nothing = refl;
  zero_in_one = refl;
  fd0000 = refl;
  fd00fc = refl;
  fe0000ffff = refl;
  ff04 = refl;
  ff09 = refl;
  ff_no_more = refl;
  fd00_cut = refl;
  fe000100_cut = refl;
  ff0500_missing = refl;
  ff0500_whole = refl;
  fe_zeros = refl;
  ff00 = refl;
  ff01fd = refl;
  ff03 = refl;
  destination_zero = refl;
  destination_fd00fc = refl;
  destination_ff09 = refl;
  no_destination = refl;
  length_first = refl;
  source_first = refl;
  a_reading = λ behind. done-reads 253 252 256 (replicate 6 0) behind 6 (lit< tt) (lit< tt) refl;
  long_reading = refl;
  exact_room = refl;
  one_less = refl;
  source_zero = refl;
  zero_destination = refl;
}

pub older_code : OlderCode
unfolding pasa_nsa pasa_written
older_code = record {
  three_found = λ f k. refl;
  not_found = λ x. refl;
  one_answer = one-reading;
  nsa_write_asks = write-asks-nothing;
  nsa_write = write_promise;
  nsa_read_asks = read-asks-nothing;
  nsa_read = read_promise;
  pasa_nsa_write_asks = nsa_write-asks-nothing;
  pasa_nsa_write = nsa_write_promise;
  pasa_nsa_read_asks = nsa_read-asks-nothing;
  pasa_nsa_read = nsa_read_promise;
  pasa_written_asks = written-asks-nothing;
  pasa_written_to = written_promise;
  pasa_written_numbers_asks = written-numbers-asks-nothing;
  pasa_written_numbers = written-numbers_promise;
  written_struct = λ w. refl;
  nsa_struct = λ r. refl;
}

-- an answer without a refusal
done-answer : (w : Written) → w.refusal ≡ 0 → w ≡ wrote w.count
done-answer w e = λ i. record { refusal = e i; count = w.count }

found-answer : (x : FieldsAnswer) → x.refusal ≡ 0 → x ≡ found x.length x.source x.destination x.place
found-answer x e = λ i. record { refusal = e i; length = x.length; source = x.source; destination = x.destination; place = x.place }

pub older_in_code : OlderInCode
unfolding pasa_written pasa_nsa
older_in_code = record {
  reads_back = λ κs κs' l s d out out' p behind w r wrote z same read.
      let (answer, buffer, s_fits, d_fits) = nsa_write_promise κs l s d out out' w wrote in
      let count = ap (λ (x : PasaWritten). x.count) answer in
      let done = done-answer (writing l s d out.now).answer (sym (ap (λ (x : PasaWritten). x.refusal) answer) ∙ z) in
      (nsa_read_promise κs' p r read).0
      ∙ ap (λ (os : List ℕ). pasa_nsa (reading os)) (same ∙ ap (λ (os : List ℕ). os ++ behind) buffer)
      ∙ ap pasa_nsa (done-reads l s d out.now behind (writing l s d out.now).answer.count s_fits d_fits done)
      ∙ ap (λ (k : ℕ). record { length = l; source = s; destination = d; place = k; refusal = 0 }) (sym count);
  writes_back = λ κs κs' p out out' r w read z room wrote.
      let (answer, all) = nsa_read_promise κs p r read in
      let x = reading p.now in
      let found = found-answer x (sym (ap (λ (y : PasaNsa). y.refusal) answer) ∙ z) in
      let k = ap (λ (y : PasaNsa). y.place) answer in
      let (answered, taken) = (fields_round_trip.written_so p.now x.length x.source x.destination x.place all found).4 out.now
      (subst (λ (n : ℕ). n ≤ length out.now) k room) in
      let (written, buffer, s_fits, d_fits) = nsa_write_promise κs' r.length r.source r.destination out out' w wrote in
      let three = ap (λ (y : PasaNsa). writing y.length y.source y.destination out.now) answer in (
        written
            ∙ ap (λ (e : WriteEffect). pasa_written e.answer) three
            ∙ ap pasa_written answered
            ∙ ap (λ (n : ℕ). record { count = n; refusal = 0 }) (sym k),
        ap (take r.place) (buffer ∙ ap (λ (e : WriteEffect). e.buffer) three)
            ∙ ap (λ (n : ℕ). take n (writing x.length x.source x.destination out.now).buffer) k
            ∙ taken
            ∙ ap (λ (n : ℕ). take n p.now) (sym k),
      );
}

pub older_of_any : OlderOfAny
older_of_any = record {
  means_to_write = λ writer. (
    λ claim. (claim.given, claim.beside, claim.without),
    λ (given, beside, without). record { given = given; beside = beside; without = without },
  );
  means_to_read = λ reader. (
    λ claim. (claim.given, claim.beside, λ p all z. three_forms (claim.without p all z)),
    λ (given, beside, without). record { given = given; beside = beside; without = λ p all z. forms_three (without p all z) },
  );
  means_both_ways = λ writer reader. (
    λ claim. (claim.reads_back, claim.where_done, claim.written_so),
    λ (back, done, so). record { reads_back = back; where_done = done; written_so = so },
  );
  ours_to_write = fields-write-refusals;
  ours_to_read = fields-read-refusals;
  ours_both_ways = fields_round_trip;
  one_writer = one_writer_lem;
  one_reader = one_reader_lem;
}

pub wrong_older : WrongOlder
wrong_older = record {
  silent = silent-fields_writer_refuted;
  refusing = refusing-fields_writer_refuted;
  without_room = roomless_fields_writer_refuted;
  spoiling = spoiling-fields_writer_refuted;
  writes_longer = longer-fields_writer_refuted;
  takes_longer = longer-fields-reader_refuted;
  writes_unadded = unadded_fields_writer_refuted;
  reads_unadded = unadded_fields-reader_refuted;
  with_zero_first = zero-first-fields_writer_refuted;
  with_room_first = room-first-fields_writer_refuted;
  writes_exchanged = exchanging_fields_writer_refuted;
  reads_exchanged = exchanging_fields-reader_refuted;
  with_length_late = late_length-fields-reader_refuted;
  with_nine_for_long = long-zeros_nine_fields-reader_refuted;
  with_reserved_late = late_reserved_fields-reader_refuted;
  with_destination_first = destination-first-fields-reader_refuted;
}
