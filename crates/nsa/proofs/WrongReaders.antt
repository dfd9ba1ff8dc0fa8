-- A reader that takes a longer form is refuted by demand 2 at 00 FD 00 FC 01, which is not what is written of its numbers. The others are refuted by
-- demand 1: one that forgets 252 at the payload length 253, one that has 4 before 6 at FF 09 and nothing behind it, one that has 9 for longer zeros
-- at FD 00 00, one that waits for an octet behind a payload length's FF, one that looks for the destination first at a source of 00, and one
-- that exchanges the addresses at 1 and 2. Assumes nothing.
use mathlib.Core.Path.{refl, ap}
use mathlib.Core.List.{List, [], ◌∷◌}
use Prim.Native.Nat.{ℕ}
use native.Mathlib.Omega.{arith}
use lib.Dec.{lit<, lit≤}
use lib.ListN.{replicate}
use Rattle.octets.specs.Octets.{Written}
use Rattle.octets.specs.Octets.{AreOctets, value, joined, octets, write}
use Rattle.nsa.specs.Fields.{length_field, address_field, fields, writing, FieldsAnswer, number_reading, length_reading, counted_reading, address_reading, source_reading, destination_reading, reading}
use Rattle.nsa.specs.RoundTrip.{FieldsRoundTrip}
use Rattle.nsa.specs.Refusals.{FieldsReadRefusals}
use Rattle.nsa.specs.WrongReaders.{longer_fields_reader, unadded_fields_reader, late_length_fields_reader, long_zeros_nine_fields_reader, late_reserved_fields_reader, destination_first_fields_reader, exchanging_fields_reader}
use Rattle.nsa.proofs.OneRule.{one_reader_lem}

longer : List ℕ
longer = 0x00 ∷ 0xFD ∷ 0x00 ∷ 0xFC ∷ 0x01 ∷ []

pub longer-fields-reader_refuted : FieldsRoundTrip writing longer_fields_reader → ⊥
unfolding longer longer_fields_reader value joined writing write fields length_field address_field octets
longer-fields-reader_refuted claim =
    let all : AreOctets longer = (lit< tt, (lit< tt, (lit< tt, (lit< tt, (lit< tt, tt))))) in
    let written = ((claim.written_so longer 0 252 1 5 all refl).4 (replicate 5 0) (lit≤ tt)).0 in
    omega (arith, ap (λ (w : Written). w.count) written)

pub unadded_fields-reader_refuted : FieldsReadRefusals unadded_fields_reader → ⊥
unfolding unadded_fields_reader reading length_reading number_reading value joined source_reading destination_reading address_reading
unadded_fields-reader_refuted claim =
    omega (arith, ap (λ (x : FieldsAnswer). x.length) (one_reader_lem unadded_fields_reader claim (0xFD ∷ 0x01 ∷ 0x01 ∷ 0x01 ∷ []) (lit< tt, (lit< tt, (lit< tt, (lit< tt, tt))))))

pub late_length-fields-reader_refuted : FieldsReadRefusals late_length_fields_reader → ⊥
unfolding late_length_fields_reader reading length_reading source_reading address_reading counted_reading
late_length-fields-reader_refuted claim =
    omega (arith, ap (λ (x : FieldsAnswer). x.refusal) (one_reader_lem late_length_fields_reader claim (0x00 ∷ 0xFF ∷ 0x09 ∷ []) (lit< tt, (lit< tt, (lit< tt, tt)))))

pub long-zeros_nine_fields-reader_refuted : FieldsReadRefusals long_zeros_nine_fields_reader → ⊥
unfolding long_zeros_nine_fields_reader reading length_reading source_reading address_reading number_reading value joined
long-zeros_nine_fields-reader_refuted claim =
    omega (arith, ap (λ (x : FieldsAnswer). x.refusal) (one_reader_lem long_zeros_nine_fields_reader claim (0x00 ∷ 0xFD ∷ 0x00 ∷ 0x00 ∷ []) (lit< tt, (lit< tt, (lit< tt, (lit< tt, tt))))))

pub late_reserved_fields-reader_refuted : FieldsReadRefusals late_reserved_fields_reader → ⊥
unfolding late_reserved_fields_reader reading length_reading
late_reserved_fields-reader_refuted claim = omega (arith, ap (λ (x : FieldsAnswer). x.refusal) (one_reader_lem late_reserved_fields_reader claim (0xFF ∷ []) (lit< tt, tt)))

pub destination-first-fields-reader_refuted : FieldsReadRefusals destination_first_fields_reader → ⊥
unfolding destination_first_fields_reader reading length_reading source_reading address_reading
destination-first-fields-reader_refuted claim = omega (arith, ap (λ (x : FieldsAnswer). x.refusal) (one_reader_lem destination_first_fields_reader claim (0x00 ∷ 0x00 ∷ []) (lit< tt, (lit< tt, tt))))

pub exchanging_fields-reader_refuted : FieldsReadRefusals exchanging_fields_reader → ⊥
unfolding exchanging_fields_reader reading length_reading source_reading destination_reading address_reading
exchanging_fields-reader_refuted claim =
    omega (arith, ap (λ (x : FieldsAnswer). x.source) (one_reader_lem exchanging_fields_reader claim (0x00 ∷ 0x01 ∷ 0x02 ∷ []) (lit< tt, (lit< tt, (lit< tt, tt)))))
