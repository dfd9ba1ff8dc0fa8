-- Each wrong writer is refuted by demand 2 at the addresses 1 and 1 and the payload length 0: one that writes nothing, refuses or takes a longer
-- form in a buffer that has room, one that says done without room in the empty buffer, and one that spoils in a buffer with one octet more; one that
-- exchanges the addresses at 1 and 2. One that forgets 252 is refuted by demand 1 at the length 253, and those with another order at zeros in the empty buffer. Assumes nothing.
use mathlib.Core.Path.{refl, ap}
use mathlib.Core.List.{List, []}
use Prim.Native.Nat.{ℕ}
use native.Mathlib.Omega.{arith}
use lib.Dec.{lit<, lit≤}
use lib.ListN.{get_or, replicate}
use Rattle.octets.specs.Octets.{Written}
use Rattle.address.specs.Numbers.{IsAddress}
use Rattle.octets.specs.Octets.{octets, WriteEffect, refuse_writing, write}
use Rattle.nsa.specs.Fields.{length_field, address_field, fields, writing, FieldsAnswer, length_reading, address_reading, source_reading, reading}
use Rattle.nsa.specs.RoundTrip.{FieldsReader, FieldsRoundTrip}
use Rattle.nsa.specs.Refusals.{FieldsWriteRefusals}
use Rattle.nsa.specs.WrongWriters.{silent_fields_writer, refusing_fields_writer, roomless_fields_writer, spoiling_fields_writer, longer_fields_writer, unadded_fields_writer, zero_first_fields_writer, room_first_fields_writer, exchanging_fields_writer}
use Rattle.nsa.proofs.OneRule.{one_writer_lem}

one : IsAddress 1
one = record { some = lit< tt; fits = lit< tt }

pub silent-fields_writer_refuted : FieldsRoundTrip silent_fields_writer reading → ⊥
unfolding silent_fields_writer fields length_field address_field octets reading length_reading source_reading address_reading
silent-fields_writer_refuted claim =
    omega (arith, ap (λ (x : FieldsAnswer). x.refusal) (claim.reads_back 0 1 1 (replicate 3 0) (lit≤ tt) one one (lit≤ tt)).2)

pub refusing-fields_writer_refuted : FieldsRoundTrip refusing_fields_writer reading → ⊥
unfolding refusing_fields_writer refuse_writing fields length_field address_field octets
refusing-fields_writer_refuted claim =
    omega (arith, ap (λ (w : Written). w.refusal) (claim.reads_back 0 1 1 (replicate 3 0) (lit≤ tt) one one (lit≤ tt)).0)

pub roomless_fields_writer_refuted : FieldsRoundTrip roomless_fields_writer reading → ⊥
unfolding roomless_fields_writer write fields length_field address_field octets reading length_reading
roomless_fields_writer_refuted claim =
    omega (arith, ap (λ (x : FieldsAnswer). x.refusal) (claim.where_done 0 1 1 [] [] 3 one.fits one.fits refl).0)

pub spoiling-fields_writer_refuted : FieldsRoundTrip spoiling_fields_writer reading → ⊥
unfolding spoiling_fields_writer writing write fields length_field address_field octets
spoiling-fields_writer_refuted claim =
    omega (arith, ap (λ (l : List ℕ). get_or l 0 0) (claim.where_done 0 1 1 (replicate 4 0) [] 3 one.fits one.fits refl).1)

-- whatever reads what it writes
pub longer-fields_writer_refuted : (reader : FieldsReader) → FieldsRoundTrip longer_fields_writer reader → ⊥
unfolding longer_fields_writer writing write fields length_field address_field octets
longer-fields_writer_refuted reader claim =
    omega (arith, ap (λ (w : Written). w.count) (claim.reads_back 0 1 1 (replicate 5 0) (lit≤ tt) one one (lit≤ tt)).0)

pub unadded_fields_writer_refuted : FieldsWriteRefusals unadded_fields_writer → ⊥
unfolding unadded_fields_writer writing write fields length_field address_field octets
unadded_fields_writer_refuted claim =
    omega (arith, ap (λ (w : WriteEffect). get_or w.buffer 1 0) (one_writer_lem unadded_fields_writer claim 253 1 1 (replicate 4 0)))

pub zero-first-fields_writer_refuted : FieldsWriteRefusals zero_first_fields_writer → ⊥
unfolding zero_first_fields_writer writing refuse_writing
zero-first-fields_writer_refuted claim =
    omega (arith, ap (λ (w : WriteEffect). w.answer.refusal) (one_writer_lem zero_first_fields_writer claim 65788 0 1 []))

pub room-first-fields_writer_refuted : FieldsWriteRefusals room_first_fields_writer → ⊥
unfolding room_first_fields_writer writing refuse_writing fields length_field address_field octets
room-first-fields_writer_refuted claim =
    omega (arith, ap (λ (w : WriteEffect). w.answer.refusal) (one_writer_lem room_first_fields_writer claim 0 0 1 []))

-- whatever reads what it writes, a reader that exchanges them back among others
pub exchanging_fields_writer_refuted : (reader : FieldsReader) → FieldsRoundTrip exchanging_fields_writer reader → ⊥
unfolding exchanging_fields_writer writing write fields length_field address_field octets
exchanging_fields_writer_refuted reader claim =
    omega (arith, ap (λ (l : List ℕ). get_or l 1 0) (claim.reads_back 0 1 2 (replicate 3 0) (lit≤ tt) one (record { some = lit< tt; fits = lit< tt }) (lit≤ tt)).1)
