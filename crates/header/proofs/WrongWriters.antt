-- Each wrong writer is refuted by demand 2 at the address 1: one that writes nothing, refuses or pads in a buffer that has room, one that wants room for
-- a payload in a buffer of the header's length, one that says done without room in the empty buffer, and one that spoils in a buffer with one octet
-- more than the header. One that has 10 before 9 is refuted by demand 1 at zero and the empty buffer. Assumes nothing.
use mathlib.Core.Path.{refl, ap}
use mathlib.Core.List.{List, [], ◌∷◌}
use Prim.Native.Nat.{ℕ}
use native.Mathlib.Omega.{arith}
use lib.Dec.{lit<, lit≤}
use lib.ListN.{get_or, replicate}
use Rattle.octets.specs.Octets.{Written}
use Rattle.address.specs.Bits.{bits, bits_in}
use Rattle.address.specs.Address.{bit_length}
use Rattle.address.specs.Numbers.{IsAddress}
use Rattle.octets.specs.Octets.{octets, WriteEffect, refuse_writing, write}
use Rattle.header.specs.Header.{header, place, size, writing, reading, HeaderAnswer}
use Rattle.header.specs.RoundTrip.{HeaderReader, HeaderRoundTrip}
use Rattle.header.specs.WrongWriters.{silent_writer, refusing_writer, roomless_writer, spoiling_writer, padding_writer, room_first_writer, payload_room_writer}
use Rattle.header.specs.Refusals.{HeaderWriteRefusals}
use Rattle.header.proofs.Opened.{reading-opened}
use Rattle.header.proofs.OneRule.{one_writer_lem}

one : IsAddress 1
one = record { some = lit< tt; fits = lit< tt }

pub silent_writer_refuted : HeaderRoundTrip silent_writer reading → ⊥
unfolding silent_writer reading-opened place size bit_length bits bits_in
silent_writer_refuted claim = omega (arith, ap (λ (x : HeaderAnswer). x.refusal) ((claim.reads_back 1 (replicate 5 0) one (lit≤ tt)).1 (lit< tt)))

pub refusing_writer_refuted : HeaderRoundTrip refusing_writer reading → ⊥
unfolding refusing_writer refuse_writing place size bit_length bits bits_in
refusing_writer_refuted claim = omega (arith, ap (λ (w : Written). w.refusal) (claim.reads_back 1 (replicate 4 0) one (lit≤ tt)).0)

pub payload-room_writer_refuted : HeaderRoundTrip payload_room_writer reading → ⊥
unfolding payload_room_writer refuse_writing place size bit_length bits bits_in
payload-room_writer_refuted claim = omega (arith, ap (λ (w : Written). w.refusal) (claim.reads_back 1 (replicate 4 0) one (lit≤ tt)).0)

pub roomless_writer_refuted : HeaderRoundTrip roomless_writer reading → ⊥
unfolding roomless_writer write reading-opened place size bit_length bits bits_in
roomless_writer_refuted claim = omega (arith, ap (λ (x : HeaderAnswer). x.refusal) (claim.where_done 1 [] (0 ∷ []) 4 one.fits (lit< tt) refl).0)

pub spoiling_writer_refuted : HeaderRoundTrip spoiling_writer reading → ⊥
unfolding spoiling_writer writing write header octets place size bit_length bits bits_in
spoiling_writer_refuted claim =
    omega (arith, ap (λ (l : List ℕ). get_or l 0 0) (claim.where_done 1 (replicate 5 0) (0 ∷ []) 4 one.fits (lit< tt) refl).1)

-- whatever reads what it writes
pub padding_writer_refuted : (reader : HeaderReader) → HeaderRoundTrip padding_writer reader → ⊥
unfolding padding_writer write place size bit_length bits bits_in
padding_writer_refuted reader claim = omega (arith, ap (λ (w : Written). w.count) (claim.reads_back 1 (replicate 5 0) one (lit≤ tt)).0)

pub room-first_writer_refuted : HeaderWriteRefusals room_first_writer → ⊥
unfolding room_first_writer writing refuse_writing place size bit_length bits bits_in
room-first_writer_refuted claim = omega (arith, ap (λ (w : WriteEffect). w.answer.refusal) (one_writer_lem room_first_writer claim 0 []))
