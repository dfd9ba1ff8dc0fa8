-- Each wrong writer is refuted by demand 2 at the address 1 with a prefix of zeros: one that writes nothing or refuses in a buffer that has
-- room, one that takes a short prefix there, one that says done without room in the empty buffer, and one that spoils in a buffer with one
-- octet more than the form. Assumes nothing.
use mathlib.Core.Path.{refl, ap}
use mathlib.Core.List.{List, []}
use Prim.Native.Nat.{ℕ}
use native.Mathlib.Omega.{arith}
use lib.Dec.{lit<, lit≤}
use lib.ListN.{get_or, replicate}
use Rattle.address.specs.Numbers.{IsAddress}
use Rattle.address.specs.Address.{AddressAnswer}
use Rattle.octets.specs.Octets.{octets, value, joined, same, refuse_writing, write}
use Rattle.octets.specs.Octets.{Written}
use Rattle.ipv6.specs.Form.{half, whole, form, form_writing, form_reading}
use Rattle.ipv6.specs.RoundTrip.{FormRoundTrip}
use Rattle.ipv6.specs.WrongWriters.{silent_form_writer, refusing_form_writer, short_prefix_writer, roomless_form_writer, spoiling_form_writer}

one : IsAddress 1
one = record { some = lit< tt; fits = lit< tt }

pub silent-form_writer_refuted : FormRoundTrip silent_form_writer form_reading → ⊥
unfolding silent_form_writer form_reading same value joined
silent-form_writer_refuted claim =
    omega (arith, ap (λ (x : AddressAnswer). x.refusal) (claim.reads_back (replicate half 0) 1 (replicate whole 0) refl one (lit≤ tt)).1)

pub refusing-form_writer_refuted : FormRoundTrip refusing_form_writer form_reading → ⊥
unfolding refusing_form_writer refuse_writing
refusing-form_writer_refuted claim =
    omega (arith, ap (λ (w : Written). w.refusal) (claim.reads_back (replicate half 0) 1 (replicate whole 0) refl one (lit≤ tt)).0)

pub short_prefix_writer_refuted : FormRoundTrip short_prefix_writer form_reading → ⊥
unfolding short_prefix_writer form_writing write form octets form_reading
short_prefix_writer_refuted claim =
    omega (arith, ap (λ (x : AddressAnswer). x.refusal) (claim.where_done (replicate 7 0) 1 (replicate whole 0) whole one.fits refl).1)

pub roomless_form_writer_refuted : FormRoundTrip roomless_form_writer form_reading → ⊥
unfolding roomless_form_writer write form octets form_reading
roomless_form_writer_refuted claim =
    omega (arith, ap (λ (x : AddressAnswer). x.refusal) (claim.where_done (replicate half 0) 1 [] whole one.fits refl).1)

pub spoiling-form_writer_refuted : FormRoundTrip spoiling_form_writer form_reading → ⊥
unfolding spoiling_form_writer form_writing write form octets
spoiling-form_writer_refuted claim =
    omega (arith, ap (λ (l : List ℕ). get_or l 0 0) (claim.where_done (replicate half 0) 1 (replicate 17 0) whole one.fits refl).2)
