-- A reader that takes an octet more is refuted by demand 2 at such octets: whatever reads as an address is 16 octets. Assumes nothing.
use mathlib.Core.Path.{refl}
use native.Mathlib.Omega.{arith}
use lib.ListN.{replicate}
use Rattle.octets.specs.Octets.{octets, value, joined, same}
use Rattle.octets.proofs.OctetLaws.{octets-octets}
use Rattle.ipv6.specs.Form.{half, form_writing, form_reading}
use Rattle.ipv6.specs.RoundTrip.{FormRoundTrip}
use Rattle.ipv6.specs.WrongReaders.{surplus_form_reader}

pub surplus-form-reader_refuted : FormRoundTrip form_writing surplus_form_reader → ⊥
unfolding surplus_form_reader form_reading same value joined octets
surplus-form-reader_refuted claim = omega (arith, (claim.written_so (replicate half 0) (octets 17 256) 1 (octets-octets 17 256) refl).2)
