-- A reader that takes a surplus octet is refuted by demand 2 at the header of 62 with a zero more, which is not the one that is written. One that
-- takes an even number of octets alone is refuted by demand 1 at the header of 62 and an octet behind it, and one that has 4 before 6 at nine octets
-- said and none there. The octets' own reading, which takes an empty payload, is refuted by demand 2 at the header of 1, which it reads with its place
-- at the end, and so is a reader that wants two octets, at the same header with one behind it. One that has 16 before 9 is refuted by demand 1 at a
-- single zero octet, one that has it before 4 at one octet said and none there, and one that gives an address beside it at the header of 1. Assumes
-- nothing.
use mathlib.Core.Path.{refl, ap}
use mathlib.Core.List.{List, [], ◌∷◌}
use Prim.Native.Nat.{ℕ}
use native.Mathlib.Omega.{arith}
use lib.Dec.{lit<, lit≤}
use lib.ListN.{replicate}
use Rattle.octets.specs.Octets.{Written}
use Rattle.address.specs.Bits.{bits, bits_in}
use Rattle.address.specs.Address.{bit_length}
use Rattle.octets.specs.Octets.{AreOctets, octets, write}
use Rattle.header.specs.Header.{header, place, size, writing, HeaderAnswer, octets_reading}
use Rattle.header.specs.RoundTrip.{HeaderRoundTrip}
use Rattle.header.specs.Refusals.{HeaderReadRefusals}
use Rattle.header.specs.WrongReaders.{surplus_reader, even_reader, missing_first_reader, empty_first_reader, two_octets_reader, short_empty_reader, beside_empty_reader}
use Rattle.header.proofs.Opened.{reading-opened}
use Rattle.header.proofs.OneRule.{one_reader_lem}

longer : List ℕ
longer = 0xF1 ∷ 0x81 ∷ 0x0F ∷ 0 ∷ 0x3E ∷ 0 ∷ []

pub surplus-reader_refuted : HeaderRoundTrip writing surplus_reader → ⊥
unfolding longer surplus_reader reading-opened writing write header octets place size bit_length bits bits_in
surplus-reader_refuted claim =
    let all : AreOctets longer = (lit< tt, (lit< tt, (lit< tt, (lit< tt, (lit< tt, (lit< tt, tt)))))) in
    let written = ((claim.written_so longer 62 5 all refl).2 (replicate 5 0) (lit≤ tt)).0 in
    omega (arith, ap (λ (w : Written). w.count) written)

pub even-reader_refuted : HeaderReadRefusals even_reader → ⊥
unfolding even_reader reading-opened
even-reader_refuted claim = omega (arith, ap (λ (x : HeaderAnswer). x.refusal) (one_reader_lem even_reader claim (0xF1 ∷ 0x80 ∷ 0x0F ∷ 0x3E ∷ 0 ∷ [])))

pub missing-first-reader_refuted : HeaderReadRefusals missing_first_reader → ⊥
unfolding missing_first_reader reading-opened
missing-first-reader_refuted claim = omega (arith, ap (λ (x : HeaderAnswer). x.refusal) (one_reader_lem missing_first_reader claim (0xF1 ∷ 0x88 ∷ 0x0F ∷ [])))

-- ---- an empty payload

alone : List ℕ
alone = 0xF1 ∷ 0x80 ∷ 0x0F ∷ 1 ∷ []

pub octets-reader_refuted : HeaderRoundTrip writing octets_reading → ⊥
unfolding alone reading-opened
octets-reader_refuted claim =
    let all : AreOctets alone = (lit< tt, (lit< tt, (lit< tt, (lit< tt, tt)))) in
    omega (arith, (claim.written_so alone 1 4 all refl).1)

pub empty-first-reader_refuted : HeaderReadRefusals empty_first_reader → ⊥
unfolding empty_first_reader reading-opened
empty-first-reader_refuted claim = omega (arith, ap (λ (x : HeaderAnswer). x.refusal) (one_reader_lem empty_first_reader claim (0xF1 ∷ 0x80 ∷ 0x0F ∷ 0 ∷ [])))

pub two_octets-reader_refuted : HeaderRoundTrip writing two_octets_reader → ⊥
unfolding two_octets_reader reading-opened writing write header octets place size bit_length bits bits_in
two_octets-reader_refuted claim =
    omega (arith, ap (λ (x : HeaderAnswer). x.refusal) (claim.where_done 1 (replicate 4 0) (0 ∷ []) 4 (lit< tt) (lit< tt) refl).0)

pub short-empty-reader_refuted : HeaderReadRefusals short_empty_reader → ⊥
unfolding short_empty_reader reading-opened
short-empty-reader_refuted claim = omega (arith, ap (λ (x : HeaderAnswer). x.refusal) (one_reader_lem short_empty_reader claim (0xF1 ∷ 0x80 ∷ 0x0F ∷ [])))

pub beside-empty-reader_refuted : HeaderReadRefusals beside_empty_reader → ⊥
unfolding beside_empty_reader alone reading-opened
beside-empty-reader_refuted claim = omega (arith, ap (λ (x : HeaderAnswer). x.address) (one_reader_lem beside_empty_reader claim alone))
