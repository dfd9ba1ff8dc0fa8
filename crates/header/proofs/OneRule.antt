-- The statements of the refusals allow one writer and one reader: at each input they give the refusal's number, and with that everything else
-- that is answered or lent. Assumes nothing.
use Prim.Native.Nat.{ℕ}
use mathlib.Core.Path.{◌≡◌, refl, sym, ap, ◌∙◌}
use mathlib.Core.List.{List}
use native.Mathlib.Decide.{ℕ_discrete}
use native.Mathlib.Omega.{arith}
use lib.ListN.{length, take, drop, get_or}
use lib.Seq.{take_at}
use Rattle.octets.specs.Octets.{value, WriteEffect}
use Rattle.header.specs.Header.{writing, reading}
use Rattle.header.specs.RoundTrip.{HeaderWriter, HeaderReader}
use Rattle.header.specs.Refusals.{HeaderWriteRefusals, AcceptedHeader, HeaderReadRefusals}
use Rattle.header.proofs.RefusalLaws.{header-write-refusals, header-read-refusals}

-- ---- writing

module _ (writer : HeaderWriter) (claim : HeaderWriteRefusals writer) (a : ℕ) (buffer : List ℕ) where
  abbrev theirs : WriteEffect
  theirs = writer a buffer

  abbrev ours : WriteEffect
  ours = writing a buffer

  same_number : theirs.answer.refusal ≡ ours.answer.refusal
  same_number = (claim.given a buffer ours.answer.refusal).1 ((header-write-refusals.given a buffer ours.answer.refusal).0 refl)

  same_rest : (theirs.answer.count ≡ ours.answer.count) × (theirs.buffer ≡ ours.buffer)
  same_rest = go (ℕ_discrete ours.answer.refusal 0)
    where
      go : Dec (ours.answer.refusal ≡ 0) → (theirs.answer.count ≡ ours.answer.count) × (theirs.buffer ≡ ours.buffer)
      go (yes h) =
          let mine = claim.without a buffer (same_number ∙ h) in
          let ours = header-write-refusals.without a buffer h in
          (mine.0 ∙ sym ours.0, mine.1 ∙ sym ours.1)
      go (no h) =
          let mine = claim.beside a buffer (λ z. h (sym same_number ∙ z)) in
          let ours = header-write-refusals.beside a buffer h in
          (mine.0 ∙ sym ours.0, mine.1 ∙ sym ours.1)

  pub one_writer_lem : writer a buffer ≡ writing a buffer
  one_writer_lem = λ i. record { answer = record { refusal = same_number i; count = same_rest.0 i }; buffer = same_rest.1 i }

-- ---- reading

-- octets are laid out as a header in one way
accepted-once : {p : List ℕ} {a b k l : ℕ} → AcceptedHeader p a k → AcceptedHeader p b l → (a ≡ b) × (k ≡ l)
accepted-once x y =
    let same = sym x.laid ∙ y.laid in
    let many : length y.os ≡ length x.os = omega (arith, ap (λ (p : List ℕ). get_or p 1 0) same, x.sized, y.sized) in
    let os : x.os ≡ y.os =
    sym (take_at x.os x.payload (length x.os) refl)
    ∙ ap (λ (p : List ℕ). take (length x.os) (drop 3 p)) same
    ∙ take_at y.os y.payload (length x.os) many in
    (x.number ∙ ap value os ∙ sym y.number, omega (arith, x.behind, y.behind))

module _ (reader : HeaderReader) (claim : HeaderReadRefusals reader) (p : List ℕ) where
  same_refusal : (reader p).refusal ≡ (reading p).refusal
  same_refusal = (claim.given p (reading p).refusal).1 ((header-read-refusals.given p (reading p).refusal).0 refl)

  same_answer : ((reader p).address ≡ (reading p).address) × ((reader p).place ≡ (reading p).place)
  same_answer = go (ℕ_discrete (reading p).refusal 0)
    where
      go : Dec ((reading p).refusal ≡ 0) → ((reader p).address ≡ (reading p).address) × ((reader p).place ≡ (reading p).place)
      go (yes h) = accepted-once (claim.without p (same_refusal ∙ h)).0 (header-read-refusals.without p h).0
      go (no h) =
          let mine = claim.beside p (λ z. h (sym same_refusal ∙ z)) in
          let ours = header-read-refusals.beside p h in
          (mine.0 ∙ sym ours.0, mine.1 ∙ sym ours.1)

  pub one_reader_lem : reader p ≡ reading p
  one_reader_lem = λ i. record { refusal = same_refusal i; address = same_answer.0 i; place = same_answer.1 i }
