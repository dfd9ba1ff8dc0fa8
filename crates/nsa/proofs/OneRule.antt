-- The statements of the refusals allow one writer, and one reader of octets: at each input they give the refusal's number, and with that everything
-- else that is answered or lent. Assumes nothing.
use mathlib.Core.Path.{◌≡◌, refl, sym, ap, ap₂, ◌∙◌}
use mathlib.Core.List.{List, ◌++◌}
use Prim.Native.Nat.{ℕ, ◌+◌}
use native.Mathlib.Decide.{ℕ_discrete}
use lib.ListN.{length, take, drop}
use lib.Seq.{take_at, drop_at}
use Rattle.octets.specs.Octets.{AreOctets, WriteEffect}
use Rattle.nsa.specs.Fields.{writing, reading}
use Rattle.nsa.specs.RoundTrip.{FieldsWriter, FieldsReader}
use Rattle.nsa.specs.Refusals.{FieldsWriteRefusals, length_end, address_end, AcceptedFields, FieldsReadRefusals}
use Rattle.nsa.proofs.Forms.{length_number, address_number, length-form-end, address-form-end}
use Rattle.nsa.proofs.WriteRefusals.{fields-write-refusals}
use Rattle.nsa.proofs.ReadRefusals.{fields-read-refusals}

-- ---- writing

module _ (writer : FieldsWriter) (claim : FieldsWriteRefusals writer) (l s d : ℕ) (buffer : List ℕ) where
  abbrev theirs : WriteEffect
  theirs = writer l s d buffer

  abbrev ours : WriteEffect
  ours = writing l s d buffer

  same_number : theirs.answer.refusal ≡ ours.answer.refusal
  same_number = (claim.given l s d buffer ours.answer.refusal).1 ((fields-write-refusals.given l s d buffer ours.answer.refusal).0 refl)

  same_rest : (theirs.answer.count ≡ ours.answer.count) × (theirs.buffer ≡ ours.buffer)
  same_rest = go (ℕ_discrete ours.answer.refusal 0)
    where
      go : Dec (ours.answer.refusal ≡ 0) → (theirs.answer.count ≡ ours.answer.count) × (theirs.buffer ≡ ours.buffer)
      go (yes h) =
          let mine = claim.without l s d buffer (same_number ∙ h) in
          let ours = fields-write-refusals.without l s d buffer h in
          (mine.0 ∙ sym ours.0, mine.1 ∙ sym ours.1)
      go (no h) =
          let mine = claim.beside l s d buffer (λ z. h (sym same_number ∙ z)) in
          let ours = fields-write-refusals.beside l s d buffer h in
          (mine.0 ∙ sym ours.0, mine.1 ∙ sym ours.1)

  pub one_writer_lem : writer l s d buffer ≡ writing l s d buffer
  one_writer_lem = λ i. record { answer = record { refusal = same_number i; count = same_rest.0 i }; buffer = same_rest.1 i }

-- ---- reading

-- two forms in front of the same octets are the same, since their first octets say how long they are
same_front : {p x y r t : List ℕ} (end : List ℕ → ℕ) → p ≡ x ++ r → p ≡ y ++ t → length x ≡ end (x ++ r) → length y ≡ end (y ++ t) → (x ≡ y) × (r ≡ t)
same_front {p} {x} {y} {r} {t} end e f m n =
    let k = end p in
    let x_ends : length x ≡ k = m ∙ ap end (sym e) in
    let y_ends : length y ≡ k = n ∙ ap end (sym f) in
    (sym (take_at x r k x_ends) ∙ ap (take k) (sym e ∙ f) ∙ take_at y t k y_ends, sym (drop_at x r k x_ends) ∙ ap (drop k) (sym e ∙ f) ∙ drop_at y t k y_ends)

-- octets are laid out as the three fields in one way
module _ {p : List ℕ} {l s d k l' s' d' k' : ℕ} (x : AcceptedFields p l s d k) (y : AcceptedFields p l' s' d' k') where
  lengths : (x.in_length ≡ y.in_length) × (x.in_source ++ (x.in_destination ++ x.behind) ≡ y.in_source ++ (y.in_destination ++ y.behind))
  lengths = same_front length_end x.laid y.laid (length-form-end x.in_length _ l x.length-told).0 (length-form-end y.in_length _ l' y.length-told).0

  sources : (x.in_source ≡ y.in_source) × (x.in_destination ++ x.behind ≡ y.in_destination ++ y.behind)
  sources = same_front address_end refl lengths.1 (address-form-end x.in_source _ s x.source_told).0 (address-form-end y.in_source _ s' y.source_told).0

  destinations : (x.in_destination ≡ y.in_destination) × (x.behind ≡ y.behind)
  destinations =
      same_front address_end refl sources.1 (address-form-end x.in_destination _ d x.destination-told).0
      (address-form-end y.in_destination _ d' y.destination-told).0

  accepted-once : (l ≡ l') × (s ≡ s') × (d ≡ d') × (k ≡ k')
  accepted-once = (
    (length-form-end x.in_length x.behind l x.length-told).1 ∙ ap length_number lengths.0 ∙ sym (length-form-end y.in_length y.behind l' y.length-told).1,
    (address-form-end x.in_source x.behind s x.source_told).1 ∙ ap address_number sources.0 ∙ sym (address-form-end y.in_source y.behind s' y.source_told).1,
    (address-form-end x.in_destination x.behind d x.destination-told).1 ∙ ap address_number destinations.0 ∙ sym (address-form-end y.in_destination y.behind d' y.destination-told).1,
    x.after ∙ ap₂ ◌+◌ (ap₂ (λ (a b : List ℕ). length a + length b) lengths.0 sources.0) (ap length destinations.0) ∙ sym y.after,
  )

module _ (reader : FieldsReader) (claim : FieldsReadRefusals reader) (p : List ℕ) (all : AreOctets p) where
  same_refusal : (reader p).refusal ≡ (reading p).refusal
  same_refusal = (claim.given p all (reading p).refusal).1 ((fields-read-refusals.given p all (reading p).refusal).0 refl)

  Same : Type 0
  Same = ((reader p).length ≡ (reading p).length) × ((reader p).source ≡ (reading p).source) × ((reader p).destination ≡ (reading p).destination) × ((reader p).place ≡ (reading p).place)

  same_answer : Same
  unfolding Same
  same_answer = go (ℕ_discrete (reading p).refusal 0)
    where
      go : Dec ((reading p).refusal ≡ 0) → Same
      go (yes h) = accepted-once (claim.without p all (same_refusal ∙ h)) (fields-read-refusals.without p all h)
      go (no h) =
          let mine = claim.beside p (λ z. h (sym same_refusal ∙ z)) in
          let ours = fields-read-refusals.beside p h in
          (mine.0 ∙ sym ours.0, mine.1 ∙ sym ours.1, mine.2 ∙ sym ours.2, mine.3 ∙ sym ours.3)

  pub one_reader_lem : reader p ≡ reading p
  unfolding Same
  one_reader_lem = λ i. record {
    refusal = same_refusal i;
    length = same_answer.0 i;
    source = same_answer.1 i;
    destination = same_answer.2 i;
    place = same_answer.3 i;
  }
