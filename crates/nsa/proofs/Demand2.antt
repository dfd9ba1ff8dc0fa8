-- Demand 2 for the older fields: each field reads back behind the one before it (`reading-fields`), and octets that are read are field for field
-- what is written (`fields_read`). Assumes nothing.
use mathlib.Core.Path.{◌≡◌, sym, ap, ap₂, ◌∙◌, subst}
use mathlib.Core.Logic.{inl, inr}
use mathlib.Core.List.{List, ◌++◌, append_assoc}
use Prim.Native.Nat.{ℕ, ◌+◌, ◌^◌, ◌≤◌, ◌<◌}
use native.Mathlib.Nat.{pos_of_ne-zero}
use native.Mathlib.Omega.{arith}
use lib.ListN.{length, take, drop, length-append, length-drop}
use lib.Seq.{take_at, take-add, drop_at, length-take-le}
use Rattle.address.specs.Bits.{longest}
use Rattle.address.specs.Order.{First}
use Rattle.address.specs.Numbers.{IsAddress}
use Rattle.octets.specs.Octets.{Written}
use Rattle.octets.specs.Octets.{AreOctets, WriteEffect, write, wrote}
use Rattle.octets.proofs.OctetLaws.{drop-octets}
use Rattle.nsa.specs.Fields.{length_field, address_field, fields, longest_payload, writing, Field, field, length_reading, FieldsAnswer, found, source_reading, destination_reading, reading}
use Rattle.nsa.specs.RoundTrip.{FieldsRoundTrip}
use Rattle.nsa.specs.Refusals.{fields_writing_order}
use Rattle.nsa.proofs.Writing.{length_fields, writing-done}
use Rattle.nsa.proofs.InRow.{reading-found, reading-right, destination-within, source-behind, destination-behind}
use Rattle.nsa.proofs.BackAndForth.{length-put, address-put, length-read, address_read}
use Rattle.nsa.proofs.WriteRefusals.{fields-write-refusals}

-- ---- what is written reads back

module _ {l s d : ℕ} (short : l ≤ longest_payload) (source : IsAddress s) (destination : IsAddress d) (rest : List ℕ) where
  row : List ℕ
  row = length_field l ++ (address_field s ++ (address_field d ++ rest))

  row-fields : fields l s d ++ rest ≡ row
  unfolding row fields
  row-fields =
      append_assoc (length_field l) (address_field s ++ address_field d) rest
      ∙ ap (λ (os : List ℕ). length_field l ++ os) (append_assoc (address_field s) (address_field d) rest)

  row-length : length_reading row ≡ field l (length (length_field l))
  unfolding row
  row-length = length-put l (address_field s ++ (address_field d ++ rest)) short

  row-source : source_reading row ≡ field s (length (address_field s))
  unfolding row
  row-source = source-behind (length_field l) (address_field s ++ (address_field d ++ rest)) row-length ∙ address-put s (address_field d ++ rest) source

  row-destination : destination_reading row ≡ field d (length (address_field d))
  unfolding row
  row-destination = destination-behind (length_field l) (address_field s) (address_field d ++ rest) row-length row-source ∙ address-put d rest destination

  reading-fields : reading (fields l s d ++ rest) ≡ found l s d (length (fields l s d))
  reading-fields =
      let right : Field → ℕ = λ f. f.refusal in
      ap reading row-fields
      ∙ reading-found row (ap right row-length) (ap right row-source) (ap right row-destination)
      ∙ ap (λ (f : Field). found f.number (source_reading row).number (destination_reading row).number (f.size + (source_reading row).size + (destination_reading row).size)) row-length
      ∙ ap₂ (λ (f g : Field). found l f.number g.number (length (length_field l) + f.size + g.size)) row-source row-destination
      ∙ ap (found l s d) (sym (length_fields l s d))

-- ---- what is read is what would have been written

-- the three numbers that were read, and the octets up to their place
pub record Read (p : List ℕ) (l s d k : ℕ) : Type 0 where
  pub short : l ≤ longest_payload
  pub source : IsAddress s
  pub destination : IsAddress d
  pub within : k ≤ length p
  pub taken : take k p ≡ fields l s d
  pub sized : k ≡ length (fields l s d)

pub fields_read : (p : List ℕ) → AreOctets p → (reading p).refusal ≡ 0 → Read p (reading p).length (reading p).source (reading p).destination (reading p).place
unfolding fields source_reading destination_reading
fields_read p all z =
    let (l, s, d) = reading-right p z in
    let i = (length_reading p).size in
    let j = (source_reading p).size in
    let k = (destination_reading p).size in
    let (short, (i_in, i_is)) = length-read p all l in
    let (source, (j_in, j_is)) = address_read (drop i p) (drop-octets i p all) s in
    let (destination, (k_in, k_is)) = address_read (drop (i + j) p) (drop-octets (i + j) p all) d in
    let whole = (destination-within p).0 in
    let taken : take (i + j + k) p ≡ fields (length_reading p).number (source_reading p).number (destination_reading p).number =
    take-add (i + j) k p
    ∙ ap₂ (λ (xs ys : List ℕ). xs ++ ys) (take-add i j p ∙ ap₂ (λ (xs ys : List ℕ). xs ++ ys) i_is j_is) k_is
    ∙ append_assoc (length_field (length_reading p).number) (address_field (source_reading p).number) (address_field (destination_reading p).number) in
    let read : Read p (length_reading p).number (source_reading p).number (destination_reading p).number (i + j + k) = record {
      short = short;
      source = source;
      destination = destination;
      within = whole;
      taken = taken;
      sized = sym (length-take-le (i + j + k) p whole) ∙ ap length taken;
    } in
    subst (λ (x : FieldsAnswer). Read p x.length x.source x.destination x.place) (sym (reading-found p l s d)) read

-- ---- demand 2

-- what is written where there is room
pub wrote-fields : (l s d : ℕ) (buffer : List ℕ) → l ≤ longest_payload → IsAddress s → IsAddress d → length (fields l s d) ≤ length buffer
    → ((writing l s d buffer).answer ≡ wrote (length (fields l s d))) × ((writing l s d buffer).buffer ≡ fields l s d ++ drop (length (fields l s d)) buffer)
unfolding write
wrote-fields l s d buffer short source destination room =
    let done = writing-done l s d buffer short (λ e. omega (arith, source.some)) (λ e. omega (arith, destination.some)) room in
    (ap (λ (w : WriteEffect). w.answer) done, ap (λ (w : WriteEffect). w.buffer) done)

-- an answer without a refusal: the length is short enough, no address is zero, and there was room
abbrev Allowed : ℕ → ℕ → ℕ → List ℕ → Type 0
Allowed l s d buffer = (l ≤ longest_payload) × (0 < s) × (0 < d) × (length (fields l s d) ≤ length buffer)

writing-allowed : (l s d : ℕ) (buffer : List ℕ) → (writing l s d buffer).answer.refusal ≡ 0 → Allowed l s d buffer
writing-allowed l s d buffer z = go ((fields-write-refusals.given l s d buffer 0).0 z)
  where
    go : First (fields_writing_order l s d buffer) 0 → Allowed l s d buffer
    go (inl (h, f)) = absurd (omega arith)
    go (inr (short, inl (h, f))) = absurd (omega arith)
    go (inr (short, inr (some, inl (h, f)))) = absurd (omega arith)
    go (inr (short, inr (some, inr (room, f)))) = (omega arith, pos_of_ne-zero (λ e. some (inl e)), pos_of_ne-zero (λ e. some (inr e)), omega arith)

-- wherever the writer is done, what it wrote are the fields
done-fields : (l s d : ℕ) (buffer : List ℕ) (k : ℕ) → (writing l s d buffer).answer ≡ wrote k
    → (k ≡ length (fields l s d)) × ((writing l s d buffer).buffer ≡ fields l s d ++ drop (length (fields l s d)) buffer)
done-fields l s d buffer k e =
    let (count, left) = fields-write-refusals.without l s d buffer (ap (λ (w : Written). w.refusal) e) in
    (sym (ap (λ (w : Written). w.count) e) ∙ count, left)

-- and what stood behind them stands there still
pub done_spares : (l s d : ℕ) (buffer : List ℕ) (k : ℕ) → (writing l s d buffer).answer ≡ wrote k
    → (drop k (writing l s d buffer).buffer ≡ drop k buffer) × (length (writing l s d buffer).buffer ≡ length buffer)
done_spares l s d buffer k e =
    let (end, left) = done-fields l s d buffer k e in
    let (short, s_some, d_some, room) = writing-allowed l s d buffer (ap (λ (w : Written). w.refusal) e) in
    let n = length (fields l s d) in
    let rest = drop n buffer in (
      ap (drop k) left ∙ drop_at (fields l s d) rest k (sym end) ∙ ap (λ (m : ℕ). drop m buffer) (sym end),
      ap length left ∙ omega (arith, length-append (fields l s d) rest, length-drop n buffer),
    )

-- and they read back, whatever stands behind them
pub done-reads : (l s d : ℕ) (buffer behind : List ℕ) (k : ℕ) → s < 2 ^ longest → d < 2 ^ longest → (writing l s d buffer).answer ≡ wrote k
    → reading ((writing l s d buffer).buffer ++ behind) ≡ found l s d k
done-reads l s d buffer behind k s_fits d_fits e =
    let (end, left) = done-fields l s d buffer k e in
    let (short, s_some, d_some, room) = writing-allowed l s d buffer (ap (λ (w : Written). w.refusal) e) in
    let rest = drop (length (fields l s d)) buffer in
    ap (λ (os : List ℕ). reading (os ++ behind)) left
    ∙ ap reading (append_assoc (fields l s d) rest behind)
    ∙ reading-fields short (record { some = s_some; fits = s_fits }) (record { some = d_some; fits = d_fits }) (rest ++ behind)
    ∙ ap (found l s d) (sym end)

pub fields_round_trip : FieldsRoundTrip writing reading
fields_round_trip = record {
  reads_back = λ l s d buffer short source destination room.
      let (answered, left) = wrote-fields l s d buffer short source destination room in
      (answered, left, ap reading left ∙ reading-fields short source destination (drop (length (fields l s d)) buffer));
  where_done = λ l s d buffer behind k s_fits d_fits e.
      let (spared, long) = done_spares l s d buffer k e in (done-reads l s d buffer behind k s_fits d_fits e, spared, long);
  written_so = λ p l s d k all e.
      let read = subst (λ (x : FieldsAnswer). Read p x.length x.source x.destination x.place) e
      (fields_read p all (ap (λ (x : FieldsAnswer). x.refusal) e)) in (
        read.short,
        read.source,
        read.destination,
        read.within,
        λ buffer room.
            let (answered, left) = wrote-fields l s d buffer read.short read.source read.destination
            (subst (λ (m : ℕ). m ≤ length buffer) read.sized room) in (
              answered ∙ ap wrote (sym read.sized),
              ap (take k) left ∙ take_at (fields l s d) (drop (length (fields l s d)) buffer) k (sym read.sized) ∙ sym read.taken,
            ),
      );
}
