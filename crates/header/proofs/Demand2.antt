-- Demand 2 for the header. A header's octets read as its address, since its size is allowed, its octets give the number and the fewest octets leave
-- no zero in front (`octets_reading-header`), and with a payload behind them so does the packet (`reading-header`); octets that are read, with a payload
-- or without, were checked octet by octet for what a header has (`octets-read`). Assumes nothing.
use mathlib.Core.Path.{◌≡◌, refl, sym, ap, ap₂, ◌∙◌, subst}
use mathlib.Core.List.{List, [], ◌∷◌, ◌++◌, append_assoc, append-nil}
use mathlib.Core.Logic.{◌↔◌, inl, inr}
use Prim.Native.Nat.{ℕ, ◌+◌, ◌-◌, ◌*◌, ◌/◌, ◌%◌, ◌^◌, ◌≤◌, ◌<◌}
use native.Mathlib.Nat.{lt_of_lt_of_le, one-le-pow, pos_of_ne-zero}
use native.Mathlib.Omega.{arith}
use borrow.Author.Tests.{eq-eqb, le-ltb}
use lib.Dec.{lit<}
use lib.ListN.{length, take, drop, get_or, take-append-drop, length-append, length-drop, drop_of_length-le}
use lib.Seq.{take_all, take_at, take-add, drop_at}
use Rattle.octets.specs.Octets.{Written}
use Rattle.address.specs.Order.{First}
use Rattle.address.specs.Bits.{longest}
use Rattle.address.specs.Numbers.{IsAddress}
use Rattle.octets.specs.Octets.{octets, value, AreOctets, WriteEffect, write, wrote}
use Rattle.octets.proofs.OctetLaws.{length-octets, value-octets_of_lt, octets-octets, octets-value, value-lt, value-fits}
use Rattle.header.specs.Header.{header, place, size, fixed_octets, page_octet, critical_pattern, routing_type, most_octets, writing, HeaderAnswer, octets_reading, reading, found, refused_header, start_fault, in_order, size_told, address_fault, zero_fault, address_octets}
use Rattle.header.specs.RoundTrip.{HeaderRoundTrip}
use Rattle.header.proofs.Size.{size-le, size_ge, size_exact, size-least, fewest-octets}
use Rattle.header.proofs.Start.{start_fault-zero}
use Rattle.header.proofs.Parts.{length-address_octets, octets-address_octets, first-address_octets, lt_of_first, ge_of_first, zero_fault-some, zero_fault-zero, address_fault-zero}
use Rattle.header.proofs.Cases.{octets_reading-found, octets_reading_inverse}
use Rattle.header.proofs.Payload.{reading-empty, reading-found, reading_inverse, reading-sixteen}
use Rattle.header.specs.Refusals.{writing_order}
use Rattle.header.proofs.RefusalLaws.{header-write-refusals}
use Rattle.header.proofs.Writing.{length-header, writing-done}

-- ---- what is written reads back

pub octets-header : {d : ℕ} → IsAddress d → AreOctets (header d)
unfolding header
octets-header {d} n = (lit< tt, (omega (arith, size_ge n, size-le n.fits), (lit< tt, octets-octets (size d) d)))

module _ {a : ℕ} (n : IsAddress a) (rest : List ℕ) where
  second : (o : ℕ) → o ≡ critical_pattern * 32 + (size a - 1) → (o / 32 ≡ critical_pattern) × (o % 32 + 1 ≡ size a)
  second o e = omega (arith, size_ge n, size-le n.fits)

  header-start : start_fault (header a ++ rest) ≡ 0
  unfolding start_fault in_order header
  header-start = simp (eq-eqb ((critical_pattern * 32 + (size a - 1)) / 32) critical_pattern (second (critical_pattern * 32 + (size a - 1)) refl).0)

  header-size : size_told (header a ++ rest) ≡ size a
  unfolding size_told header
  header-size = (second (critical_pattern * 32 + (size a - 1)) refl).1

  header-octets : address_octets (size a) (header a ++ rest) ≡ octets (size a) a
  unfolding address_octets header
  header-octets = take_at (octets (size a) a) rest (size a) (length-octets (size a) a)

  header-number : value (octets (size a) a) ≡ a
  header-number = value-octets_of_lt (size a) a (fewest-octets a n).holds

  header-first : get_or (header a ++ rest) fixed_octets 0 ≡ 0 → ⊥
  header-first e =
      let os = octets (size a) a in
      let first : get_or os 0 0 ≡ get_or (header a ++ rest) fixed_octets 0 =
      ap (λ (l : List ℕ). get_or l 0 0) (sym header-octets) ∙ first-address_octets (size a) (header a ++ rest) (size_ge n) in
      let fewer = lt_of_first os (octets-octets (size a) a) (first ∙ e) in
      omega (arith, size-least n, header-number, ap (λ (k : ℕ). 256 ^ (k - 1)) (length-octets (size a) a))

  header-fault : address_fault (size a) (header a ++ rest) ≡ 0
  unfolding address_fault place
  header-fault =
      let long : fixed_octets + size a ≤ length (header a ++ rest) = omega (arith, length-append (header a) rest, length-header a) in
      rw (le-ltb most_octets (size a) (size-le n.fits), le-ltb (length (header a ++ rest)) (fixed_octets + size a) long)
      (zero_fault-some (size a) (get_or (header a ++ rest) fixed_octets 0) header-first)

  pub octets_reading-header : octets_reading (header a ++ rest) ≡ found a (place a)
  unfolding place
  octets_reading-header =
      let p = header a ++ rest in
      octets_reading-found p header-start (ap (λ (s : ℕ). address_fault s p) header-size ∙ header-fault)
      ∙ ap (λ (s : ℕ). found (value (address_octets s p)) (fixed_octets + s)) header-size
      ∙ ap (λ (os : List ℕ). found (value os) (fixed_octets + size a)) header-octets
      ∙ ap (λ (v : ℕ). found v (fixed_octets + size a)) header-number

-- ---- what is read is what would have been written

module _ (p : List ℕ) (all : AreOctets p) (begun : start_fault p ≡ 0) (whole : address_fault (size_told p) p ≡ 0) where
  s : ℕ
  s = size_told p

  os : List ℕ
  unfolding s
  os = address_octets s p

  right : (s ≤ most_octets) × (fixed_octets + s ≤ length p) × (zero_fault s (get_or p fixed_octets 0) ≡ 0)
  unfolding s
  right = address_fault-zero s p whole

  many : length os ≡ s
  unfolding s os
  many = length-address_octets s p right.1

  some : 1 ≤ s
  unfolding s size_told
  some = omega arith

  are : AreOctets os
  unfolding os s
  are = octets-address_octets s p all

  least : 256 ^ (s - 1) ≤ value os
  unfolding os
  least =
      let first = zero_fault-zero s (get_or p fixed_octets 0) right.2 in
      subst (λ (k : ℕ). 256 ^ (k - 1) ≤ value os) many (ge_of_first os are (λ e. first (sym (first-address_octets s p some) ∙ e)))

  address_read : IsAddress (value os)
  address_read = record {
    some = lt_of_lt_of_le (one-le-pow (s - 1) 256 (lit< tt)) least;
    fits = value-fits os are (omega (arith, many, right.0));
  }

  size-read : size (value os) ≡ s
  size-read = size_exact address_read (omega (arith, value-lt os are, ap (λ (k : ℕ). 256 ^ k) many)) some least

  take-read : take (fixed_octets + s) p ≡ header (value os)
  unfolding header os s address_octets
  take-read =
      let (o, rest, q, top) = start_fault-zero p begun in
      let told : s ≡ o % 32 + 1 = unfold size_told in ap (λ (l : List ℕ). get_or l 1 0 % 32 + 1) q in
      let second : o ≡ critical_pattern * 32 + (s - 1) = omega arith in
      take-add fixed_octets s p
      ∙ ap (λ (l : List ℕ). take fixed_octets l ++ os) q
      ∙ ap₂ (λ (x : ℕ) (l : List ℕ). page_octet ∷ x ∷ routing_type ∷ l) second (sym (octets-value os are) ∙ ap (λ (k : ℕ). octets k (value os)) many)
      ∙ ap (λ (k : ℕ). page_octet ∷ (critical_pattern * 32 + (k - 1)) ∷ routing_type ∷ octets k (value os)) (sym size-read)

  as_read : (a k : ℕ) → value os ≡ a → fixed_octets + s ≡ k → IsAddress a × (k ≤ length p) × (k ≡ place a) × (take k p ≡ header a)
  unfolding place
  as_read a k e f = (
    subst IsAddress e address_read,
    subst (λ (n : ℕ). n ≤ length p) f right.1,
    sym f ∙ ap (λ (n : ℕ). fixed_octets + n) (sym size-read ∙ ap size e),
    ap (λ (n : ℕ). take n p) (sym f) ∙ take-read ∙ ap header e,
  )

-- whatever is behind them
pub octets-read : (p : List ℕ) (a k : ℕ) → AreOctets p → octets_reading p ≡ found a k
    → IsAddress a × (k ≤ length p) × (k ≡ place a) × (take k p ≡ header a)
unfolding os s
octets-read p a k all e = let (begun, whole, number, end) = octets_reading_inverse p a k e in as_read p all begun whole a k number end

-- ---- and by the payload

module _ {a : ℕ} (n : IsAddress a) where
  pub reading-header : (rest : List ℕ) → 0 < length rest → reading (header a ++ rest) ≡ found a (place a)
  reading-header rest some =
      reading-found (header a ++ rest) (octets_reading-header n rest) (omega (arith, length-append (header a) rest, length-header a))

  pub octets_reading_alone : octets_reading (header a) ≡ found a (place a)
  octets_reading_alone = ap octets_reading (sym (append-nil (header a))) ∙ octets_reading-header n []

  pub reading_alone : reading (header a) ≡ refused_header 16
  reading_alone = reading-empty (header a) octets_reading_alone (omega (arith, length-header a))

pub header_read : (p : List ℕ) (a k : ℕ) → AreOctets p → reading p ≡ found a k → IsAddress a × (k < length p) × (k ≡ place a) × (take k p ≡ header a)
header_read p a k all e =
    let (octets, some) = reading_inverse p a k e in
    let (n, within, end, same) = octets-read p a k all octets in
    (n, some, end, same)

pub alone_read : (p : List ℕ) → AreOctets p → (reading p).refusal ≡ 16 → (a : ℕ) × IsAddress a × (p ≡ header a)
alone_read p all e =
    let (a, k, octets, short) = reading-sixteen p e in
    let (n, within, end, same) = octets-read p a k all octets in
    (a, n, sym (take_all k p short) ∙ same)

-- 16 is the answer to a header and no more, and nothing else
pub sixteen-exactly : (p : List ℕ) → AreOctets p → ((reading p).refusal ≡ 16) ↔ ((a : ℕ) × IsAddress a × (p ≡ header a))
sixteen-exactly p all = (
  alone_read p all,
  λ (a, n, same). ap (λ (q : List ℕ). (reading q).refusal) same ∙ ap (λ (x : HeaderAnswer). x.refusal) (reading_alone n),
)

-- what is found is a header with a payload behind it, and nothing else
pub found-exactly : (p : List ℕ) (a k : ℕ) → AreOctets p
    → (reading p ≡ found a k) ↔ (IsAddress a × (k ≡ place a) × ((payload : List ℕ) × (0 < length payload) × (p ≡ header a ++ payload)))
found-exactly p a k all = (
  λ e.
      let (n, short, end, same) = header_read p a k all e in
      let laid : p ≡ header a ++ drop k p = sym (take-append-drop k p) ∙ ap (λ (l : List ℕ). l ++ drop k p) same in
      (n, end, (drop k p, omega (arith, length-drop k p), laid)),
  λ (n, end, (payload, some, laid)). ap reading laid ∙ reading-header n payload some ∙ ap (found a) (sym end),
)

-- ---- demand 2

not-zero : {a : ℕ} → IsAddress a → a ≡ 0 → ⊥
not-zero n e = omega (arith, n.some)

-- what is written where there is room
pub wrote-header : (a : ℕ) (buffer : List ℕ) → IsAddress a → place a ≤ length buffer
    → ((writing a buffer).answer ≡ wrote (place a)) × ((writing a buffer).buffer ≡ header a ++ drop (place a) buffer)
unfolding write
wrote-header a buffer n h =
    let done = writing-done a buffer (not-zero n) h in (
      ap (λ (w : WriteEffect). w.answer) done ∙ ap wrote (length-header a),
      ap (λ (w : WriteEffect). w.buffer) done ∙ ap (λ (k : ℕ). header a ++ drop k buffer) (length-header a),
    )

-- an answer without a refusal: the address was not zero, and there was room
writing-room : (a : ℕ) (buffer : List ℕ) → (writing a buffer).answer.refusal ≡ 0 → (0 < a) × (place a ≤ length buffer)
writing-room a buffer z = go ((header-write-refusals.given a buffer 0).0 z)
  where
    go : First (writing_order a buffer) 0 → (0 < a) × (place a ≤ length buffer)
    go (inl (e, f)) = absurd (omega arith)
    go (inr (some, inl (h, f))) = absurd (omega arith)
    go (inr (some, inr (room, f))) = (pos_of_ne-zero some, omega (arith, length-header a))

-- wherever a number was written, it reads back, and what stood behind it still does
where_done_lem : (a : ℕ) (buffer payload : List ℕ) (n : ℕ) → a < 2 ^ longest → 0 < length payload → (writing a buffer).answer ≡ wrote n
    → (reading ((writing a buffer).buffer ++ payload) ≡ found a n)
    × (drop n (writing a buffer).buffer ≡ drop n buffer)
    × (length (writing a buffer).buffer ≡ length buffer)
where_done_lem a buffer payload n fits behind e =
    let (some, room) = writing-room a buffer (ap (λ (w : Written). w.refusal) e) in
    let address : IsAddress a = record { some = some; fits = fits } in
    let (answered, left) = wrote-header a buffer address room in
    let end : n ≡ place a = ap (λ (w : Written). w.count) (sym e ∙ answered) in
    let rest = drop (place a) buffer in (
      ap (λ (l : List ℕ). reading (l ++ payload)) left
          ∙ ap reading (append_assoc (header a) rest payload)
          ∙ reading-header address (rest ++ payload) (omega (arith, length-append rest payload))
          ∙ ap (found a) (sym end),
      ap (drop n) left ∙ drop_at (header a) rest n (length-header a ∙ sym end) ∙ ap (λ (k : ℕ). drop k buffer) (sym end),
      ap length left ∙ omega (arith, length-append (header a) rest, length-header a, length-drop (place a) buffer),
    )

-- into a buffer of the header's length the header is written, and no more
pub wrote_alone : (a : ℕ) (buffer : List ℕ) → IsAddress a → length buffer ≡ place a
    → ((writing a buffer).answer ≡ wrote (place a)) × ((writing a buffer).buffer ≡ header a)
wrote_alone a buffer n e =
    let (answered, left) = wrote-header a buffer n (omega arith) in
    (answered, left ∙ ap (λ (l : List ℕ). header a ++ l) (drop_of_length-le buffer {i = place a} (omega arith)) ∙ append-nil (header a))

-- octets that are written so are the header
alone_written : (p : List ℕ) (a : ℕ) → IsAddress a → ((writing a p).answer ≡ wrote (length p)) × ((writing a p).buffer ≡ p) → p ≡ header a
alone_written p a n (answered, left) =
    let (some, room) = writing-room a p (ap (λ (w : Written). w.refusal) answered) in
    let long : length p ≡ place a = ap (λ (w : Written). w.count) (sym answered ∙ (wrote-header a p n room).0) in
    sym left ∙ (wrote_alone a p n long).1

empty-exactly : (p : List ℕ) → AreOctets p
    → ((reading p).refusal ≡ 16)
    ↔ ((a : ℕ) × IsAddress a
    × ((buffer : List ℕ) → length buffer ≡ length p → ((writing a buffer).answer ≡ wrote (length p)) × ((writing a buffer).buffer ≡ p)))
empty-exactly p all = (
  λ e.
      let (a, n, same) = alone_read p all e in
      let long : length p ≡ place a = ap length same ∙ length-header a in (
        a,
        n,
        λ buffer as_long.
            let (answered, left) = wrote_alone a buffer n (as_long ∙ long) in (answered ∙ ap wrote (sym long), left ∙ sym same),
      ),
  λ (a, n, written). (sixteen-exactly p all).1 (a, n, alone_written p a n (written p refl)),
)

pub header_round_trip : HeaderRoundTrip writing reading
header_round_trip = record {
  where_done = where_done_lem;
  reads_back = λ a buffer n h.
      let (answered, left) = wrote-header a buffer n h in (
        answered,
        λ more. ap reading left ∙ reading-header n (drop (place a) buffer) (omega (arith, length-drop (place a) buffer)),
      );
  written_so = λ p a k all e.
      let (n, short, end, same) = header_read p a k all e in (
        n,
        short,
        λ buffer h.
            let (answered, left) = wrote-header a buffer n (subst (λ (m : ℕ). m ≤ length buffer) end h) in (
              answered ∙ ap wrote (sym end),
              ap (take k) left ∙ take_at (header a) (drop (place a) buffer) k (length-header a ∙ sym end) ∙ sym same,
            ),
      );
  empty_exactly = empty-exactly;
}
