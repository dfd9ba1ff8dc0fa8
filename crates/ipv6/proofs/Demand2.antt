-- Demand 2 for the IPv6 form: the octets of an address give it back, and what reads as an address is its prefix and its octets. Assumes
-- nothing.
use mathlib.Core.Path.{◌≡◌, sym, ap, ap₂, ◌∙◌}
use mathlib.Core.Logic.{inl, inr}
use mathlib.Core.List.{List, ◌++◌}
use Prim.Native.Nat.{ℕ, ◌^◌, ◌<◌, ◌≤◌}
use native.Mathlib.Nat.{pos_of_ne-zero}
use native.Mathlib.Decide.{ℕ_discrete}
use native.Mathlib.Omega.{arith}
use lib.ListN.{length, take, drop, length-append, length-drop, take-append-drop}
use lib.Seq.{take_at, drop_at}
use borrow.Author.Tests.{ne_eqb}
use Rattle.address.specs.Order.{First}
use Rattle.address.specs.Bits.{longest}
use Rattle.address.specs.Numbers.{IsAddress}
use Rattle.address.specs.Address.{valid_address, made}
use Rattle.octets.specs.Octets.{octets, value, AreOctets, WriteEffect, wrote, write}
use Rattle.octets.specs.Octets.{Written}
use Rattle.address.proofs.Decided.{holds}
use Rattle.octets.proofs.OctetLaws.{octets-value, value-octets_of_lt, value-fits, drop-octets}
use Rattle.ipv6.specs.Form.{half, whole, form, form_writing, form_reading}
use Rattle.ipv6.specs.Refusals.{form_writing_order}
use Rattle.ipv6.specs.RoundTrip.{FormRoundTrip}
use Rattle.ipv6.proofs.FormLaws.{length-form, form_writing-done, form_reading_same, Read, form_reading-valid}
use Rattle.ipv6.proofs.RefusalLaws.{form-write-refusals}

-- an address is written, and leaves its form in front
written : (prefix : List ℕ) (a : ℕ) (buffer : List ℕ) → length prefix ≡ half → 0 < a → whole ≤ length buffer
    → ((form_writing prefix a buffer).answer ≡ wrote whole) × (take whole (form_writing prefix a buffer).buffer ≡ form prefix a)
unfolding write
written prefix a buffer l some room =
    rw (form_writing-done prefix a buffer l (λ z. omega arith) room)
    (ap wrote (length-form prefix a l), take_at (form prefix a) (drop (length (form prefix a)) buffer) whole (length-form prefix a l))

made_some : (a : ℕ) → 0 < a → made a ≡ valid_address a
unfolding made
made_some a some = rw (ne_eqb a 0 (λ z. omega arith))

form_reading-form : (prefix : List ℕ) (a : ℕ) → length prefix ≡ half → IsAddress a → form_reading prefix (form prefix a) ≡ valid_address a
unfolding form
form_reading-form prefix a l address =
    form_reading_same prefix (form prefix a) l (length-form prefix a l) (take_at prefix (octets half a) half l)
    ∙ ap (λ (os : List ℕ). made (value os)) (drop_at prefix (octets half a) half l)
    ∙ ap made (value-octets_of_lt half a address.fits)
    ∙ made_some a address.some

form-read : {prefix ipv6 : List ℕ} {a : ℕ} → AreOctets ipv6 → Read prefix ipv6 a → IsAddress a × (form prefix a ≡ ipv6)
unfolding form
form-read {prefix} {ipv6} {a} all r =
    let last = drop half ipv6 in
    let l : length last ≡ half = length-drop half ipv6 ∙ omega (arith, r.sized) in (
      record { some = r.some; fits = omega (arith, value-fits last (drop-octets half ipv6 all) (omega arith), r.back) },
      ap₂ (λ (x y : List ℕ). x ++ y) (sym r.front) (ap₂ octets (sym l) (sym r.back) ∙ octets-value last (drop-octets half ipv6 all))
          ∙ take-append-drop half ipv6,
    )

-- an answer without a refusal: the prefix was 8 octets, the address not zero, and there was room
form_writing-right : (prefix : List ℕ) (a : ℕ) (buffer : List ℕ) → (form_writing prefix a buffer).answer.refusal ≡ 0
    → (length prefix ≡ half) × (0 < a) × (whole ≤ length buffer)
form_writing-right prefix a buffer z = go ((form-write-refusals.given prefix a buffer 0).0 z)
  where
    go : First (form_writing_order prefix a buffer) 0 → (length prefix ≡ half) × (0 < a) × (whole ≤ length buffer)
    go (inl (other, f)) = absurd (omega arith)
    go (inr (eight, inl (e, f))) = absurd (omega arith)
    go (inr (eight, inr (some, inl (h, f)))) = absurd (omega arith)
    go (inr (eight, inr (some, inr (room, f)))) = (holds (ℕ_discrete (length prefix) half) eight, pos_of_ne-zero some, omega arith)

-- wherever a number was written, it reads back, and what stood behind it still does
where_done_lem : (prefix : List ℕ) (a : ℕ) (buffer : List ℕ) (n : ℕ) → a < 2 ^ longest → (form_writing prefix a buffer).answer ≡ wrote n
    → (n ≡ whole)
    × (form_reading prefix (take whole (form_writing prefix a buffer).buffer) ≡ valid_address a)
    × (drop whole (form_writing prefix a buffer).buffer ≡ drop whole buffer)
    × (length (form_writing prefix a buffer).buffer ≡ length buffer)
unfolding write
where_done_lem prefix a buffer n fits e =
    let (l, some, room) = form_writing-right prefix a buffer (ap (λ (w : Written). w.refusal) e) in
    let (answered, front) = written prefix a buffer l some room in
    let os = form prefix a in
    let many = length-form prefix a l in
    let left : (form_writing prefix a buffer).buffer ≡ os ++ drop whole buffer =
    ap (λ (w : WriteEffect). w.buffer) (form_writing-done prefix a buffer l (λ z. omega arith) room) ∙ ap (λ (k : ℕ). os ++ drop k buffer) many in (
      ap (λ (w : Written). w.count) (sym e ∙ answered),
      ap (form_reading prefix) front ∙ form_reading-form prefix a l (record { some = some; fits = fits }),
      ap (drop whole) left ∙ drop_at os (drop whole buffer) whole many,
      ap length left ∙ omega (arith, length-append os (drop whole buffer), length-drop whole buffer),
    )

pub form_round_trip : FormRoundTrip form_writing form_reading
form_round_trip = record {
  where_done = where_done_lem;
  reads_back = λ prefix a buffer l address room.
      let w = written prefix a buffer l address.some room in
      (w.0, ap (form_reading prefix) w.1 ∙ form_reading-form prefix a l address);
  written_so = λ prefix ipv6 a all e.
      let r = form_reading-valid prefix ipv6 a e in
      let f = form-read all r in
      (f.0, r.prefixed, r.sized, λ buffer room. let w = written prefix a buffer r.prefixed r.some room in (w.0, w.1 ∙ f.1));
}
