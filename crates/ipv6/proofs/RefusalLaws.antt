-- Each refusal of the IPv6 form stands where the document puts it: at every condition of the order the definition, by the checks that have
-- passed on the way, gives that condition's number. Assumes nothing.
use Rattle.std.specs.Prelude.{if◌then◌else◌}
use mathlib.Core.Path.{◌≡◌, refl, sym, ap, ◌∙◌}
use mathlib.Core.Bool.{Bool, true, false, not, ◌&&◌}
use mathlib.Core.Logic.Dec
use mathlib.Core.Logic.{◌⊎◌, inl, inr}
use mathlib.Core.List.{List, ◌++◌, List-discrete}
use Prim.Native.Nat.{ℕ}
use native.Mathlib.Decide.{ℕ_discrete, dec_lt}
use native.Mathlib.Omega.{arith}
use lib.Dec.{eqb, ltb}
use lib.ListN.{length, take, drop, replicate, length-drop, take-append-drop}
use Rattle.address.specs.Order.{First}
use Rattle.address.specs.Address.{AddressAnswer, valid_address, refused_address}
use Rattle.address.proofs.OrderLaws.{given-exactly}
use Rattle.octets.specs.Octets.{value, same, WriteEffect, refuse_writing, write}
use Rattle.octets.proofs.Correspondence.{value-zero, value-zeros}
use Rattle.address.proofs.Decided.{decided, one_of, holds}
use Rattle.octets.proofs.LentLaws.{refusal-refuse_writing, refusal-write, Outcome, outcome_leaves, outcome-writes}
use Rattle.ipv6.specs.Form.{half, whole, form, form_writing, form_reading}
use Rattle.ipv6.specs.Refusals.{form_writing_order, FormWriteRefusals, form_reading_order, AcceptedForm, FormReadRefusals}
use Rattle.ipv6.proofs.FormLaws.{form_writing-length, form_writing-zero, form_writing-room, form_writing-done, form_reading_prefix, form_reading-length, form_reading_other, form_reading-zero, form_reading-some, form_reading-valid}

-- ---- writing

module _ (prefix : List ℕ) (a : ℕ) (buffer : List ℕ) where
  pub form_writing-outcome : Outcome (form prefix a) buffer (form_writing prefix a buffer)
  unfolding form_writing
  form_writing-outcome = go (not (eqb (length prefix) half)) (eqb a 0) (ltb (length buffer) whole)
    where
      effect : (other zero short : Bool) → WriteEffect
      effect other zero short =
          if other then refuse_writing 12 buffer
          else if zero then refuse_writing 9 buffer
          else if short then refuse_writing 10 buffer
          else write (form prefix a) buffer

      go : (other zero short : Bool) → Outcome (form prefix a) buffer (effect other zero short)
      go true zero short = inl (11, refl)
      go false true short = inl (8, refl)
      go false false true = inl (9, refl)
      go false false false = inr refl

  first-form_writing : First (form_writing_order prefix a buffer) (form_writing prefix a buffer).answer.refusal
  first-form_writing =
      decided (Dec.not (ℕ_discrete (length prefix) half))
      (λ other. refusal-refuse_writing 12 buffer (form_writing-length prefix a buffer other)) λ eight.
      let l = holds (ℕ_discrete (length prefix) half) eight in
      decided (ℕ_discrete a 0) (λ e. refusal-refuse_writing 9 buffer (form_writing-zero prefix a buffer l e)) λ some.
      decided (dec_lt (length buffer) whole) (λ short. refusal-refuse_writing 10 buffer (form_writing-room prefix a buffer l some short)) λ room.
      refusal-write (form prefix a) buffer (form_writing-done prefix a buffer l some (omega arith))

pub form-write-refusals : FormWriteRefusals
form-write-refusals = record {
  given = λ prefix a buffer. given-exactly (form_writing_order prefix a buffer) (first-form_writing prefix a buffer);
  beside = λ prefix a buffer. outcome_leaves (form prefix a) buffer (form_writing prefix a buffer) (form_writing-outcome prefix a buffer);
  without = λ prefix a buffer. outcome-writes (form prefix a) buffer (form_writing prefix a buffer) (form_writing-outcome prefix a buffer);
}

-- ---- reading

module _ (prefix ipv6 : List ℕ) where
  form_reading-lengths : (length ipv6 ≡ whole → ⊥) ⊎ (length prefix ≡ half → ⊥) → form_reading prefix ipv6 ≡ refused_address 12
  form_reading-lengths (inr n) = form_reading_prefix prefix ipv6 n
  form_reading-lengths (inl n) = go (ℕ_discrete (length prefix) half)
    where
      go : Dec (length prefix ≡ half) → form_reading prefix ipv6 ≡ refused_address 12
      go (yes l) = form_reading-length prefix ipv6 l n
      go (no m) = form_reading_prefix prefix ipv6 m

  first-form_reading : First (form_reading_order prefix ipv6) (form_reading prefix ipv6).refusal
  first-form_reading =
      decided (one_of (Dec.not (ℕ_discrete (length ipv6) whole)) (Dec.not (ℕ_discrete (length prefix) half)))
      (λ other. ap number (form_reading-lengths other)) λ lengths.
      let m = holds (ℕ_discrete (length ipv6) whole) (λ n. lengths (inl n)) in
      let l = holds (ℕ_discrete (length prefix) half) (λ n. lengths (inr n)) in
      decided (Dec.not (List-discrete ℕ_discrete (take half ipv6) prefix)) (λ other. ap number (form_reading_other prefix ipv6 l m other)) λ first.
      let e = holds (List-discrete ℕ_discrete (take half ipv6) prefix) first in
      decided (List-discrete ℕ_discrete (drop half ipv6) (replicate half 0))
      (λ zeros. ap number (form_reading-zero prefix ipv6 l m e (ap value zeros ∙ value-zeros half))) λ some.
      let last : length (drop half ipv6) ≡ half = length-drop half ipv6 ∙ omega arith in
      ap number (form_reading-some prefix ipv6 l m e (λ z. some (value-zero (drop half ipv6) z ∙ ap (λ (k : ℕ). replicate k 0) last)))
    where
      number : AddressAnswer → ℕ
      number r = r.refusal

  beside : ((form_reading prefix ipv6).refusal ≡ 0 → ⊥) → (form_reading prefix ipv6).address ≡ 0
  unfolding form_reading
  beside = go (not (eqb (length prefix) half && eqb (length ipv6) whole)) (not (same (take half ipv6) prefix)) (eqb (value (drop half ipv6)) 0)
    where
      answer : (length other zero : Bool) → AddressAnswer
      answer length other zero =
          if length then refused_address 12
          else if other then refused_address 8
          else if zero then refused_address 9
          else valid_address (value (drop half ipv6))

      go : (length other zero : Bool) → ((answer length other zero).refusal ≡ 0 → ⊥) → (answer length other zero).address ≡ 0
      go true other zero h = refl
      go false true zero h = refl
      go false false true h = refl
      go false false false h = absurd (h refl)

  accepted : (form_reading prefix ipv6).refusal ≡ 0 → AcceptedForm prefix ipv6 (form_reading prefix ipv6).address
  accepted e =
      let r = form_reading prefix ipv6 in
      let read = form_reading-valid prefix ipv6 r.address (ap (λ (n : ℕ). record { refusal = n; address = r.address }) e) in
      record {
        os = drop half ipv6;
        laid = sym (take-append-drop half ipv6) ∙ ap (λ (l : List ℕ). l ++ drop half ipv6) read.front;
        halves = (read.prefixed, length-drop half ipv6 ∙ omega (arith, read.sized));
        number = sym read.back;
      }

pub form-read-refusals : FormReadRefusals
form-read-refusals = record {
  given = λ prefix ipv6. given-exactly (form_reading_order prefix ipv6) (first-form_reading prefix ipv6);
  beside = beside;
  without = accepted;
}
