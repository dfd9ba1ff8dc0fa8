-- Each refusal of writing stands where the document puts it: at every condition of the order the definition, by the checks that have passed on the
-- way, gives that condition's number. Assumes nothing.
use Rattle.std.specs.Prelude.{if◌then◌else◌}
use mathlib.Core.Path.{◌≡◌, refl}
use mathlib.Core.Bool.{Bool, true, false}
use mathlib.Core.Logic.{◌⊎◌, inl, inr}
use mathlib.Core.List.{List}
use Prim.Native.Nat.{ℕ, ◌≤◌}
use native.Mathlib.Decide.{ℕ_discrete, dec_lt}
use native.Mathlib.Omega.{arith}
use lib.Dec.{eqb, ltb}
use lib.ListN.{length}
use Rattle.address.specs.Order.{First}
use Rattle.address.proofs.OrderLaws.{given-exactly}
use Rattle.address.proofs.Decided.{decided, one_of}
use Rattle.octets.specs.Octets.{refuse_writing, write}
use Rattle.octets.proofs.LentLaws.{refusal-refuse_writing, refusal-write, Outcome, outcome_leaves, outcome-writes}
use Rattle.nsa.specs.Fields.{fields, longest_payload, writing}
use Rattle.nsa.specs.Refusals.{fields_writing_order, FieldsWriteRefusals}
use Rattle.nsa.proofs.Writing.{writing-long, writing-zero-source, writing-zero-destination, writing-short, writing-done}

module _ (l s d : ℕ) (buffer : List ℕ) where
  writing-outcome : Outcome (fields l s d) buffer (writing l s d buffer)
  unfolding writing
  writing-outcome = go (ltb longest_payload l) (eqb s 0) (eqb d 0) (ltb (length buffer) (length (fields l s d)))
    where
      go : (long source destination short : Bool) → Outcome (fields l s d) buffer
          (if long then refuse_writing 14 buffer
          else if source then refuse_writing 9 buffer
          else if destination then refuse_writing 9 buffer
          else if short then refuse_writing 10 buffer
          else write (fields l s d) buffer)
      go true source destination short = inl (13, refl)
      go false true destination short = inl (8, refl)
      go false false true short = inl (8, refl)
      go false false false true = inl (9, refl)
      go false false false false = inr refl

  -- either address is zero
  writing-zero : l ≤ longest_payload → (s ≡ 0) ⊎ (d ≡ 0) → Dec (s ≡ 0) → (writing l s d buffer).answer.refusal ≡ 9
  writing-zero short either (yes z) = refusal-refuse_writing 9 buffer (writing-zero-source l s d buffer short z)
  writing-zero short (inl z) (no n) = absurd (n z)
  writing-zero short (inr z) (no n) = refusal-refuse_writing 9 buffer (writing-zero-destination l s d buffer short n z)

  first-writing : First (fields_writing_order l s d buffer) (writing l s d buffer).answer.refusal
  first-writing =
      decided (dec_lt 65787 l) (λ long. refusal-refuse_writing 14 buffer (writing-long l s d buffer long)) λ few.
      let short : l ≤ longest_payload = omega arith in
      decided (one_of (ℕ_discrete s 0) (ℕ_discrete d 0)) (λ either. writing-zero short either (ℕ_discrete s 0)) λ some.
      let source : s ≡ 0 → ⊥ = λ e. some (inl e) in
      let destination : d ≡ 0 → ⊥ = λ e. some (inr e) in
      decided (dec_lt (length buffer) (length (fields l s d)))
      (λ h. refusal-refuse_writing 10 buffer (writing-short l s d buffer short source destination h)) λ room.
      refusal-write (fields l s d) buffer (writing-done l s d buffer short source destination (omega arith))

pub fields-write-refusals : FieldsWriteRefusals writing
fields-write-refusals = record {
  given = λ l s d buffer. given-exactly (fields_writing_order l s d buffer) (first-writing l s d buffer);
  beside = λ l s d buffer. outcome_leaves (fields l s d) buffer (writing l s d buffer) (writing-outcome l s d buffer);
  without = λ l s d buffer. outcome-writes (fields l s d) buffer (writing l s d buffer) (writing-outcome l s d buffer);
}
