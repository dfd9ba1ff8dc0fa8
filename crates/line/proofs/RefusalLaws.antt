-- An input is refused by its text exactly if it is no line, since a path's text begins otherwise; and the answer is refused exactly if the
-- text does not fit. Assumes nothing.
use mathlib.Core.Path.{◌≡◌, refl, sym, ap, ◌∙◌}
use mathlib.Core.Logic.{◌⊎◌, inl, inr, ◌↔◌}
use mathlib.Core.Bool.{Bool, true, false}
use mathlib.Core.List.{List, ◌++◌}
use Prim.Native.Nat.{ℕ}
use native.Mathlib.Omega.{arith}
use borrow.Author.Tests.{ltb-true, ltb-false}
use lib.ListN.{length, drop, get_or}
use lib.Dec.{ltb}
use Rattle.std.specs.Prelude.{if◌then◌else◌}
use Rattle.address.specs.Order.{done, GivenExactly}
use Rattle.address.specs.Numbers.{IsAddress}
use Rattle.address.proofs.OrderLaws.{given-exactly, first-if}
use Rattle.octets.specs.Octets.{WriteEffect, refuse_writing, write}
use Rattle.route.specs.Path.{path}
use Rattle.line.specs.Line.{Parsed, between, unreadable, parsed, hops_text, refused_text, path_text, text_for, output_text, answering}
use Rattle.line.specs.Exactly.{line_of, IsLine}
use Rattle.line.specs.Refusals.{LineRefusals, answer_order, AnswerRefusals}
use Rattle.line.proofs.Exact.{exactly_the_line}

-- ---- the text

path_text-apart : (p : List ℕ) → path_text p ≡ refused_text → ⊥
unfolding path_text hops_text refused_text
path_text-apart p e = omega (arith, ap (λ (l : List ℕ). get_or l 0 0) e)

output_text-line : (a d : ℕ) → IsAddress a → IsAddress d → output_text (line_of a d) ≡ path_text (path a d)
unfolding output_text text_for
output_text-line a d h l = rw (exactly_the_line.reads a d h l)

output_text-either : (input : List ℕ) → IsLine input ⊎ (output_text input ≡ refused_text)
unfolding output_text text_for
output_text-either input = go (parsed input) refl
  where
    go : (q : Parsed) → parsed input ≡ q → IsLine input ⊎ (text_for q ≡ refused_text)
    go (between a d) e =
        let ends = exactly_the_line.only input a d e in
        inl (record { first = a; second = d; addresses = (ends.0, ends.1); spelled = ends.2 })
    go unreadable e = inr refl

output_text-given : (input : List ℕ) → (output_text input ≡ refused_text) ↔ (IsLine input → ⊥)
output_text-given input = (no_line, refused (output_text-either input))
  where
    no_line : output_text input ≡ refused_text → IsLine input → ⊥
    no_line e l =
        let text = output_text-line l.first l.second l.addresses.0 l.addresses.1 in
        path_text-apart (path l.first l.second) (sym text ∙ sym (ap output_text l.spelled) ∙ e)

    refused : IsLine input ⊎ (output_text input ≡ refused_text) → (IsLine input → ⊥) → output_text input ≡ refused_text
    refused (inl l) n = absurd (n l)
    refused (inr e) n = e

pub line-refusals : LineRefusals
line-refusals = record { given = output_text-given; either = output_text-either; without = output_text-line; apart = path_text-apart }

-- ---- the answer

module _ (input out : List ℕ) where
  abbrev text : List ℕ
  text = output_text input

  abbrev short : Bool
  short = ltb (length out) (length text)

  abbrev effect : Bool → WriteEffect
  effect t = if t then refuse_writing 10 out else write text out

  answering-given : GivenExactly (answer_order input out) (answering input out).answer.refusal
  unfolding answering refuse_writing write
  answering-given = given-exactly (answer_order input out)
      (first-if (λ (e : WriteEffect). e.answer.refusal) short (refuse_writing 10 out) (write text out) done refl
      (ltb-true (length out) (length text)) (λ f. (λ l. omega (arith, ltb-false (length out) (length text) f), refl)))

  answering-beside : (t : Bool) → ((effect t).answer.refusal ≡ 0 → ⊥) → ((effect t).answer.count ≡ 0) × ((effect t).buffer ≡ out)
  unfolding refuse_writing write
  answering-beside true h = (refl, refl)
  answering-beside false h = absurd (h refl)

  answering_without : (t : Bool) → (effect t).answer.refusal ≡ 0
      → ((effect t).answer.count ≡ length text) × ((effect t).buffer ≡ text ++ drop (length text) out)
  unfolding refuse_writing write
  answering_without true e = absurd (omega arith)
  answering_without false e = (refl, refl)

pub answer-refusals : AnswerRefusals
unfolding answering
answer-refusals = record {
  given = answering-given;
  beside = λ input out. answering-beside input out (short input out);
  without = λ input out. answering_without input out (short input out);
}
