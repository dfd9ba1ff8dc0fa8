-- Demand 1 for the path program's work: refusal 11 is its text, refusal 10 its answer, and each is "given exactly when that document says".
use Rattle.std.specs.Prelude.{◌≡◌, ◌⊎◌, ◌↔◌, List, ◌++◌, ℕ, ◌<◌, length, drop}
use Rattle.address.specs.Order.{Order, done, ◌when◌otherwise◌, GivenExactly}
use Rattle.address.specs.Numbers.{IsAddress}
use Rattle.route.specs.Path.{path}
use Rattle.line.specs.Line.{refused_text, path_text, output_text, answering}
use Rattle.line.specs.Exactly.{line_of, IsLine}

pub record LineRefusals : Type 0 where
  -- 11: "the path program's input isn't the one line it reads"; "Anything else .. prints `refused 11` and a newline and no more."
  pub given : (input : List ℕ) → (output_text input ≡ refused_text) ↔ (IsLine input → ⊥)
  -- every input is the one line, or refused
  pub either : (input : List ℕ) → IsLine input ⊎ (output_text input ≡ refused_text)
  -- and the line of two addresses has the text of the path between them
  pub without : (a d : ℕ) → IsAddress a → IsAddress d → output_text (line_of a d) ≡ path_text (path a d)
  -- which is no refusal's, whatever the path
  pub apart : (p : List ℕ) → path_text p ≡ refused_text → ⊥

abbrev pub answer_order : List ℕ → List ℕ → Order
answer_order input out =
    -- "lent output too short"
    10 when length out < length (output_text input)
    otherwise done

pub record AnswerRefusals : Type 0 where
  pub given : (input out : List ℕ) → GivenExactly (answer_order input out) (answering input out).answer.refusal
  -- "With any refusal .. every other number returned beside its own [is] 0 .. and no byte or word lent is changed."
  pub beside : (input out : List ℕ) → ((answering input out).answer.refusal ≡ 0 → ⊥)
      → ((answering input out).answer.count ≡ 0) × ((answering input out).buffer ≡ out)
  -- and without one the whole text is in front: "On success only the words or octets named are written."
  pub without : (input out : List ℕ) → (answering input out).answer.refusal ≡ 0
      → ((answering input out).answer.count ≡ length (output_text input))
      × ((answering input out).buffer ≡ output_text input ++ drop (length (output_text input)) out)
