-- What is claimed of the line: an input is read as two addresses exactly if it is their line, and the output always fits the room named.
use Rattle.std.specs.Prelude.{◌≡◌, List, [], ◌∷◌, ◌++◌, ℕ, ◌≤◌, length}
use Rattle.address.specs.Numbers.{IsAddress}
use Rattle.line.specs.Line.{parsed, between, address_text, space, newline, output_text}

-- "two addresses in binary digits, one space between, a newline, nothing after"
unfoldable pub line_of : ℕ → ℕ → List ℕ
line_of a d = address_text a ++ (space ∷ []) ++ address_text d ++ (newline ∷ [])

-- "the one line it reads"
pub record IsLine (input : List ℕ) : Type 0 where
  pub first : ℕ
  pub second : ℕ
  pub addresses : IsAddress first × IsAddress second
  pub spelled : input ≡ line_of first second

pub record ExactlyTheLine : Type 0 where
  pub reads : (a d : ℕ) → IsAddress a → IsAddress d → parsed (line_of a d) ≡ between a d
  pub only : (input : List ℕ) (a d : ℕ) → parsed input ≡ between a d → IsAddress a × IsAddress d × (input ≡ line_of a d)

-- the room that every output fits
abbrev pub room : ℕ
room = 8200

abbrev pub OutputFits : Type 0
OutputFits = (input : List ℕ) → length (output_text input) ≤ room
