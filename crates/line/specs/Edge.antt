-- How much of its input the path program looks at: the longest line and one octet more, which shows whether there is anything after it.
use Rattle.std.specs.Prelude.{◌≡◌, List, ℕ, ◌+◌, ◌^◌, ◌≤◌, length, take}
use Rattle.address.specs.Bits.{longest}
use Rattle.address.specs.Address.{bit_length}
use Rattle.address.specs.Numbers.{IsAddress}
use Rattle.line.specs.Line.{refused_text, output_text}
use Rattle.line.specs.Exactly.{line_of, IsLine}

-- two addresses of 64 digits, the space and the newline
abbrev pub longest_line : ℕ
longest_line = 130

abbrev pub window : ℕ
window = longest_line + 1

pub record Edge : Type 0 where
  -- whatever fills the window is no line
  pub past : (input : List ℕ) → window ≤ length input → output_text input ≡ refused_text
  -- what stands in the window decides, however long the input is
  pub enough : (input : List ℕ) → output_text (take window input) ≡ output_text input
  -- "An address is a string of 1 to 64 bits": two of 64 bits have a line that is as long as a line can be
  pub full : (a d : ℕ) → IsAddress a → IsAddress d → bit_length a ≡ longest → bit_length d ≡ longest
      → IsLine (line_of a d) × (length (line_of a d) ≡ longest_line)
  -- and there are such addresses
  pub met : IsAddress (2 ^ 63) × (bit_length (2 ^ 63) ≡ longest)
