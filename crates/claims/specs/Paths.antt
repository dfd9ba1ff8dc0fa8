-- The path between two addresses, and the path program's line and text.
use Rattle.std.specs.Prelude.{ℕ, ◌+◌, ◌*◌, ◌-◌, ◌<◌, ◌≤◌, ◌≡◌, true, ◌⊎◌, ◌↔◌, List, [], ◌∷◌, ◌++◌, map, length, take}
use Rattle.address.specs.Bits.{Bit, O, I, bits}
use Rattle.address.specs.Steps.{Step}
use Rattle.address.specs.Address.{bit_length}
use Rattle.address.specs.declared.Kind.{Kind}
use Rattle.address.specs.Numbers.{IsAddress}
use Rattle.address.specs.Ancestors.{AncestorOrSelf}
use Rattle.route.specs.Path.{same_kind, same_steps, is_ancestor_or_self, turn, path, listing}
use Rattle.route.specs.TurningPoint.{IsUpAndDown}
use Rattle.line.specs.Line.{parsed, between, decimal, refused_text, path_text, output_text}
use Rattle.line.specs.Exactly.{line_of, IsLine, room}
use Rattle.line.specs.Decimal.{decimal_value, AreDecimalDigits}

pub record ThePath : Type 0 where
  -- "A path .. is the list from the first up to the deepest common ancestor-or-self and down to the second, both ends in it."
  pub up_and_down : (a d : ℕ) → IsAddress a → IsAddress d → IsUpAndDown a d
  -- "the deepest common ancestor-or-self": it is one of both, and none has more steps
  pub turns_at_ancestor : (ss ts : List Step) → AncestorOrSelf (turn ss ts) ss × AncestorOrSelf (turn ss ts) ts
  pub turns_at_deepest : (ss ts y : List Step) → AncestorOrSelf y ss → AncestorOrSelf y ts → length y ≤ length (turn ss ts)
  pub ancestors : (ss ts : List Step) → (is_ancestor_or_self ss ts ≡ true) ↔ AncestorOrSelf ss ts
  pub equal_kinds : (k l : Kind) → (same_kind k l ≡ true) ↔ (k ≡ l)
  pub equal_steps : (ss ts : List Step) → (same_steps ss ts ≡ true) ↔ (ss ≡ ts)
  -- "It has at most 126 addresses (125 hops)."
  pub at_most126 : (a d : ℕ) → IsAddress a → IsAddress d → length (path a d) ≤ 126
  -- "the count is the listed path's length less one"
  pub counts : (a d : ℕ) (words : List ℕ) → (listing a d words).answer.refusal ≡ 0 → (listing a d words).answer.hops + 1 ≡ length (path a d)

-- ---- the document's example, in ASCII

-- 10011 101011
unfoldable pub example_line : List ℕ
example_line = 49 ∷ 48 ∷ 48 ∷ 49 ∷ 49 ∷ 32 ∷ 49 ∷ 48 ∷ 49 ∷ 48 ∷ 49 ∷ 49 ∷ 10 ∷ []

-- hops 4; 10011; 100; 10; 1010; 101011, each with a newline
unfoldable pub example_text : List ℕ
example_text =
    104 ∷ 111 ∷ 112 ∷ 115 ∷ 32 ∷ 52 ∷ 10 ∷ 49 ∷ 48 ∷ 48 ∷ 49 ∷ 49 ∷ 10 ∷ 49 ∷ 48 ∷ 48 ∷ 10 ∷ 49 ∷ 48 ∷ 10 ∷ 49 ∷ 48 ∷ 49 ∷ 48 ∷ 10 ∷ 49 ∷ 48 ∷ 49 ∷ 48
    ∷ 49 ∷ 49 ∷ 10 ∷ []

-- refused 11
unfoldable pub refusal11 : List ℕ
refusal11 = 114 ∷ 101 ∷ 102 ∷ 117 ∷ 115 ∷ 101 ∷ 100 ∷ 32 ∷ 49 ∷ 49 ∷ 10 ∷ []

-- hops and a space
unfoldable pub hops_word : List ℕ
hops_word = 104 ∷ 111 ∷ 112 ∷ 115 ∷ 32 ∷ []

unfoldable pub binary : Bit → ℕ
binary O = 48
binary I = 49

unfoldable pub each_on_aline : List ℕ → List ℕ
each_on_aline [] = []
each_on_aline (a ∷ p) = map binary (bits a) ++ (10 ∷ []) ++ each_on_aline p

pub record TheLine : Type 0 where
  -- "It reads one line from standard input: two addresses in binary digits, one space between, a newline, nothing after."
  pub line : (a d : ℕ) → line_of a d ≡ map binary (bits a) ++ (32 ∷ []) ++ map binary (bits d) ++ (10 ∷ [])
  pub is_line : (input : List ℕ) → IsLine input ↔ ((a d : ℕ) × (IsAddress a × IsAddress d × (input ≡ line_of a d)))
  pub answers : (a d : ℕ) → IsAddress a → IsAddress d → output_text (line_of a d) ≡ path_text (path a d)
  pub reads : (input : List ℕ) (a d : ℕ) → parsed input ≡ between a d → IsAddress a × IsAddress d × (input ≡ line_of a d)
  -- "Anything else, a leading zero or a 65th digit included, prints `refused 11` and a newline and no more."
  pub refuses : (input : List ℕ) → (output_text input ≡ refused_text) ↔ (IsLine input → ⊥)
  pub no_third : (input : List ℕ) → IsLine input ⊎ (output_text input ≡ refused_text)
  -- "For `10011 101011` the whole output is ..", and the text of a refusal, in ASCII
  pub example : output_text example_line ≡ example_text
  pub refused_else : output_text [] ≡ refusal11
  -- of every path: the hops, then a line for each address, in binary digits; "with a newline after each line"
  pub spelt : (p : List ℕ) → path_text p ≡ hops_word ++ decimal (length p - 1) ++ (10 ∷ []) ++ each_on_aline p
  -- a path's text is no refusal's
  pub apart : (p : List ℕ) → path_text p ≡ refused_text → ⊥
  -- two addresses of 64 digits have a line of 130 octets; whatever is longer is refused, and 131 octets of an input decide
  pub longest_line : (a d : ℕ) → IsAddress a → IsAddress d → bit_length a ≡ 64 → bit_length d ≡ 64
      → IsLine (line_of a d) × (length (line_of a d) ≡ 130)
  pub past_the_longest : (input : List ℕ) → 130 < length input → output_text input ≡ refused_text
  pub window_decides : (input : List ℕ) → output_text (take 131 input) ≡ output_text input
  -- a hop count, which is below 1000, is written in the usual way: at least one digit, none in front of the others that is 0, and they say the number
  pub few_hops : (a d : ℕ) → IsAddress a → IsAddress d → length (path a d) - 1 < 1000
  pub digits_say : (n : ℕ) → n < 1000 → decimal_value (decimal n) ≡ n
  pub digits_read : (os : List ℕ) (o : ℕ) → (decimal_value [] ≡ 0) × (decimal_value (os ++ (o ∷ [])) ≡ decimal_value os * 10 + (o - 48))
  pub some_digit : (n : ℕ) → decimal n ≡ [] → ⊥
  pub are_digits : (n : ℕ) → n < 1000 → AreDecimalDigits (decimal n)
  pub unpadded : (n : ℕ) (rest : List ℕ) → decimal n ≡ 48 ∷ rest → (n ≡ 0) × (rest ≡ [])
  -- every text fits the room that the program lends
  pub fits : (input : List ℕ) → length (output_text input) ≤ room
