-- The path program's work: from the octets of its input to those of its output. "It reads one line from standard input: two addresses in
-- binary digits, one space between, a newline, nothing after. Anything else, a leading zero or a 65th digit included, prints `refused 11`
-- and a newline and no more."
use Rattle.std.specs.Prelude.{ℕ, zero, suc, ◌+◌, ◌/◌, ◌%◌, Bool, false, ◌&&◌, ◌||◌, List, [], ◌∷◌, ◌++◌, map, length, drop, eqb, leb, ltb, if◌then◌else◌}
use Rattle.address.specs.Bits.{Bit, O, I, bits, number, longest}
use Rattle.octets.specs.Octets.{WriteEffect, refuse_writing, write, same}
use Rattle.route.specs.Path.{path, hops}

-- ASCII
abbrev pub digit_zero : ℕ
digit_zero = 48

abbrev pub digit_one : ℕ
digit_one = 49

abbrev pub space : ℕ
space = 32

abbrev pub newline : ℕ
newline = 10

-- ---- reading the line

abbrev pub is_digit : ℕ → Bool
is_digit o = eqb o digit_zero || eqb o digit_one

-- the binary digits in front, and what stands behind them
unfoldable pub digits_of : List ℕ → List Bit
digits_of [] = []
digits_of (o ∷ os) = if is_digit o then (if eqb o digit_one then I else O) ∷ digits_of os else []

unfoldable pub after_digits : List ℕ → List ℕ
after_digits os = drop (length (digits_of os)) os

-- digits that are an address: no leading zero, at least one and at most 64
unfoldable pub are_address : List Bit → Bool
are_address [] = false
are_address (O ∷ bs) = false
are_address (I ∷ bs) = leb (length (I ∷ bs)) longest

-- what is behind one space, and nothing where there is none
unfoldable pub after_space : List ℕ → List ℕ
after_space [] = []
after_space (o ∷ os) = if eqb o space then os else []

-- what the input asks for
pub data Parsed : Type 0 where
  between : ℕ → ℕ → Parsed
  unreadable : Parsed

-- the two addresses in a line
unfoldable pub parsed : List ℕ → Parsed
parsed input =
    if are_address (digits_of input)
    && are_address (digits_of (after_space (after_digits input)))
    && same (after_digits (after_space (after_digits input))) (newline ∷ [])
    then between (number (digits_of input)) (number (digits_of (after_space (after_digits input))))
    else unreadable

-- ---- writing the answer

unfoldable pub digit_text : Bit → ℕ
digit_text O = digit_zero
digit_text I = digit_one

-- an address in binary digits
unfoldable pub address_text : ℕ → List ℕ
address_text a = map digit_text (bits a)

-- a number below 1000 in decimal digits
unfoldable pub decimal : ℕ → List ℕ
decimal n =
    if ltb n 10 then (digit_zero + n) ∷ []
    else if ltb n 100 then (digit_zero + n / 10) ∷ (digit_zero + n % 10) ∷ []
    else (digit_zero + n / 100) ∷ (digit_zero + n / 10 % 10) ∷ (digit_zero + n % 10) ∷ []

-- the last k digits of a number in a base up to ten
unfoldable pub digits_in : ℕ → ℕ → ℕ → List ℕ
digits_in base zero n = []
digits_in base (suc k) n = digits_in base k (n / base) ++ ((digit_zero + n % base) ∷ [])

-- the addresses, "with a newline after each line"
unfoldable pub lines : List ℕ → List ℕ
lines [] = []
lines (a ∷ p) = address_text a ++ (newline ∷ []) ++ lines p

-- "hops "
unfoldable pub hops_text : List ℕ
hops_text = 104 ∷ 111 ∷ 112 ∷ 115 ∷ 32 ∷ []

-- "refused 11" and a newline
unfoldable pub refused_text : List ℕ
refused_text = 114 ∷ 101 ∷ 102 ∷ 117 ∷ 115 ∷ 101 ∷ 100 ∷ 32 ∷ 49 ∷ 49 ∷ 10 ∷ []

-- the whole output for a path
unfoldable pub path_text : List ℕ → List ℕ
path_text p = hops_text ++ decimal (hops p) ++ (newline ∷ []) ++ lines p

unfoldable pub text_for : Parsed → List ℕ
text_for (between a d) = path_text (path a d)
text_for unreadable = refused_text

unfoldable pub output_text : List ℕ → List ℕ
output_text input = text_for (parsed input)

-- What the function comes to: the text goes to the front of the lent output, which must have room for it (10).
unfoldable pub answering : List ℕ → List ℕ → WriteEffect
answering input out =
    if ltb (length out) (length (output_text input)) then refuse_writing 10 out
    else write (output_text input) out
