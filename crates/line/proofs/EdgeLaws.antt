-- No address has more than 64 digits, so no line is longer than 130 octets: of a longer input the window's octets are no line either.
use mathlib.Core.Path.{◌≡◌, refl, sym, ap, ◌∙◌}
use mathlib.Core.Bool.{Bool, true, false}
use mathlib.Core.List.{List}
use Prim.Native.Nat.{ℕ, ◌+◌, ◌≤◌}
use native.Mathlib.Omega.{arith}
use borrow.Author.Tests.{ltb-true, ltb-false}
use lib.ListN.{length, take, length-append}
use lib.Seq.{length-take-le, take_all}
use lib.Dec.{ltb}
use Rattle.address.specs.Bits.{bits_in, bits}
use Rattle.address.specs.Address.{bit_length}
use Rattle.address.proofs.Numbers.{bit_length-le}
use Rattle.line.specs.Line.{refused_text, output_text}
use Rattle.line.specs.Exactly.{line_of, IsLine}
use Rattle.line.specs.Edge.{longest_line, window, Edge}
use Rattle.line.proofs.Texts.{length-address_text}
use Rattle.line.proofs.RefusalLaws.{line-refusals}

length-line_of : (a d : ℕ) → length (line_of a d) ≡ bit_length a + bit_length d + 2
unfolding line_of
length-line_of a d = simp length-append (omega (arith, length-address_text a, length-address_text d))

length-line-le : {input : List ℕ} → IsLine input → length input ≤ longest_line
length-line-le l =
    let long = length-line_of l.first l.second in
    omega (arith, ap length l.spelled, long, bit_length-le l.addresses.0.fits, bit_length-le l.addresses.1.fits)

output_text_past : (input : List ℕ) → window ≤ length input → output_text input ≡ refused_text
output_text_past input h = (line-refusals.given input).1 (λ l. omega (arith, length-line-le l))

output_text-window : (input : List ℕ) → output_text (take window input) ≡ output_text input
output_text-window input = go (ltb window (length input)) refl
  where
    go : (t : Bool) → ltb window (length input) ≡ t → output_text (take window input) ≡ output_text input
    go true e =
        let h = ltb-true window (length input) e in
        output_text_past (take window input) (omega (arith, length-take-le window input (omega arith))) ∙ sym (output_text_past input (omega arith))
    go false e = ap output_text (take_all window input (ltb-false window (length input) e))

pub edge : Edge
edge = record {
  past = output_text_past;
  enough = output_text-window;
  full = λ a d h l f s. (record { first = a; second = d; addresses = (h, l); spelled = refl }, omega (arith, length-line_of a d));
  met = (record { some = omega arith; fits = omega arith }, unfold bit_length bits bits_in in refl);
}
