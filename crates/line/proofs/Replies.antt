-- What an answer comes to: the path as the words list it, and the reply by what the input asks for. Assumes nothing.
use mathlib.Core.Path.{◌≡◌, sym, ap, ◌∙◌}
use mathlib.Core.List.{List, ◌++◌}
use Prim.Native.Nat.{ℕ, ◌+◌}
use native.Mathlib.Omega.{arith}
use borrow.Author.Tests.{ne_eqb, le-ltb}
use lib.ListN.{length, take, drop}
use lib.Seq.{take_at}
use lib.Dec.{ltb}
use Rattle.std.specs.Prelude.{if◌then◌else◌}
use Rattle.std.specs.Prelude.{Err}
use Rattle.refusal.specs.declared.Refusal.{Refusal}
use Rattle.refusal.proofs.Numbers.{some}
use Rattle.octets.specs.Octets.{Written, WriteEffect, refuse_writing, write}
use Rattle.address.specs.Numbers.{IsAddress}
use Rattle.route.specs.Path.{Listed, listed_answer, path, hops, listing}
use Rattle.route.proofs.PathLaws.{hops-path}
use Rattle.route.proofs.Length.{at_most_126}
use Rattle.line.specs.Line.{parsed, between, unreadable, refused_text, path_text, text_for, output_text, answering}

module _ {a d : ℕ} (h : IsAddress a) (l : IsAddress d) (words : List ℕ) (room : length words ≡ 126) where
  done : listing a d words ≡ record { answer = record { refusal = 0; hops = hops (path a d) }; words = path a d ++ drop (length (path a d)) words }
  unfolding listing
  done =
      rw (ne_eqb a 0 (λ e. omega (arith, h.some)), ne_eqb d 0 (λ e. omega (arith, l.some)), le-ltb (length words) (length (path a d)) (omega (arith, at_most_126 a d h l)))

  pub listing-granted : (r : Refusal) → listed_answer (Err r) ≡ (listing a d words).answer → ⊥
  listing-granted r e = some r (ap (λ (l : Listed). l.refusal) e ∙ rw done)

  pub listing-hops : (listing a d words).answer.hops ≡ hops (path a d)
  listing-hops = rw done

  pub listing-words : take (hops (path a d) + 1) (listing a d words).words ≡ path a d
  listing-words = rw done (take_at (path a d) (drop (length (path a d)) words) (hops (path a d) + 1) (sym (hops-path a d)))

module _ (input out : List ℕ) where
  pub answering-unreadable : parsed input ≡ unreadable
      → answering input out ≡ (if ltb (length out) (length refused_text) then refuse_writing 10 out else write refused_text out)
  unfolding answering output_text text_for
  answering-unreadable e = rw e

  pub answering-between : {a d : ℕ} → parsed input ≡ between a d
      → answering input out ≡ (if ltb (length out) (length (path_text (path a d))) then refuse_writing 10 out else write (path_text (path a d)) out)
  unfolding answering output_text text_for
  answering-between e = rw e

  -- answer and output, each by itself
  pub answering-parts : {w : Written} {last : List ℕ} → ◌≡◌ {A = WriteEffect} (record { answer = w; buffer = last }) (answering input out)
      → (w ≡ (answering input out).answer) × (last ≡ (answering input out).buffer)
  answering-parts e = (ap (λ (f : WriteEffect). f.answer) e, ap (λ (f : WriteEffect). f.buffer) e)
