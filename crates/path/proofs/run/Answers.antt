-- What was read decides as the whole input does, and what `answer` says that it wrote is the whole output, since every output fits.
use Rattle.std.proofs.Common.{◌≡◌, ℕ, length, take, drop, List, Option, None, Some, Result, Ok, Err, IfSome, OnOk, option_map, refl, sym, ap, ◌∙◌, subst, arith, le-ltb}
use Rattle.std.proofs.Math.Seq.{take_at, length-take-le}
use Rattle.std.specs.Io.KnownBytes.{Appends}
use Rattle.refusal.specs.declared.Refusal.{Refusal}
use Rattle.refusal.proofs.Numbers.{some}
use Rattle.octets.specs.Octets.{Written, written_answer, write}
use Rattle.line.specs.Line.{output_text, answering}
use Rattle.line.specs.Exactly.{room}
use Rattle.line.specs.Edge.{window}
use Rattle.line.proofs.Exact.{output_fits}
use Rattle.line.proofs.EdgeLaws.{edge}
use Rattle.line.proofs.RefusalLaws.{answer-refusals}
use Rattle.path.proofs.run.Goals as goal

granted : (input out : List ℕ) → length out ≡ room → (answering input out).answer.refusal ≡ 0
unfolding answering write
granted input out h = rw (le-ltb (length out) (length (output_text input)) (omega (arith, output_fits input)))

answered : (input out : List ℕ) (r : Result ℕ Refusal) → length out ≡ room → written_answer r ≡ (answering input out).answer
    → r ≡ Ok (length (output_text input))
answered input out (Ok k) h e =
    ap Ok (ap (λ (w : Written). w.count) e ∙ (answer-refusals.without input out (granted input out h)).0)
answered input out (Err x) h e = absurd (some x (ap (λ (w : Written). w.refusal) e ∙ granted input out h))

written : (input out last : List ℕ) → length out ≡ room → last ≡ (answering input out).buffer
    → take (length (output_text input)) last ≡ output_text input
written input out last h f =
    rw (f, (answer-refusals.without input out (granted input out h)).1)
    (take_at (output_text input) (drop (length (output_text input)) out) (length (output_text input)) refl)

decided : {A E : Type 0} (r : Result A E) (known old new : Option (List ℕ)) (read : List ℕ)
    → IfSome (option_map (take window) known) (λ octets. read ≡ octets)
    → OnOk r (Appends old new (output_text read))
    → OnOk r (IfSome known (λ input. Appends old new (output_text input)))
decided (Err e) known old new read h w = tt
decided (Ok a) None old new read h w = tt
decided (Ok a) (Some input) old new read h w = subst (λ (t : List ℕ). Appends old new t) (ap output_text h ∙ edge.enough input) w

pub unwrap-count-requires : goal.unwrap-count-requires
unwrap-count-requires g c = rw (answered c.deref.result.now _ c.answer.result refl c.answer.ensures.answer)

pub slice_bounds-output-end : goal.slice_bounds-output-end
slice_bounds-output-end g c =
    let e = answered c.deref.result.now _ c.answer.result refl c.answer.ensures.answer in
    let count : c.unwrap-count.result ≡ length (output_text c.deref.result.now) = cc in
    rw count (omega (arith, c.answer.auto.out, output_fits c.deref.result.now))

pub slice_bounds-write_all-end : goal.slice_bounds-write_all-end
slice_bounds-write_all-end g c =
    let e = answered c.deref.result.now _ c.answer.result refl c.answer.ensures.answer in
    let count : c.unwrap-count.result ≡ length (output_text c.deref.result.now) = cc in
    sym (length-take-le c.unwrap-count.result c.answer.new.out (rw count (omega (arith, c.answer.auto.out, output_fits c.deref.result.now))))

pub returns : goal.returns
returns g c =
    let read = c.read_to_end.new.buf.items in
    let told : IfSome (option_map (take window) (g.R.Read.remaining c.args.from)) (λ octets. read ≡ octets) =
    rw (c.take.ensures.limit, c.take.ensures.inner, c.new-input.ensures.items) at c.in_ok-read_to_end.ensures.bytes in
    let e = answered c.deref.result.now _ c.answer.result refl c.answer.ensures.answer in
    let count : c.unwrap-count.result ≡ length (output_text c.deref.result.now) = cc in
    let text : take c.unwrap-count.result c.answer.new.out ≡ output_text read =
    rw count (written c.deref.result.now _ c.answer.new.out refl c.answer.ensures.buffer) ∙ ap output_text c.deref.ensures.value in
    decided c.write_all.result (g.R.Read.remaining c.args.from) (g.W.Write.contents c.args.to.now) (g.W.Write.contents c.write_all.new.self) read told
    (rw (← text) c.write_all.ensures.bytes)
