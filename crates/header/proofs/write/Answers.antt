-- `header::write` meets its contract: the three octets that are set and the octets that are put behind them are the header. Assumes nothing.
use Rattle.std.proofs.Common.{◌≡◌, sym, ap, ◌∙◌, ℕ, ◌+◌, length, arith}
use lib.ListN.{length-set, length-take, length-drop}
use Rattle.octets.specs.Octets.{octets, WriteEffect, write, wrote}
use Rattle.header.specs.Header.{place, header}
use Rattle.header.proofs.Writing.{length-header, writing-done, framed-header}
use Rattle.header.proofs.write.Goals as goal

pub returns-clause-answer : goal.returns-clause-answer
unfolding write place
returns-clause-answer c =
    let a = c.args.address.number in
    let done = writing-done a c.args.out.now c.if-address-eq0.false (omega arith) in
    let count : 3 + c.size_of-size.result ≡ length (header a) = omega (arith, length-header a) in
    ap wrote count ∙ sym (ap (λ (w : WriteEffect). w.answer) done)

pub returns-clause-buffer : goal.returns-clause-buffer
unfolding place
returns-clause-buffer c =
    let a = c.args.address.number in
    let out = c.args.out.now in
    let s = c.size_of-size.result in
    let done = writing-done a out c.if-address-eq0.false (omega arith) in
    let many : length c.put.new.out ≡ s = c.put.auto.out ∙ simp (length-take, length-drop, length-set) (omega arith) in
    let os : c.put.new.out ≡ octets s a = c.put.ensures ∙ ap (λ (k : ℕ). octets k a) (sym c.put.auto.out ∙ many) in
    framed-header out c.put.new.out a s c.size_of-size.ensures os (omega arith) ∙ sym (ap (λ (w : WriteEffect). w.buffer) done)
