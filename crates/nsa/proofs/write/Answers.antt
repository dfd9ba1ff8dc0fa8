-- `nsa::write` meets its contract: the three layouts are the fields, one behind the other. Assumes nothing.
use Rattle.std.proofs.Common.{◌≡◌, sym, ap, ap₂, ◌∙◌, ℕ, ◌+◌, ◌-◌, ◌≤◌, List, ◌++◌, length, drop, arith}
use borrow.Rule.Slice.PartMut.{put_mid}
use Rattle.octets.specs.Octets.{WriteEffect, refuse_writing, write, wrote}
use Rattle.nsa.specs.Fields.{length_field, address_field, fields}
use Rattle.nsa.proofs.Writing.{length-length_field, length-address_field, length_fields, put_three, writing-short, writing-done}
use Rattle.nsa.proofs.write.Goals as goal

-- what each of the three layouts takes: few octets, as many as its field
module _ (l s d : ℕ) {k m n : ℕ} (first : k ≡ length (length_field l)) (second : m ≡ length (address_field s)) (third : n ≡ length (address_field d)) where
  few : k + m + n ≤ 23
  few = omega (arith, length-length_field l, length-address_field s, length-address_field d)

  whole : k + m + n ≡ length (fields l s d)
  whole = omega (arith, length_fields l s d)

pub overflow_add-destination_at : goal.overflow_add-destination_at
overflow_add-destination_at c =
    let k = c.size-source_at.ensures ∙ ap length c.length_layout.ensures in
    let m = c.size.ensures ∙ ap length c.address_layout.ensures in
    omega (arith, few c.args.payload c.args.source.number c.args.source.number k m m)

pub overflow_add-end : goal.overflow_add-end
overflow_add-end c =
    let k = c.size-source_at.ensures ∙ ap length c.length_layout.ensures in
    let m = c.size.ensures ∙ ap length c.address_layout.ensures in
    let n = c.size-2.ensures ∙ ap length c.address_layout-2.ensures in
    omega (arith, few c.args.payload c.args.source.number c.args.destination.number k m n)

pub returns-then-out-end-clause-answer : goal.returns-then-out-end-clause-answer
unfolding refuse_writing
returns-then-out-end-clause-answer c =
    let at = c.args in
    let k = c.size-source_at.ensures ∙ ap length c.length_layout.ensures in
    let m = c.size.ensures ∙ ap length c.address_layout.ensures in
    let n = c.size-2.ensures ∙ ap length c.address_layout-2.ensures in
    let all = whole at.payload at.source.number at.destination.number k m n in
    sym
    (ap (λ (w : WriteEffect). w.answer)
    (writing-short at.payload at.source.number at.destination.number at.out.now (omega arith) (λ z. omega arith) (λ z. omega arith) (omega (arith, all))))

pub returns-then-out-end-clause-buffer : goal.returns-then-out-end-clause-buffer
unfolding refuse_writing
returns-then-out-end-clause-buffer c =
    let at = c.args in
    let k = c.size-source_at.ensures ∙ ap length c.length_layout.ensures in
    let m = c.size.ensures ∙ ap length c.address_layout.ensures in
    let n = c.size-2.ensures ∙ ap length c.address_layout-2.ensures in
    let all = whole at.payload at.source.number at.destination.number k m n in
    sym
    (ap (λ (w : WriteEffect). w.buffer)
    (writing-short at.payload at.source.number at.destination.number at.out.now (omega arith) (λ z. omega arith) (λ z. omega arith) (omega (arith, all))))

pub returns-clause-answer : goal.returns-clause-answer
unfolding write
returns-clause-answer c =
    let at = c.args in
    let k = c.size-source_at.ensures ∙ ap length c.length_layout.ensures in
    let m = c.size.ensures ∙ ap length c.address_layout.ensures in
    let n = c.size-2.ensures ∙ ap length c.address_layout-2.ensures in
    let all = whole at.payload at.source.number at.destination.number k m n in
    let done = writing-done at.payload at.source.number at.destination.number at.out.now (omega arith) (λ z. omega arith) (λ z. omega arith) (omega (arith, all)) in
    ap wrote all ∙ sym (ap (λ (w : WriteEffect). w.answer) done)

pub returns-clause-buffer : goal.returns-clause-buffer
unfolding fields
returns-clause-buffer c =
    let at = c.args in
    let l = at.payload in
    let s = at.source.number in
    let d = at.destination.number in
    let out = at.out.now in
    let i = c.size-source_at.result in
    let j = c.size.result in
    let h = c.size-2.result in
    let k = c.size-source_at.ensures ∙ ap length c.length_layout.ensures in
    let m = c.size.ensures ∙ ap length c.address_layout.ensures in
    let n = c.size-2.ensures ∙ ap length c.address_layout-2.ensures in
    let all = whole l s d k m n in
    let done = writing-done l s d out (omega arith) (λ z. omega arith) (λ z. omega arith) (omega (arith, all)) in
    ap₂ (λ (xs ys : List ℕ). put_mid (i + j) (i + j + h - (i + j)) (put_mid i (i + j - i) (xs ++ drop i out) ys) c.put-3.new.out)
    (c.put.ensures ∙ c.length_layout-2.ensures) (c.put-2.ensures ∙ c.address_layout-3.ensures)
    ∙ ap (λ (zs : List ℕ). put_mid (i + j) (i + j + h - (i + j)) (put_mid i (i + j - i) (length_field l ++ drop i out) (address_field s)) zs)
    (c.put-3.ensures ∙ c.address_layout-4.ensures)
    ∙ put_three out (length_field l) (address_field s) (address_field d) i j h (sym k) (sym m) (sym n)
    ∙ sym (ap (λ (w : WriteEffect). w.buffer) done)
