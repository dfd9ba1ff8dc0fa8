-- `ipv6::write` meets its contract: the address's octets stand behind the prefix. Assumes nothing.
use Rattle.std.proofs.Common.{◌≡◌, sym, ap, ◌∙◌, ℕ, ◌≤◌, List, ◌++◌, append_assoc, length, take, drop, arith, length-drop}
use borrow.Rule.Slice.PartMut.{put_mid, mid_of}
use lib.Seq.{length-take-le, take_at, drop_at, drop-drop}
use Rattle.octets.specs.Octets.{octets, WriteEffect, wrote, write}
use Rattle.ipv6.specs.Form.{half, whole, form}
use Rattle.ipv6.proofs.FormLaws.{length-form, form_writing-done}
use Rattle.ipv6.proofs.write.Goals as goal

-- the address's octets put into the buffer whose front is the prefix already
behind : (prefix out : List ℕ) (a : ℕ) → length prefix ≡ half → whole ≤ length out
    → put_mid half half (prefix ++ drop half out) (octets (length (mid_of half half (prefix ++ drop half out))) a) ≡ form prefix a ++ drop (length (form prefix a)) out
unfolding form
behind prefix out a l room =
    let k : length (take half (drop half out)) ≡ half = length-take-le half (drop half out) (omega (arith, length-drop half out)) in
    rw (take_at prefix (drop half out) half l, drop_at prefix (drop half out) half l, k, drop-drop half half out, length-form prefix a l)
    (sym (append_assoc prefix (octets half a) (drop whole out)))

pub returns-clause-answer : goal.returns-clause-answer
unfolding write
returns-clause-answer c =
    let prefix = c.args.prefix.now in
    let a = c.args.address.number in
    let l : length prefix ≡ half = omega arith in
    ap wrote (sym (length-form prefix a l)) ∙ sym (ap (λ (w : WriteEffect). w.answer) (form_writing-done prefix a c.args.out.now l c.if-address-eq0.false (omega arith)))

pub returns-clause-buffer : goal.returns-clause-buffer
unfolding write
returns-clause-buffer c =
    let prefix = c.args.prefix.now in
    let a = c.args.address.number in
    let out = c.args.out.now in
    let l : length prefix ≡ half = omega arith in
    let room : whole ≤ length out = omega arith in
    let second = ap (put_mid half half (c.copy_from_slice.new.self ++ drop half out)) c.put.ensures in
    second ∙ rw c.copy_from_slice.ensures.after (behind prefix out a l room) ∙ sym (ap (λ (w : WriteEffect). w.buffer) (form_writing-done prefix a out l c.if-address-eq0.false room))
