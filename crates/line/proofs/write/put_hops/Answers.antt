-- The word, the number and the newline stand one behind the other.
use Rattle.std.proofs.Common.{ℕ, ◌≡◌, ◌<◌, ◌∙◌, length, length-take, length-drop, length-append, arith}
use Rattle.line.specs.Line.{decimal, digits_in, hops_text}
use Rattle.line.proofs.Texts.{length_hops_line}
use Rattle.line.proofs.Fills.{digits-decimal, hops-line}
use Rattle.line.proofs.write.put_hops.Goals as goal

pub slice_bounds-copy_from_slice-end : goal.slice_bounds-copy_from_slice-end
slice_bounds-copy_from_slice-end c = omega (arith, length_hops_line c.args.hops)

pub slice_bounds-put_digits-count : goal.slice_bounds-put_digits-count
slice_bounds-put_digits-count c = omega (arith, length_hops_line c.args.hops)

pub slice_bounds-copy_from_slice-end-2 : goal.slice_bounds-copy_from_slice-end-2
slice_bounds-copy_from_slice-end-2 c = omega (arith, length_hops_line c.args.hops, length-take 5 c.args.out.now)

pub copy_from_slice-requires : goal.copy_from_slice-requires
copy_from_slice-requires c = omega (arith, length_hops_line c.args.hops, length-take 5 c.args.out.now)

pub slice_bounds-put_digits-start : goal.slice_bounds-put_digits-start
slice_bounds-put_digits-start c = omega (arith, length_hops_line c.args.hops)

-- of a number that is the hops
digits_of : (k number hops : ℕ) → hops < 1000 → k ≡ length (decimal hops) → number ≡ hops → digits_in 10 k number ≡ decimal hops
digits_of k number hops below many same = rw same (digits-decimal k hops below many)

pub returns : goal.returns
unfolding hops_text
returns c =
    let size = length_hops_line c.args.hops in
    let digits : c.put_digits.new.out ≡ decimal c.args.hops = c.put_digits.ensures ∙ digits_of _ _ c.args.hops c.requires.below (simp (length-take, length-drop, length-append) (omega (arith, size, c.copy_from_slice.ensures.len, length-take 5 c.args.out.now))) (grind arith) in
    rw (c.copy_from_slice.ensures.after, digits) (hops-line c.args.out.now (decimal c.args.hops) (omega arith))
