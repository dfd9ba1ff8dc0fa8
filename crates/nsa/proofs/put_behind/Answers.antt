-- `nsa::put_behind` meets its contract: the first octet is stored, and those behind it are put. Assumes nothing.
use Rattle.std.proofs.Common.{◌≡◌, ap, ◌∙◌, ℕ, ◌-◌, List, ◌∷◌, length, arith, length-set}
use lib.ListN.{set}
use borrow.Rule.Slice.PartMut.{mid_len}
use Rattle.octets.specs.Octets.{octets}
use Rattle.nsa.proofs.Writing.{framed}
use Rattle.nsa.proofs.put_behind.Goals as goal

pub returns : goal.returns
returns c =
    let at = c.args in
    let out = at.out.now in
    let same : length (set out 0 at.first) ≡ length out = simp length-set in
    let many = mid_len 1 (length (set out 0 at.first)) (set out 0 at.first) (omega arith) in
    framed out c.put.new.out at.first (length (set out 0 at.first)) same (omega arith)
    ∙ ap (λ (os : List ℕ). at.first ∷ os) (c.put.ensures ∙ ap (λ (k : ℕ). octets k at.number) (many ∙ ap (λ (k : ℕ). k - 1) same))
