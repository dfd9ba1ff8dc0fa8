-- `nsa::Layout::put` meets its contract: the slice has the layout's length, so that what stands behind the marks has its own. Assumes nothing.
use Rattle.std.proofs.Common.{◌≡◌, sym, ap, ap₂, ◌∙◌, ℕ, ◌+◌, ◌-◌, List, ◌∷◌, length, arith, length-set}
use lib.ListN.{set}
use borrow.Rule.Slice.PartMut.{mid_len}
use Rattle.octets.specs.Octets.{octets}
use Rattle.octets.proofs.OctetLaws.{length-octets}
use Rattle.nsa.specs.Layout.{laid}
use Rattle.nsa.specs.declared.Layout.{Layout}
use Rattle.nsa.proofs.Writing.{framed}
use Rattle.nsa.proofs.Layout.put.Goals as goal

long : (out : List ℕ) {self that : Layout} → length out ≡ length (laid self) → self ≡ that → length out ≡ length (laid that)
long out h e = h ∙ ap (λ (x : Layout). length (laid x)) e

-- a number of octets, and the number in as many
behind : (os : List ℕ) (first many count number : ℕ) → os ≡ first ∷ octets many number → many ≡ count → first ≡ count → os ≡ count ∷ octets count number
behind os first many count number e f g = e ∙ ap₂ (λ (x k : ℕ). x ∷ octets k number) g f

pub returns-in-Marked : goal.returns-in-Marked
returns-in-Marked c =
    let v = c.in-Marked in
    let count : length c.args.out.now - 1 ≡ v.field-1 = omega (arith, long c.args.out.now c.requires v.is, length-octets v.field-1 v.number) in
    c.put_behind.ensures ∙ ap (λ (k : ℕ). v.mark ∷ octets k v.number) count ∙ sym (ap laid v.is)

pub returns-in-Counted : goal.returns-in-Counted
returns-in-Counted c =
    let v = c.in-Counted in
    let out = c.args.out.now in
    let whole = set out 0 255 in
    let same : length whole ≡ length out = simp length-set in
    let end : length out ≡ 2 + v.count = omega (arith, long c.args.out.now c.requires v.is, length-octets v.count v.number) in
    let count : length whole - 1 - 1 ≡ v.count = omega (arith, same, end) in
    framed out c.put_behind-in-Counted.new.out 255 (length whole) same (omega (arith, same, end))
    ∙ ap (λ (os : List ℕ). 255 ∷ os)
    (behind c.put_behind-in-Counted.new.out _ _ v.count v.number c.put_behind-in-Counted.ensures
    (ap (λ (k : ℕ). k - 1) (mid_len 1 (length whole) whole (omega (arith, same, end))) ∙ count)
    (omega (arith, same, end)))
    ∙ sym (ap laid v.is)
