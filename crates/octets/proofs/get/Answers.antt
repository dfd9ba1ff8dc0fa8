-- `octets::get` meets its contract. One more octet moves the number up by 8 bits, so that its top 8 are dropped first. Assumes nothing.
use Rattle.std.proofs.Common.{ℕ, ◌≡◌, ◌+◌, ◌-◌, ◌*◌, ◌%◌, ◌^◌, ◌<◌, List, length, take, drop, get_or, refl, sym, ap, ◌∙◌, arith, rules, add-one}
use Rattle.std.proofs.Math.Seq.{take-suc}
use Rattle.std.proofs.lemmas.List.{take_rest}
use Rattle.octets.specs.Octets.{value, joined}
use Rattle.octets.proofs.OctetLaws.{value_snoc}
use Rattle.octets.proofs.get.Goals as goal

one_more : (n v o : ℕ) → n ≡ v % 2 ^ 64 → o < 256 → n % 2 ^ 56 * 256 + o ≡ (v * 256 + o) % 2 ^ 64
one_more n v o e h = omega arith

pub loop-octet-init : goal.loop-octet-init
unfolding value joined
loop-octet-init c = refl

-- a part from the first place on is the whole
behind_none : (l : List ℕ) (m : ℕ) → m ≡ 0 → take (length l - m) (drop m l) ≡ l
behind_none l m e = take_rest l m ∙ ap (λ (k : ℕ). drop k l) e

ruleset wholes = (behind_none)

-- one turn, over a list that is what is lent
turn : (xs from : List ℕ) (n i o : ℕ) → i < length xs → o ≡ get_or xs i 0 → get_or from i 0 < 256 → n ≡ value (take i from) % 2 ^ 64 → xs ≡ from
    → n % 2 ^ 56 * 256 + o ≡ value (take (i + 1) from) % 2 ^ 64
turn xs from n i o h e below whole same =
    let inside : i < length from = omega (arith, ap length same, h) in
    let octet : o ≡ get_or from i 0 = e ∙ ap (λ (l : List ℕ). get_or l i 0) same in
    let more : value (take (i + 1) from) ≡ value (take i from) * 256 + o =
    ap (λ (k : ℕ). value (take k from)) (add-one i)
    ∙ ap value (take-suc from i 0 inside)
    ∙ value_snoc (take i from) (get_or from i 0)
    ∙ ap (λ (x : ℕ). value (take i from) * 256 + x) (sym octet) in
    one_more n (value (take i from)) o whole (omega (arith, below, octet)) ∙ ap (λ (v : ℕ). v % 2 ^ 64) (sym more)

pub loop-octet-preserved : goal.loop-octet-preserved
loop-octet-preserved c =
    let loop = c.loop-octet in
    turn _ c.args.from.now loop.number loop.octet-index c.from.result c.loop-octet-test.true c.from.ensures
    (omega (arith, c.type_inv.from loop.octet-index)) loop.invariant (search (rules, wholes))
