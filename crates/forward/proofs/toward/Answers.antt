-- What the search answers is where the bits looked at end, so the prefix there is the child and the bits behind the node's are its index and one
-- more. Assumes nothing.
use Rattle.std.specs.Prelude.{if◌then◌else◌}
use Rattle.std.proofs.Common.{◌≡◌, ℕ, ◌+◌, ◌%◌, ◌<◌, eqb, List, length, drop, sym, ap, ◌∙◌, arith}
use Rattle.address.specs.declared.Kind.{Kind}
use Rattle.address.specs.declared.Kind.TheVariants.{Router, Host}
use Rattle.address.specs.Bits.{Bit, bits}
use Rattle.address.specs.Address.{bit_length}
use Rattle.search.specs.Search.{looked_at, child_end, first_bits, kind_looked, index_looked}
use Rattle.node.specs.Node.{count}
use Rattle.forward.specs.Forward.{hop_answer, down_to}
use Rattle.forward.proofs.Rules.{toward-given, toward-absent}
use Rattle.forward.proofs.Looked.{looked-some, child_end-looked, first_bits-looked, kind-looked}
use Rattle.forward.proofs.toward.Goals as goal
use Rattle.forward.proofs.toward.Goals.{Start, After-child_end-end, After-first_bits-child, After-count}

-- the bits looked at
abbrev looked : Start → List Bit
looked c = looked_at (drop (bit_length c.args.node.address.number) (bits c.args.destination.number))

some : (c : Start) → 0 < length (looked c)
some c = let r = c.requires in looked-some r.node_address r.destination_address r.no_host r.prefix r.other

-- where they end
ends : (c : After-child_end-end) → c.child_end-end.result ≡ child_end (bit_length c.args.node.address.number) (bits c.args.destination.number)
ends c = c.child_end-end.ensures ∙ ap (λ (k : ℕ). child_end k (bits c.args.destination.number)) c.bit_length-length.ensures

end : (c : After-child_end-end) → c.child_end-end.result ≡ c.bit_length-length.result + length (looked (goal.at.After-child_end-end c).Start)
end c =
    let r = c.requires in
    omega (arith, ends c, child_end-looked r.node_address r.destination_address r.no_host r.prefix r.other, c.bit_length-length.ensures)

-- the child
child : (c : After-first_bits-child) → c.first_bits-child.result.number ≡ first_bits (child_end (bit_length c.args.node.address.number) (bits c.args.destination.number)) c.args.destination.number
child c = c.first_bits-child.ensures ∙ ap (λ (k : ℕ). first_bits k c.args.destination.number) (ends (goal.at.After-first_bits-child c).After-child_end-end)

-- how many children of its kind were given
counted : (c : After-count) → c.count.result ≡ count (kind_looked (looked (goal.at.After-count c).Start)) c.args.node
counted c =
    let r = c.requires in
    c.count.ensures ∙ ap (λ (k : Kind). count k c.args.node) (c.kind_of.ensures ∙ ap (λ (x : ℕ). if eqb (x % 2) 0 then Router else Host) (child (goal.at.After-count c).After-first_bits-child) ∙ kind-looked r.node_address r.destination_address r.no_host r.prefix r.other)

pub overflow_sub-index : goal.overflow_sub-index
overflow_sub-index c = omega (arith, end (goal.at.overflow_sub-index c).After-child_end-end)

pub overflow_sub-index-2 : goal.overflow_sub-index-2
overflow_sub-index-2 c =
    let at = (goal.at.overflow_sub-index-2 c).After-child_end-end in
    omega (arith, end at, some (goal.at.overflow_sub-index-2 c).Start)

pub returns-then-index-count : goal.returns-then-index-count
unfolding hop_answer index_looked
returns-then-index-count c =
    let at = goal.at.returns-then-index-count c in
    let r = c.requires in
    ap down_to (child at.After-first_bits-child ∙ first_bits-looked r.node_address r.destination_address r.no_host r.prefix r.other)
    ∙ sym (toward-given c.args.node (looked at.Start) (omega (arith, end at.After-child_end-end, counted at.After-count)))

pub returns : goal.returns
unfolding hop_answer index_looked
returns c =
    let at = goal.at.returns c in
    sym (toward-absent c.args.node (looked at.Start) (omega (arith, end at.After-child_end-end, counted at.After-count)))
