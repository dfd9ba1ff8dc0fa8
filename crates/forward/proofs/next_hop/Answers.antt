-- The prefix that is compared is the node's own address exactly if its bits begin the destination's. Assumes nothing.
use Rattle.std.proofs.Common.{◌≡◌, ℕ, true, false, sym, ap, ◌∙◌, pos_of_ne-zero, arith}
use Rattle.std.proofs.lemmas.Grind.{common_steps}
use Rattle.address.specs.Bits.{bits}
use Rattle.address.specs.Address.{bit_length}
use Rattle.address.specs.Numbers.{IsAddress}
use Rattle.search.specs.Search.{first_bits, is_prefix}
use Rattle.search.proofs.Prefixes.{no_prefix, first_bits-is_prefix}
use Rattle.node.proofs.Children.{address-good}
use Rattle.forward.specs.Forward.{hop_answer, rules as rules_1_to_4, next_hop}
use Rattle.forward.proofs.next_hop.Goals as goal
use Rattle.forward.proofs.next_hop.Goals.{Else-not-is_good, Else-destination-eq0, After-first_bits, Then-ne, Else-ne}

-- both addresses are addresses
here : (c : Else-not-is_good) → IsAddress c.args.node.address.number
here c = address-good c.args.node (sym c.is_good.ensures ∙ c.if-not-is_good.false) (omega arith)

there : (c : Else-destination-eq0) → IsAddress c.args.destination.number
there c = record { some = pos_of_ne-zero c.if-destination-eq0.false; fits = omega arith }

-- the prefix that is compared, and what the comparison says
compared : (c : After-first_bits) → c.first_bits.result.number ≡ first_bits (bit_length c.args.node.address.number) c.args.destination.number
compared c = c.first_bits.ensures ∙ ap (λ (k : ℕ). first_bits k c.args.destination.number) c.bit_length.ensures

on : (c : Else-ne) → is_prefix (bits c.args.node.address.number) (bits c.args.destination.number) ≡ true
on c =
    let at = goal.at.Else-ne c in
    first_bits-is_prefix (here at.Else-not-is_good) (there at.Else-destination-eq0) (grind (arith, common_steps, compared at.After-first_bits))

off : (c : Then-ne) → is_prefix (bits c.args.node.address.number) (bits c.args.destination.number) ≡ false
off c =
    let at = goal.at.Then-ne c in
    no_prefix (here at.Else-not-is_good) (there at.Else-destination-eq0) (grind (arith, common_steps, compared at.After-first_bits))

pub returns-then-ne : goal.returns-then-ne
unfolding hop_answer next_hop rules_1_to_4
returns-then-ne c = let no = off (goal.at.returns-then-ne c).Then-ne in grind (arith, common_steps)

pub toward-requires-clause-node_address : goal.toward-requires-clause-node_address
toward-requires-clause-node_address c = here (goal.at.toward-requires-clause-node_address c).Else-not-is_good

pub toward-requires-clause-prefix : goal.toward-requires-clause-prefix
toward-requires-clause-prefix c = on c

pub returns : goal.returns
unfolding hop_answer next_hop rules_1_to_4
returns c = let yes = on (goal.at.returns c).Else-ne in grind (arith, common_steps)
