-- `Node::child` meets its contract: each return is one answer of `child_of`, and the number of the child is made with a power of two in place of
-- the ones.
use Rattle.std.proofs.Common.{arith, sym, ◌∙◌}
use Rattle.node.proofs.ChildLaws.{child_of-made}
use Rattle.node.proofs.Node.child.Goals as goal

pub returns : goal.returns
returns c =
    child_of-made
    _
    _
    (sym c.is_good.ensures ∙ c.if-not-is_good.false)
    (sym c.is_host.ensures ∙ c.if-is_host.false)
    (λ e. c.if-given-limit.false (c.count-given.ensures ∙ e ∙ sym c.limit.ensures))
    (omega arith)
    c.count-given.ensures
    c.bit_length.ensures
    (omega arith)
    c.raised.ensures
    c.of.ensures
    c.last_bit.ensures
