-- Whoever unfolds `records-opened` unfolds all that a record, a child and a setting are computed by.
use Rattle.node.specs.Node.{fresh, with_counts, count, raised, limit, with_limits, with_limit, fits_address, fits_limit, is_good}
use Rattle.node.specs.Node.{child_bits, refuse_child, child_of, refuse_setting, set_limit}

unfoldable pub records-opened : Unit {0}
unfolding fresh with_counts count raised limit with_limits with_limit fits_address fits_limit is_good child_bits refuse_child child_of refuse_setting set_limit
records-opened = tt
