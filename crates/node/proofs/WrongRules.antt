-- Each wrong rule is refuted by its answer to one record: the right rule's number there is the only one that the statement allows.
use mathlib.Core.Path.{◌≡◌, refl, ap}
use native.Mathlib.Omega.{arith}
use lib.Dec.{eqb}
use Rattle.address.specs.Bits.{last_bit, bits_in, bits, digit, number_from, number, root}
use Rattle.address.specs.Steps.{last_of, step_bits}
use Rattle.address.specs.Address.{bit_length, ends_in_one, is_host}
use Rattle.address.specs.declared.Kind.{Kind}
use Rattle.address.specs.declared.Kind.TheVariants.{Router, Host}
use Rattle.node.specs.Node.{Node, Given, fresh, with_counts, count, limit, with_limits, is_good}
use Rattle.node.specs.Node.{child_of}
use Rattle.node.specs.Refusals.{ChildRefusals, SettingRefusals}
use Rattle.node.proofs.Opened.{records-opened}
use Rattle.node.specs.WrongRules.{gives_child, refuses_all, root_is_host, host_first, one_too_many, short_of_limit, address_beside}
use Rattle.node.specs.WrongRules.{child_by, past_limit, limitless, lifts_limits, one_limit, one_early, limit_last, limit_first}
use Rattle.node.specs.WrongRules.{setting_by, allowed_limit, sets_nothing, sets_below, sets_above, sets_cut, sets_both, mends_record, other, sets_other}
use Rattle.node.proofs.RefusalLaws.{child-refusals}
use Rattle.node.proofs.Settings.{same_refusal}

opened : Unit {0}
unfolding last_bit bits_in bits digit number_from number last_of step_bits bit_length ends_in_one is_host records-opened gives_child child_by setting_by allowed_limit
opened = tt

-- the statement allows one number at each record
same_number : (rule : Node → Kind → Given) → ChildRefusals rule → (n : Node) (kind : Kind) → (rule n kind).refusal ≡ (child_of n kind).refusal
same_number rule claim n kind =
    (claim.given n kind (child_of n kind).refusal).1 ((child-refusals.given n kind (child_of n kind).refusal).0 refl)

-- the fresh root gives a router
pub refuses_all_refuted : ChildRefusals refuses_all → ⊥
unfolding opened refuses_all
refuses_all_refuted claim = omega (arith, same_number refuses_all claim (fresh root) Router)

pub root_is_host_refuted : ChildRefusals root_is_host → ⊥
unfolding opened root_is_host
root_is_host_refuted claim = omega (arith, same_number root_is_host claim (fresh root) Router)

-- "Host 11 with a count of 1: refusal 1."
pub host_first_refuted : ChildRefusals host_first → ⊥
unfolding opened host_first
host_first_refuted claim = omega (arith, same_number host_first claim (with_counts 1 0 (fresh 0b11)) Router)

-- the root with 64 hosts
pub one_too_many_refuted : ChildRefusals one_too_many → ⊥
unfolding opened one_too_many
one_too_many_refuted claim = omega (arith, same_number one_too_many claim (with_counts 0 64 (fresh root)) Host)

-- "A 63-bit router: one router and one host, both of 64 bits"
pub short_of_limit_refuted : ChildRefusals short_of_limit → ⊥
unfolding opened short_of_limit
short_of_limit_refuted claim = omega (arith, same_number short_of_limit claim (fresh 0x4000_0000_0000_0000) Router)

-- "Host 11 asked: 2.": and 11 beside it
pub address_beside_refuted : ChildRefusals address_beside → ⊥
unfolding opened address_beside
address_beside_refuted claim = omega (arith, (claim.beside (fresh 0b11) Router (λ e. omega arith)).0)

-- ---- limits

-- with the right tests the rule is the right one
child_by-right : (n : Node) (kind : Kind) → child_by is_good (λ kind n. eqb (count kind n) (limit kind n)) n kind ≡ child_of n kind
unfolding child_by child_of gives_child
child_by-right n kind = refl

-- the root at its limit of 0
pub past_limit_refuted : ChildRefusals past_limit → ⊥
unfolding opened past_limit
past_limit_refuted claim = omega (arith, same_number past_limit claim (with_limits 0 0 (fresh root)) Router)

-- the root with a limit of 65
pub limitless_refuted : ChildRefusals limitless → ⊥
unfolding opened limitless
limitless_refuted claim = omega (arith, same_number limitless claim (with_limits 65 64 (fresh root)) Host)

pub lifts_limits_refuted : ChildRefusals lifts_limits → ⊥
unfolding opened lifts_limits
lifts_limits_refuted claim = omega (arith, same_number lifts_limits claim (with_limits 0 0 (fresh root)) Router)

-- the root that may give no router, asked for a host
pub one_limit_refuted : ChildRefusals one_limit → ⊥
unfolding opened one_limit
one_limit_refuted claim = omega (arith, same_number one_limit claim (with_limits 0 64 (fresh root)) Host)

-- the root that may give one router
pub one_early_refuted : ChildRefusals one_early → ⊥
unfolding opened one_early
one_early_refuted claim = omega (arith, same_number one_early claim (with_limits 1 1 (fresh root)) Router)

-- a router of 64 bits that may give none
pub limit_last_refuted : ChildRefusals limit_last → ⊥
unfolding opened limit_last
limit_last_refuted claim = omega (arith, same_number limit_last claim (with_limits 0 0 (fresh 0x8000_0000_0000_0000)) Router)

-- host 11 with limits of 0
pub limit_first_refuted : ChildRefusals limit_first → ⊥
unfolding opened limit_first
limit_first_refuted claim = omega (arith, same_number limit_first claim (with_limits 0 0 (fresh 0b11)) Router)

-- ---- settings

pub sets_nothing_refuted : SettingRefusals sets_nothing → ⊥
unfolding opened sets_nothing
sets_nothing_refuted claim = omega (arith, same_refusal sets_nothing claim (fresh root) Router 0)

-- the root with one router, none allowed
pub sets_below_refuted : SettingRefusals sets_below → ⊥
unfolding opened sets_below
sets_below_refuted claim = omega (arith, same_refusal sets_below claim (with_counts 1 0 (fresh root)) Router 0)

pub sets_above_refuted : SettingRefusals sets_above → ⊥
unfolding opened sets_above
sets_above_refuted claim = omega (arith, same_refusal sets_above claim (fresh root) Router 65)

pub sets_cut_refuted : SettingRefusals sets_cut → ⊥
unfolding opened sets_cut
sets_cut_refuted claim = omega (arith, same_refusal sets_cut claim (fresh root) Router 256)

-- the root's limit on hosts, when that on routers is set
pub sets_both_refuted : SettingRefusals sets_both → ⊥
unfolding opened sets_both
sets_both_refuted claim = omega (arith, ap (limit Host) (claim.without (fresh root) Router 0 refl))

-- a root with a limit of 65
pub mends_record_refuted : SettingRefusals mends_record → ⊥
unfolding opened mends_record
mends_record_refuted claim = omega (arith, same_refusal mends_record claim (with_limits 65 64 (fresh root)) Router 64)

pub sets_other_refuted : SettingRefusals sets_other → ⊥
unfolding opened sets_other other
sets_other_refuted claim = omega (arith, ap (limit Router) (claim.without (fresh root) Router 0 refl))
