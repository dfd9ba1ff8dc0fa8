-- The lines of request Five, each taken from the record that carries it. Assumes nothing.
use Prim.Native.Nat.{ℕ, ◌+◌, ◌^◌, ◌<◌}
use mathlib.Core.Path.{◌≡◌, refl}
use mathlib.Core.Logic.{inl, inr}
use Rattle.address.specs.Address.{bit_length}
use Rattle.address.specs.Kinds.{IsHost}
use Rattle.address.specs.Order.{Order, done, ◌when◌otherwise◌, First, GivenExactly}
use Rattle.address.specs.declared.Kind.{Kind}
use Rattle.address.specs.declared.Kind.TheVariants.{Router, Host}
use Rattle.node.specs.Node.{address_in, count, limit, with_limits, with_limit, child_of}
use Rattle.tree.proofs.Opened.{trees_opened}
use Rattle.node.specs.Refusals.{FitsAddress, inner, outer}
use Rattle.node.specs.declared.Node.{Node}
use Rattle.node.proofs.RefusalLaws.{good-records, setting-refusals}
use Rattle.node.proofs.Settings.{sets_limits, one-setting, no_cap_good, no_cap_never, no_cap_order}
use Rattle.node.proofs.Promises.{one-limited, limit_promise, limit-asks-nothing, set-limit_promise, set-limit-asks-nothing}
use Rattle.node.proofs.WrongRules.{past_limit_refuted, limitless_refuted, lifts_limits_refuted, one_limit_refuted, one_early_refuted, limit_last_refuted, limit_first_refuted}
use Rattle.node.proofs.WrongRules.{sets_nothing_refuted, sets_below_refuted, sets_above_refuted, sets_cut_refuted, sets_both_refuted, sets_other_refuted, mends_record_refuted}
use Rattle.forward.specs.Forward.{next_hop}
use Rattle.forward.proofs.Rules.{next_hop-with_limits}
use Rattle.packet.proofs.PacketHops.{packet_hop-with_limits}
use Rattle.tree.proofs.WrongChildren.{past_limit_refuted as past_limit-fails}
use Rattle.tree.proofs.WrongSettings.{zeroes_counts_refuted, raises_count_refuted, another_node_refuted, below_count_refuted}
use Rattle.tree.proofs.Lifting.{lifts_limits-demand3}
use Rattle.pasa.specs.Children.{pasa_limited}
use Rattle.pasa.proofs.Promises.{limit-routers_promise, limit-hosts_promise, limit-routers-asks-nothing, limit-hosts-asks-nothing}
use Rattle.claims.specs.Limits.{TheSetting, OfAnyRules, FitsDocument01, NoCap, ValuesOfFive, LimitCode, WrongLimits, WrongSettings}

pub the_setting : TheSetting
unfolding with_limits with_limit
the_setting = record {
  exactly_when = setting-refusals.given;
  as_it_came = setting-refusals.beside;
  routers_as_asked = λ n k. setting-refusals.without n Router k;
  hosts_as_asked = λ n k. setting-refusals.without n Host k;
  keeps_good = sets_limits.keeps_good;
  keeps_address = sets_limits.keeps_address;
  keeps_counts = sets_limits.keeps_counts;
  of_any_rule = λ rule. (
    λ claim. (claim.given, claim.beside, claim.without),
    λ (given, beside, without). record { given = given; beside = beside; without = without },
  );
  ours = setting-refusals;
  one_rule = one-setting;
}

pub of_any_rules : OfAnyRules
of_any_rules = record {
  demand3 = λ child set hop es. (
    λ claim. (claim.packets, claim.nodes, claim.differ, claim.arrival, claim.absence, claim.empty),
    λ (packets, nodes, differ, arrival, absence, empty). record {
      packets = packets;
      nodes = nodes;
      differ = differ;
      arrival = arrival;
      absence = absence;
      empty = empty;
    },
  );
  a_child = λ rule. (
    λ claim. (claim.given, claim.beside, claim.without),
    λ (given, beside, without). record { given = given; beside = beside; without = without },
  );
}

fits_document : (n : Node) → FitsAddress n → FitsDocument01 n
fits_document n (inner k r h) = inl (k, r, h)
fits_document n (outer k r h) = inr (k, r, h)

document_fits : (n : Node) → FitsDocument01 n → FitsAddress n
document_fits n (inl (k, r, h)) = inner k r h
document_fits n (inr (k, r, h)) = outer k r h

-- the first of an order whose first condition is said in other words
first_said : {A B : Type 0} (rest : Order) (k : ℕ) → (A → B) → (B → A) → First (1 when A otherwise rest) k → First (1 when B otherwise rest) k
first_said rest k f g (inl (a, e)) = inl (f a, e)
first_said rest k f g (inr (none, after)) = inr (λ b. none (g b), after)

no_cap_child : (n : Node) (kind : Kind) → address_in n < 2 ^ 64 → limit Router n ≡ 64 → limit Host n ≡ 64
    → GivenExactly (
    1 when (FitsDocument01 n → ⊥)
    otherwise 2 when IsHost (address_in n)
    otherwise 3 when 64 < bit_length (address_in n) + count kind n + 1
    otherwise done
    ) (child_of n kind).refusal
no_cap_child n kind fits r h k =
    let rest : Order = 2 when IsHost (address_in n) otherwise 3 when 64 < bit_length (address_in n) + count kind n + 1 otherwise done in
    let said : (FitsAddress n → ⊥) → FitsDocument01 n → ⊥ = λ no-fit f. no-fit (document_fits n f) in
    let again : (FitsDocument01 n → ⊥) → FitsAddress n → ⊥ = λ no-fit f. no-fit (fits_document n f) in
    let (there, back) = no_cap_order n kind fits r h k in
    (λ e. first_said rest k said again (there e), λ f. back (first_said rest k again said f))

pub no_cap : NoCap
no_cap = record {
  good = λ n r h. (λ g. fits_document n ((no_cap_good n r h).0 g), λ f. (no_cap_good n r h).1 (document_fits n f));
  a_child = no_cap_child;
  never15 = no_cap_never;
  a_next_hop = λ n r h d g s. next_hop-with_limits n r h d ((good-records n).1 g) ((good-records (with_limits r h n)).1 s);
  a_packet = λ n r h p g s. packet_hop-with_limits n r h p ((good-records n).1 g) ((good-records (with_limits r h n)).1 s);
}

pub values_of_five : ValuesOfFive
unfolding trees_opened next_hop
values_of_five = record {
  other_limits = λ r h n. refl;
  no_child = λ k n. refl;
  not_set = λ k n. refl;
  at_its_limit = refl;
  of_the_other_kind = refl;
  sixty_three = refl;
  sixty_four = refl;
  longest = refl;
  a_host = refl;
  bad_for_achild = refl;
  bad_for_ahop = refl;
  bad_for_asetting = refl;
  count_above = refl;
  the_count = refl;
  below = refl;
  no_hosts = refl;
  again = refl;
  above = (refl, refl, refl);
  a_list = refl;
  its_tree = refl;
  on_ahost = refl;
}

pub limit_code : LimitCode
unfolding pasa_limited
limit_code = record {
  node_limit_asks = limit-asks-nothing;
  node_limit = limit_promise;
  node_set_limit_asks = set-limit-asks-nothing;
  node_set_limit = set-limit_promise;
  pasa_limit_routers_asks = limit-routers-asks-nothing;
  pasa_limit_routers = limit-routers_promise;
  pasa_limit_hosts_asks = limit-hosts-asks-nothing;
  pasa_limit_hosts = limit-hosts_promise;
  limit_set = λ n. refl;
  limit_not_set = λ n x. refl;
  one_setting_answer = one-limited;
  limited = λ l. refl;
}

pub wrong_limits : WrongLimits
wrong_limits = record {
  past_the_limit = past_limit_refuted;
  past_the_limit_in_atree = past_limit-fails;
  that_lifts_them = lifts_limits_refuted;
  unseen_by_demand3 = lifts_limits-demand3;
  without_any = limitless_refuted;
  with_one_for_both = one_limit_refuted;
  with_one_early = one_early_refuted;
  with_limit_last = limit_last_refuted;
  with_limit_first = limit_first_refuted;
}

pub wrong_settings : WrongSettings
wrong_settings = record {
  that_sets_nothing = sets_nothing_refuted;
  that_sets_below = sets_below_refuted;
  that_sets_above = sets_above_refuted;
  that_cuts = sets_cut_refuted;
  that_sets_both = sets_both_refuted;
  that_sets_the_other = sets_other_refuted;
  that_mends = mends_record_refuted;
  that_zeroes_counts = zeroes_counts_refuted;
  that_raises_acount = raises_count_refuted;
  of_another_node = another_node_refuted;
  below_the_count = below_count_refuted;
}
