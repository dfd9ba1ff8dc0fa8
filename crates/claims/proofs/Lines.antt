-- The front page's lines, each taken from the record that carries it: a clause that is dropped there breaks the page. Assumes nothing.
use Prim.Native.Nat.{ℕ, ◌+◌, ◌*◌, ◌-◌, ◌^◌, ◌<◌, ◌≤◌}
use mathlib.Core.Path.{◌≡◌, refl, sym, ap, ap₂, ◌∙◌}
use mathlib.Core.List.{List, [], ◌∷◌, ◌++◌, map, append-nil}
use mathlib.Core.Bool.{true}
use mathlib.Core.Logic.{◌⊎◌, inl, inr, ⊎_elim, ◌↔◌}
use native.Mathlib.Nat.{add-zero}
use native.Mathlib.Omega.{arith}
use native.Mathlib.Numerals.{add-one}
use borrow.Author.Tests.{eq-eqb, ne_eqb}
use lib.Dec.{lit≤}
use lib.ListN.{length, drop, length-append}
use lib.Seq.{drop_at}
use Rattle.address.specs.Bits.{Bit, O, I, last_bit, bits_in, bits, digit, number_from, number}
use Rattle.address.specs.declared.Kind.{Kind}
use Rattle.address.specs.declared.Kind.TheVariants.{Router, Host}
use Rattle.address.specs.Steps.{Step, child, last_step, cut, steps_of, steps, last_of, step_bits, spelled, address_of}
use Rattle.address.specs.Order.{◌then◌}
use Rattle.address.specs.Address.{bit_length, is_host, depth, above, parent}
use Rattle.address.specs.Numbers.{IsAddress}
use Rattle.address.proofs.Numbers.{one_to_one, number_snoc, leading_zeros_bit_length}
use Rattle.address.proofs.Answers.{host_last, is_host-steps, parent-small}
use Rattle.address.proofs.Steps.{exactly-one-cut, depth_range}
use Rattle.address.proofs.Ancestors.{steps-tail, host_ancestor_or_self}
use Rattle.address.proofs.KindLaws.{kinds}
use Rattle.address.proofs.RefusalLaws.{address-refusals}
use Rattle.address.proofs.Promises.{one-made, of_promise, of_asks-nothing, new_promise, new-asks-nothing, bit-length_promise, bit-length-asks-nothing, is_host_promise, is_host-asks-nothing, depth_promise, depth-asks-nothing, parent_promise, parent-asks-nothing}
use Rattle.address.specs.Kinds.{IsRoot, IsRouter, IsHost}
use Rattle.octets.specs.Octets.{octets, same}
use Rattle.octets.specs.Octets.{Written}
use Rattle.octets.proofs.Correspondence.{octets-one_to_one, value-zeros, same_exactly}
use Rattle.refusal.proofs.Numbers.{some, one}
use Rattle.octets.proofs.LentLaws.{one-written}
use Rattle.octets.proofs.Promises.{put-asks-nothing, get_promise, get-asks-nothing}
use Rattle.search.specs.Search.{child_end, first_bits}
use Rattle.search.proofs.Words.{search_words}
use Rattle.search.proofs.SearchLaws.{child_end_past}
use Rattle.search.proofs.Ones.{child_end_leading}
use Rattle.search.proofs.Promises.{child-end_promise, child-end-asks-nothing, child-end_by_bits_promise, child-end_by_bits-asks-nothing, same_child-end, first-bits_promise, first-bits-asks-nothing}
use Rattle.header.specs.Header.{size, place, header, reading}
use Rattle.header.proofs.Opened.{reading-opened}
use Rattle.header.proofs.Size.{fewest-octets}
use Rattle.header.proofs.Writing.{length-header}
use Rattle.header.proofs.Demand2.{header_round_trip, wrote-header}
use Rattle.header.proofs.RefusalLaws.{header-write-refusals, header-read-refusals}
use Rattle.header.proofs.OneRule.{one_writer_lem, one_reader_lem}
use Rattle.header.proofs.WrongWriters.{silent_writer_refuted, refusing_writer_refuted, roomless_writer_refuted, spoiling_writer_refuted, padding_writer_refuted, room-first_writer_refuted}
use Rattle.header.proofs.WrongReaders.{surplus-reader_refuted, even-reader_refuted, missing-first-reader_refuted}
use Rattle.header.proofs.Promises.{one-reading, read_promise as header-read_promise, write-asks-nothing as header-write-asks-nothing, read-asks-nothing as header-read-asks-nothing}
use Rattle.ipv6.proofs.Demand2.{form_round_trip}
use Rattle.ipv6.proofs.RefusalLaws.{form-write-refusals, form-read-refusals}
use Rattle.ipv6.proofs.WrongWriters.{silent-form_writer_refuted, refusing-form_writer_refuted, short_prefix_writer_refuted, roomless_form_writer_refuted, spoiling-form_writer_refuted}
use Rattle.ipv6.proofs.WrongReaders.{surplus-form-reader_refuted}
use Rattle.ipv6.proofs.Promises.{one-form_reading, read_promise as form-read-promise, write-asks-nothing as form-write-asks-nothing, read-asks-nothing as form-read-asks-nothing}
use Rattle.node.specs.declared.Node.{Node}
use Rattle.node.specs.Node.{address_in, fresh, with_counts, count, raised, limit, child_of, set_limit}
use Rattle.node.specs.Refusals.{FitsAddress, inner, outer, IsGood}
use Rattle.node.proofs.ChildLaws.{is_good-zero}
use Rattle.node.proofs.Children.{address-good, is_good-fresh}
use Rattle.node.proofs.GivenChildren.{gives-children}
use Rattle.node.proofs.RefusalLaws.{good-records, child-refusals}
use Rattle.node.proofs.WrongRules.{refuses_all_refuted, root_is_host_refuted, host_first_refuted, one_too_many_refuted, short_of_limit_refuted, address_beside_refuted}
use Rattle.node.proofs.Promises.{one-given, count_promise, count-asks-nothing, is_good_promise, is_good-asks-nothing, fresh_promise, fresh-asks-nothing, child_promise, child-asks-nothing}
use Rattle.forward.specs.Forward.{stop, HopAnswer, hop_answer, up_to, refused_hop, next_hop}
use Rattle.forward.proofs.RefusalLaws.{hop-refusals, by_steps_lem}
use Rattle.forward.proofs.WrongRules.{zero_first_refuted}
use Rattle.forward.proofs.Promises.{one-hop, next-hop_promise, next-hop-asks-nothing}
use Rattle.packet.proofs.RefusalLaws.{packet_refusals}
use Rattle.packet.proofs.WrongRules.{reading_first_refuted}
use Rattle.packet.proofs.Promises.{next-hop_promise as packet_next-hop_promise, next-hop-asks-nothing as packet_next-hop-asks-nothing}
use Rattle.route.proofs.Turning.{turning_points}
use Rattle.route.specs.Path.{same_kind, same_steps, is_ancestor_or_self, turn, deeper, path_of, path, hops}
use Rattle.route.proofs.Length.{at_most_126}
use Rattle.route.proofs.Listing.{up_and_down_lem}
use Rattle.batch.specs.Exported.{action_number, pasa_hop}
use Rattle.batch.proofs.Words.{batches}
use Rattle.batch.proofs.Promises.{pasa_hop_promise, pasa_hop-asks-nothing, numbered_promise, numbered-asks-nothing, next-hops_promise as batch-next-hops-promise, next-hops-asks-nothing as batch-next-hops-asks-nothing}
use Rattle.pasa.specs.Children.{node_of, pasa_node, pasa_child}
use Rattle.pasa.specs.Bytes.{pasa_written, pasa_read, pasa_address}
use Rattle.pasa.specs.Paths.{pasa_listed}
use Rattle.pasa.specs.Plans.{pasa_plan}
use Rattle.pasa.specs.Addresses.{host_answer}
use Rattle.route.proofs.Words.{path-words}
use Rattle.route.proofs.RefusalLaws.{path-refusals}
use Rattle.route.proofs.Promises.{one-listed, path-asks-nothing, hops_promise, hops-asks-nothing}
use Rattle.line.specs.Line.{digits_of, after_digits, are_address, after_space, parsed, digit_text, address_text, decimal, lines, hops_text, refused_text, path_text, text_for, output_text}
use Rattle.line.specs.Exactly.{line_of}
use Rattle.line.specs.Decimal.{decimal_from, decimal_value}
use Rattle.line.proofs.Exact.{exactly_the_line, output_fits}
use Rattle.line.proofs.RefusalLaws.{line-refusals, answer-refusals}
use Rattle.line.proofs.DecimalLaws.{decimal-reads-back}
use Rattle.line.proofs.EdgeLaws.{edge}
use Rattle.line.proofs.Promises.{answer-asks-nothing}
use Rattle.plan.proofs.RefusalLaws.{plan-refusals}
use Rattle.plan.proofs.OneRule.{one_rule}
use Rattle.plan.proofs.WrongRules.{refuses_all_refuted as refuses_all_plans-refuted, grammar_first_refuted, nodes_first_refuted, room_first_refuted, place_from_one_refuted, place_beside_refuted, writes_without_room_refuted, writes_root_refuted, root_uncounted_refuted, unlimited_refuted, routers_late_refuted}
use Rattle.plan.proofs.Promises.{one-planned, read-asks-nothing as plan-read-asks-nothing}
use Rattle.known.specs.Known.{table}
use Rattle.known.proofs.Proved.{known_values}
use Rattle.tree.specs.Tree.{request, Event, asking, setting, Tree, bare_root, record_of, replaced, answered, asked_of, settled, setting_of, Reply, ask, happen, grow, grown}
use Rattle.tree.specs.Tree.{given_by, given_in, addresses as addresses_of, InTree, Walk, here, along}
use Rattle.tree.proofs.Runs.{grown_snoc, ask-given, ask-refused, ask-nobody, set-standing, set-nobody, replies-append}
use Rattle.tree.specs.Demand3.{Arrives}
use Rattle.packet.specs.Packet.{packet_hop}
use Rattle.tree.proofs.Growth.{sound-grown}
use Rattle.tree.proofs.Forwarding.{shortest, packet_shortest, packets-exactly}
use Rattle.tree.proofs.Theorem.{demand_3}
use Rattle.tree.proofs.WrongChildren.{same_child_refuted, shared_count_refuted, limit_on_parent_refuted}
use Rattle.tree.proofs.WrongHops.{refuses_everything_refuted, parent_to_all_refuted, leaps_refuted, names_nobody_refuted, host_keeps_refuted, host_delivers_refuted, root_as_host_refuted, low_bits_refuted, before_last_bit_refuted, one_count_refuted}
use Rattle.pasa.proofs.Promises.{node_of_promise as pasa-node-of-promise, node_of_asks-nothing as pasa-node-of-asks-nothing, fresh_promise as pasa-fresh-promise, child-router_promise as pasa-child-router-promise, child-host_promise as pasa-child-host-promise, next-hop_promise as pasa-next-hop-promise, packet_next-hop_promise as pasa-packet-next-hop-promise, next-hops_promise as pasa-next-hops-promise, header-write_promise as pasa-header-write-promise, header-read_promise as pasa-header-read-promise, ipv6_write_promise as pasa-ipv6-write-promise, ipv6_read_promise as pasa-ipv6-read-promise, path_promise as pasa-path-promise, plan-read_promise as pasa-plan-read-promise, plan-read-asks-nothing as pasa-plan-read-asks-nothing, fresh-asks-nothing as pasa-fresh-asks-nothing, child-router-asks-nothing as pasa-child-router-asks-nothing, child-host-asks-nothing as pasa-child-host-asks-nothing, next-hop-asks-nothing as pasa-next-hop-asks-nothing, packet_next-hop-asks-nothing as pasa-packet-next-hop-asks-nothing, next-hops-asks-nothing as pasa-next-hops-asks-nothing, header-write-asks-nothing as pasa-header-write-asks-nothing, header-read-asks-nothing as pasa-header-read-asks-nothing, ipv6_write-asks-nothing as pasa-ipv6-write-asks-nothing, ipv6_read-asks-nothing as pasa-ipv6-read-asks-nothing, path-asks-nothing as pasa-path-asks-nothing}
use Rattle.pasa.proofs.AddressPromises.{parent_promise as pasa-parent-promise, depth_promise as pasa-depth-promise, bit-length_promise as pasa-bit-length-promise, is_host_promise as pasa-is-host-promise, interface_promise as pasa-interface-promise, parent-asks-nothing as pasa-parent-asks-nothing, depth-asks-nothing as pasa-depth-asks-nothing, bit-length-asks-nothing as pasa-bit-length-asks-nothing, is_host-asks-nothing as pasa-is-host-asks-nothing, interface-asks-nothing as pasa-interface-asks-nothing}
use Rattle.claims.specs.Addresses.{Addresses, Children}
use Rattle.claims.specs.Demand1.{Orders, ExactlyWhen, NothingBeside, PlaceOfThirteen, OnlyTheNamed}
use Rattle.claims.specs.Demand2.{Headers, Forms}
use Rattle.claims.specs.Demand3.{tree_of, Growth, TreeWords, EveryList}
use Rattle.claims.specs.NextHop.{HopAnswers, NextHop}
use Rattle.claims.specs.Paths.{ThePath, example_line, example_text, refusal11, hops_word, binary, each_on_aline, TheLine}
use Rattle.claims.specs.Structs.{RefusalNumbers, Cases, OneAnswer, Fields}
use Rattle.claims.specs.Excluded.{KnownRows, ValuesOfThree, WrongNextHops, WrongChildren, OneHeaderRule, OnePlanRule, WrongPlanRules, WrongWritersAndReaders, HoldOfOurs}
use Rattle.claims.specs.Code.{AsksNothing, AnswersAsDefined, TheSearch}
use Rattle.claims.specs.Exports.{ExportsAskNothing, ExportsAnswerAsDefined}

-- ---- what an address is

parent-steps : (a : ℕ) (last : Step) (others : List Step) → IsAddress a → steps a ≡ last ∷ others
    → (parent a ≡ address_of others) × (steps (parent a) ≡ others)
unfolding parent above
parent-steps a last others b e = let up = ap above e in (up, ap steps up ∙ steps-tail b (last ∷ []) others e)

right_justified_lem : (bs : List Bit) → (number (bs ++ (O ∷ [])) ≡ number bs * 2) × (number (bs ++ (I ∷ [])) ≡ number bs * 2 + 1)
unfolding digit
right_justified_lem bs = (number_snoc bs O ∙ add-zero (number bs * 2), number_snoc bs I)

hosts_by_steps_lem : (a : ℕ) → IsAddress a → (is_host a ≡ true) ↔ ((i : ℕ) × (up : List Step) × (steps a ≡ child Host i ∷ up))
hosts_by_steps_lem a b = (λ e. last (steps a) refl (sym (is_host-steps b) ∙ e), λ h. is_host-steps b ∙ ap host_last h.2)
  where
    last : (ss : List Step) → steps a ≡ ss → host_last ss ≡ true → (i : ℕ) × (up : List Step) × (steps a ≡ child Host i ∷ up)
    last [] e h = let z : ◌≡◌ {A = ℕ} 0 1 = cc in absurd (omega arith)
    last (child Router i ∷ up) e h = let z : ◌≡◌ {A = ℕ} 0 1 = cc in absurd (omega arith)
    last (child Host i ∷ up) e h = (i, up, e)

pub addresses : Addresses
unfolding depth bit_length bits bits_in last_bit steps steps_of step_bits last_of spelled child_end first_bits
addresses = record {
  any_number_but_zero = λ a. (λ h. (h.some, h.fits), λ h. record { some = h.0; fits = h.1 });
  strings_held = one_to_one.held;
  numbers_shown = one_to_one.shown;
  right_justified = right_justified_lem;
  lengths = λ a h. leading_zeros_bit_length h;
  length_of_example = refl;
  step_of_router = λ k. refl;
  step_of_host = λ k. refl;
  spelled_one_by_one = λ s up. (refl, refl);
  cut = exactly-one-cut.has;
  cut_one_way = exactly-one-cut.only;
  spelt = exactly-one-cut.back;
  hosts = kinds.tested;
  hosts_by_steps = hosts_by_steps_lem;
  is_root = λ a. (λ h. h, λ h. h);
  is_router = λ a. (λ h. h, λ h. h);
  is_host = λ a. (λ h. h, λ h. h);
  kinds = kinds.some;
  root_is_no_host = (kinds.root_ends, kinds.root_no_host);
  routers_are_neither = λ a r. (kinds.router_no_root a r, kinds.router_no_host a r);
  parents = parent-steps;
  depth_is_steps = λ a. refl;
  depth_at_most = depth_range.most;
  depth_met = (depth_range.least, depth_range.met.1);
  silent = (parent-small (lit≤ tt), parent-small (lit≤ tt), refl, refl);
  same_bits = search_words.same;
  prefixes = search_words.begins;
  prefix_by_steps = search_words.by_steps;
  looked = search_words.looked;
  searched = λ n ds. refl;
  first_ones = λ n a. refl;
}

fits-cases : (n : Node) → FitsAddress n
    → ((IsRoot n.address.number ⊎ IsRouter n.address.number)
    × (n.routers ≤ 64 - bit_length n.address.number) × (n.hosts ≤ 64 - bit_length n.address.number))
    ⊎ (IsHost n.address.number × (n.routers ≡ 0) × (n.hosts ≡ 0))
fits-cases n (inner k r h) = inl (k, r, h)
fits-cases n (outer k r h) = inr (k, r, h)

-- of both kinds, and so of each
each_kind : (P : Kind → Type 0) → P Router → P Host → (kind : Kind) → P kind
each_kind P r h Router = r
each_kind P r h Host = h

pub children : Children
unfolding fresh count raised with_counts limit
children = record {
  good_records = good-records;
  good_written = λ n. (
    λ good.
        let limits = good.limits in
        (fits-cases n good.address, limits.most Router, limits.most Host, limits.kept Router, limits.kept Host),
    λ (fits, router, host, routers, hosts). record {
      address = ⊎_elim (λ i. inner i.0 i.1 i.2) (λ o. outer o.0 o.1 o.2) fits;
      limits = record {
        most = each_kind (λ (kind : Kind). limit kind n ≤ 64) router host;
        kept = each_kind (λ (kind : Kind). count kind n ≤ limit kind n) routers hosts;
      };
    },
  );
  bad_records = λ n. (λ h. h, λ h. h);
  own_address = λ n. refl;
  own_count = λ n. (refl, refl);
  own_limit = λ n. (refl, refl);
  raised_routers = λ n. refl;
  raised_hosts = λ n. refl;
  raises_one = child-refusals.without;
  spells_child = λ n kind h e. (gives-children.is_child n kind h e).spells;
  one_step_more = λ n kind h e. let given = gives-children.is_child n kind h e in (given.address, given.cut, given.parent_of, given.deeper);
  starts_fresh = λ a. refl;
  fresh_is_good = λ a h. is_good-fresh h;
  fresh_of_zero = is_good-zero (fresh 0) refl;
  keeps_good = gives-children.keeps_good;
  keeps_address = gives-children.keeps_address;
  keeps_limits = gives-children.keeps_limits;
}

-- ---- the next hop

-- "2. C is a host": nothing is below it
host_rule : (n : Node) (d : ℕ) → IsGood n → address_in n < 2 ^ 64 → IsAddress d → IsHost (address_in n) → (d ≡ address_in n → ⊥)
    → next_hop n d ≡ up_to (parent (address_in n))
host_rule n d good f b host other =
    let a = address-good n ((good-records n).1 good) f in
    (by_steps_lem n d good f b).elsewhere (λ w. other (sym (host_ancestor_or_self a b ((kinds.tested (address_in n)).1 host) w)))

pub hop-answers : HopAnswers
hop-answers = record { delivered = λ c. refl; up = λ x. refl; down = λ x. refl; refused = λ k. refl }

pub next-hop : NextHop
next-hop = record {
  same = λ n d good f b. (by_steps_lem n d good f b).same;
  host = host_rule;
  elsewhere = λ n d good f b. (by_steps_lem n d good f b).elsewhere;
  given = λ n d good f b. (by_steps_lem n d good f b).below;
  not_given = λ n d good f b. (by_steps_lem n d good f b).absent;
  goes_on = hop-refusals.without;
  from_packet = packet_refusals.without;
  for_many = batches;
}

-- ---- demand 1

pub orders : Orders
unfolding ◌then◌
orders = record {
  exactly = λ order refusal. (λ h. h, λ h. h);
  first_of_none = λ r. (λ h. h, λ h. h);
  first_of_more = λ n r condition rest. (λ h. h, λ h. h);
  none_before = λ order. refl;
  more_before = λ n condition rest order. refl;
}

packet_unread : (n : Node) (p : List ℕ) → IsGood n → ((reading p).refusal ≡ 0 → ⊥) → (packet_hop n p).refusal ≡ (reading p).refusal
unfolding packet_hop
packet_unread n p g r = rw ((good-records n).1 g, ne_eqb (reading p).refusal 0 r)

pub exactly_when : ExactlyWhen
exactly_when = record {
  an_address = address-refusals.given;
  a_child = child-refusals.given;
  a_next_hop = hop-refusals.given;
  a_packet = packet_refusals.given;
  a_packet_unread = packet_unread;
  a_header_out = header-write-refusals.given;
  a_header_back = header-read-refusals.given;
  a_form_out = form-write-refusals.given;
  a_form_back = form-read-refusals.given;
  a_path = path-refusals.given;
  a_line = answer-refusals.given;
  a_plan = plan-refusals.given;
}

shown : {r : HopAnswer} {k : ℕ} → r ≡ refused_hop k → (r.named ≡ 0) × (r.action ≡ stop)
shown e = (ap (λ (r : HopAnswer). r.named) e, ap (λ (r : HopAnswer). r.action) e)

pub nothing-beside : NothingBeside
nothing-beside = record {
  an_address = address-refusals.beside;
  a_child = child-refusals.beside;
  a_next_hop = λ n d h. shown (hop-refusals.beside n d h);
  a_packet = λ n p h. shown (packet_refusals.beside n p h);
  a_header_out = header-write-refusals.beside;
  a_header_back = header-read-refusals.beside;
  a_form_out = form-write-refusals.beside;
  a_form_back = form-read-refusals.beside;
  a_path = path-refusals.beside;
  a_line = answer-refusals.beside;
  a_plan = plan-refusals.beside;
}

pub place_of_thirteen : PlaceOfThirteen
place_of_thirteen = record { its_place = plan-refusals.place; no_other = plan-refusals.no_place }

pub only_the_named : OnlyTheNamed
only_the_named = record {
  an_address = address-refusals.without;
  a_header = header-write-refusals.without;
  a_form = form-write-refusals.without;
  a_path = λ a d words e. (path-refusals.without a d words e).1;
  a_line = answer-refusals.without;
  a_plan = plan-refusals.without;
}

-- ---- demand 2

pub headers : Headers
unfolding place header octets
headers = record {
  laid = λ a. refl;
  answers_written = λ n. refl;
  answers_found = λ a k. refl;
  answers_refused = λ n. refl;
  written = wrote-header;
  reads_back = λ a buffer payload n h some done. (header_round_trip.where_done a buffer payload n h some done).0;
  reads_back_in_place = λ a buffer h more. (header_round_trip.reads_back a buffer h (omega arith)).1 more;
  spares_the_rest = λ a buffer n done.
      let (count, left) = header-write-refusals.without a buffer (ap (λ (w : Written). w.refusal) done) in
      let many : length (header a) ≡ n = sym count ∙ ap (λ (w : Written). w.count) done in
      ap (drop n) left ∙ drop_at (header a) (drop (length (header a)) buffer) n many ∙ ap (λ (k : ℕ). drop k buffer) many;
  accepts_addresses = λ p a k are e. let so = header_round_trip.written_so p a k are e in (so.0, so.1);
  accepts_the_written = λ p a k are e. (header_round_trip.written_so p a k are e).2;
  accepts_so = λ p e.
      let so = header-read-refusals.without p e in
      let some : 0 < length so.0.payload = omega (arith, so.1, so.0.behind, ap length so.0.laid, length-append so.0.os so.0.payload) in
      (so.0.os, so.0.payload, so.0.laid, (some, so.0.sized.0, so.0.sized.1, so.0.number, so.0.behind));
  takes = λ a. (refl, length-header a);
  one_to_eight = λ a h. (fewest-octets a h).allowed;
  holds = λ a h. (fewest-octets a h).holds;
  fewest = λ a s h. (fewest-octets a h).fewest s;
  most_significant_first = octets-one_to_one.most_first;
  value_of_none = value-zeros 0;
  no_octet = tt;
  an_octet_more = λ o os. (λ h. h, λ h. h);
  octets_hold = octets-one_to_one.held;
  octets_of_none = λ n. refl;
  octets_of_more = λ k n. refl;
  octets_shown = λ os are. (octets-one_to_one.shown os are).1;
  same_octets = same_exactly;
}

pub forms : Forms
forms = record {
  written = λ prefix a buffer e h room. (form_round_trip.reads_back prefix a buffer e h room).0;
  reads_back = λ prefix a buffer n h done. let so = form_round_trip.where_done prefix a buffer n h done in (so.0, so.1);
  spares_the_rest = λ prefix a buffer n h done. (form_round_trip.where_done prefix a buffer n h done).2;
  accepts_so = form-read-refusals.without;
  accepts_addresses = λ prefix ipv6 a are e. let so = form_round_trip.written_so prefix ipv6 a are e in (so.0, so.1, so.2);
  accepts_the_written = λ prefix ipv6 a are e. (form_round_trip.written_so prefix ipv6 a are e).3;
}

-- ---- demand 3

-- a walk needs no packet, and there is one for the second
module _ (es : List Event) {a d : ℕ} (i : InTree a (tree_of es)) (j : InTree d (tree_of es)) where
  arrives : Arrives packet_hop (tree_of es) (shortest d) a d
  arrives = (demand_3 es).arrival a d (shortest d) i j (packet_shortest ((sound-grown es).address d j))

-- hops are a length less one, and a walk has one node at least
walk_some : {t : Tree} {a d : ℕ} {w : List ℕ} → Walk t a d w → 0 < length w
walk_some (here i) = omega arith
walk_some (along l walk) = omega arith

no_shorter : (v w : List ℕ) → hops v ≤ hops w → 0 < length w → length v ≤ length w
unfolding hops
no_shorter v w h l = omega arith

pub growth : Growth
unfolding grown grow bare_root happen
growth = record {
  bare_root = refl;
  given = λ es a n kind e z. grown_snoc child_of set_limit es (asking (request a kind)) ∙ ask-given child_of (tree_of es) a kind n e z;
  refused = λ es a n kind e z. grown_snoc child_of set_limit es (asking (request a kind)) ∙ ask-refused child_of (tree_of es) a kind n e z;
  set = λ es a n kind k e. grown_snoc child_of set_limit es (setting a kind k) ∙ set-standing child_of set_limit (tree_of es) a kind k n e;
  nobody = λ es a kind e. grown_snoc child_of set_limit es (asking (request a kind)) ∙ ask-nobody child_of (tree_of es) a kind e;
  set_at_nobody = λ es a kind k e. grown_snoc child_of set_limit es (setting a kind k) ∙ set-nobody child_of set_limit (tree_of es) a kind k e;
}

replied-last : (es : List Event) (e : Event)
    → (grow child_of set_limit bare_root (es ++ (e ∷ []))).replies
    ≡ (grow child_of set_limit bare_root es).replies ++ (happen child_of set_limit (tree_of es) e).replies
unfolding grown grow
replied-last es e =
    replies-append child_of set_limit bare_root es (e ∷ [])
    ∙ ap (λ (l : List Reply). (grow child_of set_limit bare_root es).replies ++ l) (append-nil (happen child_of set_limit (tree_of es) e).replies)

pub tree-words : TreeWords
unfolding addresses_of record_of replaced happen ask asked_of answered setting_of settled grow given_in given_by bare_root
tree-words = record {
  in_order = λ t. refl;
  record_of_none = λ a. refl;
  record_of_this = λ a n t e. rw (eq-eqb (address_in n) a e);
  record_of_other = λ a n t e. rw (ne_eqb (address_in n) a e);
  replaced_in_none = λ a m. refl;
  replaced_this = λ a m n t e. rw (eq-eqb (address_in n) a e);
  replaced_other = λ a m n t e. rw (ne_eqb (address_in n) a e);
  replied_standing = λ t a kind n e. rw e;
  replied_absent = λ t a kind e. rw e;
  limited_standing = λ t a kind k n e. rw e;
  limited_absent = λ t a kind k e. rw e;
  replied_none = λ t. refl;
  replied_one_by_one = λ t e es. refl;
  bare = refl;
  replied_last = replied-last;
  given = λ es. refl;
  given_none = refl;
  given_child = λ a rs. refl;
  given_refused = λ k a rs. rw add-one;
  given_limited = λ k rs. refl;
  given_nobody = λ rs. refl;
}

pub every-list : EveryList
every-list = record {
  nodes = λ es. (demand_3 es).nodes;
  all_differ = λ es. (demand_3 es).differ;
  packets = packets-exactly;
  arrives = λ es a d p i j packet. ((demand_3 es).arrival a d p i j packet).the_way;
  over_links = λ es a d i j. (arrives es i j).over_links;
  no_node_twice = λ es a d i j. (arrives es i j).once;
  no_shorter_walk = λ es a d w i j walk. no_shorter (path a d) w ((arrives es i j).shortest w walk) (walk_some walk);
  absent = λ es a d p i out packet.
      let stops = (demand_3 es).absence a d p i out packet in (
        stops.0,
        record {
          ancestor = stops.1.ancestor;
          in_tree = stops.1.there;
          deepest = stops.1.deepest;
          the_way = stops.1.the_way;
        },
      );
  empty = λ es. (demand_3 es).empty;
}

-- ---- paths and the line

pub the_path : ThePath
the_path = record {
  up_and_down = up_and_down_lem;
  turns_at_ancestor = λ ss ts. ((turning_points ss ts).of_first, (turning_points ss ts).of_second);
  turns_at_deepest = λ ss ts. (turning_points ss ts).deepest;
  ancestors = path-words.ancestor;
  equal_kinds = path-words.same_kinds;
  equal_steps = path-words.same;
  at_most126 = at_most_126;
  counts = λ a d words e. (path-refusals.without a d words e).0;
}

-- what the example is computed by
computed : Unit {0}
unfolding output_text text_for parsed digits_of after_digits are_address after_space same path_text lines hops_text refused_text address_text digit_text decimal hops number number_from digit path path_of turn is_ancestor_or_self same_steps same_kind deeper steps steps_of cut last_step bits bits_in last_bit address_of spelled step_bits last_of
computed = tt

spelt-bits : (bs : List Bit) → map digit_text bs ≡ map binary bs
unfolding digit_text binary
spelt-bits [] = refl
spelt-bits (O ∷ bs) = ap (λ (l : List ℕ). 48 ∷ l) (spelt-bits bs)
spelt-bits (I ∷ bs) = ap (λ (l : List ℕ). 49 ∷ l) (spelt-bits bs)

spelt-lines : (p : List ℕ) → lines p ≡ each_on_aline p
unfolding lines each_on_aline address_text
spelt-lines [] = refl
spelt-lines (a ∷ p) = ap₂ (λ (l m : List ℕ). l ++ (10 ∷ []) ++ m) (spelt-bits (bits a)) (spelt-lines p)

spelt-path : (p : List ℕ) → path_text p ≡ hops_word ++ decimal (length p - 1) ++ (10 ∷ []) ++ each_on_aline p
unfolding path_text hops_text hops_word hops
spelt-path p = ap (λ (l : List ℕ). hops_text ++ decimal (hops p) ++ (10 ∷ []) ++ l) (spelt-lines p)

spelt-line : (a d : ℕ) → line_of a d ≡ map binary (bits a) ++ (32 ∷ []) ++ map binary (bits d) ++ (10 ∷ [])
unfolding line_of address_text
spelt-line a d = ap₂ (λ (l m : List ℕ). l ++ (32 ∷ []) ++ m ++ (10 ∷ [])) (spelt-bits (bits a)) (spelt-bits (bits d))

few-hops : (a d : ℕ) → IsAddress a → IsAddress d → length (path a d) - 1 < 1000
unfolding hops
few-hops = decimal-reads-back.hops_below

decimal_snoc : (n : ℕ) (os : List ℕ) (o : ℕ) → decimal_from n (os ++ (o ∷ [])) ≡ decimal_from n os * 10 + (o - 48)
unfolding decimal_from
decimal_snoc n [] o = refl
decimal_snoc n (x ∷ os) o = decimal_snoc (n * 10 + (x - 48)) os o

pub the_line : TheLine
unfolding decimal_value decimal_from computed example_line example_text refusal11
the_line = record {
  line = spelt-line;
  is_line = λ input. (
    λ l. (l.first, l.second, (l.addresses.0, l.addresses.1, l.spelled)),
    λ h. record { first = h.0; second = h.1; addresses = (h.2.0, h.2.1); spelled = h.2.2 },
  );
  answers = line-refusals.without;
  reads = exactly_the_line.only;
  refuses = line-refusals.given;
  no_third = line-refusals.either;
  example = refl;
  refused_else = refl;
  spelt = spelt-path;
  apart = line-refusals.apart;
  longest_line = edge.full;
  past_the_longest = edge.past;
  window_decides = edge.enough;
  few_hops = few-hops;
  digits_say = decimal-reads-back.value;
  digits_read = λ os o. (refl, decimal_snoc 0 os o);
  some_digit = decimal-reads-back.some;
  are_digits = decimal-reads-back.digits;
  unpadded = decimal-reads-back.unpadded;
  fits = output_fits;
}

-- ---- known values and wrong rules

pub known_rows : KnownRows
unfolding table
known_rows = record { every_row_holds = known_values; fifteen = refl }

pub values_of_three : ValuesOfThree
unfolding header size octets reading-opened bit_length bits bits_in
values_of_three = record {
  header_of111110 = refl;
  read111110 = λ o. refl;
  a_zero_in_front = refl;
  two_zeros = refl;
  nothing_behind = refl;
  read65536 = λ o. refl;
  size_of65536 = refl;
}

pub hold_of_ours : HoldOfOurs
hold_of_ours = record {
  demand1_child = child-refusals;
  demand1_hop = hop-refusals;
  demand1_packet = packet_refusals;
  demand1_writer = header-write-refusals;
  demand1_reader = header-read-refusals;
  demand1_plan = plan-refusals;
  demand2_header = header_round_trip;
  demand2_form = form_round_trip;
  demand3 = demand_3;
}

pub wrong_next-hops : WrongNextHops
wrong_next-hops = record {
  that_refuses_everything = refuses_everything_refuted;
  that_says_parent_to_all = parent_to_all_refuted;
  that_leaps = leaps_refuted;
  that_names_nobody = names_nobody_refuted;
  where_ahost_keeps = host_keeps_refuted;
  where_ahost_delivers = host_delivers_refuted;
  where_the_root_is_ahost = root_as_host_refuted;
  by_low_bits = low_bits_refuted;
  before_the_last_bit = before_last_bit_refuted;
  with_one_count = one_count_refuted;
  with_zero_first = zero_first_refuted;
  with_reading_first = reading_first_refuted;
}

pub wrong_children : WrongChildren
wrong_children = record {
  of_one_address = same_child_refuted;
  with_one_count = shared_count_refuted;
  with_limit_on_parent = limit_on_parent_refuted;
  that_refuses_all = refuses_all_refuted;
  where_the_root_is_ahost = root_is_host_refuted;
  with_host_first = host_first_refuted;
  with_one_too_many = one_too_many_refuted;
  short_of_the_limit = short_of_limit_refuted;
  with_an_address_beside = address_beside_refuted;
}

pub one-header_rule : OneHeaderRule
one-header_rule = record { to_write = one_writer_lem; to_read = one_reader_lem }

pub one-plan_rule : OnePlanRule
one-plan_rule = record {
  plan_refusals = λ rule. (
    λ r. (r.given, r.place, r.no_place, r.beside, r.without),
    λ h. record { given = h.0; place = h.1; no_place = h.2; beside = h.3; without = h.4 },
  );
  ours = one_rule;
}

pub wrong_plan-rules : WrongPlanRules
wrong_plan-rules = record {
  that_refuses_all = refuses_all_plans-refuted;
  with_grammar_first = grammar_first_refuted;
  with_nodes_first = nodes_first_refuted;
  with_room_first = room_first_refuted;
  with_place_from_one = place_from_one_refuted;
  with_place_beside = place_beside_refuted;
  that_writes_without_room = writes_without_room_refuted;
  that_writes_the_root = writes_root_refuted;
  with_root_uncounted = root_uncounted_refuted;
  with_groups_unlimited = unlimited_refuted;
  with_routers_late = routers_late_refuted;
}

pub wrong_writers_and_readers : WrongWritersAndReaders
wrong_writers_and_readers = record {
  silent = silent_writer_refuted;
  refusing = refusing_writer_refuted;
  without_room = roomless_writer_refuted;
  spoiling = spoiling_writer_refuted;
  padding = padding_writer_refuted;
  surplus = surplus-reader_refuted;
  of_even_sizes = even-reader_refuted;
  with_missing_first = missing-first-reader_refuted;
  with_room_first = room-first_writer_refuted;
  silent_form = silent-form_writer_refuted;
  refusing_form = refusing-form_writer_refuted;
  short_prefix = short_prefix_writer_refuted;
  form_without_room = roomless_form_writer_refuted;
  spoiling_form = spoiling-form_writer_refuted;
  surplus_form = surplus-form-reader_refuted;
}

-- ---- the code

pub asks_nothing : AsksNothing
asks_nothing = record {
  address_of = of_asks-nothing;
  address_new = new-asks-nothing;
  address_bit_length = bit-length-asks-nothing;
  address_is_host = is_host-asks-nothing;
  address_depth = depth-asks-nothing;
  address_parent = parent-asks-nothing;
  octets_put = put-asks-nothing;
  octets_get = get-asks-nothing;
  search_child_end = child-end-asks-nothing;
  search_child_end_by_bits = child-end_by_bits-asks-nothing;
  search_first_bits = first-bits-asks-nothing;
  node_count = count-asks-nothing;
  node_is_good = is_good-asks-nothing;
  node_fresh = fresh-asks-nothing;
  node_child = child-asks-nothing;
  next_hop_of = next-hop-asks-nothing;
  packet_hop_of = packet_next-hop-asks-nothing;
  header_write = header-write-asks-nothing;
  header_read = header-read-asks-nothing;
  form_write = form-write-asks-nothing;
  form_read = form-read-asks-nothing;
  path_call = path-asks-nothing;
  route_hops = hops-asks-nothing;
  line_answer = answer-asks-nothing;
  plan_read = plan-read-asks-nothing;
  batch_hop = pasa_hop-asks-nothing;
  batch_numbered = numbered-asks-nothing;
  batch_next_hops = batch-next-hops-asks-nothing;
  pasa_node_of = pasa-node-of-asks-nothing;
}

pub answers_as_defined : AnswersAsDefined
answers_as_defined = record {
  address_of = of_promise;
  address_new = new_promise;
  address_bit_length = bit-length_promise;
  address_is_host = is_host_promise;
  address_depth = depth_promise;
  address_parent = parent_promise;
  octets_put = λ κs number out out' r h. h;
  octets_get = get_promise;
  search_child_end = child-end_promise;
  search_child_end_by_bits = child-end_by_bits_promise;
  search_first_bits = first-bits_promise;
  node_count = count_promise;
  node_is_good = is_good_promise;
  node_fresh = fresh_promise;
  node_child = child_promise;
  next_hop_of = next-hop_promise;
  packet_hop_of = packet_next-hop_promise;
  header_write = λ κs a out out' r h. h;
  header_read = header-read_promise;
  form_write = λ κs prefix a out out' r h. h;
  form_read = form-read-promise;
  path_call = λ κs a d words words' r h. h;
  route_hops = hops_promise;
  line_answer = λ κs input out out' r h. h;
  plan_read = λ κs text words words' r h. h;
  batch_hop = pasa_hop_promise;
  batch_numbered = numbered_promise;
  batch_next_hops = batch-next-hops-promise;
  pasa_node_of = pasa-node-of-promise;
}

pub the_search : TheSearch
the_search = record {
  by_leading_zeros = λ a from h l. child_end_leading h refl from l;
  nothing_behind = λ a from h l. child_end_past from h refl l;
  same_answers = same_child-end;
}

-- ---- the exports

pub exports_ask-nothing : ExportsAskNothing
exports_ask-nothing = record {
  pasa_fresh = pasa-fresh-asks-nothing;
  pasa_child_router = pasa-child-router-asks-nothing;
  pasa_child_host = pasa-child-host-asks-nothing;
  pasa_next_hop = pasa-next-hop-asks-nothing;
  pasa_packet_next_hop = pasa-packet-next-hop-asks-nothing;
  pasa_next_hops = pasa-next-hops-asks-nothing;
  pasa_header_write = pasa-header-write-asks-nothing;
  pasa_header_read = pasa-header-read-asks-nothing;
  pasa_ipv6_write = pasa-ipv6-write-asks-nothing;
  pasa_ipv6_read = pasa-ipv6-read-asks-nothing;
  pasa_path = pasa-path-asks-nothing;
  pasa_plan_read = pasa-plan-read-asks-nothing;
  pasa_parent = pasa-parent-asks-nothing;
  pasa_depth = pasa-depth-asks-nothing;
  pasa_bit_length = pasa-bit-length-asks-nothing;
  pasa_is_host = pasa-is-host-asks-nothing;
  pasa_interface = pasa-interface-asks-nothing;
}

pub exports_answer_as_defined : ExportsAnswerAsDefined
exports_answer_as_defined = record {
  pasa_fresh = pasa-fresh-promise;
  pasa_child_router = pasa-child-router-promise;
  pasa_child_host = pasa-child-host-promise;
  pasa_next_hop = pasa-next-hop-promise;
  pasa_packet_next_hop = pasa-packet-next-hop-promise;
  pasa_next_hops = pasa-next-hops-promise;
  pasa_header_write = pasa-header-write-promise;
  pasa_header_read = pasa-header-read-promise;
  pasa_ipv6_write = pasa-ipv6-write-promise;
  pasa_ipv6_read = pasa-ipv6-read-promise;
  pasa_path = pasa-path-promise;
  pasa_plan_read = pasa-plan-read-promise;
  pasa_parent = pasa-parent-promise;
  pasa_depth = pasa-depth-promise;
  pasa_bit_length = pasa-bit-length-promise;
  pasa_is_host = pasa-is-host-promise;
  pasa_interface = pasa-interface-promise;
}

-- ---- answers and structs, number by number

pub refusal_numbers : RefusalNumbers
refusal_numbers = record {
  one_to_six = (refl, refl, refl, refl, refl, refl);
  seven_to_twelve = (refl, refl, refl, refl, refl);
  thirteen_on = (refl, refl, refl, refl, refl);
  none_zero = some;
  no_two_alike = one;
  number_asks = λ x. tt;
  number = λ x r h. h;
}

pub cases : Cases
unfolding hop_answer
cases = record {
  valid = λ a. refl;
  not_made = λ x. refl;
  found = λ h. refl;
  not_read = λ x. refl;
  written = λ k. refl;
  not_written = λ x. refl;
  given = λ n a. refl;
  not_given = λ n x. refl;
  listed = λ k. refl;
  not_listed = λ x. refl;
  planned = λ k. refl;
  outside_grammar = λ k. refl;
  plan_too_many = refl;
  plan_too_long = refl;
  plan_no_room = refl;
  delivers = λ a. refl;
  passes_up = λ a. refl;
  passes_down = λ a. refl;
  stops = λ x. refl;
  stops_by_number = λ k. refl;
  goes_by_number = λ h. refl;
}

pub one_answer : OneAnswer
one_answer = record {
  an_address = one-made;
  a_header = one-reading;
  a_form = one-form_reading;
  a_writing = one-written;
  a_child = one-given;
  a_path = one-listed;
  a_plan = one-planned;
  a_hop = one-hop;
}

pub fields : Fields
unfolding node_of pasa_node pasa_child pasa_hop action_number pasa_written pasa_read pasa_address pasa_listed pasa_plan host_answer
fields = record {
  taken = λ r. refl;
  node = λ n. refl;
  child = λ g. refl;
  hop = λ r. refl;
  action = (refl, refl, refl, refl);
  written = λ w. refl;
  read = λ r. refl;
  address = λ r. refl;
  listed = λ l. refl;
  plan = λ p. refl;
  is_ahost = λ a e. rw e;
  is_no_host = λ a e. rw e;
  interface_number = refl;
}
