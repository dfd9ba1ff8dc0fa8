-- The lines of the page Empty, each from the record that carries it.
use Prim.Native.Nat.{ℕ}
use mathlib.Core.Path.{◌≡◌, refl, sym, ap, ◌∙◌}
use mathlib.Core.Bool.{Bool, true, false}
use mathlib.Core.Logic.{◌↔◌}
use mathlib.Core.List.{List, ◌++◌}
use Rattle.address.specs.Bits.{bits, bits_in, last_bit, number, number_from, digit}
use Rattle.address.specs.Steps.{steps_of, cut, last_step, steps, address_of, spelled}
use Rattle.address.specs.Address.{bit_length, is_host, ends_in_one, parent, above}
use Rattle.address.specs.Order.{◌then◌}
use Rattle.search.specs.Search.{looked_at, is_prefix, same_bit, kind_looked, index_looked}
use Rattle.header.specs.Header.{header, reading, found}
use Rattle.header.specs.Refusals.{AcceptedHeader}
use Rattle.header.proofs.Opened.{reading-opened}
use Rattle.header.proofs.Demand2.{reading-header, reading_alone, sixteen-exactly, found-exactly, wrote_alone}
use Rattle.header.proofs.Payload.{refused_stand_lem, accepted_more, accepted_stand_lem, accepted-empty}
use Rattle.header.proofs.RefusalLaws.{octets-given, octets-beside, octets-accepted}
use Rattle.header.proofs.WrongReaders.{octets-reader_refuted, empty-first-reader_refuted, two_octets-reader_refuted, short-empty-reader_refuted, beside-empty-reader_refuted}
use Rattle.header.proofs.WrongWriters.{payload-room_writer_refuted}
use Rattle.node.specs.declared.Node.{Node}
use Rattle.node.specs.Node.{is_good}
use Rattle.node.specs.Refusals.{IsBad}
use Rattle.node.proofs.Opened.{records-opened}
use Rattle.node.proofs.RefusalLaws.{good-records, not-bad}
use Rattle.forward.specs.Forward.{next_hop, rules, toward}
use Rattle.forward.proofs.Rules.{next_hop-bad}
use Rattle.packet.specs.Packet.{packet_hop}
use Rattle.packet.proofs.PacketHops.{packet_hop-bad, packet_hop-refused, packet_hop-found}
use Rattle.packet.proofs.RefusalLaws.{sixteen-hop}
use Rattle.packet.proofs.OneRule.{one_packet_rule}
use Rattle.packet.proofs.Before.{empty_goes-bad, empty_goes-refused, empty_goes-found, hop-stands, hop_more, hop-accepted, hop-empty}
use Rattle.tree.proofs.WrongEmpties.{empty_goes_misnumbers, empty_delivered_misnumbers, not_given_first_misnumbers, empty_late_misnumbers, empty_goes_refuted, empty_delivered_refuted, not_given_first_refuted, empty_late_refuted}
use Rattle.claims.specs.Empty.{LaidOut, NoEmptyPackets, SinceBefore, EmptyOfAny, ValuesOfEight, WrongOfEight}

is_bad : (n : Node) → IsBad n → is_good n ≡ false
is_bad n bad = go (is_good n) refl
  where
    go : (t : Bool) → is_good n ≡ t → is_good n ≡ false
    go true g = absurd (not-bad n g bad)
    go false g = g

with_payload : (n : Node) (p : List ℕ) {a k : ℕ} → reading p ≡ found a k → packet_hop n p ≡ next_hop n a
with_payload n p {a} e = go (is_good n) refl
  where
    go : (t : Bool) → is_good n ≡ t → packet_hop n p ≡ next_hop n a
    go true g = packet_hop-found n p g e
    go false g = packet_hop-bad n p g ∙ sym (next_hop-bad n a g)

pub no_empty-packets : NoEmptyPackets
no_empty-packets = record {
  sixteen_exactly = sixteen-exactly;
  accepted_exactly = found-exactly;
  written_alone = λ a buffer n e. ap reading (wrote_alone a buffer n e).1 ∙ reading_alone n;
  at_anode = λ n a good address. packet_hop-refused n (header a) ((good-records n).1 good) (reading_alone address);
  at_abad_record = λ n p bad. packet_hop-bad n p (is_bad n bad);
  nothing_else = λ n p are e. let (good, sixteen) = sixteen-hop n p e in ((good-records n).0 good, (sixteen-exactly p are).0 sixteen);
  with_apayload = λ n a payload address some. with_payload n (header a ++ payload) (reading-header address payload some);
}

-- an accepted header, laid out
laid_out : {p : List ℕ} {a k : ℕ} → AcceptedHeader p a k ↔ ((os : List ℕ) × (payload : List ℕ) × LaidOut p a k os payload)
laid_out = (
  λ so. (so.os, so.payload, record { laid = so.laid; sized = so.sized; number = so.number; behind = so.behind }),
  λ (os, payload, so). record { os = os; payload = payload; laid = so.laid; sized = so.sized; number = so.number; behind = so.behind },
)

pub since_before : SinceBefore
since_before = record {
  given_before = octets-given;
  beside_before = octets-beside;
  taken_before = λ p e. laid_out.0 (octets-accepted p e);
  refused_stand = refused_stand_lem;
  one_octet_more = λ p o e. accepted_more p e o;
  accepted_stand = accepted_stand_lem;
  accepted_empty = accepted-empty;
  hop_before = λ n p. (
    λ bad. empty_goes-bad n p (is_bad n bad),
    λ good h. empty_goes-refused n p ((good-records n).1 good) h,
    λ good e. empty_goes-found n p ((good-records n).1 good) e,
  );
  hop_stands = hop-stands;
  hop_of_one_more = λ n p o e. hop_more n p o e;
  hop_accepted = hop-accepted;
  hop_empty = λ n p good. hop-empty n p ((good-records n).1 good);
}

pub empty_of_any : EmptyOfAny
unfolding ◌then◌
empty_of_any = record {
  round_trip = λ writer reader. (
    λ claim. (claim.reads_back, claim.where_done, claim.written_so, claim.empty_exactly),
    λ (back, done, so, exactly). record { reads_back = back; where_done = done; written_so = so; empty_exactly = exactly },
  );
  read_refusals = λ reader. (
    λ claim. (claim.given, claim.beside, λ p e. let so = claim.without p e in (laid_out.0 so.0, so.1)),
    λ (given, beside, without). record { given = given; beside = beside; without = λ p e. let so = without p e in (laid_out.1 so.0, so.1) },
  );
  packet_refusals = λ rule. (
    λ claim. (claim.given, claim.beside, claim.without),
    λ (given, beside, without). record { given = given; beside = beside; without = without },
  );
  one_rule = one_packet_rule;
}

pub values_of_eight : ValuesOfEight
unfolding reading-opened packet_hop records-opened next_hop rules toward bits bits_in last_bit number number_from digit steps_of cut last_step steps address_of spelled bit_length is_host ends_in_one parent above looked_at is_prefix same_bit kind_looked index_looked
values_of_eight = record {
  in_one = refl;
  in_three = refl;
  in_eight = refl;
  in_eight_and_more = λ o. refl;
  no_octets = refl;
  no_address = refl;
  ends_early = refl;
  wrong_start = refl;
  size_of_nine = refl;
  single_zero = refl;
  single_zero_and_more = λ o. refl;
  first_zero_and_more = λ o. refl;
  bad_record = refl;
  no_octets_at_anode = refl;
  for_itself = refl;
  for_achild = refl;
  for_nobody = refl;
  for_the_parent = refl;
  itself = λ o. refl;
  a_child = λ o. refl;
  nobody = λ o. refl;
  the_parent = λ o. refl;
}

pub wrong_of_eight : WrongOfEight
wrong_of_eight = record {
  taking_empty_ones = octets-reader_refuted;
  wanting_two_octets = two_octets-reader_refuted;
  with_empty_first = empty-first-reader_refuted;
  with_short_ones_empty = short-empty-reader_refuted;
  with_an_address_beside = beside-empty-reader_refuted;
  wanting_payload_room = payload-room_writer_refuted;
  that_passes_on = empty_goes_misnumbers;
  that_delivers = empty_delivered_misnumbers;
  with_not_given_first = not_given_first_misnumbers;
  that_refuses_late = empty_late_misnumbers;
  that_passes_on_in_atree = empty_goes_refuted;
  that_delivers_in_atree = empty_delivered_refuted;
  with_not_given_first_in_atree = not_given_first_refuted;
  that_refuses_late_in_atree = empty_late_refuted;
}
