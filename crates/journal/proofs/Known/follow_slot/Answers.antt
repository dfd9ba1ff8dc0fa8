-- `journal::Known::follow_slot` meets its contract: the pieces of eight octets are the addresses.
use mathlib.Core.Path.{◌≡◌, ap, ◌∙◌}
use mathlib.Core.List.{List, map}
use native.Mathlib.Omega.{arith}
use lib.ListN.{take, drop}
use Prim.Native.Nat.{ℕ, ◌*◌, ◌%◌, ◌^◌}
use Rattle.std.proofs.Common.{rules, tests}
use Rattle.std.proofs.lemmas.Iterator.{YieldsList-from_map}
use Rattle.std.proofs.lemmas.Iterator.Consumers.{YieldsList-at}
use Rattle.std.specs.Slice.Iter.{chunks_exact_rest}
use native.Mathlib.Nat.{add-sub_cancel_left}
use Rattle.octets.specs.Octets.{value}
use Rattle.octets.proofs.OctetLaws.{all_octets}
use Rattle.block.specs.Block.{address_bytes, addresses_at, count_in}
use Rattle.journal.proofs.ReadLaws.{all_pieces, pieces_road, addresses_by_pieces}
use Rattle.journal.specs.Replay.{known, follow}
use Rattle.journal.specs.Recovery.{known_answer}
use Rattle.journal.specs.Follows.{Follows}
use Rattle.journal.proofs.FollowLaws.{runs}
use Rattle.journal.proofs.Known.follow_slot.Goals as goal

pub returns-clause-follows : goal.returns-clause-follows
returns-clause-follows c =
    let at = c.args.self.now in
    let slot = c.args.slot.now in
    let (size, few) = c.requires in
    let all = all_octets slot (λ i. omega (arith, c.type_inv.slot i)) in
    let part : chunks_exact_rest c.chunks_exact.result ≡ take (address_bytes * count_in slot) (drop addresses_at slot) =
    c.chunks_exact.ensures.rest ∙ ap (λ (k : ℕ). take k (drop addresses_at slot)) (add-sub_cancel_left addresses_at (address_bytes * count_in slot)) in
    let same = addresses_by_pieces slot (chunks_exact_rest c.chunks_exact.result) all (omega (arith, size, few)) part in
    let addresses : List ℕ = map (λ (piece : List ℕ). value piece % 2 ^ 64) (all_pieces (chunks_exact_rest c.chunks_exact.result)) in
    let followed : Follows (follow (known (take at.nodes at.words.now)) addresses) at.nodes at.words.now c.follow.new.self.words.now
    (known_answer c.follow.result c.follow.new.self.nodes) =
    c.follow.ensures.follows addresses
    (runs
    (YieldsList-from_map _ (λ (piece : List ℕ). value piece % 2 ^ 64) (YieldsList-at c.map-addresses.ensures.source (pieces_road c.chunks_exact.result c.chunks_exact.ensures.size))
    c.map-addresses.ensures.closure (λ x r q k. search (rules, tests)))) in
    rw same at followed
