-- An order that has the last byte before its end leaves, cut behind that byte, a slot that is no torn one: it is no right block, which is 17, or it
-- is one, with an address more. So the orders that outlive a power cut are exactly those that end in the last byte. Assumes nothing.
use Prim.Native.Nat.{ℕ, suc, ◌<◌}
use mathlib.Core.Path.{◌≡◌, refl, sym, ap, ◌∙◌}
use mathlib.Core.Bool.{Bool, true, false}
use mathlib.Core.List.{List, [], ◌∷◌}
use native.Mathlib.Omega.{arith}
use native.Mathlib.Decide.{ℕ_discrete}
use lib.Dec.{lit<}
use lib.ListN.{length, take, get_or, length-append}
use lib.Seq.{get_or-take, length-take-le}
use Rattle.octets.specs.Octets.{AreOctets}
use Rattle.block.specs.Block.{slot_bytes, block, is_block, addresses_in}
use Rattle.block.specs.Blocks.{IsBlockOf}
use Rattle.block.proofs.Theorem.{blocks}
use Rattle.journal.specs.Replay.{known, among, before, is_next, taken, next, follow, bare}
use Rattle.journal.specs.Slots.{slots_of, replayed}
use Rattle.journal.specs.Recovery.{recovering}
use Rattle.journal.specs.Writing.{writing}
use Rattle.journals.specs.Slots.{EndsErased, Fault, no_block}
use Rattle.journals.specs.PowerCuts.{RecoversTo, Accepts, PowerCut}
use Rattle.journals.specs.Orders.{IsOrder, Orders}
use Rattle.journals.proofs.SlotTests.{is_block-none}
use Rattle.journals.proofs.SlotReplays.{holds-block}
use Rattle.journals.proofs.Lengths.{length-slots_of}
use Rattle.journals.proofs.Recovering.{known-fault, replayed-fault, recovers_known, known_recovers}
use Rattle.journals.proofs.Placing.{slot-old, slots_of-with_slot, replayed-with_slot}
use Rattle.journals.proofs.Writing.{writing-accepts}
use Rattle.journals.proofs.AfterWrites.{follow-nodes, Put, put-accepted}
use Rattle.journals.proofs.Cuts.{stored_there, slot_cut, journal_cut, slot-cut, journal-cut, octets-cut, power-cut-last}
use Rattle.journals.proofs.Erased.{erased_journal, octets-erased, is_length-erased, replayed-erased, written_slots-erased, slot_count-erased}

-- ---- a slot whose last byte is written

module _ {journal addresses nodes : List ℕ} (all : AreOctets journal) (put : Put journal addresses nodes) (places : List ℕ)
    (ends : EndsErased (slot_cut all put places) → ⊥) where
  abbrev begun : List (List ℕ)
  begun = put.right.written

  abbrev cut : List ℕ
  cut = slot_cut all put places

  -- a right block has an address more
  not-block : IsBlockOf (addresses_in cut) cut → replayed (journal_cut all put places) ≡ known nodes → ⊥
  not-block b e =
      let same =
      sym (
      ap replayed (journal-cut all put places)
      ∙ replayed-with_slot journal put.is_long all begun put.erased put.rest put.parts cut (slot-cut all put places) put.right.holds
      put.right.replayed (holds-block b) put.free
      )
      ∙ e in
      omega (arith, ap length (follow-nodes nodes (addresses_in cut) nodes same), length-append nodes (addresses_in cut), b.count.0)

  -- and any other slot is 17
  no_block_lem : is_block cut ≡ false → Fault (slots_of (journal_cut all put places)) 17
  no_block_lem e =
      no_block begun cut put.rest put.right.addresses nodes
      (
      ap slots_of (journal-cut all put places)
      ∙ slots_of-with_slot journal put.is_long all begun put.erased put.rest put.parts cut (slot-cut all put places)
      )
      put.right.holds put.right.replayed ends (is_block-none cut e) refl

  not-before : RecoversTo recovering (journal_cut all put places) nodes → ⊥
  not-before r = go (is_block cut) refl (known_recovers (journal_cut all put places) nodes r).1
    where
      go : (b : Bool) → is_block cut ≡ b → replayed (journal_cut all put places) ≡ known nodes → ⊥
      go true b e = not-block ((blocks.exactly cut (slot-cut all put places).octets).0 b) e
      go false b e = known-fault (sym e ∙ replayed-fault (journal_cut all put places) (octets-cut all put places) 17 (no_block_lem b))

-- ---- one write

abbrev pub one : List ℕ
one = erased_journal 1

-- the root's first router
abbrev pub router : List ℕ
router = 0b10 ∷ []

pub follow-router : follow bare router ≡ known (1 ∷ 2 ∷ [])
unfolding follow next taken is_next among before
follow-router = refl

accepts-one : Accepts writing one router
accepts-one = record {
  octets = octets-erased 1;
  words = (lit< tt, tt);
  accepted =
      writing-accepts one router (1 ∷ []) (1 ∷ 2 ∷ [])
      (record { is_long = is_length-erased 1 (omega arith) (omega arith); counted = (omega arith, omega arith) }) (replayed-erased 1) follow-router
      (omega (arith, written_slots-erased 1, slot_count-erased 1, length-slots_of one));
}

-- ---- the last byte too early

module _ (order : List ℕ) (step : ℕ) (early : step < 511) (within : step < length order) (last : get_or order step 0 ≡ 511) where
  abbrev first : List ℕ
  first = take (suc step) order

  -- the block's last byte stands there
  ends_early : {journal addresses nodes : List ℕ} (all : AreOctets journal) (put : Put journal addresses nodes)
      → EndsErased (slot_cut all put first) → ⊥
  ends_early {journal} {addresses} all put e =
      let there =
      stored_there (block addresses) first put.erased step 511 (omega (arith, length-take-le (suc step) order (omega arith)))
      (get_or-take (suc step) order step 0 (omega arith) ∙ last)
      (omega (arith, (slot-old journal put.is_long all put.right.written put.erased put.rest put.parts).size)) in
      omega (arith, sym e ∙ there ∙ (blocks.whole addresses put.counted).2)

  -- whatever stands behind it
  pub early_refuted : PowerCut order writing recovering → ⊥
  early_refuted claim =
      let (nodes, put) = put-accepted one router accepts-one.octets accepts-one.accepted in
      not-before accepts-one.octets put first (ends_early accepts-one.octets put)
      (claim.before one router nodes (suc step) accepts-one (recovers_known one nodes put.is_long put.replays) (omega arith))

-- ---- every order

last_is_last : (order : List ℕ) → IsOrder order → PowerCut order writing recovering → get_or order 511 0 ≡ 511
last_is_last order h claim = go (ℕ_discrete (get_or order 511 0) 511) (h.every 511 (omega arith))
  where
    go : Dec (get_or order 511 0 ≡ 511) → (step : ℕ) × (step < slot_bytes) × (get_or order step 0 ≡ 511) → get_or order 511 0 ≡ 511
    go (yes e) found = e
    go (no ne) (step, l, e) = absurd (other (ℕ_discrete step 511))
      where
        other : Dec (step ≡ 511) → ⊥
        other (yes same) = ne (ap (λ (k : ℕ). get_or order k 0) (sym same) ∙ e)
        other (no differ) = early_refuted order step (omega arith) (omega (arith, h.steps)) e claim

pub orders : Orders
orders = record { exactly = λ order h. (last_is_last order h, power-cut-last order h) }
