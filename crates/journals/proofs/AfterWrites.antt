-- After a write: the block stands in the first erased slot, behind the written ones and before the other erased ones, so the journal comes to what
-- it came to before and then to the block's addresses. Assumes nothing.
use Rattle.std.specs.Prelude.{if◌then◌else◌}
use Prim.Native.Nat.{ℕ, suc, ◌/◌, ◌<◌}
use mathlib.Core.Path.{◌≡◌, refl, sym, ap, subst, ◌∙◌}
use mathlib.Core.Bool.{Bool, true, false, not}
use mathlib.Core.List.{List, [], ◌∷◌, ◌++◌, append_assoc, append-nil}
use lib.Dec.{leb}
use lib.ListN.{length}
use Rattle.octets.specs.Octets.{AreOctets}
use Rattle.block.specs.Block.{slot_bytes, block}
use Rattle.block.specs.Blocks.{AreWords, IsCount}
use Rattle.block.proofs.Theorem.{blocks}
use Rattle.journal.specs.Limits.{most_nodes}
use Rattle.journal.specs.Replay.{Replay, known, fault, is_next, taken, next, follow}
use Rattle.journal.specs.Slots.{slot_count, slots_of, replayed, written_slots}
use Rattle.journal.specs.Recovery.{recovering}
use Rattle.journal.specs.Writing.{with_slot, BlockEffect, writing}
use Rattle.journal.proofs.ReplayLaws.{follow-fault}
use Rattle.journals.specs.Slots.{IsLength, IsErased, AllErased, Right}
use Rattle.journals.specs.PowerCuts.{RecoversTo, AfterWrite}
use Rattle.journals.proofs.SlotTests.{IsSlot, block-is_block_of}
use Rattle.journals.proofs.SlotReplays.{holds-block}
use Rattle.journals.proofs.Recovering.{known-fault, right-replayed, recovers_known}
use Rattle.journals.proofs.Placing.{written_slots-right, first_erased_left, length-with_slot, octets-with_slot, replayed-with_slot}
use Rattle.journals.proofs.Placing.{written_slots-with_slot}
use Rattle.journals.proofs.Writing.{Sized, written, writing-end, write_end_without}

-- ---- addresses behind those known

taken-nodes : (xs : List ℕ) (a : ℕ) (zs : List ℕ) → taken xs a ≡ known zs → zs ≡ xs ++ (a ∷ [])
unfolding taken
taken-nodes xs a zs = go (is_next xs a) (leb most_nodes (length xs))
  where
    go : (right full : Bool) → (if not right then fault 17 else if full then fault 14 else known (xs ++ (a ∷ []))) ≡ known zs → zs ≡ xs ++ (a ∷ [])
    go false full e = absurd (known-fault (sym e))
    go true true e = absurd (known-fault (sym e))
    go true false e = cc

pub follow-nodes : (xs ys zs : List ℕ) → follow (known xs) ys ≡ known zs → zs ≡ xs ++ ys
unfolding follow next
follow-nodes xs [] zs e = let same : zs ≡ xs = cc in same ∙ sym (append-nil xs)
follow-nodes xs (a ∷ ys) zs e = go (taken xs a) refl e (λ more. follow-nodes more ys zs)
  where
    go : (r : Replay) → taken xs a ≡ r → follow r ys ≡ known zs
        → ((more : List ℕ) → follow (known more) ys ≡ known zs → zs ≡ more ++ ys)
        → zs ≡ xs ++ a ∷ ys
    go (known more) t f rest =
        rest more f ∙ ap (λ (l : List ℕ). l ++ ys) (taken-nodes xs a more t) ∙ append_assoc xs (a ∷ []) ys
    go (fault n) t f rest = absurd (known-fault (sym (sym (follow-fault n ys) ∙ f)))

-- ---- a write without a refusal

-- what it is: the block is put into the first erased slot
pub record Put (journal addresses nodes : List ℕ) : Type 0 where
  pub is_long : IsLength (length journal)
  pub counted : IsCount (length addresses)
  pub replays : replayed journal ≡ known nodes
  pub follows : follow (known nodes) addresses ≡ known (nodes ++ addresses)
  pub right : Right (slots_of journal) nodes
  pub erased : List ℕ
  pub rest : List (List ℕ)
  pub parts : slots_of journal ≡ right.written ++ erased ∷ rest
  pub first : IsErased erased
  pub free : AllErased rest
  pub slot : (writing journal addresses).answer.slot ≡ length right.written
  pub wrote : (writing journal addresses).journal ≡ with_slot (length right.written) (block addresses) journal

module _ (journal addresses : List ℕ) (all : AreOctets journal) (accepted : (writing journal addresses).answer.refusal ≡ 0) where
  pub put-accepted : (nodes : List ℕ) × Put journal addresses nodes
  put-accepted = go (write_end_without (writing-end journal addresses) accepted)
    where
      place : (nodes more : List ℕ) → Sized journal addresses → (e : replayed journal ≡ known nodes) → follow (known nodes) addresses ≡ known more
          → (erased : List ℕ) × (rest : List (List ℕ))
          × (slots_of journal ≡ (right-replayed journal all nodes e).written ++ erased ∷ rest) × IsErased erased × AllErased rest
          → writing journal addresses ≡ written (written_slots (slots_of journal)) addresses journal
          → Put journal addresses nodes
      place nodes more s e f (erased, rest, parts, first, free) same =
          let right = right-replayed journal all nodes e in
          let w = same ∙ ap (λ (k : ℕ). written k addresses journal) (written_slots-right journal nodes all right) in
          record {
            is_long = s.is_long;
            counted = s.counted;
            replays = e;
            follows = f ∙ ap (λ (l : List ℕ). known l) (follow-nodes nodes addresses more f);
            right = right;
            erased = erased;
            rest = rest;
            parts = parts;
            first = first;
            free = free;
            slot = ap (λ (x : BlockEffect). x.answer.slot) w ∙ (unfold written in refl);
            wrote = ap (λ (x : BlockEffect). x.journal) w ∙ (unfold written in refl);
          }

      go : Sized journal addresses × (nodes : List ℕ) × (more : List ℕ)
          × (replayed journal ≡ known nodes) × (follow (known nodes) addresses ≡ known more)
          × (written_slots (slots_of journal) < slot_count journal)
          × (writing journal addresses ≡ written (written_slots (slots_of journal)) addresses journal)
          → (nodes : List ℕ) × Put journal addresses nodes
      go (s, nodes, more, e, f, l, same) =
          (nodes, place nodes more s e f (first_erased_left journal nodes all (right-replayed journal all nodes e) l) same)

-- the slot of a block that was put, with anything in it that holds some addresses
module _ {journal addresses nodes : List ℕ} (all : AreOctets journal) (put : Put journal addresses nodes) where
  abbrev at : ℕ
  at = length put.right.written

  pub is_length-put : (new : List ℕ) → IsSlot new → IsLength (length (with_slot at new journal))
  is_length-put new s =
      subst IsLength (sym (length-with_slot journal put.is_long all put.right.written put.erased put.rest put.parts new s))
      put.is_long

  pub slot-block : IsSlot (block addresses)
  slot-block = let whole = blocks.whole addresses put.counted in record { size = whole.0; octets = whole.3 }

  pub replayed-put : AreWords addresses → replayed (with_slot at (block addresses) journal) ≡ known (nodes ++ addresses)
  replayed-put words =
      replayed-with_slot journal put.is_long all put.right.written put.erased put.rest put.parts (block addresses) slot-block
      put.right.holds put.right.replayed (holds-block (block-is_block_of addresses words put.counted)) put.free
      ∙ put.follows

  pub octets-put : AreOctets (with_slot at (block addresses) journal)
  octets-put =
      octets-with_slot journal put.is_long all put.right.written put.erased put.rest put.parts (block addresses) slot-block

  pub slot_count-put : slot_count (with_slot at (block addresses) journal) ≡ slot_count journal
  slot_count-put =
      ap (λ (k : ℕ). k / slot_bytes)
      (length-with_slot journal put.is_long all put.right.written put.erased put.rest put.parts (block addresses) slot-block)

  -- one slot more is written
  pub written_slots-put : AreWords addresses → written_slots (slots_of (with_slot at (block addresses) journal)) ≡ suc (written_slots (slots_of journal))
  written_slots-put words =
      written_slots-with_slot journal put.is_long all put.right.written put.erased put.rest put.parts (block addresses) slot-block
      put.right.holds (holds-block (block-is_block_of addresses words put.counted)) put.free
      ∙ ap suc (sym (written_slots-right journal nodes all put.right))

  pub recovers_put : AreWords addresses → RecoversTo recovering (with_slot at (block addresses) journal) (nodes ++ addresses)
  recovers_put words =
      recovers_known (with_slot at (block addresses) journal) (nodes ++ addresses) (is_length-put (block addresses) slot-block)
      (replayed-put words)

pub after_write_lem : AfterWrite writing recovering
after_write_lem journal addresses a =
    let (nodes, put) = put-accepted journal addresses a.octets a.accepted in (
      nodes,
      recovers_known journal nodes put.is_long put.replays,
      subst (λ (j : List ℕ). RecoversTo recovering j (nodes ++ addresses)) (sym put.wrote) (recovers_put a.octets put a.words),
    )
