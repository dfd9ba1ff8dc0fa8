-- Slots taken one after the other: a fault stays, erased slots leave what is known, and torn slots and blocks come to their addresses one after
-- the other. Assumes nothing.
use Rattle.std.specs.Prelude.{if◌then◌else◌}
use Prim.Native.Nat.{ℕ}
use mathlib.Core.Path.{◌≡◌, refl, sym, ap, ap₂, subst, ◌∙◌}
use mathlib.Core.Bool.{Bool, true, false}
use mathlib.Core.List.{List, [], ◌∷◌, ◌++◌, append-nil, append_assoc}
use Rattle.block.specs.Block.{is_block, addresses_in}
use Rattle.block.specs.Blocks.{AreWords, IsBlockOf}
use Rattle.journal.specs.Replay.{Replay, fault, follow}
use Rattle.journal.specs.Slots.{is_erased, ends_erased, spoilt, entered, not_erased, slot_taken, gap_after, replay}
use Rattle.journal.proofs.ReplayLaws.{follow-fault, follow-append}
use Rattle.journals.specs.Slots.{IsErased, IsTorn, Holds, none, torn, block, AllErased}
use Rattle.journals.specs.Refusals.{NoneErased}
use Rattle.journals.proofs.SlotTests.{AreSlots, is_erased-erased, is_erased_other, is_block_of-ends, is_block_of-erased}
use Rattle.journals.proofs.SlotTests.{is_block_of-right, is_block_of-addresses, slot_taken-erased, gap_after-erased, gap_after_other}
use Rattle.journals.proofs.SlotTests.{slot_taken-torn, slot_taken-block}

-- ---- a fault stays

entered-fault : (n : ℕ) (slot : List ℕ) → entered (fault n) slot ≡ fault n
unfolding entered spoilt
entered-fault n slot = go (ends_erased slot) (is_block slot)
  where
    go : (t b : Bool) → (if t then fault n else if b then follow (fault n) (addresses_in slot) else fault n) ≡ fault n
    go true b = refl
    go false true = follow-fault n (addresses_in slot)
    go false false = refl

not_erased-fault : (gap : Bool) (n : ℕ) (slot : List ℕ) → not_erased gap (fault n) slot ≡ fault n
unfolding not_erased spoilt
not_erased-fault true n slot = refl
not_erased-fault false n slot = entered-fault n slot

slot_taken-fault : (gap : Bool) (n : ℕ) (slot : List ℕ) → slot_taken gap (fault n) slot ≡ fault n
unfolding slot_taken
slot_taken-fault gap n slot = go (is_erased slot)
  where
    go : (t : Bool) → (if t then fault n else not_erased gap (fault n) slot) ≡ fault n
    go true = refl
    go false = not_erased-fault gap n slot

pub replay-fault : (gap : Bool) (n : ℕ) (slots : List (List ℕ)) → replay gap (fault n) slots ≡ fault n
unfolding replay
replay-fault gap n [] = refl
replay-fault gap n (slot ∷ slots) =
    ap (λ (r : Replay). replay (gap_after gap slot) r slots) (slot_taken-fault gap n slot) ∙ replay-fault (gap_after gap slot) n slots

-- ---- one slot more in front

pub replay-none : (gap : Bool) (r : Replay) → replay gap r [] ≡ r
unfolding replay
replay-none gap r = refl

module _ (gap : Bool) (r : Replay) (slot : List ℕ) (slots : List (List ℕ)) where
  pub replay-erased : is_erased slot ≡ true → replay gap r (slot ∷ slots) ≡ replay true r slots
  unfolding replay
  replay-erased e = ap₂ (λ (g : Bool) (s : Replay). replay g s slots) (gap_after-erased gap r slot e) (slot_taken-erased gap r slot e)

  pub replay_other : is_erased slot ≡ false → {s : Replay} → slot_taken gap r slot ≡ s → replay gap r (slot ∷ slots) ≡ replay gap s slots
  unfolding replay
  replay_other e f = ap₂ (λ (g : Bool) (s : Replay). replay g s slots) (gap_after_other gap r slot e) f

-- ---- slots behind others

-- whether an erased slot was met
unfoldable pub gaps_after : Bool → List (List ℕ) → Bool
gaps_after gap [] = gap
gaps_after gap (slot ∷ slots) = gaps_after (gap_after gap slot) slots

pub replay-append : (gap : Bool) (r : Replay) (xs ys : List (List ℕ)) → replay gap r (xs ++ ys) ≡ replay (gaps_after gap xs) (replay gap r xs) ys
unfolding replay gaps_after
replay-append gap r [] ys = refl
replay-append gap r (slot ∷ xs) ys = replay-append (gap_after gap slot) (slot_taken gap r slot) xs ys

gaps_after_true : (slots : List (List ℕ)) → gaps_after true slots ≡ true
unfolding gaps_after
gaps_after_true [] = refl
gaps_after_true (slot ∷ slots) = ap (λ (g : Bool). gaps_after g slots) stays ∙ gaps_after_true slots
  where
    stays : gap_after true slot ≡ true
    stays = unfold gap_after in go (is_erased slot)
      where
        go : (t : Bool) → (if t then true else true) ≡ true
        go true = refl
        go false = refl

pub gaps_after-erased : (gap : Bool) (xs : List (List ℕ)) (slot : List ℕ) (ys : List (List ℕ)) → IsErased slot → gaps_after gap (xs ++ slot ∷ ys) ≡ true
unfolding gaps_after
gaps_after-erased gap [] slot ys e =
    ap (λ (g : Bool). gaps_after g ys) (gap_after-erased gap (fault 0) slot (is_erased-erased slot e)) ∙ gaps_after_true ys
gaps_after-erased gap (x ∷ xs) slot ys e = gaps_after-erased (gap_after gap x) xs slot ys e

pub gaps_after-none : (gap : Bool) (slots : List (List ℕ)) → AreSlots slots → NoneErased slots → gaps_after gap slots ≡ gap
unfolding gaps_after
gaps_after-none gap [] s out = refl
gaps_after-none gap (slot ∷ slots) s out =
    ap (λ (g : Bool). gaps_after g slots) (gap_after_other gap (fault 0) slot (is_erased_other slot s.0.size out.0))
    ∙ gaps_after-none gap slots s.1 out.1

-- ---- erased slots

pub replay-free : (gap : Bool) (r : Replay) (slots : List (List ℕ)) → AllErased slots → replay gap r slots ≡ r
replay-free gap r [] free = replay-none gap r
replay-free gap r (slot ∷ slots) free = replay-erased gap r slot slots (is_erased-erased slot free.0) ∙ replay-free true r slots free.1

-- ---- torn slots and blocks

pub holds-append : {xs ys : List (List ℕ)} {cs bs : List ℕ} → Holds xs cs → Holds ys bs → Holds (xs ++ ys) (cs ++ bs)
holds-append none k = k
holds-append (torn t h) k = torn t (holds-append h k)
holds-append {ys} {bs} (block {slot = slot} {slots = slots} {more = more} {addresses = addresses} b h) k =
    subst (Holds (slot ∷ (slots ++ ys))) (sym (append_assoc more addresses bs)) (block b (holds-append h k))

pub holds-torn : {slot : List ℕ} → IsTorn slot → Holds (slot ∷ []) []
holds-torn t = torn t none

pub holds-block : {xs slot : List ℕ} → IsBlockOf xs slot → Holds (slot ∷ []) xs
holds-block {xs} {slot} b = subst (Holds (slot ∷ [])) (append-nil xs) (block b none)

pub are_words_append : (xs ys : List ℕ) → AreWords xs → AreWords ys → AreWords (xs ++ ys)
are_words_append [] ys v w = w
are_words_append (x ∷ xs) ys v w = (v.0, are_words_append xs ys v.1 w)

pub holds-words : {slots : List (List ℕ)} {xs : List ℕ} → Holds slots xs → AreWords xs
holds-words none = tt
holds-words (torn t h) = holds-words h
holds-words (block {more = more} {addresses = addresses} b h) = are_words_append more addresses b.words (holds-words h)

pub holds-none_erased : {slots : List (List ℕ)} {xs : List ℕ} → Holds slots xs → NoneErased slots
holds-none_erased none = tt
holds-none_erased (torn t h) = (t.0, holds-none_erased h)
holds-none_erased (block b h) = (is_block_of-erased b, holds-none_erased h)

-- they come to their addresses, one after the other
pub replay-holds : {slots : List (List ℕ)} {xs : List ℕ} → Holds slots xs → AreSlots slots → (r : Replay) → replay false r slots ≡ follow r xs
replay-holds none s r = unfold replay follow in refl
replay-holds (torn {slot = slot} {slots = slots} t h) s r =
    let some = is_erased_other slot s.0.size t.0 in
    replay_other false r slot slots some (slot_taken-torn false r slot some refl t.1) ∙ replay-holds h s.1 r
replay-holds (block {slot = slot} {slots = slots} {more = more} {addresses = addresses} b h) s r =
    let some = is_erased_other slot s.0.size (is_block_of-erased b) in
    replay_other false r slot slots some
    (slot_taken-block false r slot some (is_block_of-ends b) refl (is_block_of-right b) ∙ ap (follow r) (is_block_of-addresses b))
    ∙ replay-holds h s.1 (follow r more) ∙ sym (follow-append r more addresses)

-- then erased ones
pub replay-written : {written : List (List ℕ)} {xs : List ℕ} (erased : List (List ℕ)) → Holds written xs → AreSlots written → AllErased erased
    → (r : Replay) → replay false r (written ++ erased) ≡ follow r xs
replay-written {written} erased h s free r =
    replay-append false r written erased ∙ replay-free (gaps_after false written) (replay false r written) erased free ∙ replay-holds h s r
