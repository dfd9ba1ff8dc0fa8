-- A slot that is taken, test by test. Assumes nothing.
use Rattle.std.specs.Prelude.{if◌then◌else◌}
use Prim.Native.Nat.{ℕ}
use mathlib.Core.Path.{◌≡◌, refl}
use mathlib.Core.Bool.{Bool, true, false}
use mathlib.Core.List.{List}
use lib.ListN.{get_or}
use borrow.Author.Tests.{eq-eqb, ne_eqb}
use Rattle.block.specs.Block.{is_block, addresses_in}
use Rattle.journal.specs.Replay.{Replay, known, fault, follow}
use Rattle.journal.proofs.ReplayLaws.{follow-fault}
use Rattle.journal.specs.Slots.{is_erased, ends_erased, spoilt, entered, not_erased, slot_taken}

module _ (xs slot : List ℕ) where
  pub not_erased-gap : (gap : Bool) → gap ≡ true → not_erased gap (known xs) slot ≡ fault 17
  unfolding not_erased spoilt
  not_erased-gap gap e = rw e refl

  pub not_erased-torn : (gap : Bool) → gap ≡ false → get_or slot 511 0 ≡ 0xFF → not_erased gap (known xs) slot ≡ known xs
  unfolding not_erased entered ends_erased
  not_erased-torn gap e z = rw (e, eq-eqb (get_or slot 511 0) 0xFF z) refl

  pub not_erased_wrong : (gap : Bool) → gap ≡ false → (get_or slot 511 0 ≡ 0xFF → ⊥) → is_block slot ≡ false → not_erased gap (known xs) slot ≡ fault 17
  unfolding not_erased entered ends_erased spoilt
  not_erased_wrong gap e z b = rw (e, ne_eqb (get_or slot 511 0) 0xFF z, b) refl

  pub not_erased-block : (gap : Bool) → gap ≡ false → (get_or slot 511 0 ≡ 0xFF → ⊥) → is_block slot ≡ true
      → not_erased gap (known xs) slot ≡ follow (known xs) (addresses_in slot)
  unfolding not_erased entered ends_erased
  not_erased-block gap e z b = rw (e, ne_eqb (get_or slot 511 0) 0xFF z, b) refl

-- ---- a slot taken where an erased one may stand before it

pub slot_taken-erased : (gap : Bool) (r : Replay) (slot : List ℕ) → is_erased slot ≡ true → slot_taken gap r slot ≡ r
unfolding slot_taken
slot_taken-erased gap r slot e = rw e refl

pub slot_taken_other : (gap : Bool) (r : Replay) (slot : List ℕ) → is_erased slot ≡ false → slot_taken gap r slot ≡ not_erased gap r slot
unfolding slot_taken
slot_taken_other gap r slot e = rw e refl

pub slot_taken-fault : (gap : Bool) (n : ℕ) (slot : List ℕ) → slot_taken gap (fault n) slot ≡ fault n
unfolding slot_taken not_erased entered spoilt
slot_taken-fault gap n slot = go (is_erased slot) gap (ends_erased slot) (is_block slot)
  where
    go : (erased late torn right : Bool)
        → (if erased then fault n else if late then fault n else if torn then fault n else if right then follow (fault n) (addresses_in slot) else fault n) ≡ fault n
    go true late torn right = refl
    go false true torn right = refl
    go false false true right = refl
    go false false false true = follow-fault n (addresses_in slot)
    go false false false false = refl
