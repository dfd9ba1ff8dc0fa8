-- The length of a journal, and its slots: the test says "1 to 128 slots of 512 bytes", and a journal of such a length is its slots one after the
-- other. Assumes nothing.
use Prim.Native.Nat.{ℕ, zero, suc, ◌*◌, ◌/◌, ◌%◌, ◌≤◌}
use mathlib.Core.Path.{◌≡◌, refl, sym, ap, ap₂, ◌∙◌}
use mathlib.Core.Bool.{true, ◌&&◌, and-eq-true_iff}
use mathlib.Core.List.{List, [], ◌∷◌, ◌++◌, append_assoc, append-nil}
use native.Mathlib.Omega.{arith}
use borrow.Author.Tests.{eq-eqb, eqb-true, le-leb, leb-true}
use lib.Dec.{eqb, leb}
use lib.ListN.{length, take, drop, length-append, length-drop, take-append-drop}
use lib.Seq.{take_at, drop_at, length-take-le}
use Rattle.octets.specs.Octets.{AreOctets}
use Rattle.octets.proofs.OctetLaws.{take-octets, drop-octets, append-octets}
use Rattle.block.specs.Block.{slot_bytes}
use Rattle.journal.specs.Limits.{most_slots}
use Rattle.journal.specs.Slots.{slots_in, slot_count, slots_of}
use Rattle.journal.specs.Recovery.{is_length}
use Rattle.journals.specs.Slots.{IsLength}
use Rattle.journals.specs.RoundTrip.{joined}
use Rattle.journals.proofs.SlotTests.{IsSlot, AreSlots}

-- ---- the length

pub is_length-right : (n : ℕ) → IsLength n → is_length n ≡ true
unfolding is_length
is_length-right n h =
    rw (
      eq-eqb (n % slot_bytes) 0 (omega (arith, h.whole)),
      le-leb slot_bytes n (omega (arith, h.whole, h.some)),
      le-leb n (most_slots * slot_bytes) (omega (arith, h.whole, h.few)),
    )

pub right-is_length : (n : ℕ) → is_length n ≡ true → IsLength n
unfolding is_length
right-is_length n e =
    let (two, few) = (and-eq-true_iff (eqb (n % slot_bytes) 0 && leb slot_bytes n) (leb n (most_slots * slot_bytes))).0 e in
    let (even, some) = (and-eq-true_iff (eqb (n % slot_bytes) 0) (leb slot_bytes n)).0 two in
    let r = eqb-true (n % slot_bytes) 0 even in
    let s = leb-true slot_bytes n some in
    let f = leb-true n (most_slots * slot_bytes) few in
    record { slots = n / slot_bytes; some = omega arith; few = omega arith; whole = omega arith }

-- ---- the slots

pub length-slots_in : (k : ℕ) (journal : List ℕ) → length (slots_in k journal) ≡ k
unfolding slots_in
length-slots_in zero journal = refl
length-slots_in (suc k) journal = ap suc (length-slots_in k (drop slot_bytes journal))

pub length-slots_of : (journal : List ℕ) → length (slots_of journal) ≡ slot_count journal
unfolding slots_of
length-slots_of journal = length-slots_in (slot_count journal) journal

slots-slots_in : (k : ℕ) (journal : List ℕ) → slot_bytes * k ≤ length journal → AreOctets journal → AreSlots (slots_in k journal)
unfolding slots_in
slots-slots_in zero journal long all = tt
slots-slots_in (suc k) journal long all = (
  record { size = length-take-le slot_bytes journal (omega arith); octets = take-octets slot_bytes journal all },
  slots-slots_in k (drop slot_bytes journal) (omega (arith, length-drop slot_bytes journal)) (drop-octets slot_bytes journal all),
)

-- of octets every slot is a whole one, be the length right or not
pub slots-slots_of : (journal : List ℕ) → AreOctets journal → AreSlots (slots_of journal)
unfolding slots_of
slots-slots_of journal all = slots-slots_in (slot_count journal) journal (omega arith) all

joined-slots_in : (k : ℕ) (journal : List ℕ) → length journal ≡ slot_bytes * k → joined (slots_in k journal) ≡ journal
unfolding slots_in joined
joined-slots_in zero [] long = refl
joined-slots_in zero (x ∷ xs) long = absurd (omega arith)
joined-slots_in (suc k) journal long =
    ap (λ (l : List ℕ). take slot_bytes journal ++ l) (joined-slots_in k (drop slot_bytes journal) (omega (arith, length-drop slot_bytes journal)))
    ∙ take-append-drop slot_bytes journal

pub joined-slots_of : (journal : List ℕ) → IsLength (length journal) → joined (slots_of journal) ≡ journal
unfolding slots_of
joined-slots_of journal h = joined-slots_in (slot_count journal) journal (omega (arith, h.whole))

-- ---- slots put together

pub length-joined : (slots : List (List ℕ)) → AreSlots slots → length (joined slots) ≡ slot_bytes * length slots
unfolding joined
length-joined [] s = refl
length-joined (slot ∷ slots) s = omega (arith, length-append slot (joined slots), s.0.size, length-joined slots s.1)

slots_in-joined : (slots : List (List ℕ)) → AreSlots slots → slots_in (length slots) (joined slots) ≡ slots
unfolding slots_in joined
slots_in-joined [] s = refl
slots_in-joined (slot ∷ slots) s =
    ap₂ (λ (l : List ℕ) (ls : List (List ℕ)). l ∷ ls) (take_at slot (joined slots) slot_bytes s.0.size)
    (ap (slots_in (length slots)) (drop_at slot (joined slots) slot_bytes s.0.size) ∙ slots_in-joined slots s.1)

pub slots_of-joined : (slots : List (List ℕ)) → AreSlots slots → slots_of (joined slots) ≡ slots
unfolding slots_of
slots_of-joined slots s = ap (λ (k : ℕ). slots_in k (joined slots)) count ∙ slots_in-joined slots s
  where
    count : slot_count (joined slots) ≡ length slots
    count = omega (arith, length-joined slots s)

pub slots_of-one : (slot : List ℕ) → IsSlot slot → slots_of slot ≡ slot ∷ []
unfolding joined
slots_of-one slot s = ap slots_of (sym (append-nil slot)) ∙ slots_of-joined (slot ∷ []) (s, tt)

pub octets-joined : (slots : List (List ℕ)) → AreSlots slots → AreOctets (joined slots)
unfolding joined
octets-joined [] s = tt
octets-joined (slot ∷ slots) s = append-octets slot (joined slots) s.0.octets (octets-joined slots s.1)

pub joined-append : (xs ys : List (List ℕ)) → joined (xs ++ ys) ≡ joined xs ++ joined ys
unfolding joined
joined-append [] ys = refl
joined-append (x ∷ xs) ys = ap (λ (l : List ℕ). x ++ l) (joined-append xs ys) ∙ sym (append_assoc x (joined xs) (joined ys))
