-- The addresses of a slot as the code reads them, eight octets each. Assumes nothing.
use Prim.Native.Nat.{ℕ, zero, suc, ◌+◌, ◌*◌, ◌/◌, ◌%◌, ◌^◌, ◌≤◌, ◌<◌}
use mathlib.Core.Path.{◌≡◌, refl, ap, ap₂, ◌∙◌}
use mathlib.Core.List.{List, [], ◌∷◌, ◌++◌, map}
use native.Mathlib.Omega.{arith}
use lib.ListN.{length, take, drop, length-drop, length-append}
use lib.Seq.{take_at, drop_at, take-add, length-take-le}
use Rattle.std.proofs.lemmas.List.{drop-take}
use Rattle.std.specs.declared.slice.ChunksExact.{ChunksExact}
use Rattle.std.specs.Slice.Iter.{chunks_exact_rest, chunks_exact_size, chunks_exact_steps}
use Rattle.std.proofs.lemmas.Iterator.{YieldsList}
use Rattle.std.proofs.lemmas.Iterator.Splits.{YieldsList-from_shown_while}
use Rattle.octets.specs.Octets.{AreOctets, value}
use Rattle.octets.proofs.OctetLaws.{take-octets, drop-octets, value-mod}
use Rattle.block.specs.Block.{address_bytes, addresses_at, count_in, gathered, addresses_in}

-- so many pieces of eight octets from the front of some
pieces : ℕ → List ℕ → List (List ℕ)
pieces zero os = []
pieces (suc k) os = take address_bytes os ∷ pieces k (drop address_bytes os)

-- all that there are
pub all_pieces : List ℕ → List (List ℕ)
all_pieces os = pieces (length os / address_bytes) os

pieces-more : (piece os : List ℕ) → length piece ≡ address_bytes → all_pieces (piece ++ os) ≡ piece ∷ all_pieces os
unfolding all_pieces pieces
pieces-more piece os eight =
    let more : length (piece ++ os) / address_bytes ≡ suc (length os / address_bytes) = omega (arith, length-append piece os, eight) in
    ap (λ (k : ℕ). pieces k (piece ++ os)) more
    ∙ ap₂ (λ (x : List ℕ) (l : List ℕ). x ∷ pieces (length os / address_bytes) l) (take_at piece os address_bytes eight)
    (drop_at piece os address_bytes eight)

pieces-none : (os : List ℕ) → length os < address_bytes → length (all_pieces os) ≡ 0
unfolding all_pieces pieces
pieces-none os few = let none : length os / address_bytes ≡ 0 = omega (arith, few) in rw none refl

-- the library's pieces are these
pub pieces_road : (s : ChunksExact ℕ) → chunks_exact_size s ≡ address_bytes
    → YieldsList chunks_exact_steps (λ x. x.now) s (all_pieces (chunks_exact_rest s))
pieces_road s eight =
    YieldsList-from_shown_while chunks_exact_steps (λ x. x.now) (λ s. all_pieces (chunks_exact_rest s)) (λ s. chunks_exact_size s ≡ address_bytes)
    (λ s t size e. pieces-none (chunks_exact_rest s) (omega (arith, e.1.0, size)))
    (λ s x t size e. (
      e.0 ∙ size,
      ap all_pieces e.1.0 ∙ pieces-more x.now (chunks_exact_rest t) (e.1.1 ∙ size),
    ))
    s eight

gathered-pieces : (k : ℕ) (os : List ℕ) → AreOctets os → address_bytes * k ≤ length os
    → map (λ (piece : List ℕ). value piece % 2 ^ 64) (pieces k (take (address_bytes * k) os)) ≡ gathered k os
unfolding pieces gathered
gathered-pieces zero os all h = refl
gathered-pieces (suc k) os all h =
    let next : address_bytes * suc k ≡ address_bytes + address_bytes * k = omega arith in
    let front = take address_bytes os in
    let eight : length front ≡ address_bytes = length-take-le address_bytes os (omega (arith, h)) in
    let here : take address_bytes (take (address_bytes * suc k) os) ≡ front =
    ap (λ (n : ℕ). take address_bytes (take n os)) next
    ∙ ap (take address_bytes) (take-add address_bytes (address_bytes * k) os)
    ∙ take_at front (take (address_bytes * k) (drop address_bytes os)) address_bytes eight in
    let later : drop address_bytes (take (address_bytes * suc k) os) ≡ take (address_bytes * k) (drop address_bytes os) =
    ap (λ (n : ℕ). drop address_bytes (take n os)) next ∙ drop-take address_bytes (address_bytes * k) os in
    ap₂ (λ (x : ℕ) (l : List ℕ). x ∷ l)
    (ap (λ (l : List ℕ). value l % 2 ^ 64) here ∙ value-mod front (take-octets address_bytes os all) (omega (arith, eight)))
    (
    ap (λ (l : List ℕ). map (λ (piece : List ℕ). value piece % 2 ^ 64) (pieces k l)) later
    ∙ gathered-pieces k (drop address_bytes os) (drop-octets address_bytes os all) (omega (arith, h, length-drop address_bytes os))
    )

-- the addresses of a slot
pub addresses_by_pieces : (slot part : List ℕ) → AreOctets slot → addresses_at + address_bytes * count_in slot ≤ length slot
    → part ≡ take (address_bytes * count_in slot) (drop addresses_at slot)
    → map (λ (piece : List ℕ). value piece % 2 ^ 64) (all_pieces part) ≡ addresses_in slot
unfolding all_pieces addresses_in
addresses_by_pieces slot part all room e =
    let rest = drop addresses_at slot in
    let n = count_in slot in
    let fits : address_bytes * n ≤ length rest = omega (arith, room, length-drop addresses_at slot) in
    let many : length part / address_bytes ≡ n = omega (arith, ap length e, length-take-le (address_bytes * n) rest fits) in
    ap₂ (λ (k : ℕ) (l : List ℕ). map (λ (piece : List ℕ). value piece % 2 ^ 64) (pieces k l)) many e
    ∙ gathered-pieces n rest (drop-octets addresses_at slot all) fits
