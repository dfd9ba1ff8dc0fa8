-- What document 01 says of every writing into a lent buffer, whatever is written: the statements alone.
use Rattle.std.specs.Prelude.{◌≡◌, List, ◌++◌, ℕ, length, drop}
use Rattle.octets.specs.Octets.{WriteEffect}

-- "With any refusal .. every other number returned beside its own are 0, .. and no byte or word lent is changed."
abbrev pub RefusalLeaves : List ℕ → WriteEffect → Type 0
RefusalLeaves buffer w = (w.answer.refusal ≡ 0 → ⊥) → (w.answer.count ≡ 0) × (w.buffer ≡ buffer)

-- "Writing .. answers the number of octets written." "On success only the words or octets named are written."
abbrev pub SuccessWrites : List ℕ → List ℕ → WriteEffect → Type 0
SuccessWrites os buffer w = w.answer.refusal ≡ 0 → (w.answer.count ≡ length os) × (w.buffer ≡ os ++ drop (length os) buffer)
