-- Numbers as octets: "the address, most significant octet first".
use Rattle.std.specs.Prelude.{ℕ, zero, suc, ◌+◌, ◌*◌, ◌/◌, ◌%◌, ◌<◌, Bool, true, false, ◌&&◌, List, [], ◌∷◌, ◌++◌, length, drop, eqb}
use Rattle.std.specs.Prelude.{Result, Ok, Err}
use Rattle.refusal.specs.declared.Refusal.{Refusal}
use Rattle.refusal.specs.Refusal.{number_of}

-- the last k octets of n
unfoldable pub octets : ℕ → ℕ → List ℕ
octets zero n = []
octets (suc k) n = octets k (n / 256) ++ (n % 256 ∷ [])

-- the number n with some octets behind its own
unfoldable pub joined : ℕ → List ℕ → ℕ
joined n [] = n
joined n (o ∷ os) = joined (n * 256 + o) os

-- the number that some octets give
unfoldable pub value : List ℕ → ℕ
value os = joined 0 os

-- whatever stands in a buffer is an octet
abbrev pub AreOctets : List ℕ → Type 0
AreOctets [] = Unit {0}
AreOctets (o ∷ os) = (o < 256) × AreOctets os

-- the same octets
unfoldable pub same : List ℕ → List ℕ → Bool
same [] [] = true
same [] (y ∷ ys) = false
same (x ∷ xs) [] = false
same (x ∷ xs) (y ∷ ys) = eqb x y && same xs ys

-- What writing into a lent buffer answers: a refusal's number, 0 where it is done, and how many octets were written, 0 in a refusal.
pub record Written : Type 0 where
  pub refusal : ℕ
  pub count : ℕ

-- What writing into a lent buffer comes to: the answer, and what the buffer holds at the end.
pub record WriteEffect : Type 0 where
  pub answer : Written
  pub buffer : List ℕ

-- done, with so many octets
abbrev pub wrote : ℕ → Written
wrote k = record { refusal = 0; count = k }

-- the papers' numbers for each case of the answer
abbrev pub written_answer : Result ℕ Refusal → Written
written_answer (Ok k) = wrote k
written_answer (Err r) = record { refusal = number_of r; count = 0 }

-- "no byte or word lent is changed", and the number of octets written is 0
unfoldable pub refuse_writing : ℕ → List ℕ → WriteEffect
refuse_writing n buffer = record { answer = record { refusal = n; count = 0 }; buffer = buffer }

-- some octets in front, and behind them the buffer as it was: "On success only the words or octets named are written."
unfoldable pub write : List ℕ → List ℕ → WriteEffect
write os buffer = record { answer = wrote (length os); buffer = os ++ drop (length os) buffer }
