-- No refusal has the number 0, which says that it is done, and no two have the same. Assumes nothing.
use Rattle.std.specs.Prelude.{◌≡◌, ℕ, if◌then◌else◌, eqb}
use Rattle.std.proofs.Common.{refl, sym, ap, ◌∙◌, arith}
use Rattle.refusal.specs.declared.Refusal.{Refusal}
use Rattle.refusal.specs.declared.Refusal.TheVariants.{BadRecord, HostAsked, TooLong, EndsEarly, WrongStart, WrongSize, ChildNotGiven, OtherPrefix, ZeroAddress, NoRoom, WrongLength, BadPlan, TooMany, AtLimit, EmptyPayload, BadJournal}
use Rattle.refusal.specs.Refusal.{number_of}
use Rattle.refusal.specs.Numbers.{Numbered}

-- the refusal that a number is of
of_number : ℕ → Refusal
of_number n =
    if eqb n 1 then BadRecord
    else if eqb n 2 then HostAsked
    else if eqb n 3 then TooLong
    else if eqb n 4 then EndsEarly
    else if eqb n 5 then WrongStart
    else if eqb n 6 then WrongSize
    else if eqb n 7 then ChildNotGiven
    else if eqb n 8 then OtherPrefix
    else if eqb n 9 then ZeroAddress
    else if eqb n 10 then NoRoom
    else if eqb n 12 then WrongLength
    else if eqb n 13 then BadPlan
    else if eqb n 14 then TooMany
    else if eqb n 15 then AtLimit
    else if eqb n 16 then EmptyPayload
    else BadJournal

back : (r : Refusal) → of_number (number_of r) ≡ r
unfolding of_number
back BadRecord = refl
back HostAsked = refl
back TooLong = refl
back EndsEarly = refl
back WrongStart = refl
back WrongSize = refl
back ChildNotGiven = refl
back OtherPrefix = refl
back ZeroAddress = refl
back NoRoom = refl
back WrongLength = refl
back BadPlan = refl
back TooMany = refl
back AtLimit = refl
back EmptyPayload = refl
back BadJournal = refl

pub some : (r : Refusal) → number_of r ≡ 0 → ⊥
some BadRecord e = omega (arith, e)
some HostAsked e = omega (arith, e)
some TooLong e = omega (arith, e)
some EndsEarly e = omega (arith, e)
some WrongStart e = omega (arith, e)
some WrongSize e = omega (arith, e)
some ChildNotGiven e = omega (arith, e)
some OtherPrefix e = omega (arith, e)
some ZeroAddress e = omega (arith, e)
some NoRoom e = omega (arith, e)
some WrongLength e = omega (arith, e)
some BadPlan e = omega (arith, e)
some TooMany e = omega (arith, e)
some AtLimit e = omega (arith, e)
some EmptyPayload e = omega (arith, e)
some BadJournal e = omega (arith, e)

pub one : (r s : Refusal) → number_of r ≡ number_of s → r ≡ s
one r s e = sym (back r) ∙ ap of_number e ∙ back s

pub numbered : Numbered
numbered = record { some = some; one = one }
