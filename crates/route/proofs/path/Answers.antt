-- The hops up and down give the path's length, and the ways up and down make it.
use Rattle.std.proofs.Common.{Err, ◌≡◌, ◌<◌, ℕ, ◌+◌, ◌-◌, ◌++◌, length, take, drop, reverse, ap, ◌∙◌, arith, length-take, length-drop}
use Rattle.std.proofs.Math.Seq.{drop_at}
use Rattle.std.proofs.lemmas.Grind.{common_steps}
use Rattle.refusal.specs.declared.Refusal.TheVariants.{ZeroAddress}
use Rattle.address.specs.Steps.{steps}
use Rattle.address.specs.Address.{depth}
use Rattle.address.specs.Numbers.{IsAddress}
use Rattle.address.proofs.Steps.{depth_range}
use Rattle.route.specs.Path.{turn, path, refuse_path, listing}
use Rattle.route.specs.Counting.{upwards}
use Rattle.route.proofs.PathLaws.{hops-path}
use Rattle.route.proofs.Listing.{listing-zero-first, listing-zero-second, listing-short, listing-done, length-path-ways, path-upwards, framed}
use Rattle.route.proofs.path.Goals as goal
use Rattle.route.proofs.path.Goals.{After-from_residual, After-from_residual-in_err-to, After-count_ways-ways, Then-words-last, After-list_up, After-list_down}

from_is : (c : After-count_ways-ways) → c.in_ok-from.from.address.number ≡ c.args.first.number
from_is c = rw c.in_ok-from.was at c.new.ensures

to_is : (c : After-count_ways-ways) → c.in_ok-to.to.address.number ≡ c.args.second.number
to_is c = rw c.in_ok-to.was at c.new-2.ensures

first-address : (c : After-count_ways-ways) → IsAddress c.args.first.number
first-address c = record { some = omega (arith, from_is c); fits = omega arith }

second-address : (c : After-count_ways-ways) → IsAddress c.args.second.number
second-address c = record { some = omega (arith, to_is c); fits = omega arith }

up_is : (c : After-count_ways-ways)
    → length (turn (steps c.args.first.number) (steps c.args.second.number)) + c.count_ways-ways.result.up ≡ depth c.args.first.number
up_is c = rw (← from_is c, ← to_is c) c.count_ways-ways.ensures.up

down_is : (c : After-count_ways-ways)
    → length (turn (steps c.args.first.number) (steps c.args.second.number)) + c.count_ways-ways.result.down ≡ depth c.args.second.number
down_is c = rw (← from_is c, ← to_is c) c.count_ways-ways.ensures.down

whole : (c : After-count_ways-ways)
    → length (path c.args.first.number c.args.second.number) ≡ c.count_ways-ways.result.up + c.count_ways-ways.result.down + 1
whole c =
    let ways = c.count_ways-ways.result in
    length-path-ways ways.up ways.down (first-address c) (second-address c) (up_is c) (down_is c)

some : {n : ℕ} → 0 < n → n ≡ 0 → ⊥
some h e = omega arith

zero_first : (c : After-from_residual)
    → (c.from_residual.result ≡ Err ZeroAddress) × (listing c.args.first.number c.args.second.number c.args.words.now ≡ refuse_path 9 c.args.words.now)
zero_first c =
    let refused : c.from_residual.result ≡ Err ZeroAddress = grind (arith, common_steps) in
    (refused, listing-zero-first c.args.first.number c.args.second.number c.args.words.now c.in_err-from.ensures.0)

pub returns-in_err-from-clause-answer : goal.returns-in_err-from-clause-answer
unfolding refuse_path
returns-in_err-from-clause-answer c = let z = zero_first c in rw (z.0, z.1)

pub returns-in_err-from-clause-words : goal.returns-in_err-from-clause-words
unfolding refuse_path
returns-in_err-from-clause-words c = rw (zero_first c).1

zero_second : (c : After-from_residual-in_err-to)
    → (c.from_residual-in_err-to.result ≡ Err ZeroAddress)
    × (listing c.args.first.number c.args.second.number c.args.words.now ≡ refuse_path 9 c.args.words.now)
zero_second c =
    let a : c.in_ok-from.from.address.number ≡ c.args.first.number = c.in_ok-from.ensures in
    let refused : c.from_residual-in_err-to.result ≡ Err ZeroAddress = grind (arith, common_steps) in
    (refused, listing-zero-second c.args.first.number c.args.second.number c.args.words.now (λ e. omega arith) c.in_err-to.ensures.0)

pub returns-in_err-to-clause-answer : goal.returns-in_err-to-clause-answer
unfolding refuse_path
returns-in_err-to-clause-answer c = let z = zero_second c in rw (z.0, z.1)

pub returns-in_err-to-clause-words : goal.returns-in_err-to-clause-words
unfolding refuse_path
returns-in_err-to-clause-words c = rw (zero_second c).1

pub overflow_add-hops : goal.overflow_add-hops
overflow_add-hops c =
    let at = (goal.at.overflow_add-hops c).After-count_ways-ways in
    omega (arith, up_is at, down_is at, depth_range.most _ (first-address at), depth_range.most _ (second-address at))

short : (c : Then-words-last)
    → listing c.args.first.number c.args.second.number c.args.words.now ≡ refuse_path 10 c.args.words.now
short c =
    let at = (goal.at.Then-words-last c).After-count_ways-ways in
    listing-short _ _ _ (some (first-address at).some) (some (second-address at).some) (omega (arith, whole at))

pub returns-then-words-last-clause-answer : goal.returns-then-words-last-clause-answer
unfolding refuse_path
returns-then-words-last-clause-answer c = rw (short (goal.at.returns-then-words-last-clause-answer c).Then-words-last)

pub returns-then-words-last-clause-words : goal.returns-then-words-last-clause-words
unfolding refuse_path
returns-then-words-last-clause-words c = rw (short (goal.at.returns-then-words-last-clause-words c).Then-words-last)

length_up : (c : After-list_up) → length c.list_up.new.words ≡ c.count_ways-ways.result.up
length_up c = c.list_up.auto.words ∙ simp length-take (omega arith)

upward : (c : After-list_up) → c.list_up.new.words ≡ upwards c.count_ways-ways.result.up c.args.first.number
upward c =
    let long : length (take c.count_ways-ways.result.up c.args.words.now) ≡ c.count_ways-ways.result.up = simp length-take (omega arith) in
    c.list_up.ensures ∙ ap (λ (n : ℕ). upwards n c.args.first.number) long

downward : (c : After-list_down)
    → c.list_down.new.words ≡ reverse (upwards (c.count_ways-ways.result.down + 1) c.args.second.number)
downward c =
    let up = c.count_ways-ways.result.up in
    let down = c.count_ways-ways.result.down in
    let us = c.list_up.new.words in
    let rest = us ++ drop up c.args.words.now in
    let long : length (take (up + down + 1 - up) (drop up rest)) ≡ down + 1 =
    rw (drop_at us (drop up c.args.words.now) up (length_up (goal.at.After-list_down c).After-list_up)) (simp (length-take, length-drop) (omega arith)) in
    c.list_down.ensures ∙ ap (λ (n : ℕ). reverse (upwards n c.args.second.number)) long

pub returns-clause-answer : goal.returns-clause-answer
returns-clause-answer c =
    let at = (goal.at.returns-clause-answer c).After-count_ways-ways in
    let a = c.args.first.number in
    let d = c.args.second.number in
    rw (listing-done a d c.args.words.now (some (first-address at).some) (some (second-address at).some) (omega (arith, whole at)))
    (ap (λ (n : ℕ). record { refusal = 0; hops = n }) (omega (arith, hops-path a d, whole at)))

pub returns-clause-words : goal.returns-clause-words
returns-clause-words c =
    let at = (goal.at.returns-clause-words c).After-count_ways-ways in
    let listed = (goal.at.returns-clause-words c).After-list_up in
    let end = (goal.at.returns-clause-words c).After-list_down in
    let ways = c.count_ways-ways in
    let a = c.args.first.number in
    let d = c.args.second.number in
    let up = ways.result.up in
    let us = c.list_up.new.words in
    let vs = c.list_down.new.words in
    rw (listing-done a d c.args.words.now (some (first-address at).some) (some (second-address at).some) (omega (arith, whole at)))
    (framed c.args.words.now us vs up (up + ways.result.down + 1) (length_up listed) (omega arith)
    ∙ rw (whole at, path-upwards up ways.result.down (first-address at) (second-address at) (up_is at) (down_is at), ← upward listed, ← downward end))
