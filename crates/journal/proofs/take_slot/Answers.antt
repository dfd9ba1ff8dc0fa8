-- `journal::take_slot` meets its contract: each exit is one law of `step`.
use Prim.Native.Nat.{ℕ, ◌+◌, ◌*◌, ◌-◌}
use Rattle.std.proofs.Common.{rules, Ok, Err}
use Rattle.std.proofs.Math.ListN.{drop_of_length-le}
use Rattle.std.proofs.lemmas.List.{take_rest}
use borrow.Rule.Slice.PartMut.{put_mid}
use mathlib.Core.List.{List, ◌++◌, append-nil}
use mathlib.Core.Path.{◌≡◌, refl, sym, ap, ◌∙◌}
use native.Mathlib.Omega.{arith}
use lib.ListN.{length, take, drop, replicate}
use Rattle.block.specs.Block.{slot_bytes}
use Rattle.journal.specs.Slots.{is_erased}
use Rattle.refusal.proofs.Numbers.{numbered}
use Rattle.journal.specs.Recovery.{known_answer}
use Rattle.journal.proofs.StepLaws.{step_says, step-erased, step-fault, step-known}
use Rattle.journal.proofs.take_slot.Goals as goal

-- words from the first on are all of them
length-same : (ws vs : List ℕ) → ws ≡ vs → length ws ≡ length vs
length-same ws vs e = ap length e

length-part : (ws vs : List ℕ) → ws ≡ vs → length (take (length ws - 0) (drop 0 ws)) ≡ length vs
length-part ws vs e = ap length (take_rest ws 0 ∙ e)

put_whole : (ws part : List ℕ) → put_mid 0 (length ws - 0) ws part ≡ part
put_whole ws part = ap (λ (l : List ℕ). part ++ l) (drop_of_length-le ws (omega arith)) ∙ append-nil part

ruleset wholes = (put_whole)

all_zeros : {new filled : List ℕ} {k n : ℕ} → filled ≡ replicate k 0 → k ≡ n → new ≡ filled → new ≡ replicate n 0
all_zeros e f g = g ∙ e ∙ ap (λ (k : ℕ). replicate k 0) f

pub returns-then-all_are : goal.returns-then-all_are
unfolding is_erased
returns-then-all_are c =
    let at = c.args in
    let begin = slot_bytes * at.slot in
    let whole : begin + slot_bytes - begin ≡ slot_bytes = omega arith in
    let e =
    step-erased at.journal.now at.slot at.written at.nodes at.words.now (omega arith) (omega arith) (omega arith) _
    (ap (λ (k : ℕ). take k (drop begin at.journal.now)) whole) (sym c.all_are.ensures ∙ c.if-all_are.true) in
    step_says _ e

pub returns-in-Ok : goal.returns-in-Ok
unfolding is_erased
returns-in-Ok c =
    let at = c.args in
    let begin = slot_bytes * at.slot in
    let whole : begin + slot_bytes - begin ≡ slot_bytes = omega arith in
    let e =
    step-known at.journal.now at.slot at.written at.nodes at.words.now (omega arith) (omega arith) (omega arith) _ _ (known_answer (Ok c.in-Ok.field-0) c.enter.new.self.nodes)
    (ap (λ (k : ℕ). take k (drop begin at.journal.now)) whole) (sym c.all_are.ensures ∙ c.if-all_are.false)
    c.in-Ok.ensures.follows refl in
    let says = step_says _ e in
    (says.0, search rules ∙ says.1)

pub returns-in-Err : goal.returns-in-Err
unfolding is_erased
returns-in-Err c =
    let at = c.args in
    let begin = slot_bytes * at.slot in
    let whole : begin + slot_bytes - begin ≡ slot_bytes = omega arith in
    let e =
    step-fault at.journal.now at.slot at.written at.nodes at.words.now (omega arith) (omega arith) (omega arith) _ _ (known_answer (Err c.in-Err.refusal) c.enter.new.self.nodes)
    (ap (λ (k : ℕ). take k (drop begin at.journal.now)) whole) (sym c.all_are.ensures ∙ c.if-all_are.false)
    c.in-Err.ensures.follows (numbered.some c.in-Err.refusal) in
    let says = step_says _ e in
    let zeros = c.fill.ensures.after (search rules) in
    (says.0, all_zeros zeros (search (rules, length-same, length-part) ∙ c.enter.ensures.follows.same) (search (rules, wholes)) ∙ says.1)
