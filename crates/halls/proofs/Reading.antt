-- A rule for reading a plan that gives its refusals exactly as the request says lists the tree of the plan's requests: it ends in one of six
-- ways, and only where the plan fits, with no address too long, is the refusal 0, and only where one is too long is it 3. Assumes nothing.
use Prim.Native.Nat.{ℕ, ◌≤◌}
use mathlib.Core.Path.{◌≡◌, refl, sym, ap, ap₂, subst, ◌∙◌}
use mathlib.Core.List.{List, ◌++◌}
use native.Mathlib.Omega.{arith}
use lib.ListN.{length, drop}
use Rattle.tree.proofs.Theorem.{demand_3}
use Rattle.plan.specs.Limits.{most_bytes, most_nodes}
use Rattle.plan.specs.Grammar.{Items}
use Rattle.plan.specs.Hall.{nodes, hall, SomeTooLong}
use Rattle.plan.specs.Plan.{PlanEffect, refuse_plan}
use Rattle.plan.specs.Refusals.{PlanOf, PlanRefusals}
use Rattle.plan.proofs.Answers.{length-hall}
use Rattle.plan.proofs.RefusalLaws.{written, End, many_bytes, outside, many_nodes, too_long, no_room, fits, planning-end}
use Rattle.plan.proofs.OneRule.{only_end, one_rule}
use Rattle.halls.specs.Requests.{events}
use Rattle.halls.specs.Halls.{SomeRepliedThree}
use Rattle.halls.specs.HallsRead.{addresses_of, HallListed, HallsRead}
use Rattle.halls.proofs.Planned.{planned_halls}

-- the hall of a plan none of whose addresses is too long, as the tree of its requests
listed-hall : (plan : Items) (effect : PlanEffect) (words : List ℕ) → (SomeTooLong plan → ⊥) → effect.answer.nodes ≡ nodes plan
    → effect.words ≡ hall plan ++ drop (nodes plan) words → HallListed plan effect words
listed-hall plan effect words free number put =
    let tree = planned_halls.tree plan free in
    let many : nodes plan ≡ length (addresses_of plan) = sym (length-hall plan) ∙ ap length tree in
    record {
      number = number ∙ many;
      listed = put ∙ ap₂ (λ (l : List ℕ) (k : ℕ). l ++ drop k words) tree many;
      demand3 = demand_3 (events plan);
    }

module _ {text words : List ℕ} where
  end-listed : {e : PlanEffect} → End text words e → e.answer.refusal ≡ 0 → PlanOf text (λ plan. HallListed plan e words)
  unfolding refuse_plan written
  end-listed (many_bytes long) z = absurd (omega arith)
  end-listed (outside short p s) z = absurd (omega arith)
  end-listed (many_nodes short plan s many) z = absurd (omega arith)
  end-listed (too_long short plan s few long) z = absurd (omega arith)
  end-listed (no_room short plan s few none full) z = absurd (omega arith)
  end-listed (fits short plan s few none room) z = (plan, s, listed-hall plan (written plan words) words none refl refl)

  end_three : {e : PlanEffect} → End text words e → e.answer.refusal ≡ 3
      → (length text ≤ most_bytes) × PlanOf text (λ plan. (nodes plan ≤ most_nodes) × SomeRepliedThree plan)
  unfolding refuse_plan written
  end_three (many_bytes long) z = absurd (omega arith)
  end_three (outside short p s) z = absurd (omega arith)
  end_three (many_nodes short plan s many) z = absurd (omega arith)
  end_three (too_long short plan s few long) z = (short, (plan, s, (few, (planned_halls.too_long plan).0 long)))
  end_three (no_room short plan s few none full) z = absurd (omega arith)
  end_three (fits short plan s few none room) z = absurd (omega arith)

pub halls_read_by : (rule : List ℕ → List ℕ → PlanEffect) → PlanRefusals rule → HallsRead rule
unfolding refuse_plan
halls_read_by rule claim = record {
  without = λ text words. end-listed (ends text words);
  too_long = λ text words. (
    end_three (ends text words),
    λ (short, (plan, s, (few, some))).
        ap (λ (e : PlanEffect). e.answer.refusal)
        (only_end rule claim text words (too_long short plan s few ((planned_halls.too_long plan).1 some))),
  );
}
  where
    ends : (text words : List ℕ) → End text words (rule text words)
    ends text words = subst (End text words) (sym (one_rule rule claim text words)) (planning-end text words)
