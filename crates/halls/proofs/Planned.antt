-- Every plan's requests, run from the root alone, are answered as its items are, so their tree is the plan's hall where no address is too long;
-- and demand 3 holds of every list of requests and settings. Assumes nothing.
use Prim.Native.Nat.{ℕ}
use mathlib.Core.Path.{◌≡◌, sym, ap, subst, ◌∙◌}
use mathlib.Core.Logic.{◌↔◌}
use mathlib.Core.List.{List, ◌∷◌, map, Memᴰ}
use Rattle.address.specs.Bits.{root}
use Rattle.node.specs.Node.{fresh, child_of, set_limit}
use Rattle.tree.specs.Tree.{bare_root, Reply, replied, grown, addresses, given_by, given_in}
use Rattle.tree.proofs.Growth.{sound-bare_root}
use Rattle.tree.proofs.Theorem.{demand_3}
use Rattle.plan.specs.Grammar.{Items}
use Rattle.plan.specs.Hall.{answers, hall, SomeTooLong}
use Rattle.plan.proofs.Answers.{length-hall}
use Rattle.halls.specs.Requests.{requests, events}
use Rattle.halls.specs.Halls.{reply_of, replies_to, SomeRepliedThree, PlannedHalls}
use Rattle.halls.proofs.Asking.{open_root}
use Rattle.halls.proofs.Running.{run}
use Rattle.halls.proofs.NoneRefused.{given_by-answers}
use Rattle.halls.proofs.TooLong.{three_refused}
use Rattle.halls.proofs.LetterLaws.{letters-plan, nodes-letters}

module _ (plan : Items) where
  replies-plan : replies_to plan ≡ map reply_of (answers (fresh root) plan)
  unfolding replies_to requests
  replies-plan = (run plan (fresh root) bare_root sound-bare_root open_root).answered

  too_long-plan : SomeTooLong plan ↔ SomeRepliedThree plan
  too_long-plan =
      subst (λ (rs : List Reply). SomeTooLong plan ↔ Memᴰ (replied 3 0) rs) (sym replies-plan) (three_refused plan (fresh root))

  tree-plan : (SomeTooLong plan → ⊥) → hall plan ≡ addresses (grown child_of set_limit (events plan))
  unfolding hall given_in replies_to
  tree-plan free =
      sym ((demand_3 (events plan)).nodes ∙ ap (λ (rs : List Reply). root ∷ given_by rs) replies-plan
      ∙ ap (λ (l : List ℕ). root ∷ l) (given_by-answers plan free))

pub planned_halls : PlannedHalls
planned_halls = record {
  text = letters-plan;
  answered = replies-plan;
  too_long = too_long-plan;
  tree = tree-plan;
  counted = λ plan. (nodes-letters plan, length-hall plan);
  demand3 = λ plan. demand_3 (events plan);
}
