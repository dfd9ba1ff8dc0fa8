-- The lines of the page Larger, each from the record that carries it.
use Prim.Native.Nat.{ℕ}
use mathlib.Core.Path.{◌≡◌, refl, ap, ◌∙◌}
use mathlib.Core.List.{List, [], ◌∷◌, ◌++◌, map, map-append}
use native.Mathlib.Omega.{arith}
use lib.ListN.{length, drop}
use Rattle.address.specs.Bits.{root}
use Rattle.address.specs.declared.Kind.TheVariants.{Host}
use Rattle.node.specs.Node.{child_of, set_limit}
use Rattle.tree.specs.Tree.{request, Event, asking, grown}
use Rattle.plan.specs.Hall.{hall}
use Rattle.plan.specs.Plan.{refuse_plan}
use Rattle.plan.specs.Largest.{hosts, routers, largest_with, largest, too_large}
use Rattle.plan.proofs.Largest.{largest-plan, long_texts}
use Rattle.plan.proofs.WrongRules.{within-right, only_these_limits}
use Rattle.halls.specs.Requests.{requests}
use Rattle.halls.proofs.Planned.{planned_halls}
use Rattle.halls.proofs.Largest.{largest-hall}
use Rattle.journal.specs.Recovery.{refuse_recovery}
use Rattle.journal.specs.Writing.{refuse_placing}
use Rattle.journal.proofs.RecoverLaws.{recovering-unfit}
use Rattle.journals.specs.Replays.{IsNextChild}
use Rattle.journals.proofs.Full.{full_journals}
use Rattle.journals.proofs.OtherNodes.{other_nodes_excluded}
use Rattle.journals.proofs.WrongRecoveries.{wrong_recoveries_excluded}
use Rattle.claims.specs.Larger.{nodes_in, nodes_of_plan, LargePlans, LargeJournals, NoOtherLimits}

its_hall : hall largest ≡ nodes_of_plan largest
its_hall = planned_halls.tree largest largest-plan.none_too_long

pub large_plans : LargePlans
unfolding hosts routers largest_with refuse_plan
large_plans = record {
  no_host = refl;
  one_host = λ k. refl;
  no_router = λ group behind. refl;
  one_router = λ k group behind. refl;
  largest = λ behind. refl;
  read = λ words room.
      largest-plan.read words room
      ∙ ap (λ (l : List ℕ). record { answer = record { refusal = 0; nodes = 4096; place = 0 }; words = l ++ drop 4096 words }) its_hall;
  no_room = largest-plan.no_room;
  one_more = largest-plan.one_more;
  its_tree = largest-hall.counted;
  tree_of_one_more = largest-hall.one_more;
  bytes = long_texts.bytes;
  never_read = long_texts.never_read;
  nonsense = long_texts.nonsense;
  nonsense_over = long_texts.nonsense_over;
}

-- the request for the host behind gives an address
last_event : map asking (requests too_large) ≡ map asking (requests largest) ++ (asking (request root Host) ∷ [])
last_event = ap (map asking) largest-hall.last_asked ∙ map-append asking (requests largest) (request root Host ∷ [])

next_one_lem : (a : ℕ) × IsNextChild (grown child_of set_limit (map asking (requests largest))) a
next_one_lem =
    full_journals.next_one (map asking (requests largest)) (asking (request root Host))
    (omega (arith, largest-hall.counted, largest-hall.one_more, ap (λ (es : List Event). length (nodes_in es)) last_event))

pub large_journals : LargeJournals
unfolding refuse_recovery refuse_placing
large_journals = record {
  asks_first = recovering-unfit;
  unfit_exactly = full_journals.unfit_exactly;
  every_hall = full_journals.every_hall;
  largest_recovered = full_journals.every_hall (map asking (requests largest)) (omega (arith, largest-hall.counted));
  writer_refuses = full_journals.writer_refuses;
  recovery_refuses = full_journals.recovery_refuses;
  one_too_many = full_journals.one_too_many;
  next_one = next_one_lem;
}

pub no_other_limits : NoOtherLimits
no_other_limits = record {
  of_these = within-right;
  of_others = only_these_limits;
  holding_these = other_nodes_excluded.own_nodes;
  holding_others = other_nodes_excluded.other_nodes (map asking (requests largest)) next_one_lem.0 largest-hall.counted next_one_lem.1;
  wanting_these = wrong_recoveries_excluded.own_words;
  wanting_others = wrong_recoveries_excluded.other_words;
}
