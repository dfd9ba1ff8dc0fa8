-- The plan `R(R(H)H)`, computed. Assumes nothing.
use mathlib.Core.Path.{refl}
use Rattle.tree.proofs.Opened.{trees_opened}
use Rattle.plan.specs.Grammar.{items_text, plan_text}
use Rattle.plan.specs.Hall.{answers, hall}
use Rattle.halls.specs.Requests.{requests_in, requests}
use Rattle.halls.specs.Example.{small, SmallHall}

pub small-hall : SmallHall
unfolding small items_text plan_text requests_in requests answers hall trees_opened
small-hall = record { text = refl; asks = refl; listed = refl; grows = refl }
