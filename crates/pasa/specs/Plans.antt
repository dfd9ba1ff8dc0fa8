-- The answer about a plan as a struct of plain numbers: the same numbers, in fields of the same names.
use Rattle.plan.specs.Plan.{Planned}
use Rattle.pasa.specs.declared.plans.PasaPlan.{PasaPlan}

unfoldable pub pasa_plan : Planned → PasaPlan
pasa_plan p = record { nodes = p.nodes; place = p.place; refusal = p.refusal }
