-- The reading of a plan, at the definition that the code promises: what it lists is the tree of the plan's requests, and has demand 3. It rests
-- on the refusals of that definition, which the plan crate proves. Assumes nothing.
use Rattle.plan.specs.Plan.{planning}
use Rattle.plan.proofs.RefusalLaws.{plan-refusals}
use Rattle.halls.specs.HallsRead.{HallsRead}
use Rattle.halls.proofs.Reading.{halls_read_by}

pub halls_read : HallsRead planning
halls_read = halls_read_by planning plan-refusals
