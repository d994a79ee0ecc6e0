use Rattle.cell_plan.proofs.Using.{links_found}
use Rattle.cell_plan.proofs.laws.links_are_own.Goals as goal

pub returns : goal.returns
returns c = links_found
