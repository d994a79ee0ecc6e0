use Rattle.std.proofs.Common.{ap, ◌∙◌, ℕ, List}
use Rattle.cell_world.specs.Change.{old_of, garbage_after}
use Rattle.cell_world.specs.Commands.UnloadCommand.{without_cells}
use Rattle.cell_change_law.proofs.Ending.{swept_is, without_none}
use Rattle.cell_change_law.proofs.changes.change_sweeps.Goals as goal

pub returns-clause-purges : goal.returns-clause-purges
returns-clause-purges k = λ c plan last some. (swept_is last (old_of c) some).1

pub returns-clause-removed : goal.returns-clause-removed
returns-clause-removed k = λ c plan last some. (swept_is last (old_of c) some).0

pub returns-clause-none : goal.returns-clause-none
returns-clause-none k = λ c plan last none. ap (λ (ns : List ℕ). without_cells last (garbage_after ns last)) none ∙ without_none last
