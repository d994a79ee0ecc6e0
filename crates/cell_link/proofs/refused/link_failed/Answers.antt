use Rattle.std.proofs.Common.{subst}
use Rattle.std.specs.Prelude.{Err}
use Rattle.cell_link.specs.Linked.{IsLinked}
use Rattle.cell_link.proofs.Misfits.{misfit_refused, unfit_there}
use Rattle.cell_link.proofs.refused.link_failed.Goals as goal

pub overflow-requires : goal.overflow-requires
overflow-requires c =
    unfit_there c.args.cell.now c.args.targets.now c.in-Overflow.entry
    (subst (λ fail. IsLinked c.args.cell.now c.args.targets.now (Err fail)) c.in-Overflow.is c.requires)

pub returns-in-Overflow : goal.returns-in-Overflow
returns-in-Overflow c =
    misfit_refused c.args.cell.now c.args.targets.now c.in-Overflow.entry c.overflow.result
    (subst (λ fail. IsLinked c.args.cell.now c.args.targets.now (Err fail)) c.in-Overflow.is c.requires) c.overflow.ensures
