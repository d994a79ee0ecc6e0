use Rattle.std.proofs.Common.{[], subst}
use Rattle.cell_change.specs.Entering.{LooksBy}
use Rattle.cell_change.proofs.entering.read.Goals as goal

pub returns-in-Some : goal.returns-in-Some
returns-in-Some c =
    let looks = subst (LooksBy c.args.machine.now c.args.old.now) c.in-Some.is c.requires.looks in
    (looks.0, c.read.ensures [] looks.1)
