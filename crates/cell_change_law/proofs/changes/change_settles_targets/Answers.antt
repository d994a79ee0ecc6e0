use Rattle.cell_change_law.proofs.Settled.{change_settles}
use Rattle.cell_change_law.proofs.changes.change_settles_targets.Goals as goal

pub returns : goal.returns
returns k = λ sources v c plan made sound h good p e. change_settles sources sound v h c good made e plan p
