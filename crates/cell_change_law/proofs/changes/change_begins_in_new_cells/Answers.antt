use Rattle.cell_change_law.proofs.Begins.{routines_begin}
use Rattle.cell_change_law.proofs.changes.change_begins_in_new_cells.Goals as goal

pub returns : goal.returns
returns k = λ sources v c plan sound h good e. routines_begin sources sound v h c good plan e
