use Rattle.cell_machine.proofs.States.{has_cell}
use Rattle.cell_view.proofs.CellLines.{names_told}
use Rattle.cell_view.proofs.all_cells.names_of.Goals as goal

pub names-requires : goal.names-requires
names-requires c = has_cell c.args.machine.now c.requires.sound c.args.cell.now c.requires.there

pub returns : goal.returns
returns c = λ d i same. names_told c.args.machine.now c.requires.sound d i c.args.cell.now same c.names.result.now c.names.ensures
