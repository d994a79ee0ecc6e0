use Rattle.cell_lemmas.proofs.Tasks.TurnKept.{turn_cells, turn_shapes, turn_read_only, turn_fields}
use Rattle.cell_lemmas.proofs.Tasks.OtherTasks.{turn_others}
use Rattle.cell_laws.proofs.turns.turn_changes_no_cell.Goals as goal

pub returns-clause-cells : goal.returns-clause-cells
returns-clause-cells c = turn_cells

pub returns-clause-shapes : goal.returns-clause-shapes
returns-clause-shapes c = turn_shapes

pub returns-clause-read_only : goal.returns-clause-read_only
returns-clause-read_only c = turn_read_only

pub returns-clause-fields : goal.returns-clause-fields
returns-clause-fields c = turn_fields

pub returns-clause-tasks : goal.returns-clause-tasks
returns-clause-tasks c = turn_others
