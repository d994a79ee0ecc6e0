use Rattle.cell_lemmas.proofs.Tasks.Undone.{undo_one, undo_all, undo_shapes}
use Rattle.cell_laws.proofs.undo.undo_gives_back.Goals as goal

pub returns-clause-one : goal.returns-clause-one
returns-clause-one c = undo_one

pub returns-clause-all : goal.returns-clause-all
returns-clause-all c = undo_all

pub returns-clause-shapes : goal.returns-clause-shapes
returns-clause-shapes c = undo_shapes
