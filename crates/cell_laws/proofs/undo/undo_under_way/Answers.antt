use Rattle.cell_lemmas.proofs.Tasks.Undone.{undo_begun, undo_written, undo_with, undo_without, undo_ended}
use Rattle.cell_laws.proofs.undo.undo_under_way.Goals as goal

pub returns-clause-begun : goal.returns-clause-begun
returns-clause-begun c = undo_begun

pub returns-clause-written : goal.returns-clause-written
returns-clause-written c = undo_written

pub returns-clause-mapped : goal.returns-clause-mapped
returns-clause-mapped c = undo_with

pub returns-clause-unmapped : goal.returns-clause-unmapped
returns-clause-unmapped c = undo_without

pub returns-clause-ended : goal.returns-clause-ended
returns-clause-ended c = undo_ended
