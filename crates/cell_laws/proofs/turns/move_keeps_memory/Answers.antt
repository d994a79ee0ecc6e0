use Rattle.cell_lemmas.proofs.Tasks.Memory.{move_shapes, move_read_only, move_sealed, move_memory, seen_memory}
use Rattle.cell_laws.proofs.turns.move_keeps_memory.Goals as goal

pub returns-clause-shapes : goal.returns-clause-shapes
returns-clause-shapes c = move_shapes

pub returns-clause-read_only : goal.returns-clause-read_only
returns-clause-read_only c = move_read_only

pub returns-clause-sealed : goal.returns-clause-sealed
returns-clause-sealed c = move_sealed

pub returns-clause-next : goal.returns-clause-next
returns-clause-next c = move_memory

pub returns-clause-first : goal.returns-clause-first
returns-clause-first c = seen_memory
