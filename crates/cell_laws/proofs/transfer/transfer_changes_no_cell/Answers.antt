use Rattle.std.proofs.Common.{refl}
use Rattle.cell_lemmas.proofs.Tasks.Turns.{turns_shapes, turns_read_only, turns_sealed, turns_fields, transfer_end}
use Rattle.cell_laws.proofs.transfer.transfer_changes_no_cell.Goals as goal

pub returns-clause-parts : goal.returns-clause-parts
returns-clause-parts c n w stack addresses routines = refl

pub returns-clause-shapes : goal.returns-clause-shapes
returns-clause-shapes c n w stack addresses routines h run = turns_shapes w h stack run n addresses routines

pub returns-clause-read_only : goal.returns-clause-read_only
returns-clause-read_only c n w stack addresses routines h run = turns_read_only w h stack run n addresses routines

pub returns-clause-sealed : goal.returns-clause-sealed
returns-clause-sealed c n w stack addresses routines h run = turns_sealed w h stack run n addresses routines

pub returns-clause-fields : goal.returns-clause-fields
returns-clause-fields c n w stack addresses routines h run = turns_fields w h stack run n addresses routines

pub returns-clause-end : goal.returns-clause-end
returns-clause-end c = transfer_end
