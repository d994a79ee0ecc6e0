use Rattle.cell_change.proofs.Arrival.ChangeLeft.{finished}
use Rattle.cell_change.proofs.Arrival.Tried.{can_sweep, parts, was_undone, way_back}
use Rattle.cell_change.proofs.ready.Ready.finish.Goals as goal

pub try_new_cells-requires-clause-can : goal.try_new_cells-requires-clause-can
try_new_cells-requires-clause-can c = parts c.requires

pub undo_new_cells-requires : goal.undo_new_cells-requires
undo_new_cells-requires c = (way_back (c.in-Err.ensures (parts c.requires)).1 c.as_slice.ensures).undo

pub returns-in-Err : goal.returns-in-Err
returns-in-Err c q =
    let tried = c.in-Err.ensures (parts q) in
    let back = way_back tried.1 c.as_slice.ensures in
    (tried.0, was_undone tried.1 back.undo back.leads _ (c.undo_new_cells.ensures.same back.undo) c.undo_new_cells.ensures.patches c.undo_new_cells.ensures.maps)

pub sweep-requires-clause-can : goal.sweep-requires-clause-can
sweep-requires-clause-can c = can_sweep (c.in-Ok.ensures (parts c.requires))

pub returns : goal.returns
returns c q =
    let tried = c.in-Ok.ensures (parts q) in
    rw (c.from_vec.ensures, c.from_vec-2.ensures) (finished q _ tried.entered _ tried _ _ _ c.sweep.ensures)
