use Rattle.std.proofs.Common.{◌∙◌, arith, get_or}
use Rattle.cell_num.specs.declared.ids.CellId.{CellId}
use Rattle.cell_unload.proofs.OneByOne.{all_dropped, is_named, one_dropped, read_either}
use Rattle.cell_unload.proofs.removal.drop_cells.Goals as goal

pub drop_cell-requires : goal.drop_cell-requires
drop_cell-requires c =
    let none : CellId = record { 0 = 0 } in
    let cells = c.args.cells.now in
    let place = c.loop-place.place in
    is_named cells place (get_or cells place none) (omega arith) (read_either cells place none (get_or cells place none) (omega arith)) c.loop-place.spaces.cells c.loop-place.invariant.present

pub loop-place-preserved : goal.loop-place-preserved
loop-place-preserved c =
    let none : CellId = record { 0 = 0 } in
    let cells = c.args.cells.now in
    let place = c.loop-place.place in
    let fewer = one_dropped cells place (get_or cells place none) (omega arith) (read_either cells place none (get_or cells place none) (omega arith)) c.loop-place.spaces.cells c.loop-place.invariant.present
    c.loop-place.invariant.rising c.drop_cell.new.self.cells c.drop_cell.ensures.cells in
    record {
      left = fewer.left ∙ c.loop-place.invariant.left;
      namespaces = c.drop_cell.ensures.same_namespaces ∙ c.loop-place.invariant.namespaces;
      present = fewer.present;
      rising = fewer.rising;
    }

pub returns-clause-cells : goal.returns-clause-cells
returns-clause-cells c = all_dropped c.args.cells.now c.loop-place.place (omega arith) c.loop-place.spaces.cells _ c.loop-place.invariant.left
