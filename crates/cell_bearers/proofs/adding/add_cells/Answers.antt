use Rattle.std.proofs.Common.{◌++◌, arith, refl}
use Rattle.std.specs.Prelude.{flat_map}
use Rattle.cell_num.specs.Lists.{numbered}
use Rattle.cell_bearers.specs.Namings.{cell_namings}
use Rattle.cell_bearers.proofs.Stepping.{list_more, lists_done}
use Rattle.cell_bearers.proofs.adding.add_cells.Goals as goal

pub loop-place-preserved : goal.loop-place-preserved
loop-place-preserved c =
    let xs = c.args.cells.now in
    list_more (c.args.namings.now.items ++ flat_map (cell_namings c.args.file.now) (numbered xs)) c.loop-place.namings.items c.add_cell.new.namings.items
    xs xs refl c.loop-place.place c.index-cells-place.result c.loop-place-test.true c.index-cells-place.is
    (cell_namings c.args.file.now) c.in_ok-add_cell.ensures c.loop-place.invariant

pub returns : goal.returns
returns c =
    let xs = c.args.cells.now in
    let past = c.loop-place-test.false in
    lists_done (c.args.namings.now.items ++ flat_map (cell_namings c.args.file.now) (numbered xs)) c.loop-place.namings.items xs c.loop-place.place (omega (arith, past)) (cell_namings c.args.file.now) c.loop-place.invariant
