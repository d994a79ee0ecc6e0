use Rattle.std.proofs.Common.{arith, map}
use Rattle.std.proofs.lemmas.Result.{err_from_is_err_and}
use Rattle.cell_num.specs.declared.ids.CellId.{CellId}
use Rattle.cell_machine.specs.Machine.{world_of}
use Rattle.cell_unload.specs.Sweep.{cells_numbered}
use Rattle.cell_unload.proofs.Naming.{at_end, fails_so, none_yet, one_found}
use Rattle.cell_unload.proofs.named.named_cells.Goals as goal

pub loop-name-init : goal.loop-name-init
loop-name-init c = none_yet (world_of c.args.machine.now) c.args.names.now c.new-cells.result.items c.new-cells.ensures.items

pub loop-name-preserved : goal.loop-name-preserved
loop-name-preserved c =
    let w = world_of c.args.machine.now in
    one_found w (cells_numbered w c.args.names.now) c.args.names.now c.loop-name.name-index c.name-item.result (omega arith) c.name-item.is c.loop-name.cells.items c.push.new.self.items c.in_ok-cell.cell
    (c.in_ok-cell.ensures {u = tt}) (c.in-Ok.ensures {u = tt}).items c.loop-name.invariant

pub returns-in_err-cell : goal.returns-in_err-cell
returns-in_err-cell c =
    let w = world_of c.args.machine.now in
    let p = err_from_is_err_and c.from_residual.result c.from_residual.ensures.1 in
    rw (p.1, p.2)
    (fails_so w (cells_numbered w c.args.names.now) c.args.names.now c.loop-name.name-index c.name-item.result (omega arith) c.name-item.is (map (λ (d : CellId). d.0) c.loop-name.cells.items) c.in_err-cell.field-0.0
    (c.in_err-cell.ensures {u = tt}) c.loop-name.invariant)

pub returns : goal.returns
returns c =
    let w = world_of c.args.machine.now in
    at_end w (cells_numbered w c.args.names.now) (map (λ (d : CellId). d.0) c.loop-name.cells.items) c.args.names.now c.loop-name.name-index (omega arith) c.loop-name.invariant
