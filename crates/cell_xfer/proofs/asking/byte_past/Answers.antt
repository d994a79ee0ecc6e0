use Rattle.cell_xfer.proofs.Reading.{none_past}
use Rattle.cell_xfer.proofs.asking.byte_past.Goals as goal

pub returns-in_err-checked_add : goal.returns-in_err-checked_add
returns-in_err-checked_add c =
    none_past c.args.memory.now c.args.addr c.args.place c.checked_add.result c.from_residual.result c.laid_out.ensures c.space.ensures c.checked_add.ensures c.in_err-checked_add.was c.from_residual.ensures
