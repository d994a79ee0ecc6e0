use Rattle.std.proofs.Common.{◌∙◌, ◌≤◌, ap, arith, sym}
use Rattle.std.specs.Prelude.{slice_index}
use Rattle.cell_hart.specs.Step.{seen_of}
use Rattle.cell_world.specs.Running.Move.{called}
use Rattle.cell_xfer.specs.Ran.{hart_as, tables_of}
use Rattle.cell_xfer.proofs.Turning.{nothing}
use Rattle.cell_xfer.proofs.turn.call.Goals as goal

pub returns-in-1-to-3 : goal.returns-in-1-to-3
returns-in-1-to-3 c =
    let low : 1 ≤ slice_index c.args.hart.now.x 17 = omega arith in
    let high : slice_index c.args.hart.now.x 17 ≤ 3 = omega arith in
    c.pass.ensures c.args.memory.now.regions
    ∙ sym (ap (called c.args.memory.now.regions (hart_as c.args.hart.now)) (nothing (tables_of c.args.addresses.now) (seen_of c.args.memory.now) c.args.hart.now.x low high))
