use Rattle.std.proofs.Common.{◌∙◌, ap}
use Rattle.cell_hart.specs.Step.{seen_of}
use Rattle.cell_world.specs.Running.Transfer.{asked_name}
use Rattle.std.specs.Prelude.{slice_index, unwrap_or}
use Rattle.cell_xfer.specs.Named.{addresses_as}
use Rattle.cell_xfer.specs.Ran.{hart_as}
use Rattle.cell_xfer.proofs.Answering.{address_is}
use Rattle.cell_xfer.proofs.Turning.{answered}
use Rattle.cell_xfer.proofs.turn.answer.Goals as goal

pub returns-in-Some : goal.returns-in-Some
returns-in-Some c =
    c.pass.ensures c.args.memory.now.regions
    ∙ answered c.args.memory.now.regions (hart_as c.args.hart.now) (addresses_as c.args.names.now) c.in-Some.name.now
    (asked_name (seen_of c.args.memory.now) (slice_index c.args.hart.now.x 10) (slice_index c.args.hart.now.x 11))
    c.unwrap_or.result (c.in-Some.ensures {u = tt}) (c.unwrap_or.ensures ∙ (ap (λ o. unwrap_or o 0) c.get.ensures ∙ address_is c.args.names.now c.in-Some.name.now))
