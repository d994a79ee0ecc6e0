use Rattle.cell_load.proofs.Stagings.{staged}
use Rattle.cell_load.proofs.staging.stage.Goals as goal

pub returns : goal.returns
returns c =
    staged c.args.machine.now c.args.gathered c.requires c.in_ok-landed.landed (c.in_ok-landed.ensures {u = tt}).0 c.in_ok-into_staged.field-0 (c.in_ok-into_staged.ensures {u = tt})
