use Rattle.cell_link.proofs.Misfits.{all_fit}
use Rattle.cell_link.proofs.refused.link_fields.Goals as goal

pub returns-in-Ok : goal.returns-in-Ok
returns-in-Ok c = (all_fit c.args.cell.now c.args.targets.now c.in-Ok.ensures.0, c.in-Ok.ensures.1)
