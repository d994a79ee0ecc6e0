use Rattle.cell_image.proofs.RoundTrip.{read_again}
use Rattle.cell_image.proofs.SoundRules.{ruled}
use Rattle.cell_image.proofs.writable_is_read.Goals as goal

pub returns : goal.returns
returns c = read_again c.args.object.now (ruled c.args.object.now c.requires)
