use Rattle.cell_unload.proofs.AllRemoved.{can_go, removed_is}
use Rattle.cell_unload.proofs.removal.remove.Goals as goal

pub take_away-requires : goal.take_away-requires
take_away-requires c = can_go c.args.machine.now c.requires.sound c.args.cells.now c.requires.rising c.requires.present c.requires.unused

pub returns : goal.returns
returns c = removed_is c.args.machine.now c.requires.sound c.args.cells.now c.requires.unused _ c.take_away.ensures
