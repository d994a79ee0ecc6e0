use Rattle.cell_hold.proofs.Indexing.{no_place}
use Rattle.std.proofs.Common.{arith}
use Rattle.cell_hold.proofs.Nearing.{start_next}
use Rattle.cell_hold.proofs.spots.start_of.Goals as goal

pub returns-clause-all : goal.returns-clause-all
returns-clause-all c = start_next c.args.spots.now c.args.count (record { place = no_place; reach = 0 }) c.requires (omega arith)
