use Rattle.std.proofs.Common.{arith}
use Rattle.cell_hold.proofs.Indexing.{no_place}
use Rattle.cell_hold.proofs.Nearing.{reach_last}
use Rattle.cell_hold.proofs.spots.reach_of.Goals as goal

pub returns-clause-all : goal.returns-clause-all
returns-clause-all c = reach_last c.args.spots.now c.args.count (record { place = no_place; reach = 0 }) c.requires.rise c.requires.within (omega arith)
