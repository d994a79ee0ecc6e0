use Rattle.std.proofs.Common.{ap}
use Rattle.std.specs.Prelude.{is_some}
use Rattle.cell_world.specs.Running.Restart.{restarted}
use Rattle.cell_change.proofs.Arrival.Beginning.{live_again}
use Rattle.cell_change.proofs.restarting.restart.Goals as goal

pub look_again-requires : goal.look_again-requires
look_again-requires c = ap is_some (live_again c.requires c.begin.new.machine (c.begin.ensures c.requires))

pub returns : goal.returns
returns c r = record { begun = c.begin.ensures r; renews = c.look_again.ensures (restarted r.t r.entry) (live_again r c.begin.new.machine (c.begin.ensures r)) }
