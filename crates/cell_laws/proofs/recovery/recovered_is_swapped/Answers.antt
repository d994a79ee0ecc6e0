use Rattle.cell_laws.proofs.Recovered.{rebuilt, recovered}
use Rattle.cell_laws.proofs.recovery.recovered_is_swapped.Goals as goal

pub returns-clause-recover : goal.returns-clause-recover
returns-clause-recover c sources w task d sound h e = recovered sources sound w h task d e

pub returns-clause-rebuild : goal.returns-clause-rebuild
returns-clause-rebuild c sources w task d sound h e = rebuilt sources sound w h task d e
