use Rattle.cell_change_law.proofs.Asking.{rebuild_taken, recovery_taken}
use Rattle.cell_world.specs.Commands.Recovery.{rebuild_of, recovery_of}
use Rattle.cell_laws.proofs.OwnFiles.{own_files}
use Rattle.cell_laws.proofs.recovery.recovery_is_wanted.Goals as goal

pub returns-clause-recover : goal.returns-clause-recover
returns-clause-recover c sources w t h read = own_files sources w h read (recovery_of w t) (recovery_taken w t)

pub returns-clause-rebuild : goal.returns-clause-rebuild
returns-clause-rebuild c sources w t h read = own_files sources w h read (rebuild_of w t) (rebuild_taken w t)
