use Rattle.std.specs.Prelude.{map}
use Rattle.cell_world.specs.Gather.{source_of}
use Rattle.cell_laws.proofs.FilesSound.{files_sound}
use Rattle.cell_laws.proofs.NextCoherent.{next_coherent}
use Rattle.cell_laws.proofs.coherence.next_keeps_coherent.Goals as goal

pub returns-clause-files : goal.returns-clause-files
returns-clause-files c files w command small h = next_coherent (map source_of files) w command (files_sound files small) h

pub returns-clause-sources : goal.returns-clause-sources
returns-clause-sources c = next_coherent
