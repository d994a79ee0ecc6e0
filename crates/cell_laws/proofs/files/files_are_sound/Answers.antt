use Rattle.cell_laws.proofs.FilesSound.{files_sound, lowered_loadable, read_readable}
use Rattle.cell_laws.proofs.files.files_are_sound.Goals as goal

pub returns-clause-readable : goal.returns-clause-readable
returns-clause-readable c = read_readable

pub returns-clause-loadable : goal.returns-clause-loadable
returns-clause-loadable c = lowered_loadable

pub returns-clause-files : goal.returns-clause-files
returns-clause-files c = files_sound
