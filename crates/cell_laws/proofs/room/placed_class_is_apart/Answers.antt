use Rattle.cell_lemmas.proofs.Placement.Tables.{class_spaced}
use Rattle.cell_laws.proofs.room.placed_class_is_apart.Goals as goal

pub returns-clause-in_space : goal.returns-clause-in_space
returns-clause-in_space c w class object p s a h = (class_spaced w class object p s a h).0

pub returns-clause-apart : goal.returns-clause-apart
returns-clause-apart c w class object p s a h = (class_spaced w class object p s a h).1
