use Rattle.cell_got.proofs.Kept.{entries_stay, sections_stay, sites_are, symbols_stay}
use Rattle.cell_got.proofs.lowered_keeps_rest.Goals as goal

pub returns-clause-sections : goal.returns-clause-sections
returns-clause-sections c = sections_stay

pub returns-clause-symbols : goal.returns-clause-symbols
returns-clause-symbols c = symbols_stay

pub returns-clause-entries : goal.returns-clause-entries
returns-clause-entries c = entries_stay

pub returns-clause-sites : goal.returns-clause-sites
returns-clause-sites c = sites_are
