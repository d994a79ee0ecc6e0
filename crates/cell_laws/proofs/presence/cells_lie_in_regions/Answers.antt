use Rattle.cell_lemmas.proofs.Placement.Inside.{fields_lie, sections_lie, places_lie}
use Rattle.cell_laws.proofs.presence.cells_lie_in_regions.Goals as goal

pub returns-clause-sections : goal.returns-clause-sections
returns-clause-sections c = sections_lie

pub returns-clause-fields : goal.returns-clause-fields
returns-clause-fields c = fields_lie

pub returns-clause-places : goal.returns-clause-places
returns-clause-places c = places_lie
