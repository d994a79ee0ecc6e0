use Rattle.cell_lemmas.proofs.Links.LinkSteps.{links_before, links_after, one_entry}
use Rattle.cell_laws.proofs.relinking.links_change_by_entries.Goals as goal

pub returns-clause-before : goal.returns-clause-before
returns-clause-before c = links_before

pub returns-clause-after : goal.returns-clause-after
returns-clause-after c = links_after

pub returns-clause-entries : goal.returns-clause-entries
returns-clause-entries c = one_entry
