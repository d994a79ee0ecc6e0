use Rattle.cell_lemmas.proofs.Targeting.SameSection.{differ_by_links}
use Rattle.cell_laws.proofs.relinking.links_tell_what_differs.Goals as goal

pub returns : goal.returns
returns c = differ_by_links
