use Rattle.cell_got_laws.proofs.Sites.{sites_hold}
use Rattle.cell_got_laws.proofs.sites_hold_row.Goals as goal

pub returns : goal.returns
returns c = sites_hold
