use Rattle.cell_isolation_laws.proofs.Keeping.{clone_counts_own}
use Rattle.cell_isolation_laws.proofs.cloning.clones_count_their_fields.Goals as goal

pub returns : goal.returns
returns c sources w name sibling d sound h k = clone_counts_own sources sound w h name sibling d k
