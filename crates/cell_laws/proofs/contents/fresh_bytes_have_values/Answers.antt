use Rattle.cell_laws.proofs.FreshSaid.{fresh_sizes, fresh_values}
use Rattle.cell_laws.proofs.contents.fresh_bytes_have_values.Goals as goal

pub returns-clause-sizes : goal.returns-clause-sizes
returns-clause-sizes c = fresh_sizes

pub returns-clause-values : goal.returns-clause-values
returns-clause-values c = fresh_values
