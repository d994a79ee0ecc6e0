use Rattle.std.proofs.Common.{◌∙◌, ap}
use Rattle.std.specs.Prelude.{is_some}
use Rattle.cell_space.proofs.NameTables.{is_some_symbol}
use Rattle.cell_space.proofs.cell.SpaceCell.has_weak_name.Goals as goal

pub returns : goal.returns
returns c = c.is_some.ensures ∙ ap is_some c.symbol_of.ensures ∙ is_some_symbol c.args.self.now.weak c.args.name.now
