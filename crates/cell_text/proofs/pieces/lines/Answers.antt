use Rattle.cell_text.proofs.Splits.{lines_behind}
use Rattle.cell_text.proofs.pieces.lines.Goals as goal

pub returns-clause-behind : goal.returns-clause-behind
returns-clause-behind c = lines_behind c.split.result c.args.text.now c.split.ensures
