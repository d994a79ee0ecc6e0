use Rattle.cell_dumped.proofs.Says.{text_says}
use Rattle.cell_dumped.proofs.text_says_line.Goals as goal

pub returns : goal.returns
returns c = text_says
