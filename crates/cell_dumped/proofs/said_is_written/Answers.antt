use Rattle.cell_dumped.proofs.Written.{said_written}
use Rattle.cell_dumped.proofs.said_is_written.Goals as goal

pub returns : goal.returns
returns c = said_written
