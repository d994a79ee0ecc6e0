use Rattle.cell_lemmas.proofs.Placement.Tables.{table_filled}
use Rattle.cell_laws.proofs.room.region_fills_table.Goals as goal

pub returns : goal.returns
returns c = table_filled
