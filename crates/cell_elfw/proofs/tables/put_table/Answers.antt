use Rattle.cell_elfw.proofs.Unpadded.{table_put}
use Rattle.cell_elfw.proofs.tables.put_table.Goals as goal

pub returns-clause-file : goal.returns-clause-file
returns-clause-file c = table_put c.args.file.now.items c.put_entries.new.into.items c.args.entries.now c.in_ok-put_entries.ensures
