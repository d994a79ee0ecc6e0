use Rattle.cell_file.proofs.Ends.{text_of, rest_ends}
use Rattle.cell_file.proofs.strings.Strings.short.Goals as goal

pub short-requires : goal.short-requires
short-requires c = rest_ends c.args.at c.args.self.now.table.now c.requires

pub returns-clause-short : goal.returns-clause-short
returns-clause-short c = rw (text_of c.args.at c.args.self.now.table.now c.requires) c.short.ensures.short

pub returns-clause-long : goal.returns-clause-long
returns-clause-long c = rw (text_of c.args.at c.args.self.now.table.now c.requires) c.short.ensures.long
