use Rattle.std.proofs.Common.{sym}
use Rattle.cell_mem.proofs.Reading.{has_found}
use Rattle.cell_mem.proofs.memory.Memory.displaced_by.Goals as goal

pub number-requires-clause-inside : goal.number-requires-clause-inside
number-requires-clause-inside c = has_found c.args.self.now c.args.addr c.args.width c.in-Some.region.now (sym c.in-Some.ensures.answer) c.requires.mapped
