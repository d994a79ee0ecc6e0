use Rattle.std.proofs.Common.{arith}
use Rattle.cell_commit.proofs.Writing.{written_patches, written_regions, written_spare}
use Rattle.cell_commit.proofs.laws.writing_adds.Goals as goal

pub returns-clause-regions : goal.returns-clause-regions
returns-clause-regions c = written_regions c.args.memory.now c.args.fields.now

pub returns-clause-patches : goal.returns-clause-patches
returns-clause-patches c = written_patches c.args.memory.now c.args.fields.now (omega (arith, c.patches-patches.ensures, c.patches-patches.type_inv))

pub returns-clause-spare : goal.returns-clause-spare
returns-clause-spare c = written_spare c.args.memory.now c.args.fields.now
