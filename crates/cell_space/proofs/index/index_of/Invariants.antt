use Rattle.std.proofs.Common.{take}
use Rattle.std.specs.Prelude.{All}
use Rattle.cell_space.specs.Index.{held, IsListed}
use Rattle.cell_space.proofs.index.index_of.Given as goal

-- the index answers for the cells so far
abbrev pub invariant-loop-cell : goal.invariant-loop-cell
invariant-loop-cell l = All (IsListed (held l.index)) (take l.cell-index l.cells)
