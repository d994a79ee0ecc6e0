use Rattle.std.proofs.Common.{take}
use Rattle.cell_link.specs.Linked.{bound_in}
use Rattle.cell_link.specs.Tables.{IsHighs}
use Rattle.cell_link.proofs.numbers.highs_of.Given as goal

abbrev pub invariant-loop-index : goal.invariant-loop-index
invariant-loop-index l = IsHighs l.places.cell.now (take l.index (bound_in l.places.cell.now l.targets)) l.highs
