use Rattle.std.proofs.Common.{◌≡◌, map, take}
use Rattle.cell_load.specs.Adding.{listed, numbers_in}
use Rattle.cell_load.proofs.prepared.all_sections.Given as goal

abbrev pub invariant-loop-cell : goal.invariant-loop-cell
invariant-loop-cell l = map listed l.sections.items ≡ map numbers_in (take l.cell-index l.cells)
