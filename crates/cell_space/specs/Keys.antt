-- What cells are in the order of.
use Rattle.std.specs.Prelude.{ℕ}
use Rattle.cell_space.specs.declared.cell.SpaceCell.{SpaceCell}

abbrev pub number_in : SpaceCell → ℕ
number_in c = c.cell.0
