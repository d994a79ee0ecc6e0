-- What cells and their places are in the order of.
use Rattle.std.specs.Prelude.{ℕ}
use Rattle.cell_world.specs.declared.state.NewCell.{NewCell}
use Rattle.cell_world.specs.declared.state.SecPlace.{SecPlace}

abbrev pub section_in : SecPlace → ℕ
section_in p = p.section

abbrev pub number_in : NewCell → ℕ
number_in c = c.id.0
