-- The cells that places and names are together.
--     joined c s              a cell by its place and by what it is called: its standing, and the names behind its definitions as aliases
--     cells_of cells known    the cells, each by both
--     AreJoined cells known   the places and the names are those of the same cells
use Rattle.std.specs.Prelude.{◌≡◌, List, [], ◌∷◌, drop, length, map}
use Rattle.cell_world.specs.declared.state.NewCell.{NewCell}
use Rattle.cell_world.specs.World.{Cell}
use Rattle.cell_world.specs.Names.{definitions_of}
use Rattle.cell_space.specs.declared.cell.SpaceCell.{SpaceCell}
use Rattle.cell_space.specs.Machine.{called}

abbrev pub joined : NewCell → SpaceCell → Cell
joined c s = record { placed = c; aliases = drop (length (definitions_of c.object)) s.names; standing = s.state }

abbrev pub cells_of : List NewCell → List SpaceCell → List Cell
cells_of [] known = []
cells_of (c ∷ cells) [] = []
cells_of (c ∷ cells) (s ∷ known) = joined c s ∷ cells_of cells known

abbrev pub placed_of : Cell → NewCell
placed_of c = c.placed

pub record AreJoined (cells : List NewCell) (known : List SpaceCell) : Type 0 where
  pub placed : map placed_of (cells_of cells known) ≡ cells
  pub called : map called (cells_of cells known) ≡ known
