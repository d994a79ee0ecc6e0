-- The cells that names are looked up in, as a machine.
--     seen namespaces cells known   the machine with these namespaces and cells, and nothing else
--     in_state c state              the cell in that state, under its own names
--     AreCells known cells          places and names are those of the same cells, which stand in the order of their numbers and far below the numbers of 64 bits
use Rattle.std.specs.Prelude.{nat_lt, IsTrue, List, []}
use Rattle.cell_num.specs.Lists.{each_pair, In}
use Rattle.cell_world.specs.declared.state.NewCell.{NewCell}
use Rattle.cell_world.specs.declared.state.Namespace.{Namespace}
use Rattle.cell_world.specs.World.{World, Cell, empty_world, Standing}
use Rattle.cell_space.specs.declared.cell.SpaceCell.{SpaceCell}
use Rattle.cell_placed.specs.Low.{IsLow}
use Rattle.cell_space.specs.Joined.{AreJoined, cells_of}

-- a machine of which nothing but namespaces and cells counts
abbrev pub seen : List Namespace → List NewCell → List SpaceCell → World
seen namespaces cells known = record (empty_world 0 0) { namespaces = namespaces; cells = cells_of cells known }

abbrev pub in_state : NewCell → Standing → Cell
in_state c state = record { placed = c; aliases = []; standing = state }

pub record AreCells (known : List SpaceCell) (cells : List NewCell) : Type 0 where
  pub joined : AreJoined cells known
  pub ordered : IsTrue (each_pair (λ a b. nat_lt a.id.0 b.id.0) cells)
  pub low : (c : NewCell) → In c cells → IsLow c
