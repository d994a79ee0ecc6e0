-- The machine that a dump describes, as the code has it.
--     seen_in scene c      the cell of the machine
--     world_of scene       the machine
use Rattle.std.specs.Prelude.{map}
use Rattle.cell_world.specs.World.{Cell, World}
use Rattle.cell_described.specs.Describes.{cell_seen}
use Rattle.cell_described.specs.declared.cell.DescribedCell.{DescribedCell}
use Rattle.cell_relinked.specs.declared.scene.Scene.{Scene}
use Rattle.cell_relinked.specs.Fit.{machine}

abbrev pub seen_in : Scene → DescribedCell → Cell
seen_in s c = cell_seen s.file.now s.objects.now c

abbrev pub world_of : Scene → World
world_of s = machine s.base s.pages s.namespaces.now (map (seen_in s) s.cells.now)
