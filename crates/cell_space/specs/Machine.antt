-- A cell of the machine by what it is called.
use Rattle.cell_world.specs.World.{Cell}
use Rattle.cell_world.specs.Names.{names_of, weak_definitions_of}
use Rattle.cell_space.specs.declared.cell.SpaceCell.{SpaceCell}

-- its number, namespace and stem, its state, its definitions and then its aliases as names, and those that it holds weakly
abbrev pub called : Cell → SpaceCell
called c = record { cell = c.id; ns = c.ns; stem = c.stem; state = c.standing; names = names_of c; weak = weak_definitions_of c.object }
