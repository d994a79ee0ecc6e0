-- Commands by what they do.
--     BringsNoCells command   it asks for no change of cells
use Rattle.cell_world.specs.declared.command.Command.{Command}
use Rattle.cell_world.specs.declared.command.Command.TheVariants.{Load, Swap, Recover, Rebuild, Clone}

abbrev pub BringsNoCells : Command → Type 0
BringsNoCells (Load ns stem) = ⊥
BringsNoCells (Swap items reexport strict routines budget) = ⊥
BringsNoCells (Recover task) = ⊥
BringsNoCells (Rebuild task) = ⊥
BringsNoCells (Clone ns name) = ⊥
BringsNoCells _ = Unit {0}
