-- Copies of present cells, as they are appended to what is gathered.
--     cell_as number o      the copy of the original, with that number and without places
--     as_copy c names       the cell, attached, with its names behind its definitions as aliases
--     said_copy o           the original and the namespace, as the definitions have them
--     append_original w o   w with a copy of it, or the refusal
--     IsKnown spaces o      the original's object may be loaded, its names begin with its definitions, and the namespace is there
use Rattle.std.specs.Prelude.{◌≡◌, ◌<◌, ℕ, List, [], drop, length, take}
use Rattle.cell_world.specs.declared.state.NewCell.{NewCell}
use Rattle.cell_world.specs.declared.state.Standing.TheVariants.{Attached}
use Rattle.cell_world.specs.Change.{Copy, append_copy}
use Rattle.cell_world.specs.Coherent.{IsLoadable}
use Rattle.cell_world.specs.Names.{definitions_of}
use Rattle.cell_world.specs.Outcome.{Outcome}
use Rattle.cell_world.specs.World.{Alias, Cell, World}
use Rattle.cell_space.specs.Spaces.{SpacesState}
use Rattle.cell_gather.specs.declared.copies.Original.{Original}

abbrev pub cell_as : ℕ → Original → NewCell
cell_as number o = record o.cell.now { id = record { 0 = number }; ns = o.ns; places = [] }

abbrev pub as_copy : NewCell → List Alias → Cell
as_copy c names = record { placed = c; aliases = drop (length (definitions_of c.object)) names; standing = Attached }

abbrev pub said_copy : Original → Copy
said_copy o = record { original = as_copy o.cell.now o.names.now; ns = o.ns }

abbrev pub append_original : World → Original → Outcome World
append_original w o = append_copy w (said_copy o)

pub record IsKnown (spaces : SpacesState) (o : Original) : Type 0 where
  pub loadable : IsLoadable o.cell.now.object
  pub named : take (length (definitions_of o.cell.now.object)) o.names.now ≡ definitions_of o.cell.now.object
  pub there : o.ns < length spaces.namespaces
