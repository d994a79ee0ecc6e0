-- What a machine has that a run makes, besides a coherent state.
--     IsSpelledCell c        the cell's names are spelled as such, its number is 1 at least, and its sections' numbers have 16 bits
--     IsSpelled w            so are all cells, namespaces are spelled as such, and no cell has got number 0
--     IsNamedSource f        a file of whose name and reading a cell comes out so
use Rattle.std.specs.Prelude.{◌≡◌, ◌<◌, ◌≤◌, ◌^◌, true, All, List, Result, Ok, Err}
use Rattle.cell_object.specs.Bytes.{Broken}
use Rattle.cell_object.specs.Symbols.{is_global_name}
use Rattle.cell_object.specs.declared.object.Object.{Object}
use Rattle.cell_script.specs.Grammar.{is_file, is_name}
use Rattle.cell_world.specs.Gather.{Source, stem_of_file}
use Rattle.cell_world.specs.World.{World, Cell}

abbrev pub HasShortNumbers : Object → Type 0
HasShortNumbers object = All (λ s. s.number < 2 ^ 16) object.sections

pub record IsSpelledCell (c : Cell) : Type 0 where
  pub stem : is_name c.stem ≡ true
  pub file : is_file c.file ≡ true
  pub aliases : All (λ a. is_global_name a.name ≡ true) c.aliases
  pub number : 1 ≤ c.id.0
  pub sections : HasShortNumbers c.object

pub record IsSpelled (w : World) : Type 0 where
  pub spaces : All (λ s. is_name s.name ≡ true) w.namespaces
  pub cells : All IsSpelledCell w.cells
  pub next : 1 ≤ w.next_cell

abbrev pub IsShortReading : Result Object Broken → Type 0
IsShortReading (Ok object) = HasShortNumbers object
IsShortReading (Err broken) = Unit {0}

pub record IsNamedSource (f : Source) : Type 0 where
  pub stem : is_name (stem_of_file f.name) ≡ true
  pub file : is_file f.name ≡ true
  pub reading : IsShortReading f.reading

abbrev pub AreNamed : List Source → Type 0
AreNamed sources = All IsNamedSource sources
