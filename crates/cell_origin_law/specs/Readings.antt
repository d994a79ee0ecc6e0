-- What the object of a present cell is.
--     IsRead sources c        the object that is read from the file of the cell's name
--     AreRead sources w       each cell has that
--     AreApart sources        no two files have one name
use Rattle.std.specs.Prelude.{◌≡◌, not, true, All, List, Some, Ok, option_map}
use Rattle.cell_num.specs.Lists.{each_pair, equals}
use Rattle.cell_world.specs.Gather.{Source, file_named}
use Rattle.cell_world.specs.World.{World, Cell}

abbrev pub IsRead : List Source → Cell → Type 0
IsRead sources c = option_map (λ f. f.reading) (file_named sources c.file) ≡ Some (Ok c.object)

abbrev pub AreRead : List Source → World → Type 0
AreRead sources w = All (IsRead sources) w.cells

abbrev pub AreApart : List Source → Type 0
AreApart sources = each_pair (λ f g. not (equals f.name g.name)) sources ≡ true
