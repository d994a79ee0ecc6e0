-- Which cells a step may lead entries of others away from, when cells leave and cells come.
--     holds_name c name           the cell holds the name, strongly or weakly
--     yields comers c             one of the cells that come holds a name that c holds weakly
--     touched v old comers        the numbers of the cells that leave, and of those of v that yield
--     swap_comers v old fresh     the cells of a swap that come to be asked
--     links_into numbers v c      a link of the cell leads into one of the cells with these numbers
--     awaits comers c             one of the cells that come holds the name of a WEAK symbol of c
--     is_affected v old comers c  the cell awaits a name that comes, or has a link into a cell that leaves or yields
use Rattle.std.specs.Prelude.{ℕ, Bool, ◌&&◌, ◌||◌, List, ◌++◌, is_some, filter, filter_map}
use Rattle.std.specs.List.{list_any}
use Rattle.cell_num.specs.Lists.{holds, numbered}
use Rattle.cell_object.specs.Parts.{is_weak}
use Rattle.cell_world.specs.World.{World, Cell}
use Rattle.cell_world.specs.Answer.{numbers_of}
use Rattle.cell_world.specs.Names.{symbol_named, weak_symbol_named, weak_definitions_of}
use Rattle.cell_world.specs.Linked.Relink.{link_of}

abbrev pub holds_name : Cell → List ℕ → Bool
holds_name c name = is_some (symbol_named c name) || is_some (weak_symbol_named c name)

abbrev pub yields : List Cell → Cell → Bool
yields comers c = list_any (λ a. list_any (λ n. holds_name n a.name) comers) (weak_definitions_of c.object)

abbrev pub touched : World → List ℕ → List Cell → List ℕ
touched v old comers = old ++ numbers_of (filter (yields comers) v.cells)

-- the old cells of a swap count among those that come, since they ask each other first by then
abbrev pub swap_comers : World → List ℕ → List Cell → List Cell
swap_comers v old fresh = filter (λ c. holds old c.id.0) v.cells ++ fresh

abbrev pub links_into : List ℕ → World → Cell → Bool
links_into numbers v c = list_any (λ l. holds numbers l.target.cell.0) (filter_map (link_of v c) (numbered c.object.entries))

abbrev pub awaits : List Cell → Cell → Bool
awaits comers c = list_any (λ s. is_weak s.bind && list_any (λ n. holds_name n s.name) comers) c.object.symbols

abbrev pub is_affected : World → List ℕ → List Cell → Cell → Bool
is_affected v old comers c = awaits comers c || links_into (touched v old comers) v c
