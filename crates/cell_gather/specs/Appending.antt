-- The cell of a file, by what the spaces say of the machine.
--     names_free s ns stem names        nobody on one path has the stem or one of the names
--     append_now s total next f ns      the new cell, or the first refusal. There are so many cells, and that is its number
--     is_defined_as b s                 the object defines the symbol, with that binding
--     definitions_from b n symbols      the symbols that are so, of those that are numbered from n on
--     needs_from object n symbols       the needs of an object among such symbols
use Rattle.std.specs.Prelude.{ℕ, Bool, ◌&&◌, nat_lt, nat_le, List, [], ◌∷◌, Option, None, map, filter, option_map}
use Rattle.cell_num.specs.Lists.{or_else, numbered_from}
use Rattle.std.specs.Prelude.{Ok}
use Rattle.cell_object.specs.declared.object.Object.{Object}
use Rattle.cell_object.specs.declared.object.Symbol.{Symbol}
use Rattle.cell_object.specs.declared.object.Bind.{Bind}
use Rattle.cell_object.specs.declared.object.Bind.TheVariants.{Local, Global, Weak}
use Rattle.cell_object.specs.Parts.{is_local, is_global, is_weak, is_defined, is_undefined}
use Rattle.cell_world.specs.declared.file.File.{File}
use Rattle.cell_world.specs.declared.refusal.Refusal.{Refusal}
use Rattle.cell_world.specs.declared.refusal.Refusal.TheVariants.{TooMany}
use Rattle.cell_world.specs.declared.refusal.Many.TheVariants.{Cells, CellNumbers}
use Rattle.cell_world.specs.declared.state.NewCell.{NewCell}
use Rattle.cell_world.specs.Gather.{source_of, stem_of_file, object_in, duplicate}
use Rattle.cell_num.specs.Limits.{max_cells, max_cell_number}
use Rattle.cell_world.specs.Names.{is_used, definitions_of}
use Rattle.cell_world.specs.Outcome.{Outcome, ◌>>=◌, ◌>>◌, need, refused_by}
use Rattle.cell_world.specs.World.{Alias}
use Rattle.cell_space.specs.Named.{clash_stem, clash_name}
use Rattle.cell_space.specs.Spaces.{SpacesState}

abbrev pub clash_among_now : SpacesState → ℕ → List Alias → Option Refusal
clash_among_now s ns [] = None
clash_among_now s ns (a ∷ names) =
    or_else (option_map (duplicate a.name) (clash_name s.namespaces ns a.name s.cells)) (clash_among_now s ns names)

abbrev pub stem_free : SpacesState → ℕ → List ℕ → Outcome (Unit {0})
stem_free s ns stem = refused_by (option_map (duplicate stem) (clash_stem s.namespaces ns stem s.cells))

abbrev pub names_free : SpacesState → ℕ → List ℕ → List Alias → Outcome (Unit {0})
names_free s ns stem names = stem_free s ns stem >> refused_by (clash_among_now s ns names)

abbrev pub room_now : ℕ → ℕ → Outcome (Unit {0})
room_now total next =
    need (nat_lt total max_cells) (TooMany Cells max_cells) >> need (nat_le next max_cell_number) (TooMany CellNumbers max_cell_number)

abbrev pub cell_from : ℕ → ℕ → File → Object → NewCell
cell_from next ns f object =
    record { id = record { 0 = next }; ns = ns; stem = stem_of_file f.name; file = f.name; object = object; places = [] }

abbrev pub append_now : SpacesState → ℕ → ℕ → File → ℕ → Outcome NewCell
append_now s total next f ns = do
  room_now total next
  object ← object_in (source_of f)
  names_free s ns (stem_of_file f.name) (definitions_of object)
  Ok (cell_from next ns f object)

abbrev pub is_bind : Bind → Bind → Bool
is_bind Local b = is_local b
is_bind Global b = is_global b
is_bind Weak b = is_weak b

abbrev pub is_defined_as : Bind → Symbol → Bool
is_defined_as bind s = is_bind bind s.bind && is_defined s.home

abbrev pub definitions_from : Bind → ℕ → List Symbol → List Alias
definitions_from bind n symbols =
    map (λ p. record { name = p.1.name; symbol = p.0 }) (filter (λ p. is_defined_as bind p.1) (numbered_from n symbols))

abbrev pub is_need : Object → ℕ → Symbol → Bool
is_need object number s = is_global s.bind && is_undefined s.home && is_used object number

abbrev pub needs_from : Object → ℕ → List Symbol → List (List ℕ)
needs_from object n symbols = map (λ p. p.1.name) (filter (λ p. is_need object p.0 p.1) (numbered_from n symbols))
