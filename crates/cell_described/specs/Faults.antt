-- The first line of cells that places what can't stand there, where lines before it have no fault.
--     has_sections sections places     the places are of these sections, in order
--     place_fault t sections places    the line of the first section that can't stand where it is placed
--     taken_after t sections places    all the sections are taken
--     defines object symbol            the symbol at that place, from 0, is a GLOBAL that the object defines
--     alias_fault object aliases       the line of the first alias that is on no definition
--     cell_fault t object c            the line of the cell's first fault
--     cells_fault t objects found      the line of the first fault of all
use Rattle.std.specs.Prelude.{ℕ, Bool, false, not, List, [], ◌∷◌, Option, Some, None, map, find, option_map, slice_get, unwrap_or, if◌then◌else◌}
use Rattle.cell_num.specs.Lists.{equals, or_else}
use Rattle.cell_object.specs.declared.object.Object.{Object}
use Rattle.cell_object.specs.declared.object.Section.{Section as ObjectSection}
use Rattle.cell_world.specs.Names.{is_definition}
use Rattle.cell_world.specs.declared.state.SecPlace.{SecPlace}
use Rattle.cell_audit.specs.Described.{no_object}
use Rattle.cell_audit.specs.declared.written.WrittenPlace.{WrittenPlace}
use Rattle.cell_audit.specs.declared.written.WrittenAlias.{WrittenAlias}
use Rattle.cell_audit.specs.declared.written.WrittenCell.{WrittenCell}
use Rattle.cell_described.specs.declared.finding.FoundCell.{FoundCell}
use Rattle.cell_described.specs.Taken.{TakenState, fits, with_section}

abbrev pub place_seen : WrittenPlace → SecPlace
place_seen p = record { section = p.section; start = p.start }

abbrev pub has_sections : List ObjectSection → List WrittenPlace → Bool
has_sections sections places = equals (map (λ p. p.section) places) (map (λ s. s.number) sections)

abbrev pub place_fault : TakenState → List ObjectSection → List WrittenPlace → Option ℕ
place_fault t [] places = None
place_fault t (s ∷ sections) [] = None
place_fault t (s ∷ sections) (p ∷ places) =
    if fits t s p.start then place_fault (with_section t s p.start) sections places else Some p.line

abbrev pub taken_after : TakenState → List ObjectSection → List WrittenPlace → TakenState
taken_after t [] places = t
taken_after t (s ∷ sections) [] = t
taken_after t (s ∷ sections) (p ∷ places) = taken_after (with_section t s p.start) sections places

abbrev pub defines : Object → ℕ → Bool
defines object symbol = unwrap_or (option_map is_definition (slice_get object.symbols symbol)) false

abbrev pub alias_fault : Object → List WrittenAlias → Option ℕ
alias_fault object aliases = option_map (λ a. a.line) (find (λ a. not (defines object a.symbol)) aliases)

abbrev pub cell_fault : TakenState → Object → WrittenCell → Option ℕ
cell_fault t object c =
    if has_sections object.sections c.places.items then or_else (place_fault t object.sections c.places.items) (alias_fault object c.aliases.items)
    else Some c.line

abbrev pub object_at : List Object → ℕ → Object
object_at objects place = unwrap_or (slice_get objects place) no_object

-- with the cell's sections taken
abbrev pub taken_with : TakenState → List Object → FoundCell → TakenState
taken_with t objects f = taken_after t (object_at objects f.object).sections f.cell.places.items

abbrev pub cells_fault : TakenState → List Object → List FoundCell → Option ℕ
cells_fault t objects [] = None
cells_fault t objects (f ∷ found) =
    or_else (cell_fault t (object_at objects f.object) f.cell) (cells_fault (taken_with t objects f) objects found)
