-- Who bears a name.
--     is_named name s                       the symbol is a GLOBAL that its object defines, and has the name
--     object_bearers name p                 the symbols of that name, in an object with its place
--     cell_bearers file name p              the first alias of that name, of a cell with its place
--     bearers_of file objects cells name    all of them: the symbols, then the aliases
--     answer h p                            the symbol that a bearer says for a cell with its place, if it is the cell's
--     answer_of hs p                        what the first of them says that says one
use Rattle.std.specs.Prelude.{◌==◌, ◌&&◌, ◌++◌, ℕ, Bool, List, [], ◌∷◌, Option, None, filter_map, find, flat_map, option_map, slice_range}
use Rattle.std.specs.List.{cons_option}
use Rattle.cell_num.specs.Lists.{equals, numbered, or_else, where_true}
use Rattle.cell_object.specs.declared.object.Object.{Object}
use Rattle.cell_object.specs.declared.object.Symbol.{Symbol}
use Rattle.cell_audit.specs.declared.written.WrittenAlias.{WrittenAlias}
use Rattle.cell_described.specs.declared.cell.DescribedCell.{DescribedCell}
use Rattle.cell_world.specs.Names.{is_definition}
use Rattle.cell_bearers.specs.declared.bearer.Bearer.{Bearer}
use Rattle.cell_bearers.specs.declared.bearer.Bearer.TheVariants.{Object as ObjectBearer, Cell as CellBearer}

abbrev pub is_named : List ℕ → Symbol → Bool
is_named name s = is_definition s && equals s.name name

-- with its place
abbrev pub symbol_bearer : ℕ → List ℕ → ℕ × Symbol → Option Bearer
symbol_bearer object name p = where_true (is_named name p.1) (ObjectBearer object p.0)

abbrev pub object_bearers : List ℕ → ℕ × Object → List Bearer
object_bearers name p = filter_map (symbol_bearer p.0 name) (numbered p.1.symbols)

-- the name stands in the file of the dump
abbrev pub alias_text : List ℕ → WrittenAlias → List ℕ
alias_text file a = slice_range file a.name_start a.name_end

abbrev pub alias_bearer : ℕ → WrittenAlias → Bearer
alias_bearer cell a = CellBearer cell a.symbol

abbrev pub is_alias : List ℕ → List ℕ → WrittenAlias → Bool
is_alias file name a = equals (alias_text file a) name

abbrev pub cell_bearers : List ℕ → List ℕ → ℕ × DescribedCell → List Bearer
cell_bearers file name p = cons_option (option_map (alias_bearer p.0) (find (is_alias file name) p.1.aliases.items)) []

abbrev pub bearers_of : List ℕ → List Object → List DescribedCell → List ℕ → List Bearer
bearers_of file objects cells name = flat_map (object_bearers name) (numbered objects) ++ flat_map (cell_bearers file name) (numbered cells)

abbrev pub answer : Bearer → ℕ × DescribedCell → Option ℕ
answer (ObjectBearer object symbol) p = where_true (p.1.object == object) symbol
answer (CellBearer cell symbol) p = where_true (p.0 == cell) symbol

abbrev pub answer_of : List Bearer → ℕ × DescribedCell → Option ℕ
answer_of [] p = None
answer_of (h ∷ hs) p = or_else (answer h p) (answer_of hs p)
