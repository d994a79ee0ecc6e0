-- Names, and whose they are.
--     Named, named name owner             a name and its owner
--     symbol_owner object p               the owner of the name of an object's symbol, which has its place; a WEAK bears no name strongly, so it is like a need
--     symbol_naming object p              the naming of an object's symbol, if it isn't LOCAL
--     alias_naming file cell p            that of a cell's alias, which has its place
--     namings_of file objects cells       all of them
--     is_called name n                    it is one of that name
--     borne owner                         the bearer that the owner is, if it is one
--     distinct bs                         the bearers without those that are again an alias of the cell before
--     bearers_among name ns               the bearers that those of the name make
--     AreInOrder ns                       the names' numbers, and the names of one number, don't fall
--     IsRun ns len                        so many have the first one's name, and the next one hasn't
--     is_owners o n                       the second owner is the first's symbol or alias
--     AreFaithful ns                      what is of one symbol or alias is one name
use Rattle.std.specs.Prelude.{◌≡◌, ◌<◌, ◌≤◌, ◌==◌, ◌&&◌, ◌++◌, ℕ, Bool, true, false, not, List, [], ◌∷◌, Option, Some, None, filter, filter_map, flat_map, length, map, slice_index_or, if◌then◌else◌}
use Rattle.std.specs.Cmp.Lexicographic.{slice_cmp}
use Rattle.std.specs.List.Sorted.{IsSortedBy}
use Rattle.std.specs.Ordering.{is_lt, nat_cmp}
use Rattle.cell_num.specs.Lists.{In, equals, numbered, where_true}
use Rattle.cell_object.specs.declared.object.Object.{Object}
use Rattle.cell_object.specs.declared.object.Symbol.{Symbol}
use Rattle.cell_object.specs.Parts.{is_definition, is_local}
use Rattle.cell_audit.specs.declared.written.WrittenAlias.{WrittenAlias}
use Rattle.cell_described.specs.declared.cell.DescribedCell.{DescribedCell}
use Rattle.cell_bearers.specs.Bearers.{alias_text}
use Rattle.cell_bearers.specs.Key.{keyed}
use Rattle.cell_bearers.specs.declared.bearer.Bearer.{Bearer}
use Rattle.cell_bearers.specs.declared.bearer.Bearer.TheVariants.{Object as ObjectBearer, Cell as CellBearer}
use Rattle.cell_bearers.specs.declared.named.Owner.{Owner}
use Rattle.cell_bearers.specs.declared.named.Owner.TheVariants.{Need, Definition, Alias}

pub record Named : Type 0 where
  pub name : List ℕ
  pub owner : Owner

abbrev pub named : List ℕ → Owner → Named
named name owner = record { name = name; owner = owner }

abbrev pub symbol_owner : ℕ → ℕ × Symbol → Owner
symbol_owner object p = if is_definition p.1 then Definition object p.0 else Need object p.0

abbrev pub symbol_naming : ℕ → ℕ × Symbol → Option Named
symbol_naming object p = where_true (not (is_local p.1.bind)) (named p.1.name (symbol_owner object p))

abbrev pub object_namings : ℕ × Object → List Named
object_namings p = filter_map (symbol_naming p.0) (numbered p.1.symbols)

abbrev pub alias_naming : List ℕ → ℕ → ℕ × WrittenAlias → Named
alias_naming file cell p = named (alias_text file p.1) (Alias cell p.0 p.1.symbol)

abbrev pub cell_namings : List ℕ → ℕ × DescribedCell → List Named
cell_namings file p = map (alias_naming file p.0) (numbered p.1.aliases.items)

abbrev pub namings_of : List ℕ → List Object → List DescribedCell → List Named
namings_of file objects cells = flat_map object_namings (numbered objects) ++ flat_map (cell_namings file) (numbered cells)

abbrev pub is_called : List ℕ → Named → Bool
is_called name n = equals n.name name

abbrev pub borne : Owner → Option Bearer
borne (Need object symbol) = None
borne (Definition object symbol) = Some (ObjectBearer object symbol)
borne (Alias cell alias symbol) = Some (CellBearer cell symbol)

abbrev pub bearer_of : Named → Option Bearer
bearer_of n = borne n.owner

-- it is an alias of the cell
abbrev pub is_of_cell : ℕ → Option Bearer → Bool
is_of_cell cell None = false
is_of_cell cell (Some (ObjectBearer object symbol)) = false
is_of_cell cell (Some (CellBearer other symbol)) = other == cell

abbrev pub is_again : Option Bearer → Bearer → Bool
is_again last (ObjectBearer object symbol) = false
is_again last (CellBearer cell symbol) = is_of_cell cell last

abbrev pub distinct_after : Option Bearer → List Bearer → List Bearer
distinct_after last [] = []
distinct_after last (b ∷ bs) = if is_again last b then distinct_after last bs else b ∷ distinct_after (Some b) bs

abbrev pub distinct : List Bearer → List Bearer
distinct = distinct_after None

abbrev pub bearers_among : List ℕ → List Named → List Bearer
bearers_among name ns = distinct (filter_map bearer_of (filter (is_called name) ns))

abbrev pub is_lower : Named → Named → Bool
is_lower a b = is_lt (slice_cmp nat_cmp (keyed a.name) (keyed b.name))

abbrev pub AreInOrder : List Named → Type 0
AreInOrder = IsSortedBy is_lower

pub record IsRun (ns : List Named) (len : ℕ) : Type 0 where
  pub some : 0 < len
  pub within : len ≤ length ns
  pub same : (k : ℕ) (d : Named) → k < len → (slice_index_or ns k d).name ≡ (slice_index_or ns 0 d).name
  pub other : (d : Named) → len < length ns → equals (slice_index_or ns len d).name (slice_index_or ns 0 d).name ≡ false

abbrev pub is_symbols : ℕ → ℕ → Owner → Bool
is_symbols i k (Need object symbol) = i == object && k == symbol
is_symbols i k (Definition object symbol) = i == object && k == symbol
is_symbols i k (Alias cell alias symbol) = false

abbrev pub is_aliases : ℕ → ℕ → Owner → Bool
is_aliases i k (Need object symbol) = false
is_aliases i k (Definition object symbol) = false
is_aliases i k (Alias cell alias symbol) = i == cell && k == alias

abbrev pub is_owners : Owner → Owner → Bool
is_owners (Need object symbol) o = is_symbols object symbol o
is_owners (Definition object symbol) o = is_symbols object symbol o
is_owners (Alias cell alias symbol) o = is_aliases cell alias o

abbrev pub AreFaithful : List Named → Type 0
AreFaithful ns = (m n : Named) → In m ns → In n ns → is_owners m.owner n.owner ≡ true → m.name ≡ n.name
