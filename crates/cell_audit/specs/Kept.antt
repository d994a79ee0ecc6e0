-- What is kept of the lines of a dump.
--     Fits line said             the numbers of the line are small enough to be kept
--     HasRoom said cells         there is a cell to which a place or an alias can be added
--     Keeps line said old new    the new has what the old has, and what the line says
--     Tells file rows w          w has what these rows say, of a file
use Rattle.std.specs.Prelude.{◌≡◌, ◌<◌, ◌≤◌, ◌+◌, ◌-◌, ◌*◌, ◌^◌, ℕ, List, [], ◌∷◌, ◌++◌, All, IfSome, filter_map, length}
use Rattle.cell_num.specs.Limits.{page_size}
use Rattle.cell_world.specs.declared.state.Namespace.{Namespace}
use Rattle.cell_world.specs.declared.line.DumpLine.{DumpLine}
use Rattle.cell_world.specs.declared.line.DumpLine.TheVariants.{Space, Ns, Cell as CellLine, Place, Alias as AliasLine, Content}
use Rattle.cell_audit.specs.declared.dump.Line.{Line}
use Rattle.cell_audit.specs.declared.dump.Lines.{Lines}
use Rattle.cell_audit.specs.declared.kept.WrittenDump.{WrittenDump}
use Rattle.cell_audit.specs.declared.written.WrittenAlias.{WrittenAlias}
use Rattle.cell_audit.specs.declared.written.WrittenCell.{WrittenCell}
use Rattle.cell_audit.specs.declared.written.WrittenPlace.{WrittenPlace}
use Rattle.cell_audit.specs.Described.{byte_at, namespace_of, space_of}
use Rattle.cell_audit.specs.Dumps.{Row, lines_of}
use Rattle.cell_audit.specs.Told.{IsClear, Puts, byte_told}
use Rattle.cell_audit.specs.Written.{AreWritten, rows_of}

abbrev pub Fits : Line → DumpLine → Type 0
Fits line (Space base pages) = base + page_size * pages < 2 ^ 64
Fits line (Ns number name parent) = IfSome parent (λ p. p < 2 ^ 16)
Fits line (CellLine cell ns stem file group) = (cell < 2 ^ 32) × (ns < 2 ^ 16)
Fits line (AliasLine cell symbol name) = length name ≤ line.end
Fits line _ = Unit {0}

abbrev pub HasRoom : DumpLine → List WrittenCell → Type 0
HasRoom (Place cell section start) cells = 0 < length cells
HasRoom (AliasLine cell symbol name) cells = 0 < length cells
HasRoom _ cells = Unit {0}

-- ---- the memory
pub record HasSpace (base pages : ℕ) (old new : WrittenDump) : Type 0 where
  pub base_is : new.base ≡ base
  pub pages_are : new.pages ≡ pages
  pub clear : IsClear new.told base (page_size * pages)
  pub namespaces : new.namespaces ≡ old.namespaces
  pub cells : new.cells ≡ old.cells
  pub lines : new.lines ≡ old.lines

abbrev pub MemoryGoes : DumpLine → WrittenDump → WrittenDump → Type 0
MemoryGoes (Space base pages) old new = (new.base ≡ base) × (new.pages ≡ pages) × IsClear new.told base (page_size * pages)
MemoryGoes (Content at start bytes) old new = (new.base ≡ old.base) × (new.pages ≡ old.pages) × Puts start bytes old.told new.told
MemoryGoes _ old new = (new.base ≡ old.base) × (new.pages ≡ old.pages) × (new.told ≡ old.told)

-- ---- the namespaces
abbrev pub NamespacesGo : DumpLine → List Namespace → List Namespace → Type 0
NamespacesGo (Ns number name parent) old new = new ≡ old ++ record { name = name; parent = parent } ∷ []
NamespacesGo _ old new = new ≡ old

-- ---- the cells
-- a new cell stands last, and its row is that of the line
pub record Brings (line : ℕ) (said : DumpLine) (number : ℕ) (old new : List WrittenCell) : Type 0 where
  pub cell : WrittenCell
  pub added : new ≡ old ++ cell ∷ []
  pub number_is : cell.cell ≡ number
  pub row : (file : List ℕ) → rows_of file cell ≡ (line, said) ∷ []
  pub names : cell.aliases.items ≡ []

-- the last cell changes in this way
pub record LastGoes (Goes : WrittenCell → WrittenCell → Type 0) (old new : List WrittenCell) : Type 0 where
  pub front : List WrittenCell
  pub before : WrittenCell
  pub after : WrittenCell
  pub old_is : old ≡ front ++ before ∷ []
  pub new_is : new ≡ front ++ after ∷ []
  pub goes : Goes before after

pub record HasPlace (place : WrittenPlace) (old new : WrittenCell) : Type 0 where
  pub added : new.places.items ≡ old.places.items ++ place ∷ []
  pub others : new ≡ record old { places = new.places }

pub record HasAlias (alias : WrittenAlias) (old new : WrittenCell) : Type 0 where
  pub added : new.aliases.items ≡ old.aliases.items ++ alias ∷ []
  pub others : new ≡ record old { aliases = new.aliases }

abbrev pub place_of_line : Line → ℕ → ℕ → WrittenPlace
place_of_line line section start = record { line = line.number; section = section; start = start }

-- the name is the line's last word
abbrev pub alias_of : Line → ℕ → List ℕ → WrittenAlias
alias_of line symbol name =
    record { line = line.number; symbol = symbol; name_start = line.end - length name; name_end = line.end }

abbrev pub CellsGo : Line → DumpLine → List WrittenCell → List WrittenCell → Type 0
CellsGo line (CellLine cell ns stem file group) old new = Brings line.number (CellLine cell ns stem file group) cell old new
CellsGo line (Place cell section start) old new = LastGoes (HasPlace (place_of_line line section start)) old new
CellsGo line (AliasLine cell symbol name) old new = LastGoes (HasAlias (alias_of line symbol name)) old new
CellsGo line _ old new = new ≡ old

-- ---- all
pub record IsNothing (lines : Lines) (w : WrittenDump) : Type 0 where
  pub base : w.base ≡ 0
  pub pages : w.pages ≡ 0
  pub namespaces : w.namespaces.items ≡ []
  pub cells : w.cells.items ≡ []
  pub told : IsClear w.told 0 0
  pub lines_are : w.lines ≡ lines

pub record Keeps (line : Line) (said : DumpLine) (old new : WrittenDump) : Type 0 where
  pub memory : MemoryGoes said old new
  pub namespaces : NamespacesGo said old.namespaces.items new.namespaces.items
  pub cells : CellsGo line said old.cells.items new.cells.items
  pub lines : new.lines ≡ old.lines

-- the name of an alias stands in the file
pub record IsNameWithin (file : List ℕ) (alias : WrittenAlias) : Type 0 where
  pub forward : alias.name_start ≤ alias.name_end
  pub within : alias.name_end ≤ length file

abbrev pub AreNamesWithin : List ℕ → WrittenCell → Type 0
AreNamesWithin file c = All (IsNameWithin file) c.aliases.items

pub record Tells (file : List ℕ) (rows : List Row) (w : WrittenDump) : Type 0 where
  pub space : (w.base, w.pages) ≡ space_of (lines_of rows)
  pub namespaces : w.namespaces.items ≡ filter_map namespace_of (lines_of rows)
  pub cells : AreWritten file rows w.cells.items
  pub names : All (AreNamesWithin file) w.cells.items
  pub told : (addr : ℕ) → w.base ≤ addr → addr < w.base + page_size * w.pages → byte_told w.told addr ≡ byte_at (lines_of rows) addr
