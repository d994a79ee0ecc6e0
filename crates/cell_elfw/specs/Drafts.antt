-- What a draft of the file holds.
use Rattle.std.specs.Prelude.{◌≡◌, ℕ, ◌+◌, ◌<◌, ◌==◌, if◌then◌else◌, List, [], ◌∷◌, ◌++◌, length, map, replicate, get_or}
use Rattle.std.specs.List.{flat_map}
use Rattle.cell_object.specs.declared.object.Object.{Object}
use Rattle.cell_object.specs.declared.object.Section.{Section}
use Rattle.cell_object.specs.declared.object.Symbol.{Symbol}
use Rattle.cell_object.specs.declared.object.Entry.{Entry}
use Rattle.cell_object.specs.Before.{with_before}
use Rattle.cell_object.specs.Strings.{string_table}
use Rattle.cell_object.specs.Rows.{section_row_bytes}
use Rattle.cell_object.specs.ImageParts.{padded, contents, own_names, names_before_tables, parts_before_tables, table, table_name, entries_for, symbol_part_bytes}
use Rattle.cell_object.specs.Image.{own_row, table_row}

-- room for the ELF header, and the parts
abbrev pub file_of : List (List ℕ) → List ℕ
file_of parts = replicate 64 0 ++ flat_map padded parts

-- the object's sections
pub record HoldsSections (written texts headers : List ℕ) (sections : List Section) : Type 0 where
  pub file : written ≡ file_of (contents sections)
  pub names : texts ≡ string_table (own_names sections)
  pub rows : headers ≡ flat_map (λ row. section_row_bytes (own_row row)) (with_before sections)

-- the parts of an object up to the relocations of these sections
pub record HoldsTables (written texts headers : List ℕ) (object : Object) (tables : List (ℕ × Section)) : Type 0 where
  pub file : written ≡ file_of (parts_before_tables object ++ map (table object.entries) tables)
  pub names : texts ≡ string_table (names_before_tables object ++ map table_name tables)
  pub rows : headers ≡ flat_map (λ row. section_row_bytes (table_row object row)) (with_before tables)

-- the entries of each section, in order; those of section 1 stand first
abbrev pub AreTables : {T : Type 0} → (T → List Entry) → List Entry → List T → Type 0
AreTables {T = T} items entries tables =
    (d : T) (k : ℕ) → k < length tables → items (get_or tables k d) ≡ entries_for entries (k + 1)

-- an entry was put to those of its section
abbrev pub IsEntryPut : {T : Type 0} → (T → List Entry) → Entry → List T → List T → Type 0
IsEntryPut {T = T} items entry old new =
    (d : T) (k : ℕ) → k < length old → items (get_or new k d) ≡ items (get_or old k d) ++ (if entry.section == k + 1 then entry ∷ [] else [])

-- the bytes of a symbol table and of its string table, with these symbols
pub record HoldsSymbols (bytes texts : List ℕ) (symtab : ℕ) (symbols : List Symbol) : Type 0 where
  pub rows : bytes ≡ replicate 24 0 ++ flat_map (symbol_part_bytes symtab) (with_before symbols)
  pub strings : texts ≡ string_table (map (λ s. s.name) symbols)
