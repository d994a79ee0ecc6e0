-- The parts of an object's image, and where they stand: each begins at the next multiple of 8, with
-- zero bytes between.
use Rattle.std.specs.Prelude.{ℕ, ◌+◌, ◌-◌, ◌%◌, Bool, ◌==◌, not, List, [], ◌∷◌, ◌++◌, length, map, replicate, codes}
use Rattle.std.specs.List.{flat_map, filter}
use Rattle.cell_num.specs.Lists.{numbered_from}
use Rattle.cell_object.specs.declared.object.Object.{Object}
use Rattle.cell_object.specs.declared.object.Section.{Section}
use Rattle.cell_object.specs.declared.object.Symbol.{Symbol}
use Rattle.cell_object.specs.declared.object.Entry.{Entry}
use Rattle.cell_object.specs.declared.object.Fill.{Fill}
use Rattle.cell_object.specs.declared.object.Fill.TheVariants.{Prog, Note, Zero}
use Rattle.cell_object.specs.Before.{with_before}
use Rattle.cell_object.specs.Strings.{string_table, name_place}
use Rattle.cell_object.specs.Rows.{symbol_bytes, entry_bytes}

-- how many zero bytes lead to the next multiple of 8
abbrev pub padding : ℕ → ℕ
padding n = (8 - n % 8) % 8

-- a part, and the zero bytes before the next
unfoldable pub padded : List ℕ → List ℕ
padded part = part ++ replicate (padding (length part)) 0

-- where a part begins after these ones, behind the ELF header
abbrev pub offset_after : List (List ℕ) → ℕ
offset_after parts = 64 + length (flat_map padded parts)

-- The object's sections get the numbers from 1 on, in order.

abbrev pub symtab_number : Object → ℕ
symtab_number object = length object.sections + 1

abbrev pub strtab_number : Object → ℕ
strtab_number object = length object.sections + 2

abbrev pub shstrtab_number : Object → ℕ
shstrtab_number object = length object.sections + 3

-- the entries for the section with a number
unfoldable pub entries_for : List Entry → ℕ → List Entry
entries_for entries number = filter (λ e. e.section == number) entries

abbrev pub has_entries : List Entry → ℕ → Bool
has_entries entries number = not (length (entries_for entries number) == 0)

-- the sections that have entries, with their numbers
unfoldable pub relocated : List Section → List Entry → List (ℕ × Section)
relocated sections entries = filter (λ row. has_entries entries row.0) (numbered_from 1 sections)

-- the bytes of a section; one that is filled with zeros has none
abbrev pub filled : Fill → List ℕ → List ℕ
filled Prog bytes = bytes
filled Note bytes = bytes
filled Zero bytes = []

abbrev pub content : Section → List ℕ
content s = filled s.fill s.bytes

-- the symbols, behind the 24 zero bytes of symbol 0
abbrev pub symbol_part_bytes : ℕ → List Symbol × Symbol → List ℕ
symbol_part_bytes symtab (before, s) = symbol_bytes symtab (name_place (map (λ b. b.name) before) s.name) s

unfoldable pub symbols_part : Object → List ℕ
symbols_part object = replicate 24 0 ++ flat_map (symbol_part_bytes (symtab_number object)) (with_before object.symbols)

unfoldable pub symbol_strings : Object → List ℕ
symbol_strings object = string_table (map (λ s. s.name) object.symbols)

-- the entries of a section
abbrev pub table : List Entry → ℕ × Section → List ℕ
table entries row = flat_map entry_bytes (entries_for entries row.0)

-- The names of sections: the object's own, those of the three tables, and those of relocations.

abbrev pub own_names : List Section → List (List ℕ)
own_names sections = map (λ s. s.name) sections

abbrev pub table_name : ℕ × Section → List ℕ
table_name row = codes ".rela" ++ row.1.name

abbrev pub names_before_tables : Object → List (List ℕ)
names_before_tables object = own_names object.sections ++ (codes ".symtab" ∷ codes ".strtab" ∷ codes ".shstrtab" ∷ [])

unfoldable pub section_strings : Object → List ℕ
section_strings object = string_table (names_before_tables object ++ map table_name (relocated object.sections object.entries))

-- The parts in their order: contents, symbols, relocations, and the two string tables.

abbrev pub contents : List Section → List (List ℕ)
contents sections = map content sections

abbrev pub parts_before_tables : Object → List (List ℕ)
parts_before_tables object = contents object.sections ++ (symbols_part object ∷ [])

abbrev pub parts_before_strings : Object → List (List ℕ)
parts_before_strings object = parts_before_tables object ++ map (table object.entries) (relocated object.sections object.entries)

abbrev pub parts_before_names : Object → List (List ℕ)
parts_before_names object = parts_before_strings object ++ (symbol_strings object ∷ [])

abbrev pub parts : Object → List (List ℕ)
parts object = parts_before_names object ++ (section_strings object ∷ [])
