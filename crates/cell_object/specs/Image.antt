-- The image of an object: the ELF file that it is written as.
use Rattle.std.specs.Prelude.{ℕ, ◌+◌, Bool, if◌then◌else◌, List, [], ◌∷◌, ◌++◌, length, map, codes}
use Rattle.std.specs.List.{flat_map, filter}
use Rattle.cell_object.specs.declared.object.Object.{Object}
use Rattle.cell_object.specs.declared.object.Section.{Section}
use Rattle.cell_object.specs.declared.object.Fill.{Fill}
use Rattle.cell_object.specs.declared.object.Fill.TheVariants.{Prog, Note, Zero}
use Rattle.cell_object.specs.Parts.{is_local}
use Rattle.cell_object.specs.declared.headers.SectionHeader.{SectionHeader}
use Rattle.cell_object.specs.Before.{with_before}
use Rattle.cell_object.specs.Strings.{name_place}
use Rattle.cell_object.specs.Rows.{header_bytes, section_row_bytes}
use Rattle.cell_object.specs.ImageParts.{offset_after, padded, symtab_number, strtab_number, shstrtab_number, relocated, symbols_part, symbol_strings, section_strings, table, table_name, own_names, names_before_tables, contents, parts_before_tables, parts_before_strings, parts_before_names, parts}

-- section header 0
abbrev pub null_row : SectionHeader
null_row = record {
  sh_name = 0;
  sh_type = 0;
  sh_flags = 0;
  sh_offset = 0;
  sh_size = 0;
  sh_link = 0;
  sh_info = 0;
  sh_addralign = 0;
  sh_entsize = 0;
}

-- SHT_PROGBITS, SHT_NOTE, SHT_NOBITS
abbrev pub fill_type : Fill → ℕ
fill_type Prog = 1
fill_type Note = 7
fill_type Zero = 8

-- the flag, where it is set
abbrev pub flag : Bool → ℕ → ℕ
flag set number = if set then number else 0

-- SHF_ALLOC, with SHF_WRITE and SHF_EXECINSTR
abbrev pub section_flags : Section → ℕ
section_flags s = 2 + flag s.write 1 + flag s.exec 4

-- the header of a section of the object, its name and its bytes at these places
abbrev pub section_row : ℕ → ℕ → Section → SectionHeader
section_row name offset s = record {
  sh_name = name;
  sh_type = fill_type s.fill;
  sh_flags = section_flags s;
  sh_offset = offset;
  sh_size = s.size;
  sh_link = 0;
  sh_info = 0;
  sh_addralign = s.align;
  sh_entsize = 0;
}

abbrev pub own_row : List Section × Section → SectionHeader
own_row (before, s) = section_row (name_place (own_names before) s.name) (offset_after (contents before)) s

-- SHT_SYMTAB; sh_info is one more than the number of LOCAL symbols
abbrev pub local_count : Object → ℕ
local_count object = length (filter (λ s. is_local s.bind) object.symbols)

abbrev pub symtab_row_at : Object → ℕ → ℕ → ℕ → SectionHeader
symtab_row_at object name offset size = record {
  sh_name = name;
  sh_type = 2;
  sh_flags = 0;
  sh_offset = offset;
  sh_size = size;
  sh_link = strtab_number object;
  sh_info = local_count object + 1;
  sh_addralign = 8;
  sh_entsize = 24;
}

abbrev pub symtab_row : Object → SectionHeader
symtab_row object =
    symtab_row_at object
    (name_place (own_names object.sections) (codes ".symtab"))
    (offset_after (contents object.sections))
    (length (symbols_part object))

-- SHT_STRTAB
abbrev pub strings_row : ℕ → ℕ → ℕ → SectionHeader
strings_row name offset size = record {
  sh_name = name;
  sh_type = 3;
  sh_flags = 0;
  sh_offset = offset;
  sh_size = size;
  sh_link = 0;
  sh_info = 0;
  sh_addralign = 1;
  sh_entsize = 0;
}

abbrev pub strtab_row : Object → SectionHeader
strtab_row object =
    strings_row
    (name_place (own_names object.sections ++ (codes ".symtab" ∷ [])) (codes ".strtab"))
    (offset_after (parts_before_strings object))
    (length (symbol_strings object))

abbrev pub shstrtab_row : Object → SectionHeader
shstrtab_row object =
    strings_row
    (name_place (own_names object.sections ++ (codes ".symtab" ∷ codes ".strtab" ∷ [])) (codes ".shstrtab"))
    (offset_after (parts_before_names object))
    (length (section_strings object))

-- SHT_RELA, with SHF_INFO_LINK: relocations for the section with a number
abbrev pub rela_row : ℕ → ℕ → ℕ → ℕ → ℕ → SectionHeader
rela_row symtab name offset size number = record {
  sh_name = name;
  sh_type = 4;
  sh_flags = 0x40;
  sh_offset = offset;
  sh_size = size;
  sh_link = symtab;
  sh_info = number;
  sh_addralign = 8;
  sh_entsize = 24;
}

abbrev pub table_row : Object → List (ℕ × Section) × (ℕ × Section) → SectionHeader
table_row object (before, row) =
    rela_row
    (symtab_number object)
    (name_place (names_before_tables object ++ map table_name before) (table_name row))
    (offset_after (parts_before_tables object ++ map (table object.entries) before))
    (length (table object.entries row))
    row.0

-- the section headers in their order
abbrev pub section_rows : Object → List SectionHeader
section_rows object =
    null_row
    ∷ (map own_row (with_before object.sections)
    ++ (symtab_row object ∷ strtab_row object ∷ shstrtab_row object ∷ map (table_row object) (with_before (relocated object.sections object.entries))))

abbrev pub image_header : Object → List ℕ
image_header object = header_bytes (offset_after (parts object)) (length (section_rows object)) (shstrtab_number object)

-- the ELF header, the parts and the section headers
unfoldable pub image : Object → List ℕ
image object = image_header object ++ (flat_map padded (parts object) ++ flat_map section_row_bytes (section_rows object))
