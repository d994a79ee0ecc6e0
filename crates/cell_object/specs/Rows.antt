-- The bytes of a header, a symbol and a relocation entry. gABI, "ELF Header", "Sections", "Symbol
-- Table", "Relocation". A number that doesn't fit its bytes is stored modulo their size.
use Rattle.std.specs.Prelude.{ℕ, ◌+◌, ◌*◌, List, [], ◌∷◌, ◌++◌, replicate}
use Rattle.std.specs.List.{flat_map}
use Rattle.std.specs.Int.{w64, cast_unsigned}
use Rattle.cell_num.specs.Bits.{bytes_of}
use Rattle.cell_num.specs.declared.kinds.RelKind.{RelKind}
use Rattle.cell_num.specs.Kinds.{row_of}
use Rattle.cell_object.specs.declared.object.Bind.{Bind}
use Rattle.cell_object.specs.declared.object.Bind.TheVariants.{Local, Global, Weak}
use Rattle.cell_object.specs.declared.object.Sort.{Sort}
use Rattle.cell_object.specs.declared.object.Sort.TheVariants as sorts
use Rattle.cell_object.specs.declared.object.Home.{Home}
use Rattle.cell_object.specs.declared.object.Home.TheVariants.{Undef, Abs, Inside, Elsewhere}
use Rattle.cell_object.specs.declared.object.Symbol.{Symbol}
use Rattle.cell_object.specs.declared.object.Entry.{Entry}
use Rattle.cell_object.specs.Header.{identification}
use Rattle.cell_object.specs.declared.headers.SectionHeader.{SectionHeader}

-- a number in so many bytes, the lowest first
unfoldable pub stored : ℕ → ℕ → List ℕ
stored count number = bytes_of count number

-- numbers, each with how many bytes it takes, one after another
unfoldable pub fields : List (ℕ × ℕ) → List ℕ
fields numbers = flat_map (λ field. stored field.1 field.0) numbers

-- The ELF header of a relocatable file (ET_REL) for RISC-V with so many section headers at an
-- offset, the names of its sections in the section with a number.
unfoldable pub header_bytes : ℕ → ℕ → ℕ → List ℕ
header_bytes shoff shnum shstrndx =
    (identification ++ replicate 9 0)
    ++ fields
    ((1, 2)  -- e_type
    ∷ (243, 2)  -- e_machine
    ∷ (1, 4)  -- e_version
    ∷ (0, 8)  -- e_entry
    ∷ (0, 8)  -- e_phoff
    ∷ (shoff, 8)
    ∷ (0, 4)  -- e_flags
    ∷ (64, 2)  -- e_ehsize
    ∷ (0, 2)  -- e_phentsize
    ∷ (0, 2)  -- e_phnum
    ∷ (64, 2)  -- e_shentsize
    ∷ (shnum, 2)
    ∷ (shstrndx, 2) ∷ [])

-- a section header
unfoldable pub section_row_bytes : SectionHeader → List ℕ
section_row_bytes h =
    fields
    ((h.sh_name, 4)
    ∷ (h.sh_type, 4)
    ∷ (h.sh_flags, 8)
    ∷ (0, 8)  -- sh_addr
    ∷ (h.sh_offset, 8)
    ∷ (h.sh_size, 8)
    ∷ (h.sh_link, 4)
    ∷ (h.sh_info, 4)
    ∷ (h.sh_addralign, 8)
    ∷ (h.sh_entsize, 8) ∷ [])

-- STB_LOCAL, STB_GLOBAL, STB_WEAK
abbrev pub bind_number : Bind → ℕ
bind_number Local = 0
bind_number Global = 1
bind_number Weak = 2

-- STT_NOTYPE, STT_OBJECT, STT_FUNC, STT_SECTION, STT_FILE
abbrev pub sort_number : Sort → ℕ
sort_number sorts.NoType = 0
sort_number sorts.Object = 1
sort_number sorts.Func = 2
sort_number sorts.Section = 3
sort_number sorts.File = 4

-- SHN_UNDEF, SHN_ABS, the number of a section; a symbol elsewhere is put into the section with the
-- number `symtab`, which isn't loaded
abbrev pub home_number : ℕ → Home → ℕ
home_number symtab Undef = 0
home_number symtab Abs = 0xFFF1
home_number symtab (Inside n) = n
home_number symtab Elsewhere = symtab

-- a symbol whose name stands at a place of the string table
unfoldable pub symbol_bytes : ℕ → ℕ → Symbol → List ℕ
symbol_bytes symtab name s =
    fields
    ((name, 4)
    ∷ (16 * bind_number s.bind + sort_number s.sort, 1)
    ∷ (0, 1)  -- st_other
    ∷ (home_number symtab s.home, 2)
    ∷ (s.value, 8)
    ∷ (s.size, 8) ∷ [])

-- the number of a kind, as the table of kinds has it
unfoldable pub kind_number : RelKind → ℕ
kind_number kind = (row_of kind).number

-- a relocation entry: the kind is the low half of r_info and the symbol the high half
unfoldable pub entry_bytes : Entry → List ℕ
entry_bytes e = fields ((e.offset, 8) ∷ (kind_number e.kind, 4) ∷ (e.symbol, 4) ∷ (cast_unsigned w64 e.addend, 8) ∷ [])
