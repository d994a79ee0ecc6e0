-- The relocations. gABI, "Relocation"
use Rattle.std.specs.Prelude.{ℕ, ◌+◌, ◌-◌, ◌*◌, ◌/◌, ◌%◌, ℤ, pos, Bool, true, false, not, ◌&&◌, ◌||◌, ◌==◌, nat_lt, nat_le, if◌then◌else◌, is_none, List, [], ◌∷◌, ◌++◌, slice_get, Option, Some, None}
use Rattle.std.specs.Ordering.{int_eq}
use Rattle.std.specs.List.{flat_map, list_any}
use Rattle.std.specs.Int.{w64, cast_signed}
use Rattle.cell_object.specs.declared.headers.SectionHeader.{SectionHeader}
use Rattle.cell_object.specs.declared.headers.RelaRow.{RelaRow}
use Rattle.cell_num.specs.declared.kinds.RelKind.{RelKind}
use Rattle.cell_object.specs.declared.object.Entry.{Entry}
use Rattle.cell_object.specs.declared.object.Home.{Home}
use Rattle.cell_object.specs.declared.object.Home.TheVariants.{Undef, Inside, Elsewhere}
use Rattle.cell_object.specs.declared.object.Symbol.{Symbol}
use Rattle.cell_object.specs.Parts.{is_local}
use Rattle.cell_object.specs.Bytes.{number_at, Broken, broken_where, between}
use Rattle.cell_object.specs.Header.{file_header, section_place, section_header, is_section_number}
use Rattle.cell_object.specs.Sections.{is_alloc, is_nobits, has_flag}
use Rattle.cell_object.specs.Symbols.{symtab, symbol_count, symbols_of}
use Rattle.cell_num.specs.Kinds.{kind_of, is_passed_over, width_of, is_instruction, is_stacking, is_pcrel_lo12, is_got_hi20, is_upper_pcrel}

abbrev pub is_rela : SectionHeader → Bool
is_rela h = h.sh_type == 4

-- the number of the symbol table is this one
abbrev pub is_number : Option ℕ → ℕ → Bool
is_number None n = false
is_number (Some m) n = m == n

-- one of the sections 1 to n - 1 has relocations for the same section
unfoldable pub is_relocated_below : List ℕ → ℕ → ℕ → Bool
is_relocated_below file n target =
    list_any (λ i. is_rela (section_header file i) && (section_header file i).sh_info == target) (between 1 n)

-- the section that relocations are for is loaded
abbrev pub is_for_loaded : List ℕ → SectionHeader → Bool
is_for_loaded file h = is_alloc (section_header file h.sh_info)

-- Relocations for a loaded section that aren't whole entries of 24 bytes, name no symbols of the
-- symbol table, are for a section without bytes in the file, or come after others for it.
abbrev pub is_ill_formed : List ℕ → ℕ → SectionHeader → Bool
is_ill_formed file n h =
    not (h.sh_entsize == 24) || not (h.sh_size % 24 == 0) || not (is_number (symtab file) h.sh_link) || is_nobits (section_header file h.sh_info) || is_relocated_below file n h.sh_info

-- Rule 19: relocations are for a section, and well formed where that one is loaded.
abbrev pub rule_19 : List ℕ → ℕ → ℕ → SectionHeader → List Broken
rule_19 file n at h =
    broken_where (not (is_section_number file h.sh_info) || is_for_loaded file h && is_ill_formed file n h) 19 at

-- the entry that stands at a place
unfoldable pub rela_row_at : ℕ → List ℕ → RelaRow
rela_row_at at file = record {
  r_offset = number_at 8 at file;
  r_type = number_at 4 (at + 8) file;
  r_sym = number_at 4 (at + 12) file;
  r_addend = cast_signed w64 (number_at 8 (at + 16) file);
}

abbrev pub entry_count : SectionHeader → ℕ
entry_count h = h.sh_size / 24

abbrev pub entry_place : SectionHeader → ℕ → ℕ
entry_place h k = h.sh_offset + 24 * k

abbrev pub rela_row : List ℕ → SectionHeader → ℕ → RelaRow
rela_row file h k = rela_row_at (entry_place h k) file

-- an entry, as an object has it
abbrev pub entry_from : SectionHeader → RelaRow → RelKind → Entry
entry_from h r kind = record { section = h.sh_info; offset = r.r_offset; kind = kind; symbol = r.r_sym; addend = r.r_addend }

abbrev pub entry_of_kind : SectionHeader → RelaRow → Option RelKind → List Entry
entry_of_kind h r None = []
entry_of_kind h r (Some kind) = entry_from h r kind ∷ []

-- the entry with a number, where its kind asks for something, and else nothing
unfoldable pub entry_of : List ℕ → SectionHeader → ℕ → List Entry
entry_of file h k = let r = rela_row file h k in entry_of_kind h r (kind_of r.r_type)

-- the entries 0 to k - 1 of a section of relocations
abbrev pub entries_below : List ℕ → SectionHeader → ℕ → List Entry
entries_below file h k = flat_map (entry_of file h) (between 0 k)

-- Rule 20: the kind is known.
abbrev pub rule_20 : ℕ → RelaRow → List Broken
rule_20 at r = broken_where (not (is_passed_over r.r_type) && is_none (kind_of r.r_type)) 20 (at + 8)

-- a LOCAL symbol that is undefined, or in a section that isn't loaded
abbrev pub is_unplaced : Home → Bool
is_unplaced Undef = true
is_unplaced Elsewhere = true
is_unplaced _ = false

abbrev pub is_unusable_symbol : Option Symbol → Bool
is_unusable_symbol None = true
is_unusable_symbol (Some s) = is_local s.bind && is_unplaced s.home

-- a symbol number, where 0 is no symbol and j the j-th of the list, that relocations can't use
abbrev pub is_unusable : List Symbol → ℕ → Bool
is_unusable symbols j = not (j == 0) && is_unusable_symbol (slice_get symbols (j - 1))

-- how many symbols the symbol table has, symbol 0 among them
abbrev pub symbol_total_of : List ℕ → Option ℕ → ℕ
symbol_total_of file None = 0
symbol_total_of file (Some n) = symbol_count (section_header file n)

abbrev pub symbol_total : List ℕ → ℕ
symbol_total file = symbol_total_of file (symtab file)

-- Rule 21: the symbol is in the table of so many, and a LOCAL is absolute or in a loaded section.
abbrev pub rule_21 : ℕ → List Symbol → ℕ → ℕ → List Broken
rule_21 total symbols at j = broken_where (nat_le total j || is_unusable symbols j) 21 (at + 12)

-- Rule 22: the field is in the section; an instruction is in an executable section, at a multiple of 4.
abbrev pub rule_22 : SectionHeader → ℕ → ℕ → RelKind → List Broken
rule_22 target at offset kind =
    broken_where (nat_lt target.sh_size (offset + width_of kind) || is_instruction kind && (not (has_flag 4 target) || not (offset % 4 == 0))) 22 at

-- two fields share a byte
abbrev pub is_shared : Entry → Entry → Bool
is_shared e f = nat_lt e.offset (f.offset + width_of f.kind) && nat_lt f.offset (e.offset + width_of e.kind)

-- both are ADD, SUB or SET kinds of one field
abbrev pub is_stack : Entry → Entry → Bool
is_stack e f = e.offset == f.offset && width_of e.kind == width_of f.kind && is_stacking e.kind && is_stacking f.kind

abbrev pub is_clash : Entry → Entry → Bool
is_clash e f = is_shared e f && not (is_stack e f)

-- Rule 23: the field shares no byte with the field of an entry before, but for one that it may stack on.
abbrev pub rule_23 : List Entry → ℕ → Entry → List Broken
rule_23 before at e = broken_where (list_any (is_clash e) before) 23 at

-- the rules of an entry whose kind asks for something, after the entries before it
unfoldable pub field_rules : List ℕ → List Entry → ℕ → Entry → List Broken
field_rules file before at e =
    rule_21 (symbol_total file) (symbols_of file) at e.symbol ++ (rule_22 (section_header file e.section) at e.offset e.kind ++ rule_23 before at e)

unfoldable pub entry_rules : List ℕ → SectionHeader → ℕ → List Broken
entry_rules file h k =
    let at = entry_place h k in
    rule_20 at (rela_row file h k) ++ flat_map (field_rules file (entries_below file h k) at) (entry_of file h k)

-- the rules of one section of relocations, and of its entries where they are for a loaded section
unfoldable pub relocation_rules : List ℕ → ℕ → List Broken
relocation_rules file n =
    let h = section_header file n in
    if is_rela h
    then rule_19 file n (section_place file n) h ++ (if is_for_loaded file h then flat_map (entry_rules file h) (between 0 (entry_count h)) else [])
    else []

abbrev pub relocations_rules : List ℕ → List Broken
relocations_rules file = flat_map (relocation_rules file) (between 1 (file_header file).e_shnum)

-- the entries for a loaded section
unfoldable pub section_entries : List ℕ → ℕ → List Entry
section_entries file n =
    let h = section_header file n in
    if is_rela h && is_for_loaded file h then entries_below file h (entry_count h) else []

abbrev pub entries_of : List ℕ → List Entry
entries_of file = flat_map (section_entries file) (between 1 (file_header file).e_shnum)

-- the symbol with a number from 1 is in this section at the offset of a PCREL_HI20 or GOT_HI20 entry of the list
abbrev pub is_label : ℕ → List Entry → Home → ℕ → Bool
is_label section entries (Inside n) value = n == section && list_any (λ e. is_upper_pcrel e.kind && e.offset == value) entries
is_label section entries _ value = false

abbrev pub is_label_symbol : ℕ → List Entry → Option Symbol → Bool
is_label_symbol section entries None = false
is_label_symbol section entries (Some s) = is_label section entries s.home s.value

abbrev pub has_label : ℕ → List Entry → List Symbol → ℕ → Bool
has_label section entries symbols j = not (j == 0) && is_label_symbol section entries (slice_get symbols (j - 1))

-- a PCREL_LO12 in a section with an addend other than 0, or without the label of an upper part there
abbrev pub is_unpaired : List Symbol → List Entry → ℕ → RelKind → ℤ → ℕ → Bool
is_unpaired symbols entries section kind addend j =
    is_pcrel_lo12 kind && (not (int_eq addend (pos 0)) || not (has_label section entries symbols j))

-- Rule 24: a PCREL_LO12 has the addend 0, and the label of a PCREL_HI20 or GOT_HI20 in its own section.
abbrev pub rule_24 : List Symbol → List Entry → ℕ → Entry → List Broken
rule_24 symbols entries at e = broken_where (is_unpaired symbols entries e.section e.kind e.addend e.symbol) 24 at

unfoldable pub pair_rules : List ℕ → SectionHeader → ℕ → List Broken
pair_rules file h k =
    flat_map (rule_24 (symbols_of file) (entries_below file h (entry_count h)) (entry_place h k)) (entry_of file h k)

unfoldable pub section_pairs : List ℕ → ℕ → List Broken
section_pairs file n =
    let h = section_header file n in
    if is_rela h && is_for_loaded file h then flat_map (pair_rules file h) (between 0 (entry_count h)) else []

-- all entries again
abbrev pub pairs_rules : List ℕ → List Broken
pairs_rules file = flat_map (section_pairs file) (between 1 (file_header file).e_shnum)

-- a GOT_HI20 with an addend other than 0
abbrev pub is_past_slot : RelKind → ℤ → Bool
is_past_slot kind addend = is_got_hi20 kind && not (int_eq addend (pos 0))

-- Rule 25: a GOT_HI20 has the addend 0.
abbrev pub rule_25 : ℕ → Entry → List Broken
rule_25 at e = broken_where (is_past_slot e.kind e.addend) 25 at

unfoldable pub slot_rules : List ℕ → SectionHeader → ℕ → List Broken
slot_rules file h k = flat_map (rule_25 (entry_place h k)) (entry_of file h k)

unfoldable pub section_slots : List ℕ → ℕ → List Broken
section_slots file n =
    let h = section_header file n in
    if is_rela h && is_for_loaded file h then flat_map (slot_rules file h) (between 0 (entry_count h)) else []

-- all entries once more
abbrev pub slots_rules : List ℕ → List Broken
slots_rules file = flat_map (section_slots file) (between 1 (file_header file).e_shnum)
