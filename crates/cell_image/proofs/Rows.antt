-- A header, a symbol and an entry, read where they were written.
use Rattle.std.proofs.Common.{◌≡◌, ℕ, ◌+◌, ◌*◌, ◌^◌, ◌<◌, List, [], ◌++◌, length, ap, ◌∙◌, FitsSigned}
use Rattle.std.specs.Int.{w64, cast_signed, cast_unsigned}
use Rattle.std.proofs.lemmas.Int.{to_z-of_z}
use Rattle.cell_object.specs.declared.headers.SectionHeader.{SectionHeader}
use Rattle.cell_object.specs.declared.headers.SymbolRow.{SymbolRow}
use Rattle.cell_object.specs.declared.headers.RelaRow.{RelaRow}
use Rattle.cell_object.specs.declared.object.Symbol.{Symbol}
use Rattle.cell_object.specs.declared.object.Entry.{Entry}
use Rattle.cell_object.specs.Bytes.{number_at}
use Rattle.cell_object.specs.Header.{file_header, section_header_at}
use Rattle.cell_object.specs.Symbols.{symbol_row_at}
use Rattle.cell_object.specs.Relocations.{rela_row_at}
use Rattle.cell_object.specs.Rows.{stored, fields, header_bytes, section_row_bytes, symbol_bytes, entry_bytes, bind_number, sort_number, home_number, kind_number}
use Rattle.cell_image.proofs.Stored.{stored_number, number_behind, number_at_seam}

-- the numbers of a section header fit their bytes
pub record FitsRow (h : SectionHeader) : Type 0 where
  pub name : h.sh_name < 256 ^ 4
  pub kind : h.sh_type < 256 ^ 4
  pub flags : h.sh_flags < 256 ^ 8
  pub offset : h.sh_offset < 256 ^ 8
  pub size : h.sh_size < 256 ^ 8
  pub link : h.sh_link < 256 ^ 4
  pub info : h.sh_info < 256 ^ 4
  pub align : h.sh_addralign < 256 ^ 8
  pub entry : h.sh_entsize < 256 ^ 8

row_here : (h : SectionHeader) (ys : List ℕ) → FitsRow h → section_header_at 0 (section_row_bytes h ++ ys) ≡ h
unfolding section_header_at number_at section_row_bytes fields stored
row_here h ys f = λ k. record {
  sh_name = stored_number 4 h.sh_name [] f.name k;
  sh_type = stored_number 4 h.sh_type [] f.kind k;
  sh_flags = stored_number 8 h.sh_flags [] f.flags k;
  sh_offset = stored_number 8 h.sh_offset [] f.offset k;
  sh_size = stored_number 8 h.sh_size [] f.size k;
  sh_link = stored_number 4 h.sh_link [] f.link k;
  sh_info = stored_number 4 h.sh_info [] f.info k;
  sh_addralign = stored_number 8 h.sh_addralign [] f.align k;
  sh_entsize = stored_number 8 h.sh_entsize [] f.entry k;
}

row_behind : (at : ℕ) (xs ys : List ℕ) → at ≡ length xs → section_header_at at (xs ++ ys) ≡ section_header_at 0 ys
unfolding section_header_at
row_behind at xs ys e = λ k. record {
  sh_name = number_at_seam 4 at xs ys e k;
  sh_type = number_behind 4 at 4 xs ys e k;
  sh_flags = number_behind 8 at 8 xs ys e k;
  sh_offset = number_behind 8 at 24 xs ys e k;
  sh_size = number_behind 8 at 32 xs ys e k;
  sh_link = number_behind 4 at 40 xs ys e k;
  sh_info = number_behind 4 at 44 xs ys e k;
  sh_addralign = number_behind 8 at 48 xs ys e k;
  sh_entsize = number_behind 8 at 56 xs ys e k;
}

pub row_is_read : (at : ℕ) (xs ys : List ℕ) (h : SectionHeader) → at ≡ length xs → FitsRow h → section_header_at at (xs ++ (section_row_bytes h ++ ys)) ≡ h
row_is_read at xs ys h e f = row_behind at xs (section_row_bytes h ++ ys) e ∙ row_here h ys f

-- the ELF header
pub header_is_read : (shoff shnum shstrndx : ℕ) (ys : List ℕ) → shoff < 256 ^ 8 → shnum < 256 ^ 2 → shstrndx < 256 ^ 2
    → file_header (header_bytes shoff shnum shstrndx ++ ys)
    ≡ record { e_type = 1; e_machine = 243; e_version = 1; e_shoff = shoff; e_flags = 0; e_phnum = 0; e_shentsize = 64; e_shnum = shnum; e_shstrndx = shstrndx }
unfolding file_header number_at header_bytes fields stored
header_is_read shoff shnum shstrndx ys a b c = λ k. record {
  e_type = 1;
  e_machine = 243;
  e_version = 1;
  e_shoff = stored_number 8 shoff [] a k;
  e_flags = 0;
  e_phnum = 0;
  e_shentsize = 64;
  e_shnum = stored_number 2 shnum [] b k;
  e_shstrndx = stored_number 2 shstrndx [] c k;
}

-- a symbol
pub record FitsSymbol (symtab name : ℕ) (s : Symbol) : Type 0 where
  pub place : name < 256 ^ 4
  pub info : 16 * bind_number s.bind + sort_number s.sort < 256 ^ 1
  pub home : home_number symtab s.home < 256 ^ 2
  pub value : s.value < 256 ^ 8
  pub size : s.size < 256 ^ 8

abbrev pub read_symbol : ℕ → ℕ → Symbol → SymbolRow
read_symbol symtab name s = record {
  st_name = name;
  st_info = 16 * bind_number s.bind + sort_number s.sort;
  st_shndx = home_number symtab s.home;
  st_value = s.value;
  st_size = s.size;
}

symbol_here : (symtab name : ℕ) (s : Symbol) (ys : List ℕ) → FitsSymbol symtab name s → symbol_row_at 0 (symbol_bytes symtab name s ++ ys) ≡ read_symbol symtab name s
unfolding symbol_row_at number_at symbol_bytes fields stored
symbol_here symtab name s ys f = λ k. record {
  st_name = stored_number 4 name [] f.place k;
  st_info = stored_number 1 (16 * bind_number s.bind + sort_number s.sort) [] f.info k;
  st_shndx = stored_number 2 (home_number symtab s.home) [] f.home k;
  st_value = stored_number 8 s.value [] f.value k;
  st_size = stored_number 8 s.size [] f.size k;
}

symbol_behind : (at : ℕ) (xs ys : List ℕ) → at ≡ length xs → symbol_row_at at (xs ++ ys) ≡ symbol_row_at 0 ys
unfolding symbol_row_at
symbol_behind at xs ys e = λ k. record {
  st_name = number_at_seam 4 at xs ys e k;
  st_info = number_behind 1 at 4 xs ys e k;
  st_shndx = number_behind 2 at 6 xs ys e k;
  st_value = number_behind 8 at 8 xs ys e k;
  st_size = number_behind 8 at 16 xs ys e k;
}

pub symbol_is_read : (at : ℕ) (xs ys : List ℕ) (symtab name : ℕ) (s : Symbol) → at ≡ length xs → FitsSymbol symtab name s → symbol_row_at at (xs ++ (symbol_bytes symtab name s ++ ys)) ≡ read_symbol symtab name s
symbol_is_read at xs ys symtab name s e f = symbol_behind at xs (symbol_bytes symtab name s ++ ys) e ∙ symbol_here symtab name s ys f

-- an entry
pub record FitsEntry (e : Entry) : Type 0 where
  pub offset : e.offset < 256 ^ 8
  pub symbol : e.symbol < 256 ^ 4
  pub addend : FitsSigned w64 e.addend
  pub kind : kind_number e.kind < 256 ^ 4
  pub bits : cast_unsigned w64 e.addend < 256 ^ 8

abbrev pub read_entry : Entry → RelaRow
read_entry e = record { r_offset = e.offset; r_type = kind_number e.kind; r_sym = e.symbol; r_addend = e.addend }

entry_here : (e : Entry) (ys : List ℕ) → FitsEntry e → rela_row_at 0 (entry_bytes e ++ ys) ≡ read_entry e
unfolding rela_row_at number_at entry_bytes fields stored
entry_here e ys f =
    let addend = ap (cast_signed w64) (stored_number 8 (cast_unsigned w64 e.addend) [] f.bits) ∙ to_z-of_z w64 e.addend f.addend in
    λ k. record {
      r_offset = stored_number 8 e.offset [] f.offset k;
      r_type = stored_number 4 (kind_number e.kind) [] f.kind k;
      r_sym = stored_number 4 e.symbol [] f.symbol k;
      r_addend = addend k;
    }

entry_behind : (at : ℕ) (xs ys : List ℕ) → at ≡ length xs → rela_row_at at (xs ++ ys) ≡ rela_row_at 0 ys
unfolding rela_row_at
entry_behind at xs ys e = λ k. record {
  r_offset = number_at_seam 8 at xs ys e k;
  r_type = number_behind 4 at 8 xs ys e k;
  r_sym = number_behind 4 at 12 xs ys e k;
  r_addend = cast_signed w64 (number_behind 8 at 16 xs ys e k);
}

pub entry_is_read : (at : ℕ) (xs ys : List ℕ) (e : Entry) → at ≡ length xs → FitsEntry e → rela_row_at at (xs ++ (entry_bytes e ++ ys)) ≡ read_entry e
entry_is_read at xs ys e q f = entry_behind at xs (entry_bytes e ++ ys) q ∙ entry_here e ys f
