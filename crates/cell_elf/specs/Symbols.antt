-- The symbol table that entries are read with.
use Rattle.std.specs.Prelude.{◌≡◌, ℕ, List, Option, Some, None, Ok}
use Rattle.std.specs.List.{flat_map}
use Rattle.cell_object.specs.Bytes.{checked, between}
use Rattle.cell_object.specs.Symbols.{symtab, symbol_count, symbol_rules, symbols_below, symbols_of}
use Rattle.cell_object.specs.Relocations.{symbol_total}
use Rattle.cell_elf.specs.declared.symbols.SymbolTable.{SymbolTable}

-- the table is the file's, and none of its symbols breaks a rule
pub record IsPassed (file : List ℕ) (table : SymbolTable) : Type 0 where
  pub file_is : table.file.bytes.now ≡ file
  pub symbols : symbols_of file ≡ symbols_below file table.header (symbol_count table.header)
  pub total : symbol_total file ≡ symbol_count table.header
  pub passed : checked (flat_map (symbol_rules file table.header) (between 1 (symbol_count table.header))) ≡ Ok tt

-- the same, where the file has a table
abbrev pub AreSymbols : List ℕ → Option SymbolTable → Type 0
AreSymbols file None = symtab file ≡ None
AreSymbols file (Some table) = IsPassed file table
