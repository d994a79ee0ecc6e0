use Rattle.std.proofs.Common.{List, ℕ, ◌≡◌, ◌<◌, Ok}
use Rattle.std.specs.List.{flat_map}
use Rattle.cell_object.specs.Bytes.{checked, between}
use Rattle.cell_object.specs.Symbols.{symbol_rules, symbols_below, defines}
use Rattle.cell_file.specs.Kept.{Adds}
use Rattle.cell_file.specs.Names.{is_named}
use Rattle.cell_elf.proofs.symbols.SymbolTable.read_symbols.Given as goal

abbrev pub invariant-loop-number : goal.invariant-loop-number
invariant-loop-number g l = record {
  passed : checked (flat_map (symbol_rules l.self.file.bytes.now l.self.header) (between 1 l.number)) ≡ Ok tt;
  kept : Adds (g.K.Keep.holds l.fn.symbols) (g.K.Keep.holds l.symbols) (symbols_below l.self.file.bytes.now l.self.header l.number);
  names : (q : List ℕ) → is_named l.names q ≡ defines (symbols_below l.self.file.bytes.now l.self.header l.number) q;
  none : l.number-end < l.number → l.number ≡ 1;
}
