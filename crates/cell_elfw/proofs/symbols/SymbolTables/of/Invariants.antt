use Rattle.std.proofs.Common.{take}
use Rattle.cell_elfw.specs.Drafts.{HoldsSymbols}
use Rattle.cell_elfw.proofs.symbols.SymbolTables.of.Given as goal

-- the tables hold the symbols so far
abbrev pub invariant-loop-symbol : goal.invariant-loop-symbol
invariant-loop-symbol l = HoldsSymbols l.tables.symbols.items l.tables.strings.items l.symtab (take l.symbol-index l.symbols)
