use Rattle.std.proofs.Common.{◌∙◌, ℕ, List, ap, ◌++◌, length}
use Rattle.cell_object.specs.declared.object.Symbol.{Symbol}
use Rattle.cell_object.specs.Strings.{string, place_in}
use Rattle.cell_object.specs.Rows.{symbol_bytes}
use Rattle.cell_elfw.proofs.Stages.{symbols_none_at, symbol_more}
use Rattle.cell_elfw.proofs.symbols.SymbolTables.of.Goals as goal

pub loop-symbol-init : goal.loop-symbol-init
loop-symbol-init c = symbols_none_at c.in_ok-first_row.field-0.items c.in_ok-from_slice.field-0.items c.args.symtab c.in_ok-first_row.ensures c.in_ok-from_slice.ensures.items

pub loop-symbol-preserved : goal.loop-symbol-preserved
loop-symbol-preserved c =
    let was = c.loop-symbol.tables in
    let put : Symbol → List ℕ = λ s. was.symbols.items ++ symbol_bytes c.args.symtab (place_in (length was.strings.items) s.name) s in
    symbol_more was.symbols.items was.strings.items c.add.new.self.symbols.items c.add.new.self.strings.items c.args.symtab c.args.symbols.now c.loop-symbol.symbol-index c.symbol-item.result c.loop-symbol-test.true c.loop-symbol.invariant
    (c.in_ok-add.ensures.symbols ∙ ap put c.symbol-item.is)
    (c.in_ok-add.ensures.strings ∙ ap (λ s. was.strings.items ++ string s.name) c.symbol-item.is)
