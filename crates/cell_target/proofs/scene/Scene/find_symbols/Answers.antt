use Rattle.std.proofs.Common.{◌∙◌, ap, sym, subst, length, get_or, arith}
use Rattle.cell_object.specs.declared.object.Symbol.{Symbol}
use Rattle.cell_num.specs.Lists.{In}
use Rattle.cell_target.proofs.Lookups.{in_get}
use Rattle.cell_target.proofs.scene.Scene.find_symbols.Goals as goal

pub symbol_target-requires-clause-there : goal.symbol_target-requires-clause-there
symbol_target-requires-clause-there c =
    let symbols = c.args.cell.now.object.symbols in
    let item = c.index-symbols-index.is ∙ ap (λ xs. get_or xs c.loop-index.index c.index-symbols-index.result) c.as_slice-symbols.ensures in
    subst (λ (s : Symbol). In s symbols) (sym item) (in_get symbols c.loop-index.index c.index-symbols-index.result (omega (arith, ap length c.as_slice-symbols.ensures)))
