use Rattle.std.proofs.Common.{sym}
use Rattle.cell_placed.proofs.Symbols.{symbol_in_object}
use Rattle.cell_placed.proofs.own.target_in.Goals as goal

pub own_target-requires-clause-there : goal.own_target-requires-clause-there
own_target-requires-clause-there c = symbol_in_object c.args.cell.now.object c.args.symbol c.in_ok-symbol.symbol.now (sym (c.in_ok-symbol.ensures {u = tt}))
