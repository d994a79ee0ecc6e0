use Rattle.std.proofs.Common.{◌≡◌, ◌++◌, map}
use Rattle.cell_num.specs.Lists.{upto}
use Rattle.cell_got.specs.Lower.{slot_symbol}
use Rattle.cell_got.proofs.lowering.add_symbols.Given as goal

abbrev pub invariant-loop-slot : goal.invariant-loop-slot
invariant-loop-slot l = l.symbols.items ≡ l.fn.symbols.items ++ map (slot_symbol l.number) (upto l.slot)
