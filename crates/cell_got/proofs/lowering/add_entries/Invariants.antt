use Rattle.std.proofs.Common.{◌≡◌, ◌++◌, map, take}
use Rattle.cell_num.specs.Lists.{numbered}
use Rattle.cell_got.specs.Lower.{slot_entry}
use Rattle.cell_got.proofs.lowering.add_entries.Given as goal

abbrev pub invariant-loop-slot : goal.invariant-loop-slot
invariant-loop-slot l = l.entries.items ≡ l.fn.entries.items ++ map (slot_entry l.number) (numbered (take l.slot l.fn.symbols))
