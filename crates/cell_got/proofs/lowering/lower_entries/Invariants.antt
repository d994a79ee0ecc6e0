use Rattle.std.proofs.Common.{◌≡◌, ◌++◌, take, drop, map}
use Rattle.cell_got.specs.Lower.{lowered_entry}
use Rattle.cell_got.proofs.lowering.lower_entries.Given as goal

abbrev pub invariant-loop-entry : goal.invariant-loop-entry
invariant-loop-entry l =
    l.entry-items ≡ map (lowered_entry l.first l.slots.symbols.items) (take l.entry-index l.initial.entry-items) ++ drop l.entry-index l.initial.entry-items
