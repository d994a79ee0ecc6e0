use Rattle.std.proofs.Common.{◌≡◌, ◌++◌, take}
use Rattle.std.specs.List.{flat_map}
use Rattle.cell_object.specs.Rows.{entry_bytes}
use Rattle.cell_elfw.proofs.tables.put_entries.Given as goal

-- the bytes of the entries so far
abbrev pub invariant-loop-entry : goal.invariant-loop-entry
invariant-loop-entry l = l.into.items ≡ l.fn.into.items ++ flat_map entry_bytes (take l.entry-index l.entries)
