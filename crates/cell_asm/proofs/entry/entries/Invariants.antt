use Rattle.std.specs.Prelude.{◌≡◌}
use Rattle.cell_asm.proofs.Facts.{take, flat_map, part_entries}
use Rattle.cell_asm.proofs.entry.entries.Given as goal

-- the entries of the sections so far
abbrev pub invariant-loop-part : goal.invariant-loop-part
invariant-loop-part l = l.entries.items ≡ flat_map (part_entries l.kept l.symbols) (take l.part-index l.kept.parts.items)
