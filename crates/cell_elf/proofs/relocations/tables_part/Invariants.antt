use Rattle.std.proofs.Common.{◌≤◌, length}
use Rattle.cell_elf.proofs.relocations.tables_part.Given as goal

abbrev pub invariant-loop-number : goal.invariant-loop-number
invariant-loop-number l = l.end ≤ length l.file.bytes.now
