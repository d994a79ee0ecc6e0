use Rattle.std.specs.Prelude.{◌≡◌, ◌++◌}
use Rattle.cell_asm.proofs.Facts.{replicate}
use Rattle.cell_asm.proofs.section.put_zeros.Given as goal

-- the bytes so far
abbrev pub invariant-loop : goal.invariant-loop
invariant-loop l = l.bytes.items ≡ l.initial.bytes.items ++ replicate l.counter 0
