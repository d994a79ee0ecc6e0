use Rattle.std.specs.Prelude.{◌≡◌, ◌++◌}
use Rattle.cell_asm.proofs.Facts.{replicate, flat_map, bytes_of}
use Rattle.cell_asm.proofs.section.put_nops.Given as goal

-- the bytes so far
abbrev pub invariant-loop : goal.invariant-loop
invariant-loop l = l.bytes.items ≡ l.initial.bytes.items ++ flat_map (λ word. bytes_of 4 word) (replicate l.counter 0x13)
