use Rattle.std.specs.Prelude.{◌≡◌}
use Rattle.cell_asm.proofs.Facts.{map, take, Ok, spelled, trimmed, operands}
use Rattle.cell_asm.proofs.line.read_parts.Given as goal

-- the parts so far are spelled well
abbrev pub invariant-loop-part : goal.invariant-loop-part
invariant-loop-part l = operands (map (λ part. spelled (trimmed part.now)) (take l.part-index l.parts)) ≡ Ok l.operands.items
