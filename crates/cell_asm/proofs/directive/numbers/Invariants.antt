use Rattle.std.specs.Prelude.{◌≡◌}
use Rattle.cell_asm.proofs.Facts.{map, take, appended, empty, drafted, gathered, with_value, datum}
use Rattle.cell_asm.proofs.directive.numbers.Given as goal

-- the operands so far
abbrev pub invariant-loop-operand : goal.invariant-loop-operand
invariant-loop-operand l = with_value drafted l.draft ≡ gathered appended empty (map (datum l.width) (take l.operand-index l.operands))
