use Rattle.std.specs.Prelude.{◌≡◌, ◌++◌}
use Rattle.cell_asm.proofs.Facts.{map, take, marks_in, reference_at}
use Rattle.cell_asm.proofs.reference.put_references.Given as goal

-- the references so far
abbrev pub invariant-loop-mark : goal.invariant-loop-mark
invariant-loop-mark l = l.references.items ≡ l.initial.references.items ++ map (reference_at l.laid) (take l.mark-index (marks_in l.laid.line.statement))
