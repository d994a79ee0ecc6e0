use Rattle.std.specs.Prelude.{◌≡◌, ◌++◌}
use Rattle.cell_asm.proofs.Facts.{take, flat_map, target_names}
use Rattle.cell_asm.proofs.label.put_targets.Given as goal

-- the names so far
abbrev pub invariant-loop-mark : goal.invariant-loop-mark
invariant-loop-mark l = l.names.items ≡ l.initial.names.items ++ flat_map (λ m. target_names m.fix.target) (take l.mark-index l.marks)
