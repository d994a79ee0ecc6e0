use Rattle.std.proofs.Common.{◌≡◌, false, take}
use Rattle.std.specs.List.{list_any}
use Rattle.cell_world.specs.Commands.Recovery.{is_run_at}
use Rattle.cell_world.specs.World.{attached}
use Rattle.cell_recover.proofs.recovery.runs_at.Given as goal

-- no section so far has the pc
abbrev pub invariant-loop-section : goal.invariant-loop-section
invariant-loop-section l = list_any (is_run_at l.pc (attached l.cell)) (take l.section-index l.cell.object.sections) ≡ false
