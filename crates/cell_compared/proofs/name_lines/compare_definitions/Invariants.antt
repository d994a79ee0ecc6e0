use Rattle.std.proofs.Common.{◌≡◌, suc, drop}
use Rattle.cell_described.specs.Faults.{object_at}
use Rattle.cell_compared.specs.Left.{left}
use Rattle.cell_relinked.specs.Scene.{world_of}
use Rattle.cell_compared.specs.Shown.{name_lines}
use Rattle.cell_compared.specs.Walk.{walk}
use Rattle.cell_bearers.proofs.NamingLemmas.{definitions_from}
use Rattle.cell_compared.proofs.name_lines.compare_definitions.Given as goal

-- what is left of the dump, against what is left of the lines
abbrev pub invariant-loop-index : goal.invariant-loop-index
invariant-loop-index l =
    walk (left l.cursor) (name_lines (world_of l.asked.scene.now) l.asked.ns (definitions_from (suc l.index) (drop l.index (object_at l.asked.scene.now.objects.now l.cell.object).symbols)))
    ≡ walk (left l.fn.cursor) (name_lines (world_of l.asked.scene.now) l.asked.ns (definitions_from 1 (object_at l.asked.scene.now.objects.now l.cell.object).symbols))
