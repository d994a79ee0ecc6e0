use Rattle.std.proofs.Common.{◌≡◌, drop, map}
use Rattle.cell_described.specs.Faults.{object_at}
use Rattle.cell_world.specs.DumpLines.{place_line}
use Rattle.cell_compared.specs.Left.{left}
use Rattle.cell_relinked.specs.Scene.{seen_in}
use Rattle.cell_compared.specs.Walk.{walk}
use Rattle.cell_compared.proofs.cell_lines.compare_places.Given as goal

-- what is left of the dump, against what is left of the lines
abbrev pub invariant-loop-index : goal.invariant-loop-index
invariant-loop-index l =
    walk (left l.cursor) (map (place_line (seen_in l.scene l.cell)) (drop l.index (object_at l.scene.objects.now l.cell.object).sections))
    ≡ walk (left l.fn.cursor) (map (place_line (seen_in l.scene l.cell)) (object_at l.scene.objects.now l.cell.object).sections)
