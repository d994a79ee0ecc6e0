use Rattle.std.proofs.Common.{◌≡◌, drop, map}
use Rattle.std.specs.Prelude.{filter_map}
use Rattle.cell_num.specs.Lists.{numbered_from}
use Rattle.cell_described.specs.Faults.{object_at}
use Rattle.cell_world.specs.DumpLines.{link_line}
use Rattle.cell_world.specs.Linked.Relink.{link_of}
use Rattle.cell_compared.specs.Left.{left}
use Rattle.cell_relinked.specs.Scene.{seen_in, world_of}
use Rattle.cell_compared.specs.Shown.{links_shown}
use Rattle.cell_compared.specs.Walk.{walk}
use Rattle.cell_compared.proofs.link_lines.compare_links_of.Given as goal

-- what is left of the dump, against what is left of the lines
abbrev pub invariant-loop-index : goal.invariant-loop-index
invariant-loop-index l =
    walk (left l.cursor) (map link_line (filter_map (link_of (world_of l.scene) (seen_in l.scene l.cell)) (numbered_from l.index (drop l.index (object_at l.scene.objects.now l.cell.object).entries))))
    ≡ walk (left l.fn.cursor) (links_shown (world_of l.scene) (seen_in l.scene l.cell))
