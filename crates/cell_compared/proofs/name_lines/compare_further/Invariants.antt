use Rattle.std.proofs.Common.{◌≡◌, drop, map}
use Rattle.cell_described.specs.Describes.{alias_seen}
use Rattle.cell_compared.specs.Left.{left}
use Rattle.cell_relinked.specs.Scene.{world_of}
use Rattle.cell_compared.specs.Shown.{name_lines}
use Rattle.cell_compared.specs.Walk.{walk}
use Rattle.cell_compared.proofs.name_lines.compare_further.Given as goal

-- what is left of the dump, against what is left of the lines
abbrev pub invariant-loop-index : goal.invariant-loop-index
invariant-loop-index l =
    walk (left l.cursor) (name_lines (world_of l.asked.scene.now) l.asked.ns (map (alias_seen l.asked.scene.now.file.now) (drop l.index l.cell.aliases.items)))
    ≡ walk (left l.fn.cursor) (name_lines (world_of l.asked.scene.now) l.asked.ns (map (alias_seen l.asked.scene.now.file.now) l.cell.aliases.items))
