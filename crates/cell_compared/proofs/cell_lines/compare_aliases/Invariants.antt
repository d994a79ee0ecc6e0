use Rattle.std.proofs.Common.{◌≡◌, drop, map}
use Rattle.cell_described.specs.Describes.{alias_seen}
use Rattle.cell_world.specs.DumpLines.{alias_line}
use Rattle.cell_compared.specs.Left.{left}
use Rattle.cell_relinked.specs.Scene.{seen_in}
use Rattle.cell_compared.specs.Walk.{walk}
use Rattle.cell_compared.proofs.cell_lines.compare_aliases.Given as goal

-- what is left of the dump, against what is left of the lines
abbrev pub invariant-loop-index : goal.invariant-loop-index
invariant-loop-index l =
    walk (left l.cursor) (map (alias_line (seen_in l.scene l.cell)) (map (alias_seen l.scene.file.now) (drop l.index l.cell.aliases.items)))
    ≡ walk (left l.fn.cursor) (map (alias_line (seen_in l.scene l.cell)) (map (alias_seen l.scene.file.now) l.cell.aliases.items))
