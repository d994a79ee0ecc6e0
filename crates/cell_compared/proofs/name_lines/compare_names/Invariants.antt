use Rattle.std.proofs.Common.{◌≡◌, drop, map}
use Rattle.std.specs.Prelude.{flat_map}
use Rattle.cell_compared.specs.Left.{left}
use Rattle.cell_relinked.specs.Scene.{seen_in, world_of}
use Rattle.cell_compared.specs.Shown.{names_shown}
use Rattle.cell_compared.specs.Walk.{walk}
use Rattle.cell_compared.proofs.name_lines.compare_names.Given as goal

-- what is left of the dump, against what is left of the lines
abbrev pub invariant-loop-index : goal.invariant-loop-index
invariant-loop-index l =
    walk (left l.cursor) (flat_map (names_shown (world_of l.scene)) (map (seen_in l.scene) (drop l.index l.scene.cells.now)))
    ≡ walk (left l.fn.cursor) (flat_map (names_shown (world_of l.scene)) (map (seen_in l.scene) l.scene.cells.now))
