use Rattle.std.proofs.Common.{◌≡◌, ◌++◌, map, take}
use Rattle.cell_world.specs.Kept.{placed_at}
use Rattle.cell_world.specs.World.{attached}
use Rattle.cell_unload.proofs.places.add_sections.Given as goal

-- the sections so far
abbrev pub invariant-loop-section : goal.invariant-loop-section
invariant-loop-section l = l.into.items ≡ l.fn.into.items ++ map (placed_at (attached l.cell)) (take l.section-index l.cell.object.sections)
