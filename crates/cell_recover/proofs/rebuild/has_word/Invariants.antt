use Rattle.std.proofs.Common.{◌≡◌, false, take}
use Rattle.std.specs.List.{list_any}
use Rattle.cell_world.specs.Kept.{placed_at}
use Rattle.cell_world.specs.World.{attached}
use Rattle.cell_recover.specs.Rebuild.{is_at}
use Rattle.cell_recover.proofs.rebuild.has_word.Given as goal

-- the word lies in no section so far
abbrev pub invariant-loop-section : goal.invariant-loop-section
invariant-loop-section l = list_any (λ s. is_at l.word (placed_at (attached l.cell) s)) (take l.section-index l.cell.object.sections) ≡ false
